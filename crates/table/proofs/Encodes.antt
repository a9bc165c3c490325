-- A whole file, written part by part.
use Rattle.std.proofs.Common.{sum_by, ap, ◌≡◌, ℕ, ◌≤◌, true, List, length, sym, ◌∙◌, arith}
use Rattle.std.proofs.lemmas.Grind.{common_steps}
use Rattle.layout.specs.Refusals.{accepted}
use Rattle.order.specs.Order.{Order}
use Rattle.meaning.specs.Table.{Table, holds}
use Rattle.meaning.specs.Adding.{over}
use Rattle.meaning.specs.File.{type_bytes, file, file_length, Written, encode}
use Rattle.table.specs.declared.btf.Btf.{Btf}
use Rattle.meaning.specs.Questions.{asked_of}
use Rattle.rows.specs.declared.view.View.{View}
use Rattle.table.specs.Placed.{row_length}
use Rattle.table.specs.Tables.{table_of, used_rows, Seen, seen, in_use}
use Rattle.table.proofs.Checks.{asked_held}
use Rattle.table.proofs.Writes.{rows_stated}

-- the length that a table keeps is the one that the header states
pub bytes_stated : (s : Btf) (strings : List ℕ) → type_bytes (table_of s strings).decls ≡ s.type_bytes
bytes_stated s strings = rows_stated (used_rows s) s.elements.now ∙ sym s.counted

pub encode_fits : (o : Order) (t : Table) (buffer : List ℕ) (n : ℕ) (later : List ℕ) → holds t ≡ true → n ≡ file_length t → n ≤ length buffer →
    later ≡ over 0 (file o t) buffer → ◌≡◌ {A = Written} (record { answer = accepted n; buffer = later }) (encode o t buffer)
encode_fits o t buffer n later held needed fits e = grind (arith, common_steps)

-- a view of what is in use has all the bytes of the declarations
pub bytes_in_view : (s : Btf) (strings : List ℕ) (v : View) → accepted (seen v) ≡ asked_of (table_of s strings) (accepted (in_use s strings)) →
    sum_by row_length v.rows.now ≡ s.type_bytes
bytes_in_view s strings v e = ap (λ (x : Seen). sum_by row_length x.rows) (asked_held (table_of s strings) _ _ e).1 ∙ sym s.counted
