-- What is promised of tables after any lists of calls.
use Rattle.std.specs.Prelude.{◌≡◌, ℕ, true, List, length}
use Rattle.order.specs.Order.{Order}
use Rattle.meaning.specs.Table.{Table, made, holds, text}
use Rattle.meaning.specs.File.{file, type_part, type_bytes}
use Rattle.promises.specs.Calls.{Call, Question, run, ask, added}

-- a table after a list of calls, over areas of any size
pub record Reached : Type 0 where
  pub decl_room : ℕ
  pub element_room : ℕ
  pub area : List ℕ
  pub calls : List Call

abbrev pub fresh : Reached → Table
fresh r = made r.decl_room r.element_room r.area

abbrev pub table : Reached → Table
table r = run (fresh r) r.calls

-- Two tables that hold something, and whose files in one byte order are equal, hold equal declarations with their elements and
-- equal strings, and answer every question alike.
abbrev pub OneFileOneTable : Type 0
OneFileOneTable =
    (o : Order) (r s : Reached) → holds (table r) ≡ true → holds (table s) ≡ true → file o (table r) ≡ file o (table s) →
    ((table r).decls ≡ (table s).decls) × (text (table r) ≡ text (table s)) × ((q : Question) → ask (table r) q ≡ ask (table s) q)

-- The type part's length, which the header states, is the sum of the published lengths of what was added.
abbrev pub LengthAddsUp : Type 0
LengthAddsUp =
    (o : Order) (r : Reached) →
    (length (type_part o (table r).decls) ≡ added (fresh r) r.calls) × (type_bytes (table r).decls ≡ added (fresh r) r.calls)
