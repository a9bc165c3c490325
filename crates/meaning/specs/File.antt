-- The bytes of a table: the header of btf.h, the declarations, the strings.
use Rattle.std.specs.Prelude.{ℕ, ◌+◌, cond, not, List, [], ◌∷◌, ◌++◌, length, take, Some, None, sum_by, ◌==◌, nat_lt}
use Rattle.std.specs.List.{flat_map}
use Rattle.order.specs.Order.{Order}
use Rattle.layout.specs.Kinds.{kind_number, extra_words}
use Rattle.layout.specs.Info.{type_length}
use Rattle.layout.specs.Refusals.{Answer, accepted, refused, refusal}
use Rattle.meaning.specs.Table.{Decl, Table, text, holds, no_table}
use Rattle.meaning.specs.Adding.{over}
use Rattle.meaning.specs.Questions.{decl_kind}

-- the words of a declaration; id 0 has none
abbrev pub decl_words : Decl → List ℕ
decl_words d =
    cond (kind_number (decl_kind d) == 0) []
    (d.name ∷ d.info ∷ d.third ∷ take (extra_words (decl_kind d)) d.extra ++ flat_map (λ e. e) d.tail)

abbrev pub type_words : List Decl → List ℕ
type_words ds = flat_map decl_words ds

abbrev pub coded : Order → List ℕ → List ℕ
coded o ws = flat_map o.word ws

-- the type part of a file
abbrev pub type_part : Order → List Decl → List ℕ
type_part o ds = coded o (type_words ds)

-- its length as the header states it: the sum of the published lengths
abbrev pub type_bytes : List Decl → ℕ
type_bytes ds = sum_by (λ d. type_length d.info) ds

-- magic, version 1, flags 0; header length 24, type offset 0, type length, string offset, string length
abbrev pub header : Order → ℕ → ℕ → List ℕ
header o types strings = o.half 0xeb9f ++ 1 ∷ 0 ∷ coded o (24 ∷ 0 ∷ types ∷ types ∷ strings ∷ [])

abbrev pub file : Order → Table → List ℕ
file o t = header o (type_bytes t.decls) t.strings ++ type_part o t.decls ++ text t

abbrev pub file_length : Table → ℕ
file_length t = 24 + type_bytes t.decls + t.strings

-- Encoding into a buffer answers the byte count; the buffer is left as it was behind those bytes, or where it is too short.
pub record Written : Type 0 where
  pub answer : Answer ℕ
  pub buffer : List ℕ

abbrev pub encode : Order → Table → List ℕ → Written
encode o t buffer =
    cond (not (holds t)) (record { answer = refused no_table; buffer = buffer })
    (cond (nat_lt (length buffer) (file_length t)) (record { answer = refused (refusal 17 None None (Some (file_length t))); buffer = buffer })
    (record { answer = accepted (file_length t); buffer = over 0 (file o t) buffer }))
