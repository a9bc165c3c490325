-- The rows when a declaration is put behind the others.
use Rattle.std.proofs.Common.{◌≡◌, ℕ, ◌+◌, ◌*◌, ◌<◌, ◌≤◌, cond, eqb, ltb, [], ◌∷◌, ◌++◌, length, take, set, sum_by, sym, ap, ◌∙◌, arith}
use Rattle.std.proofs.lemmas.List.{take_more_set}
use Rattle.std.specs.List.{All}
use Rattle.std.proofs.lemmas.List.Elements.{All-push, All-same, All-weaker}
use Rattle.std.proofs.lemmas.List.Sums.{sum_by_push}
use Rattle.layout.specs.Kinds.{kind_number, extra_words, element_words}
use Rattle.layout.specs.Info.{kind_of, low_of, elements_of, type_length}
use Rattle.layout.specs.declared.head.BtfType.{BtfType}
use Rattle.layout.proofs.Each.{each_kind}
use Rattle.rows.specs.Rows.{row_of}
use Rattle.table.specs.Placed.{Placed, row_length}
use Rattle.table.specs.Tables.{used_rows}
use Rattle.table.specs.declared.btf.Btf.{Btf}

-- a declaration has at most 24 bytes, and 12 for each element
pub length_bounded : (info : ℕ) → type_length info ≤ 24 + 12 * elements_of info
length_bounded info =
    let low = low_of info in
    each_kind (λ k. cond (eqb (kind_number k) 0) 0 (12 + 4 * extra_words k + 4 * element_words k * low) ≤ 24 + 12 * cond (ltb 0 (element_words k)) low 0) (omega arith) (kind_of info)

module _ (s : Btf) (head : BtfType) (row_room : s.type_count < length s.types.now) where
  pub rows_push : take (s.type_count + 1) (set s.types.now s.type_count (row_of head s.element_count)) ≡ used_rows s ++ row_of head s.element_count ∷ []
  rows_push = take_more_set s.types.now s.type_count (row_of head s.element_count) row_room

  pub placed_push : (used : ℕ) → used ≡ s.element_count + elements_of head.info → All (Placed used) (take (s.type_count + 1) (set s.types.now s.type_count (row_of head s.element_count)))
  placed_push used more =
      All-same (Placed used) _ _ rows_push
      (All-push (Placed used) (used_rows s) (row_of head s.element_count)
      (All-weaker (Placed s.element_count) (Placed used) (λ row h. omega arith) (used_rows s) s.placed)
      (omega arith))

  pub counted_push : s.type_bytes + type_length head.info ≡ sum_by row_length (take (s.type_count + 1) (set s.types.now s.type_count (row_of head s.element_count)))
  counted_push =
      ap (λ n. n + type_length head.info) s.counted ∙
      sym (ap (sum_by row_length) rows_push ∙ sum_by_push row_length (used_rows s) (row_of head s.element_count))
