-- The table that a `Btf` means, after a declaration is put behind the others.
use Rattle.std.proofs.Common.{◌≡◌, ℕ, ◌+◌, ◌-◌, ◌^◌, ◌<◌, ◌≤◌, cond, ltb, List, [], ◌∷◌, ◌++◌, map, length, take, drop, replicate, sym, refl, ap, ◌∙◌, subst, ⊎_elim, arith, rules}
use lib.ListN.{length-map}
use Rattle.std.proofs.lemmas.List.{map_push, take_more_set, take-take, drop-take, take_at, drop_at, length-take-le, length-set}
use Rattle.std.specs.List.{All}
use Rattle.std.proofs.lemmas.List.Elements.{All-head, All-tail, All-weaker}
use Rattle.std.proofs.lemmas.Bool.{cases_lt}
use Rattle.layout.specs.Kinds.{element_words, kind_at}
use Rattle.layout.specs.Heads.{low_bits, head_kept}
use Rattle.layout.specs.declared.declaration.Declaration.{Declaration}
use Rattle.layout.specs.Info.{kind_of, low_of, elements_of}
use Rattle.layout.proofs.Each.{each_kind}
use Rattle.layout.proofs.Words.{kind_built, low_built}
use Rattle.layout.specs.declared.head.BtfType.{BtfType}
use Rattle.layout.specs.declared.kind.BtfKind.{BtfKind}
use Rattle.elements.specs.declared.Element.{Element}
use Rattle.elements.specs.Packing.{packed}
use Rattle.meaning.specs.Adding.{decl_with, with_type}
use Rattle.meaning.proofs.Over.{length_over}
use Rattle.rows.specs.declared.row.TypeRow.{TypeRow}
use Rattle.table.specs.declared.btf.Btf.{Btf}
use Rattle.rows.specs.Rows.{kept_words, decl_of}
use Rattle.table.specs.Placed.{Placed}
use Rattle.rows.specs.Rows.{row_of}
use Rattle.table.specs.Tables.{table_of, used_rows, Put}
use Rattle.table.proofs.Maps.{map_same}

-- a part below n is the same in lists that agree up to n
part_same : {X : Type 0} (from count n : ℕ) (xs ys : List X) → from + count ≤ n → take n xs ≡ take n ys → take count (drop from xs) ≡ take count (drop from ys)
part_same from count n xs ys h e =
    sym (drop-take from count xs) ∙
    ap (drop from) (sym (take-take (from + count) n xs h) ∙ ap (take (from + count)) e ∙ take-take (from + count) n ys h) ∙
    drop-take from count ys

-- words that are kept are read back
read_back : (w : ℕ) (ws : List ℕ) → length ws ≡ w → take w (packed ws).words ≡ ws
read_back w ws e = take_at ws (replicate (3 - length ws) 0) w e

-- elements that all have as many words as the kind asks for
pub tail_back : (info : ℕ) (tail : List (List ℕ)) → All (λ ws. length ws ≡ element_words (kind_of info)) tail → map (kept_words info) (map packed tail) ≡ tail
tail_back info [] each = refl
tail_back info (ws ∷ tail) each =
    let first : kept_words info (packed ws) ≡ ws = read_back (element_words (kind_of info)) ws (All-head (λ us. length us ≡ element_words (kind_of info)) ws tail each) in
    let rest : map (kept_words info) (map packed tail) ≡ tail = tail_back info tail (All-tail (λ us. length us ≡ element_words (kind_of info)) ws tail each) in
    cc

module _ (s t : Btf) (head : BtfType) (new : List Element) (put : Put s t head new)
    (row_room : s.type_count < length s.types.now)
    (room : s.element_count + length new ≤ length s.elements.now)
    (suits : elements_of head.info ≡ length new) where
  front_same : take s.element_count t.elements.now ≡ take s.element_count s.elements.now
  front_same =
      ap (take s.element_count) put.elements ∙
      take_at (take s.element_count s.elements.now) (new ++ drop (s.element_count + length new) s.elements.now) s.element_count (length-take-le s.element_count s.elements.now s.elements_within)

  old_same : (row : TypeRow) → Placed s.element_count row → decl_of t.elements.now row ≡ decl_of s.elements.now row
  old_same row p =
      let part = part_same row.first (elements_of row.head.info) s.element_count t.elements.now s.elements.now p front_same in
      ap (λ es. record { name = row.head.name_offset; info = row.head.info; third = row.head.size_or_type; extra = row.head.extra; tail = map (kept_words row.head.info) es }) part

  new_elements : take (elements_of head.info) (drop s.element_count t.elements.now) ≡ new
  new_elements =
      let front : length (take s.element_count s.elements.now) ≡ s.element_count = length-take-le s.element_count s.elements.now s.elements_within in
      ap (λ n. take n (drop s.element_count t.elements.now)) suits ∙
      ap (λ es. take (length new) (drop s.element_count es)) put.elements ∙
      ap (take (length new)) (drop_at (take s.element_count s.elements.now) (new ++ drop (s.element_count + length new) s.elements.now) s.element_count front) ∙
      take_at new (drop (s.element_count + length new) s.elements.now) (length new) refl

  pub decls_put : (strings : List ℕ) (tail : List (List ℕ)) → map (kept_words head.info) new ≡ tail →
      (table_of t strings).decls ≡ (table_of s strings).decls ++ decl_with head tail ∷ []
  decls_put strings tail back =
      let row = row_of head s.element_count in
      let rows : used_rows t ≡ used_rows s ++ row ∷ [] = ap (λ n. take n t.types.now) put.type_count ∙ ap (take (s.type_count + 1)) put.types ∙ take_more_set s.types.now s.type_count row row_room in
      let same : All (λ r. decl_of t.elements.now r ≡ decl_of s.elements.now r) (used_rows s) =
      All-weaker (Placed s.element_count) (λ r. decl_of t.elements.now r ≡ decl_of s.elements.now r) old_same (used_rows s) s.placed in
      let new_row : decl_of t.elements.now row ≡ decl_with head tail =
      ap (λ es. decl_with head (map (kept_words head.info) es)) new_elements ∙ ap (decl_with head) back in
      ap (map (decl_of t.elements.now)) rows ∙
      map_push (decl_of t.elements.now) (used_rows s) row ∙
      ap (λ ds. ds ++ decl_of t.elements.now row ∷ []) (map_same (decl_of t.elements.now) (decl_of s.elements.now) (used_rows s) same) ∙
      ap (λ d. (table_of s strings).decls ++ d ∷ []) new_row

no_elements : (count : ℕ) → (0 < count → 0 < 0) → 0 ≡ count
no_elements count h = ⊎_elim (λ (some : 0 < count). absurd (omega (arith, h some))) (λ (none : count ≤ 0). omega arith) (cases_lt 0 count)

-- a declaration's elements are counted by its info word; a kind without elements has none
elements_low : (linkage count : ℕ) (kind : BtfKind) → (0 < count → 0 < element_words kind) → cond (ltb 0 (element_words kind)) (low_bits kind linkage count) 0 ≡ count
elements_low linkage count = each_kind (λ kind. (0 < count → 0 < element_words kind) → cond (ltb 0 (element_words kind)) (low_bits kind linkage count) 0 ≡ count) (search (rules, no_elements))

low_fits : (linkage count : ℕ) → count ≤ 65535 → (kind : BtfKind) → low_bits kind linkage count < 2 ^ 16
low_fits linkage count few = each_kind (λ kind. low_bits kind linkage count < 2 ^ 16) (omega arith)

module _ (d : Declaration) (kind : BtfKind) (count : ℕ) (few : count ≤ 65535) where
  pub head_kind : kind_of (head_kept d kind count).info ≡ kind
  head_kind = kind_built kind d.flag (low_bits kind d.linkage count) (low_fits d.linkage count few kind)

  pub head_elements : (0 < count → 0 < element_words kind) → elements_of (head_kept d kind count).info ≡ count
  head_elements h =
      let low = low_built kind d.flag (low_bits kind d.linkage count) (low_fits d.linkage count few kind) in
      ap (λ k. cond (ltb 0 (element_words k)) (low_of (head_kept d kind count).info) 0) head_kind ∙
      ap (λ n. cond (ltb 0 (element_words kind)) n 0) low ∙
      elements_low d.linkage count kind h

-- the whole table after a declaration is put
module _ (s t : Btf) (d : Declaration) (kind : BtfKind) (tail : List (List ℕ))
    (put : Put s t (head_kept d kind (length tail)) (map packed tail)) (known : kind ≡ kind_at d.kind)
    (row_room : s.type_count < length s.types.now)
    (room : s.element_count + length tail ≤ length s.elements.now)
    (few : length tail ≤ 65535) (worded : 0 < length tail → 0 < element_words kind)
    (counted : All (λ ws. length ws ≡ element_words kind) tail) where
  pub table_put : (strings : List ℕ) → table_of t strings ≡ with_type (table_of s strings) d tail
  table_put strings =
      let head = head_kept d kind (length tail) in
      let as_long : length (map packed tail) ≡ length tail = length-map tail packed in
      let suits : elements_of head.info ≡ length (map packed tail) = head_elements d kind (length tail) few worded ∙ sym as_long in
      let wide : All (λ ws. length ws ≡ element_words (kind_of head.info)) tail =
      subst (λ k. All (λ ws. length ws ≡ element_words k) tail) (sym (head_kind d kind (length tail) few)) counted in
      let decls : (table_of t strings).decls ≡ (table_of s strings).decls ++ decl_with (head_kept d (kind_at d.kind) (length tail)) tail ∷ [] =
      decls_put s t head (map packed tail) put row_room (omega arith) suits strings tail (tail_back head.info tail wide) ∙
      ap (λ k. (table_of s strings).decls ++ decl_with (head_kept d k (length tail)) tail ∷ []) known in
      let rows : length t.types.now ≡ length s.types.now = ap length put.types ∙ length-set s.types.now s.type_count (row_of head s.element_count) in
      let elements : length t.elements.now ≡ length s.elements.now = ap length put.elements ∙ length_over s.element_count (map packed tail) s.elements.now (omega arith) in
      let used : t.element_count ≡ s.element_count + length tail = put.element_count ∙ ap (λ n. s.element_count + n) as_long in
      λ i. record { decls = decls i; area = strings; strings = put.string_len i; elements = used i; decl_room = rows i; element_room = elements i }
