-- What is written of a row.
use Rattle.std.proofs.Common.{◌≡◌, ℕ, suc, ◌+◌, ◌*◌, ◌<◌, ◌≤◌, eqb, List, [], ◌∷◌, ◌++◌, map, length, get_or, take, drop, sum_by, sym, refl, ap, ◌∙◌, subst, mul-one, mul-add, arith, length-append}
use Rattle.std.specs.List.{flat_map}
use Rattle.std.proofs.lemmas.List.Folds.{flat_map-map}
use Rattle.std.proofs.lemmas.List.Sums.{sum_by-cons}
use Rattle.std.proofs.lemmas.Nat.{mul-le}
use Rattle.std.proofs.lemmas.Bool.{cond-false, ne_eqb}
use Rattle.layout.specs.Kinds.{kind_number, extra_words, element_words}
use Rattle.layout.specs.Info.{kind_of, elements_of, type_length}
use Rattle.order.specs.Order.{Order}
use Rattle.elements.specs.declared.Element.{Element}
use Rattle.meaning.specs.File.{coded, decl_words, type_bytes, header}
use Rattle.meaning.proofs.Files.{length_coded}
use Rattle.rows.specs.declared.row.TypeRow.{TypeRow}
use Rattle.rows.specs.Rows.{kept_words, decl_of, head_words}
use Rattle.table.specs.Placed.{row_length}
use Rattle.table.specs.Writing.{kept}

-- how many words so many elements have
pub words_more : (width i : ℕ) → width * (i + 1) ≡ width * i + width
words_more width i = mul-add width i 1 ∙ ap (λ n. width * i + n) (mul-one width)

pub elements_fit : (width i count : ℕ) → i < count → width * i + width ≤ width * count
elements_fit width i count h = subst (λ n. n ≤ width * count) (words_more width i) (mul-le width (i + 1) width count (omega arith) (omega arith))

-- a declaration whose kind has elements has the words of its head and of as many elements as its low bits say
pub tail_row : (row : TypeRow) (es : List Element) (width : ℕ) (tail : List Element) → (kind_number (kind_of row.head.info) ≡ 0 → ⊥) →
    0 ≡ extra_words (kind_of row.head.info) → width ≡ element_words (kind_of row.head.info) → tail ≡ take (elements_of row.head.info) (drop row.first es) →
    head_words row.head 0 ++ flat_map (kept width) tail ≡ decl_words (decl_of es row)
tail_row row es width tail some extras widths tails =
    let info = row.head.info in
    let words = element_words (kind_of info) in
    ap (λ n. head_words row.head n ++ flat_map (kept width) tail) extras ∙
    ap (λ n. head_words row.head (extra_words (kind_of info)) ++ flat_map (kept n) tail) widths ∙
    ap (λ l. head_words row.head (extra_words (kind_of info)) ++ flat_map (kept words) l) tails ∙
    ap (λ l. head_words row.head (extra_words (kind_of info)) ++ l) (sym (flat_map-map (λ e. e) (kept_words info) (take (elements_of info) (drop row.first es)))) ∙
    sym (cond-false (eqb (kind_number (kind_of info)) 0) [] _ (ne_eqb _ 0 some))

pub rows_stated : (rows : List TypeRow) (es : List Element) → type_bytes (map (decl_of es) rows) ≡ sum_by row_length rows
rows_stated [] es = refl
rows_stated (row ∷ rows) es =
    sum_by-cons (λ d. type_length d.info) (decl_of es row) (map (decl_of es) rows) ∙ ap (λ n. row_length row + n) (rows_stated rows es) ∙ sym (sum_by-cons row_length row rows)

-- the words of an array, read one by one
pub three_items : (ws : List ℕ) → length ws ≡ 3 → get_or ws 0 0 ∷ get_or ws 1 0 ∷ get_or ws 2 0 ∷ [] ≡ ws
three_items [] e = absurd (omega arith)
three_items (x ∷ []) e = absurd (omega arith)
three_items (x ∷ y ∷ []) e = absurd (omega arith)
three_items (x ∷ y ∷ z ∷ []) e = refl
three_items (x ∷ y ∷ z ∷ w ∷ ws) e = absurd (omega arith)

pub take_three : (a b c n : ℕ) (ws : List ℕ) → take (3 + n) (a ∷ b ∷ c ∷ ws) ≡ a ∷ b ∷ c ∷ take n ws
take_three a b c n ws = let more : 3 + n ≡ suc (suc (suc n)) = omega arith in ap (λ m. take m (a ∷ b ∷ c ∷ ws)) more

pub header_long : (o : Order) (types strings : ℕ) → length (header o types strings) ≡ 24
header_long o types strings =
    length-append (o.half 0xeb9f) (1 ∷ 0 ∷ coded o (24 ∷ 0 ∷ types ∷ types ∷ strings ∷ [])) ∙
    omega (arith, o.half_length 0xeb9f, length_coded o (24 ∷ 0 ∷ types ∷ types ∷ strings ∷ []))
