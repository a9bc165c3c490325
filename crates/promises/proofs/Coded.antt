-- Words and headers as bytes, in any byte order.
use Rattle.std.proofs.Common.{◌≡◌, ℕ, ◌*◌, List, [], ◌∷◌, length, ap, arith, length-append}
use Rattle.std.specs.List.{AllByRecursion}
use Rattle.std.proofs.lemmas.List.{append_cancel_left}
use Rattle.order.specs.Order.{Order}
use Rattle.meaning.specs.File.{coded, header}
use Rattle.promises.specs.Calls.{Word}
use Rattle.promises.proofs.Parts.{same_parts, length_joined, same_joined}

module _ (o : Order) where
  pub length_coded : (ws : List ℕ) → AllByRecursion Word ws → length (coded o ws) ≡ 4 * length ws
  length_coded ws p = length_joined o.word 4 Word (λ n q. o.word_length n) ws p

  pub same_coded : (ws vs : List ℕ) → AllByRecursion Word ws → AllByRecursion Word vs → coded o ws ≡ coded o vs → ws ≡ vs
  same_coded ws vs p q e =
      same_joined o.word 4 Word (λ n q. o.word_length n) o.word_unlike ws vs p q (omega (arith, length_coded ws p, length_coded vs q, ap length e)) e

  pub length_header : (types strings : ℕ) → length (header o types strings) ≡ 24
  length_header types strings = simp length-append (omega (arith, o.half_length 0xeb9f, o.word_length 24, o.word_length 0, o.word_length types, o.word_length strings))

  -- the header tells the type part's length
  pub same_types : (a b x y : ℕ) → Word a → Word b → header o a x ≡ header o b y → a ≡ b
  same_types a b x y p q e =
      let after : ℕ → ℕ → List ℕ = λ n m. coded o (n ∷ m ∷ []) in
      let marked = append_cancel_left (o.half 0xeb9f) _ _ e in
      let numbered : coded o (24 ∷ 0 ∷ a ∷ a ∷ x ∷ []) ≡ coded o (24 ∷ 0 ∷ b ∷ b ∷ y ∷ []) = cc in
      let begun = append_cancel_left (o.word 0) _ _ (append_cancel_left (o.word 24) _ _ numbered) in
      o.word_unlike a b p q (same_parts (o.word a) (o.word b) (after a x) (after b y) (omega (arith, o.word_length a, o.word_length b)) begun).0
