-- Writing at a place, and writing on behind it.
use Rattle.std.proofs.Common.{◌≡◌, ℕ, ◌+◌, ◌<◌, ◌≤◌, List, [], ◌∷◌, ◌++◌, map, length, get_or, take, drop, set, sym, ap, ◌∙◌, append_assoc, add-zero, arith, length-append, length-drop, length-take}
use lib.ListN.{length-map}
use Rattle.std.proofs.lemmas.List.{take-append-drop, set_at, drop_more, take_at, drop_at, drop-drop, map_more}
use Rattle.meaning.specs.Adding.{over}

module _ {X : Type 0} where
  pub over_none : (at : ℕ) (old : List X) → over at [] old ≡ old
  over_none at old = ap (λ n. take at old ++ drop n old) (add-zero at) ∙ take-append-drop at old

  pub length_over : (at : ℕ) (new old : List X) → at + length new ≤ length old → length (over at new old) ≡ length old
  length_over at new old h = simp (length-append, length-take, length-drop) (omega arith)

  -- one more item
  pub over_more : (at : ℕ) (new : List X) (y : X) (old : List X) → at + length new < length old → set (over at new old) (at + length new) y ≡ over at (new ++ y ∷ []) old
  over_more at new y old h =
      let n = at + length new in
      let front = take at old ++ new in
      let flen : length front ≡ n = simp (length-append, length-take) (omega arith) in
      let d : X = get_or old n y in
      let split : over at new old ≡ front ++ (d ∷ drop (n + 1) old) =
      sym (append_assoc (take at old) new (drop n old)) ∙ ap (λ r. front ++ r) (drop_more old n y h) in
      let more : at + length (new ++ y ∷ []) ≡ n + 1 = simp length-append (omega arith) in
      ap (λ l. set l n y) split ∙
      set_at front d (drop (n + 1) old) y n flen ∙
      ap (λ m. front ++ (y ∷ drop m old)) (sym more) ∙
      append_assoc (take at old) new (y ∷ drop (at + length (new ++ y ∷ [])) old) ∙
      ap (λ l. take at old ++ l) (sym (append_assoc new (y ∷ []) (drop (at + length (new ++ y ∷ [])) old)))

  -- what is written behind what was written
  pub over_over : (at : ℕ) (a b old : List X) → at + length a + length b ≤ length old → over (at + length a) b (over at a old) ≡ over at (a ++ b) old
  over_over at a b old h =
      let n = at + length a in
      let front = take at old ++ a in
      let flen : length front ≡ n = simp (length-append, length-take) (omega arith) in
      let split : over at a old ≡ front ++ drop n old = sym (append_assoc (take at old) a (drop n old)) in
      let all : at + length (a ++ b) ≡ n + length b = simp length-append (omega arith) in
      let back : drop (n + length b) (over at a old) ≡ drop (n + length b) old =
      ap (drop (n + length b)) split ∙
      sym (drop-drop (length b) n (front ++ drop n old)) ∙
      ap (drop (length b)) (drop_at front (drop n old) n flen) ∙
      drop-drop (length b) n old in
      ap (λ l. l ++ (b ++ drop (n + length b) (over at a old))) (ap (take n) split ∙ take_at front (drop n old) n flen) ∙
      ap (λ l. front ++ (b ++ l)) back ∙
      append_assoc (take at old) a (b ++ drop (n + length b) old) ∙
      ap (λ l. take at old ++ l) (sym (append_assoc a b (drop (n + length b) old))) ∙
      ap (λ m. take at old ++ ((a ++ b) ++ drop m old)) (sym all)

  pub take_over : (at : ℕ) (new old : List X) → at ≤ length old → take (at + length new) (over at new old) ≡ take at old ++ new
  take_over at new old h =
      let flen : length (take at old ++ new) ≡ at + length new = simp (length-append, length-take) (omega arith) in
      ap (take (at + length new)) (sym (append_assoc (take at old) new (drop (at + length new) old))) ∙
      take_at (take at old ++ new) (drop (at + length new) old) (at + length new) flen

-- the steps of a loop that writes what a function makes of each item
module _ {X Y : Type 0} (f : Y → X) where
  pub over_map_more : (ys : List Y) (i : ℕ) (y : Y) (x : X) (at : ℕ) (area old : List X) →
      area ≡ over at (map f (take i ys)) old → i < length ys → y ≡ get_or ys i y → x ≡ f y → at + length ys ≤ length old →
      set area (at + i) x ≡ over at (map f (take (i + 1) ys)) old
  over_map_more ys i y x at area old inv h read e room =
      let new = map f (take i ys) in
      let nlen : length new ≡ i = simp (length-map, length-take) (omega arith) in
      let pushed : new ++ x ∷ [] ≡ map f (take (i + 1) ys) =
      ap (λ z. new ++ z ∷ []) (e ∙ ap f read) ∙ sym (map_more f ys i y h) in
      ap (λ l. set l (at + i) x) inv ∙
      ap (λ n. set (over at new old) (at + n) x) (sym nlen) ∙
      over_more at new x old (omega arith) ∙
      ap (λ l. over at l old) pushed
