-- Writing on behind what was written.
use Rattle.std.proofs.Common.{◌≡◌, ℕ, ◌+◌, ◌<◌, ◌≤◌, List, ◌++◌, length, get_or, take, sym, ap, ◌∙◌, subst, arith, length-append}
use Rattle.std.specs.List.{flat_map}
use Rattle.std.proofs.lemmas.Grind.{flat_map-append}
use Rattle.order.specs.Order.{Order}
use Rattle.meaning.specs.Adding.{over}
use Rattle.meaning.specs.File.{coded}
use Rattle.meaning.proofs.Files.{joined_take}
use Rattle.meaning.proofs.Over.{over_over}
use Rattle.table.specs.Writing.{Wrote}
use Rattle.table.specs.declared.writer.Writer.{Writer}

module _ {O : Type 0} where
  pub wrote_on : (a b c : Writer O) (x y : List ℕ) → Wrote a x b → Wrote b y c → c.at ≤ length a.out.now → Wrote a (x ++ y) c
  wrote_on a b c x y f s room =
      let fat = f.at in
      let sat = s.at in
      record {
        out = s.out ∙ ap (λ n. over n y b.out.now) f.at ∙ ap (over (a.at + length x) y) f.out ∙ over_over a.at x y a.out.now (omega arith);
        at = omega (arith, length-append x y);
        long = s.long ∙ f.long;
        same = s.same ∙ f.same;
      }

  -- one item more of a list that is written item by item
  pub wrote_more : {X : Type 0} (f : X → List ℕ) (xs : List X) (i : ℕ) (d : X) (a b c : Writer O) → Wrote a (flat_map f (take i xs)) b → Wrote b (f (get_or xs i d)) c →
      i < length xs → c.at ≤ length a.out.now → Wrote a (flat_map f (take (i + 1) xs)) c
  wrote_more f xs i d a b c was more h room =
      subst (λ l. Wrote a l c) (sym (joined_take f xs i d h)) (wrote_on a b c (flat_map f (take i xs)) (f (get_or xs i d)) was more room)

  -- the same of what a function makes of each item in words
  pub wrote_words_more : {X : Type 0} (o : Order) (f : X → List ℕ) (xs : List X) (i : ℕ) (d : X) (a b c : Writer O) → Wrote a (coded o (flat_map f (take i xs))) b →
      Wrote b (coded o (f (get_or xs i d))) c → i < length xs → c.at ≤ length a.out.now → Wrote a (coded o (flat_map f (take (i + 1) xs))) c
  wrote_words_more o f xs i d a b c was more h room =
      subst (λ l. Wrote a l c) (sym (ap (coded o) (joined_take f xs i d h) ∙ flat_map-append o.word (flat_map f (take i xs)) (f (get_or xs i d))))
      (wrote_on a b c (coded o (flat_map f (take i xs))) (coded o (f (get_or xs i d))) was more room)

  pub wrote_as : {a b : Writer O} {x y : List ℕ} → x ≡ y → Wrote a x b → Wrote a y b
  wrote_as {a} {b} e wrote = subst (λ l. Wrote a l b) e wrote
