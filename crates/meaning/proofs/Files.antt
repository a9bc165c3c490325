-- Words written one behind the other.
use Rattle.std.proofs.Common.{◌≡◌, ℕ, ◌+◌, ◌*◌, ◌<◌, ◌≤◌, List, [], ◌∷◌, ◌++◌, length, get_or, take, sym, refl, ap, ◌∙◌, append_assoc, arith, length-append}
use Rattle.std.specs.List.{flat_map}
use Rattle.std.proofs.lemmas.List.{take_more, append-nil}
use Rattle.order.specs.Order.{Order}
use Rattle.meaning.specs.Adding.{over}
use Rattle.meaning.specs.File.{coded}
use Rattle.meaning.proofs.Over.{over_over}

-- joined lists
pub joined_append : {X A : Type 0} (f : X → List A) (xs ys : List X) → flat_map f (xs ++ ys) ≡ flat_map f xs ++ flat_map f ys
joined_append f [] ys = refl
joined_append f (x ∷ xs) ys = ap (λ l. f x ++ l) (joined_append f xs ys) ∙ sym (append_assoc (f x) (flat_map f xs) (flat_map f ys))

pub joined_one : {X A : Type 0} (f : X → List A) (x : X) → flat_map f (x ∷ []) ≡ f x
joined_one f x = append-nil (f x)

pub joined_take : {X A : Type 0} (f : X → List A) (xs : List X) (i : ℕ) (d : X) → i < length xs → flat_map f (take (i + 1) xs) ≡ flat_map f (take i xs) ++ f (get_or xs i d)
joined_take f xs i d h =
    ap (flat_map f) (take_more xs i d h) ∙ joined_append f (take i xs) (get_or xs i d ∷ []) ∙ ap (λ l. flat_map f (take i xs) ++ l) (joined_one f (get_or xs i d))

pub length_coded : (o : Order) (ws : List ℕ) → length (coded o ws) ≡ 4 * length ws
length_coded o [] = refl
length_coded o (w ∷ ws) = length-append (o.word w) (coded o ws) ∙ omega (arith, o.word_length w, length_coded o ws)

-- the words of one item more
pub over_words_more : {X : Type 0} (o : Order) (f : X → List ℕ) (xs : List X) (i at end : ℕ) (d : X) (later before old : List ℕ) →
    before ≡ over at (coded o (flat_map f (take i xs))) old → end ≡ at + 4 * length (flat_map f (take i xs)) → later ≡ over end (coded o (f (get_or xs i d))) before →
    i < length xs → end + 4 * length (f (get_or xs i d)) ≤ length old →
    later ≡ over at (coded o (flat_map f (take (i + 1) xs))) old
over_words_more o f xs i at end d later before old inv ends wrote h room =
    let done = flat_map f (take i xs) in
    let next = f (get_or xs i d) in
    let long = length_coded o done in
    let place : end ≡ at + length (coded o done) = omega arith in
    wrote ∙
    ap (λ n. over n (coded o next) before) place ∙
    ap (over (at + length (coded o done)) (coded o next)) inv ∙
    over_over at (coded o done) (coded o next) old (omega (arith, length_coded o next)) ∙
    ap (λ l. over at l old) (sym (ap (coded o) (joined_take f xs i d h) ∙ joined_append o.word done next))

-- words behind words
pub over_words : (o : Order) (a b : List ℕ) (at end : ℕ) (later before old : List ℕ) →
    before ≡ over at (coded o a) old → end ≡ at + 4 * length a → later ≡ over end (coded o b) before → end + 4 * length b ≤ length old →
    later ≡ over at (coded o (a ++ b)) old
over_words o a b at end later before old wrote ends more room =
    let long = length_coded o a in
    let place : end ≡ at + length (coded o a) = omega arith in
    more ∙
    ap (λ n. over n (coded o b) before) place ∙
    ap (over (at + length (coded o a)) (coded o b)) wrote ∙
    over_over at (coded o a) (coded o b) old (omega (arith, length_coded o b)) ∙
    ap (λ l. over at l old) (sym (joined_append o.word a b))
