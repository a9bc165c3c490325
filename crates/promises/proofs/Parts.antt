-- Equal lists, made of parts that are equally long, have equal parts.
use Rattle.std.proofs.Common.{◌≡◌, ℕ, ◌*◌, Bool, true, false, cond, List, [], ◌∷◌, ◌++◌, length, sym, refl, mul-suc, arith, length-append}
use Rattle.std.specs.List.{flat_map, AllByRecursion}
use Rattle.std.proofs.ByRecursion.{All-append}
use Rattle.std.proofs.lemmas.List.{flat_map_more}

pub same_parts : {X : Type 0} (a c b d : List X) → length a ≡ length c → a ++ b ≡ c ++ d → (a ≡ c) × (b ≡ d)
same_parts [] [] b d l e = (refl, e)
same_parts [] (y ∷ c) b d l e = absurd (omega arith)
same_parts (x ∷ a) [] b d l e = absurd (omega arith)
same_parts (x ∷ a) (y ∷ c) b d l e =
    let first : x ≡ y = cc in
    let others : a ++ b ≡ c ++ d = cc in
    let shorter : length a ≡ length c = omega arith in
    let rest = same_parts a c b d shorter others in
    (cc, rest.1)

-- a list in which each item stands as n others
module _ {X A : Type 0} (f : X → List A) (n : ℕ) (P : X → Type 0) (long : (x : X) → P x → length (f x) ≡ n) where
  pub length_joined : (xs : List X) → AllByRecursion P xs → length (flat_map f xs) ≡ n * length xs
  length_joined [] p = omega arith
  length_joined (x ∷ xs) p = omega (arith, length-append (f x) (flat_map f xs), long x p.0, length_joined xs p.1, mul-suc n (length xs))

  pub same_joined : ((x y : X) → P x → P y → f x ≡ f y → x ≡ y) → (xs ys : List X) → AllByRecursion P xs → AllByRecursion P ys → length xs ≡ length ys → flat_map f xs ≡ flat_map f ys → xs ≡ ys
  same_joined alike [] [] p q l e = refl
  same_joined alike [] (y ∷ ys) p q l e = absurd (omega arith)
  same_joined alike (x ∷ xs) [] p q l e = absurd (omega arith)
  same_joined alike (x ∷ xs) (y ∷ ys) p q l e =
      let parts = same_parts (f x) (f y) (flat_map f xs) (flat_map f ys) (omega (arith, long x p.0, long y q.0)) e in
      let first = alike x y p.0 q.0 parts.0 in
      let others = same_joined alike xs ys p.1 q.1 (omega arith) parts.1 in
      cc

pub all_joined : {X A : Type 0} (f : X → List A) (P : A → Type 0) (xs : List X) → AllByRecursion (λ x. AllByRecursion P (f x)) xs → AllByRecursion P (flat_map f xs)
all_joined f P [] p = tt
all_joined f P (x ∷ xs) p = All-append P (f x) (flat_map f xs) p.0 (all_joined f P xs p.1)

pub joined_push : {X A : Type 0} (f : X → List A) (xs : List X) (x : X) → flat_map f (xs ++ x ∷ []) ≡ flat_map f xs ++ f x
joined_push f xs x = sym (flat_map_more f [] xs x)

-- two choices by one test
pub cond_both₂ : {A B : Type 0} (b : Bool) (x y : A) (u v : B) (P : A → B → Type 0) → (b ≡ true → P x u) → (b ≡ false → P y v) → P (cond b x y) (cond b u v)
cond_both₂ true x y u v P p q = p refl
cond_both₂ false x y u v P p q = q refl
