-- Names in strings: what is added behind stays out of them, and what is added can be read.
use Rattle.std.proofs.Common.{◌≡◌, ℕ, suc, ◌+◌, ◌%◌, ◌^◌, ◌<◌, true, cond, eqb, ltb, List, [], ◌∷◌, ◌++◌, map, length, take, drop, Some, None, codes, decimal, Option, sym, refl, ap, ◌∙◌, subst, inl, inr, arith, length-append}
use Rattle.std.specs.List.{prefix_len, AllByRecursion}
use Rattle.std.proofs.lemmas.Fmt.{decimal_by_steps}
use Rattle.std.proofs.ByRecursion.{All-append, All-map, All-weaker}
use Rattle.std.proofs.lemmas.List.{take_at, drop_at, take-append-le, drop-append-le, drop_all}
use Rattle.std.proofs.lemmas.Bool.{cond_both, cond-true, cases_Bool, cases_lt, ltb-true, lt-ltb, ne_eqb, not_from_false}
use Rattle.meaning.specs.Adding.{named}
use Rattle.meaning.specs.Questions.{string_from}
use Rattle.rewriting.specs.Rules.{param_name}
use Rattle.promises.proofs.Parts.{cond_both₂}

abbrev pub Nonzero : ℕ → Type 0
Nonzero b = named b ≡ true

nonzero : (b : ℕ) → 0 < b → Nonzero b
nonzero b h = not_from_false (eqb b 0) (ne_eqb b 0 (λ e. omega arith))

-- the name at the front of bytes, where a zero byte follows
abbrev front : List ℕ → Option (List ℕ)
front r = cond (ltb (prefix_len named r) (length r)) (Some (take (prefix_len named r) r)) None

leading_name : (name rest : List ℕ) → AllByRecursion Nonzero name → prefix_len named (name ++ 0 ∷ rest) ≡ length name
leading_name [] rest p = refl
leading_name (b ∷ name) rest p = cond-true (named b) (1 + prefix_len named (name ++ 0 ∷ rest)) 0 p.0 ∙ omega (arith, leading_name name rest p.1)

front_name : (name rest : List ℕ) → AllByRecursion Nonzero name → front (name ++ 0 ∷ rest) ≡ Some name
front_name name rest p =
    let lead = leading_name name rest p in
    ap (λ n. cond (ltb n (length (name ++ 0 ∷ rest))) (Some (take n (name ++ 0 ∷ rest))) None) lead ∙
    cond-true (ltb (length name) (length (name ++ 0 ∷ rest))) _ _ (lt-ltb (length name) (length (name ++ 0 ∷ rest)) (omega (arith, length-append name (0 ∷ rest)))) ∙
    ap Some (take_at name (0 ∷ rest) (length name) refl)

-- a name that was added can be read where it begins
pub string_added : (xs name rest : List ℕ) → AllByRecursion Nonzero name → string_from (xs ++ (name ++ 0 ∷ rest)) (length xs) ≡ Some name
string_added xs name rest p = ap front (drop_at xs (name ++ 0 ∷ rest) (length xs) refl) ∙ front_name name rest p

leading_kept : (r ys : List ℕ) → prefix_len named r < length r → prefix_len named (r ++ ys) ≡ prefix_len named r
leading_kept [] ys = λ h. absurd (omega arith)
leading_kept (b ∷ r) ys =
    cond_both₂ (named b) (1 + prefix_len named r) 0 (1 + prefix_len named (r ++ ys)) 0 (λ x y. x < suc (length r) → y ≡ x)
    (λ e h. omega (arith, leading_kept r ys (omega arith))) (λ e h. refl)

-- what a name at the front tells
front_is : (r name : List ℕ) → front r ≡ Some name → (prefix_len named r < length r) × (name ≡ take (prefix_len named r) r)
front_is r name e =
    elim (cases_Bool (ltb (prefix_len named r) (length r))) [
      | inl some ↦ (ltb-true _ _ some, same (sym (cond-true (ltb (prefix_len named r) (length r)) (Some (take (prefix_len named r) r)) None some) ∙ e))
      | inr none ↦ absurd (let z : ◌≡◌ {A = ℕ} 0 1 = cc in omega arith)
    ]
  where
    same : Some (take (prefix_len named r) r) ≡ Some name → name ≡ take (prefix_len named r) r
    same e' = cc

front_kept : (r ys name : List ℕ) → front r ≡ Some name → front (r ++ ys) ≡ Some name
front_kept r ys name e =
    let is = front_is r name e in
    let n = prefix_len named r in
    let lead = leading_kept r ys is.0 in
    ap (λ m. cond (ltb m (length (r ++ ys))) (Some (take m (r ++ ys))) None) lead ∙
    cond-true (ltb n (length (r ++ ys))) _ _ (lt-ltb n (length (r ++ ys)) (omega (arith, is.0, length-append r ys))) ∙
    ap Some (take-append-le n r ys (omega (arith, is.0)) ∙ sym is.1)

-- a name can still be read when strings are added behind
pub string_kept : (xs ys : List ℕ) (offset : ℕ) (name : List ℕ) → string_from xs offset ≡ Some name → string_from (xs ++ ys) offset ≡ Some name
string_kept xs ys offset name e =
    elim (cases_lt offset (length xs)) [
      | inl within ↦ ap front (drop-append-le offset xs ys (omega arith)) ∙ front_kept (drop offset xs) ys name e
      | inr past ↦ absurd (let none : front (drop offset xs) ≡ None = ap front (drop_all offset xs past) in let z : ◌≡◌ {A = ℕ} 0 1 = cc in omega arith)
    ]

-- a name has no zero byte
leading_all : (r : List ℕ) → AllByRecursion Nonzero (take (prefix_len named r) r)
leading_all [] = tt
leading_all (b ∷ r) = cond_both (named b) (1 + prefix_len named r) 0 (λ n. AllByRecursion Nonzero (take n (b ∷ r))) (λ e. subst (λ n. AllByRecursion Nonzero (take n (b ∷ r))) (sym one_more) (e, leading_all r)) (λ e. tt)
  where
    one_more : 1 + prefix_len named r ≡ suc (prefix_len named r)
    one_more = omega arith

pub name_nonzero : (xs : List ℕ) (offset : ℕ) (name : List ℕ) → string_from xs offset ≡ Some name → AllByRecursion Nonzero name
name_nonzero xs offset name e = subst (AllByRecursion Nonzero) (sym (front_is (drop offset xs) name e).1) (leading_all (drop offset xs))

-- nor has one that is mapped, and nor have the names of parameters
pub mapped_nonzero : (from to : ℕ) → 0 < to → (name : List ℕ) → AllByRecursion Nonzero name → AllByRecursion Nonzero (map (λ b. cond (eqb b from) to b) name)
mapped_nonzero from to h name p =
    All-map Nonzero (λ b. cond (eqb b from) to b) name
    (All-weaker Nonzero (λ b. Nonzero (cond (eqb b from) to b)) (λ b q. cond_both (eqb b from) to b Nonzero (λ e. nonzero to h) (λ e. q)) name p)

pub param_nonzero : (index : ℕ) → index < 2 ^ 64 → AllByRecursion Nonzero (param_name index)
param_nonzero index h =
    All-append Nonzero (codes "param") (decimal index) (refl, (refl, (refl, (refl, (refl, tt)))))
    (decimal_by_steps (λ n ds. AllByRecursion Nonzero ds) (λ n small. (nonzero (48 + n) (omega arith), tt)) (λ n ds large p. All-append Nonzero ds _ p (nonzero (48 + n % 10) (omega arith), tt)) index h)
