-- Where a name stands.
use Rattle.std.proofs.Common.{◌≡◌, ℕ, zero, suc, ◌+◌, ◌-◌, ◌<◌, ◌≤◌, true, false, eqb, ltb, List, [], ◌∷◌, length, get_or, take, drop, is_some, Some, None, Option, sym, ap, ◌∙◌, ⊎_elim, arith, length-drop}
use Rattle.std.specs.List.{prefix_len}
use Rattle.std.proofs.lemmas.List.{drop_all, get_or-drop}
use Rattle.std.proofs.lemmas.Bool.{cond_both, cases_lt, lt-ltb, le-ltb, eq-eqb, not_from_true, both_ways}
use Rattle.meaning.specs.Adding.{named}
use Rattle.meaning.specs.Questions.{string_from}
use Rattle.inspect.specs.Ends.{Ends}

-- a name stands where a zero byte follows
pub name_is : (bytes : List ℕ) (offset : ℕ) → is_some (string_from bytes offset) ≡ ltb (prefix_len named (drop offset bytes)) (length (drop offset bytes))
name_is bytes offset =
    let rest = drop offset bytes in
    let b = ltb (prefix_len named rest) (length rest) in
    cond_both b (Some (take (prefix_len named rest) rest)) None (λ (o : Option (List ℕ)). is_some o ≡ b) (λ e. sym e) (λ e. sym e)

pub no_name_past : (bytes : List ℕ) (offset : ℕ) → length bytes ≤ offset → false ≡ is_some (string_from bytes offset)
no_name_past bytes offset h = sym (name_is bytes offset ∙ ap (λ l. ltb (prefix_len named l) (length l)) (drop_all offset bytes h))

-- bytes that end in a zero byte
zero_leads : (r : List ℕ) (k : ℕ) → suc k ≡ length r → get_or r k 1 ≡ 0 → prefix_len named r < length r
zero_leads [] k h e = absurd (omega arith)
zero_leads (b ∷ r) zero h e =
    cond_both (named b) (1 + prefix_len named r) 0 (λ n. n < suc (length r)) (λ some. absurd (both_ways (named b) (not_from_true (eqb b 0) (eq-eqb b 0 e)) some)) (λ none. omega arith)
zero_leads (b ∷ r) (suc k) h e =
    let rest = zero_leads r k (omega arith) e in
    cond_both (named b) (1 + prefix_len named r) 0 (λ n. n < suc (length r)) (λ some. omega arith) (λ none. omega arith)

pub name_within : (bytes : List ℕ) (offset : ℕ) → Ends bytes → offset < length bytes → true ≡ is_some (string_from bytes offset)
name_within bytes offset ends h =
    let k = length bytes - 1 - offset in
    let last : get_or (drop offset bytes) k 1 ≡ 0 = get_or-drop offset bytes k 1 ∙ ap (λ n. get_or bytes n 1) (omega arith) ∙ ends in
    sym (name_is bytes offset ∙ lt-ltb _ _ (zero_leads (drop offset bytes) k (omega (arith, length-drop offset bytes)) last))

-- where bytes end in a zero byte, a name stands wherever there is a byte
pub name_ended : (bytes : List ℕ) (offset : ℕ) → Ends bytes → ltb offset (length bytes) ≡ is_some (string_from bytes offset)
name_ended bytes offset ends =
    ⊎_elim
    (λ (h : offset < length bytes). lt-ltb offset (length bytes) h ∙ name_within bytes offset ends h)
    (λ (h : length bytes ≤ offset). le-ltb offset (length bytes) h ∙ no_name_past bytes offset h)
    (cases_lt offset (length bytes))
