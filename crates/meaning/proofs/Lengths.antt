-- How long the elements of a declaration are.
use Rattle.std.proofs.Common.{◌≡◌, ℕ, ◌*◌, ◌<◌, ◌≤◌, cond, ltb, sym, ap, ◌∙◌, ⊎_elim, mul_assoc, zero-mul, arith}
use Rattle.std.proofs.lemmas.Bool.{cond-true, lt-ltb, cases_lt}

-- a kind without elements has none, whatever the low bits hold
pub element_total : (width low count : ℕ) → count ≡ cond (ltb 0 width) low 0 → 4 * width * low ≡ 4 * (width * count)
element_total width low count e =
    ⊎_elim
    (λ (some : 0 < width). mul_assoc 4 width low ∙ ap (λ n. 4 * (width * n)) (sym (e ∙ cond-true (ltb 0 width) low 0 (lt-ltb 0 width some))))
    (λ (none : width ≤ 0).
    let z : width ≡ 0 = omega arith in
    ap (λ w. 4 * w * low) z ∙ zero-mul low ∙ sym (ap (λ w. 4 * (w * count)) z ∙ ap (λ n. 4 * n) (zero-mul count)))
    (cases_lt 0 width)
