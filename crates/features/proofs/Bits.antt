-- What `&` and `|` with a power of two say of the bits of a number.
use Rattle.std.proofs.Common.{◌≡◌, ℕ, ◌+◌, ◌-◌, ◌*◌, ◌/◌, ◌%◌, ◌^◌, ◌<◌, max, Bool, true, false, cond, not, ◌||◌, eqb, sym, ap, ◌∙◌, ⊎_elim, arith}
use lib.Bits.{bit_and, bit_or, or_step, or_add_and, and_high}
use Rattle.std.proofs.lemmas.Nat.{one_shl, or_shr, pow-add, pow_below, pow_pos, shl-shr, shr_high}
use Rattle.std.proofs.lemmas.Bool.{cases_eq, cases_order, eq-eqb, ne_eqb, cond-true, cond-false}

-- a power of two has a 0 below its own bit, a 1 at it, and a 0 above
below_bit : (m d : ℕ) → 2 ^ (d + 1 + m) / 2 ^ m % 2 ≡ 0
below_bit m d =
    ap (λ p. p / 2 ^ m % 2) (pow-add 2 (d + 1) m) ∙
    (ap (λ p. p % 2) (shl-shr (2 ^ (d + 1)) m) ∙ omega (arith, pow-add 2 d 1))

at_bit : (m : ℕ) → 2 ^ m / 2 ^ m % 2 ≡ 1
at_bit m = ap (λ p. p / 2 ^ m % 2) (omega arith) ∙ ap (λ p. p % 2) (shl-shr 1 m)

above_bit : (n d : ℕ) → 2 ^ n / 2 ^ (n + 1 + d) % 2 ≡ 0
above_bit n d =
    let h = pow_below n (n + 1 + d) (omega arith) in
    ap (λ p. p % 2) (ap (λ p. p / 2 ^ (n + 1 + d)) (omega arith) ∙ shr_high 0 (n + 1 + d) (2 ^ n) h)

power_bit : (n m : ℕ) → 2 ^ n / 2 ^ m % 2 ≡ cond (eqb n m) 1 0
power_bit n m =
    ⊎_elim
    (λ e. ap (λ k. 2 ^ n / 2 ^ k % 2) (sym e) ∙ (at_bit n ∙ sym (cond-true (eqb n m) 1 0 (eq-eqb n m e))))
    (⊎_elim
    (λ h. ap (λ k. 2 ^ n / 2 ^ k % 2) (omega arith) ∙ (above_bit n (m - n - 1) ∙ sym (cond-false (eqb n m) 1 0 (ne_eqb n m (λ e. omega arith)))))
    (λ h. ap (λ k. 2 ^ k / 2 ^ m % 2) (omega arith) ∙ (below_bit m (n - m - 1) ∙ sym (cond-false (eqb n m) 1 0 (ne_eqb n m (λ e. omega arith))))))
    (cases_order n m)

larger_bit : (x : ℕ) (t : Bool) → x < 2 → eqb (max x (cond t 1 0)) 1 ≡ (t || eqb x 1)
larger_bit x true h = eq-eqb (max x 1) 1 (omega arith)
larger_bit x false h = ap (λ k. eqb k 1) (omega arith)

pub sets_bit : (b n m : ℕ) → n < 8 → eqb (bit_or b (1 * 2 ^ n % 256) / 2 ^ m % 2) 1 ≡ (eqb n m || eqb (b / 2 ^ m % 2) 1)
sets_bit b n m h =
    let p = 2 ^ n in
    let q = 2 ^ m in
    ap (λ k. eqb (bit_or b k / q % 2) 1) (one_shl n 8 h) ∙
    (ap (λ k. eqb (k % 2) 1) (or_shr b p m) ∙
    (ap (λ k. eqb k 1) (omega (arith, or_step (b / q) (p / q))) ∙
    (ap (λ k. eqb (max (b / q % 2) k) 1) (power_bit n m) ∙
    larger_bit (b / q % 2) (eqb n m) (omega arith))))

-- the bit alone
masked_bit : (b n : ℕ) → n < 8 → bit_and b (1 * 2 ^ n % 256) ≡ (b / 2 ^ n % 2) * 2 ^ n
masked_bit b n h = ap (λ k. bit_and b k) (one_shl n 8 h ∙ omega (arith, pow-add 2 1 n)) ∙ and_high b 1 n

scaled_bit : (x p : ℕ) → x < 2 → 0 < p → eqb (x * p) 0 ≡ not (eqb x 1)
scaled_bit x p h pos =
    ⊎_elim
    (λ e. ap (λ k. eqb (k * p) 0) e ∙ (ne_eqb (1 * p) 0 (λ z. omega arith) ∙ ap (λ k. not (eqb k 1)) (sym e)))
    (λ n. let z : x ≡ 0 = omega arith in ap (λ k. eqb (k * p) 0) z ∙ (eq-eqb (0 * p) 0 (omega arith) ∙ ap (λ k. not (eqb k 1)) (sym z)))
    (cases_eq x 1)

pub reads_bit : (b n : ℕ) → n < 8 → eqb (bit_and b (1 * 2 ^ n % 256)) 0 ≡ not (eqb (b / 2 ^ n % 2) 1)
reads_bit b n h = ap (λ k. eqb k 0) (masked_bit b n h) ∙ scaled_bit (b / 2 ^ n % 2) (2 ^ n) (omega arith) (pow_pos n)

added_bit : (x p b o : ℕ) → x < 2 → o + x * p ≡ b + p → o ≡ cond (eqb x 1) b (b + p)
added_bit x p b o h e =
    ⊎_elim
    (λ i. let t : o + 1 * p ≡ b + p = ap (λ k. o + k * p) (sym i) ∙ e in omega arith ∙ sym (cond-true (eqb x 1) b (b + p) (eq-eqb x 1 i)))
    (λ n. let z : 0 ≡ x = omega arith in let t : o + 0 * p ≡ b + p = ap (λ k. o + k * p) z ∙ e in omega arith ∙ sym (cond-false (eqb x 1) b (b + p) (ne_eqb x 1 n)))
    (cases_eq x 1)

pub adds_bit : (b n : ℕ) → n < 8 → bit_or b (1 * 2 ^ n % 256) ≡ cond (eqb (b / 2 ^ n % 2) 1) b (b + 2 ^ n)
adds_bit b n h =
    let p = 1 * 2 ^ n % 256 in
    added_bit (b / 2 ^ n % 2) (2 ^ n) b (bit_or b p) (omega arith)
    (ap (λ k. bit_or b p + k) (sym (masked_bit b n h)) ∙ (or_add_and b p ∙ ap (λ k. b + k) (one_shl n 8 h)))
