-- "param", the digits and a zero byte, one behind the other.
use Rattle.std.proofs.Common.{◌≡◌, ℕ, ◌+◌, ◌-◌, ◌<◌, List, [], ◌∷◌, ◌++◌, length, set, codes, decimal, ap, sym, ◌∙◌, arith, length-append}
use borrow.Rule.Slice.PartMut.{put_mid}
use Rattle.meaning.specs.Adding.{over}
use Rattle.meaning.proofs.Over.{over_more, over_over}
use Rattle.meaning.proofs.Parts.{part_put}
use Rattle.rewriting.specs.Rules.{param_name}

pub param_put : (head digits old : List ℕ) (at index len : ℕ) → head ≡ codes "param" → digits ≡ decimal index → len ≡ 5 + length digits → at + len < length old →
    set (put_mid (at + 5) (at + len - (at + 5)) (put_mid at (at + 5 - at) old head) digits) (at + len) 0 ≡ over at (param_name index ++ 0 ∷ []) old
param_put head digits old at index len e d long room =
    let k : at + 5 - at ≡ length head = omega (arith, ap length e) in
    let first : put_mid at (at + 5 - at) old head ≡ over at (codes "param") old = part_put at (at + 5 - at) old head k ∙ ap (λ l. over at l old) e in
    let both : put_mid (at + 5) (at + len - (at + 5)) (put_mid at (at + 5 - at) old head) digits ≡ over at (param_name index) old =
    part_put (at + 5) (at + len - (at + 5)) (put_mid at (at + 5 - at) old head) digits (omega arith) ∙
    ap (over (at + 5) digits) first ∙
    ap (λ l. over (at + 5) l (over at (codes "param") old)) d ∙
    over_over at (codes "param") (decimal index) old (omega (arith, ap length d)) in
    let whole : length (param_name index) ≡ len = length-append (codes "param") (decimal index) ∙ omega (arith, ap length d) in
    ap (λ l. set l (at + len) 0) both ∙
    ap (λ n. set (over at (param_name index) old) (at + n) 0) (sym whole) ∙
    over_more at (param_name index) 0 old (omega arith)
