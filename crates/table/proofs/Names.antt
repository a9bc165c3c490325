-- A name put into the string area.
use Rattle.std.proofs.Common.{◌≡◌, ℕ, ◌+◌, ◌-◌, ◌<◌, List, [], ◌∷◌, ◌++◌, length, set, ap, ◌∙◌, arith}
use borrow.Rule.Slice.PartMut.{put_mid}
use Rattle.meaning.specs.Adding.{over}
use Rattle.meaning.proofs.Over.{over_more}
use Rattle.meaning.proofs.Parts.{part_put}

-- a name copied into its place, and a zero byte behind it
pub name_put : (at : ℕ) (name copied area : List ℕ) → copied ≡ name → at + length name < length area →
    set (put_mid at (at + length name - at) area copied) (at + length name) 0 ≡ over at (name ++ 0 ∷ []) area
name_put at name copied area e h =
    let k : at + length name - at ≡ length copied = omega (arith, ap length e) in
    let put : put_mid at (at + length name - at) area copied ≡ over at name area = part_put at (at + length name - at) area copied k ∙ ap (λ l. over at l area) e in
    ap (λ l. set l (at + length name) 0) put ∙ over_more at name 0 area h
