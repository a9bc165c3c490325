-- A part of an area that was copied into.
use Rattle.std.proofs.Common.{◌≡◌, ℕ, List, ◌++◌, length, take, ap, ◌∙◌}
use borrow.Rule.Slice.PartMut.{put_mid}
use Rattle.std.proofs.lemmas.List.{drop-drop}
use Rattle.meaning.specs.Adding.{over}

pub part_put : {X : Type 0} (at k : ℕ) (area copied : List X) → k ≡ length copied → put_mid at k area copied ≡ over at copied area
part_put at k area copied e =
    ap (λ n. put_mid at n area copied) e ∙ ap (λ l. take at area ++ (copied ++ l)) (drop-drop (length copied) at area)
