use Rattle.std.proofs.Common.{ℕ, ◌+◌, List, length, sym, ap, ◌∙◌}
use Rattle.std.proofs.lemmas.Bool.{ltb-true}
use Rattle.spelling.proofs.Numbered.{param_put}
use Rattle.spelling.proofs.params.put_param.Goals as goal

pub returns-clause-area : goal.returns-clause-area
returns-clause-area c =
    param_put c.copy_from_slice.new.self c.copy_from_slice-2.new.self c.args.area.now c.args.at c.args.index (5 + length c.as_bytes-digits.result.now)
    c.copy_from_slice.ensures.after (c.copy_from_slice-2.ensures.after ∙ c.as_bytes-digits.ensures.value ∙ c.format.ensures.text) (ap (λ (l : List ℕ). 5 + length l) (sym c.copy_from_slice-2.ensures.after)) (ltb-true _ _ (sym c.has_room.ensures ∙ c.if-not-has_room.false))
