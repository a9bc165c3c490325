use Rattle.std.proofs.Common.{sym, ◌∙◌, arith}
use Rattle.std.proofs.lemmas.Bool.{ltb-true}
use Rattle.spelling.proofs.Spelled.{spell_ends}
use Rattle.spelling.proofs.bytes.put_respelled.Goals as goal

pub returns-clause-area : goal.returns-clause-area
returns-clause-area g c =
    spell_ends g.S.Spelling.spells c.spell_on.new.area c.args.area.now c.args.at c.args.from c.args.count
    c.spell_on.ensures (omega arith) (ltb-true _ _ (sym c.has_room.ensures ∙ c.if-not-has_room.false))
