use Rattle.std.proofs.Common.{sym}
use Rattle.meaning.proofs.Over.{over_none}
use Rattle.spelling.proofs.Spelled.{spell_more, spell_all}
use Rattle.spelling.proofs.bytes.spell_on.Goals as goal

pub loop-i-init : goal.loop-i-init
loop-i-init g c = sym (over_none c.args.at c.args.area.now)

pub loop-i-preserved : goal.loop-i-preserved
loop-i-preserved g c =
    spell_more g.S.Spelling.spells c.loop-i.area c.args.area.now c.args.at c.args.from c.args.count c.loop-i.i c.loop-i.invariant c.requires.before c.requires.room c.spell.result c.loop-i-test.true c.spell.ensures

pub returns : goal.returns
returns g c = spell_all g.S.Spelling.spells c.loop-i.area c.args.area.now c.args.at c.args.from c.args.count c.loop-i.i c.loop-i.invariant c.requires.before c.requires.room c.loop-i-test.false
