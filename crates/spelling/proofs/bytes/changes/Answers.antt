use Rattle.std.proofs.Common.{rules}
use Rattle.spelling.proofs.Spelled.{changes-any}
use Rattle.spelling.proofs.bytes.changes.Goals as goal

pub returns : goal.returns
returns g c = rw (changes-any g.S.Spelling.spells c.args.name.now) (search rules)
