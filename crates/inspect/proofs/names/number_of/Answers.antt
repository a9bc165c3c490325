use Rattle.std.proofs.Common.{rules}
use Rattle.inspect.proofs.Numbers.{number_of-find}
use Rattle.inspect.proofs.names.number_of.Goals as goal

pub returns : goal.returns
returns c = rw (number_of-find c.args.names.now c.args.name.now c.args.rows.now) (search rules)
