use Rattle.std.proofs.Common.{rules}
use Rattle.declare.proofs.Data.{data_built}
use Rattle.declare.proofs.Int.new.Goals as goal

pub returns : goal.returns
returns c = search (rules, data_built)
