use Rattle.std.proofs.Common.{arith}
use Rattle.std.proofs.lemmas.Grind.{common_steps}
use Rattle.table.proofs.Begun.{placed_begun, counted_begun, table_begun}
use Rattle.table.proofs.btf.Btf.new.Goals as goal

pub invariant_of-result-2-clause-placed : goal.invariant_of-result-2-clause-placed
invariant_of-result-2-clause-placed c = placed_begun c.args.types.now c.empty.result c.empty.ensures (grind (arith, common_steps))

pub invariant_of-result-2-clause-counted : goal.invariant_of-result-2-clause-counted
invariant_of-result-2-clause-counted c = counted_begun c.args.types.now c.empty.result c.empty.ensures (grind (arith, common_steps))

pub returns-clause-table : goal.returns-clause-table
returns-clause-table c = table_begun c.args.types.now c.empty.result c.empty.ensures (grind (arith, common_steps)) c.args.elements.now c.args.strings.now (grind (arith, common_steps))
