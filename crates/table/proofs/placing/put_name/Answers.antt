use Rattle.table.proofs.Names.{name_put}
use Rattle.table.proofs.placing.put_name.Goals as goal

pub returns : goal.returns
returns c = name_put c.args.at c.args.name.now c.copy_from_slice.new.self c.args.area.now c.copy_from_slice.ensures.after c.requires
