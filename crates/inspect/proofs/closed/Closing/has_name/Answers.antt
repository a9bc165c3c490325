use Rattle.inspect.proofs.Standing.{name_ended}
use Rattle.inspect.proofs.closed.Closing.has_name.Goals as goal

pub returns-then-self : goal.returns-then-self
returns-then-self c = name_ended c.args.self.now.view.strings.now c.args.offset (c.args.self.now.ends c.if-self.true)
