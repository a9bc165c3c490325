use Rattle.std.proofs.Common.{◌+◌, ap, ◌∙◌, arith}
use Rattle.table.proofs.Rows.{length_bounded, placed_push, counted_push}
use Rattle.table.proofs.btf.Btf.put_type.Goals as goal

pub invariant_of-self-2-clause-placed : goal.invariant_of-self-2-clause-placed
invariant_of-self-2-clause-placed g c = placed_push c.args.self.now c.args.head (omega arith) _ (omega arith)

pub invariant_of-self-2-clause-counted : goal.invariant_of-self-2-clause-counted
invariant_of-self-2-clause-counted g c =
    let s = c.args.self.now in
    ap (λ n. s.type_bytes + n) c.type_info_size.ensures ∙ counted_push s c.args.head (omega arith)

pub invariant_of-self-2-clause-bounded : goal.invariant_of-self-2-clause-bounded
invariant_of-self-2-clause-bounded g c =
    let was = c.args.self.now.bounded in
    omega (arith, length_bounded c.args.head.info)
