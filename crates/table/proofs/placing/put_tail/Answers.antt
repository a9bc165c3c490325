use Rattle.std.proofs.lemmas.Simd.{map-map}
use Rattle.elements.specs.Packing.{packed}
use Rattle.meaning.proofs.Over.{over_map_more}
use Rattle.table.proofs.placing.put_tail.Goals as goal

pub loop-i-preserved : goal.loop-i-preserved
loop-i-preserved g c =
    simp map-map
    (over_map_more (λ e. packed (g.E.ElementType.meaning e)) c.args.tail.now c.loop-i.i c.index-tail-i.result c.pack.result c.args.at c.loop-i.area c.args.area.now
    (simp map-map at c.loop-i.invariant) c.loop-i-test.true c.index-tail-i.is c.pack.ensures c.requires)
