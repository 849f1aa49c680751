use Rattle.std.proofs.Common.{◌-◌, ℕ, inr, subst}
use Rattle.blk_index.specs.Inside.Shapes.{entries_in, IsIn}
use Rattle.blk_index.proofs.Edged.{listed_as}
use Rattle.blk_index.proofs.edges.Edge.put_among.Goals as goal

pub returns-in-Ok-clause-ok : goal.returns-in-Ok-clause-ok
returns-in-Ok-clause-ok g c =
    let e = c.args.extent.now in
    let has = entries_in c.put.new.self in
    inr (listed_as has c.args.spot.0 c.args.spot.1 (e.end - e.first) e.bios (subst (λ (x : ℕ × ℕ). IsIn has c.args.spot.0 x c.args.spot.1) c.shape_of-shape.ensures c.in-Ok.ensures.ok))
