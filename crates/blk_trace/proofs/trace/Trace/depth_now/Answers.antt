use Rattle.std.proofs.Common.{◌≤◌, subst, arith}
use Rattle.blk_trace.specs.Traces.{Traced}
use Rattle.blk_trace.specs.Events.{round_of}
use Rattle.blk_trace.proofs.Depths.{depth_now_is}
use Rattle.blk_trace.proofs.Capacities.{depth_few, depth_some}
use Rattle.blk_trace.proofs.trace.Trace.depth_now.Goals as goal

pub returns-clause-some : goal.returns-clause-some
returns-clause-some g c =
    let s = c.self.inside in
    let es = c.self.inside.events.items in
    let k = c.self.invariant.0 in
    omega (arith, c.self.invariant.2.now_is, depth_now_is s.setup es, depth_some s.setup es (round_of es) k.ranges.some_tags k.legal)

pub returns-clause-few : goal.returns-clause-few
returns-clause-few g c =
    let s = c.self.inside in
    let es = c.self.inside.events.items in
    let k = c.self.invariant.0 in
    let P : Traced → Type 0 = λ v. s.depth ≤ v.setup.depth in
    let inner : s.depth ≤ s.setup.depth = omega (arith, c.self.invariant.2.now_is, depth_now_is s.setup es, depth_few s.setup es (round_of es) k.legal) in
    subst P c.self.view_is inner
