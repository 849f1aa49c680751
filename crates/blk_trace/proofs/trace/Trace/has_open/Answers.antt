use Rattle.std.proofs.Common.{◌↔◌, IsTrue, ℕ, subst}
use lib.Dec.{ltb}
use Rattle.blk_trace.specs.Traces.{Traced}
use Rattle.blk_trace.specs.Events.{IsOpen}
use Rattle.blk_trace.proofs.Opening.{open_by_count}
use Rattle.blk_trace.proofs.trace.Trace.has_open.Goals as goal

pub returns : goal.returns
returns g c =
    let k = c.self.invariant.0 in
    let P : Traced → Type 0 = λ v. IsTrue (ltb 0 c.self.inside.«open») ↔ ((tag : ℕ) × IsOpen v.events tag) in
    subst P c.self.view_is (open_by_count c.self.inside.setup c.self.inside.events.items c.self.inside.«open» k.legal k.open_is)
