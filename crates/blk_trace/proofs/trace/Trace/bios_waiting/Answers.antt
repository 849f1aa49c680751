use Rattle.std.proofs.Common.{subst}
use Rattle.blk_trace.specs.Traces.{Traced}
use Rattle.blk_trace.specs.Laws.{IsAccounted}
use Rattle.blk_trace.proofs.Accounting.{accounted}
use Rattle.blk_trace.proofs.trace.Trace.bios_waiting.Goals as goal

pub returns-clause-accounted : goal.returns-clause-accounted
returns-clause-accounted g c =
    let P : Traced → Type 0 = λ v. IsAccounted v.events in
    subst P c.self.view_is (accounted c.self.inside.setup c.self.inside.events.items c.self.invariant.0.legal)
