use Rattle.std.proofs.Common.{subst}
use Rattle.blk_trace.specs.Traces.{Traced}
use Rattle.blk_trace.specs.Laws.{IsScheduled, AreBounded}
use Rattle.blk_trace.specs.Meaning.{commands_of, rounds_of}
use Rattle.blk_trace.proofs.Bounds.{bounded}
use Rattle.blk_trace.proofs.Scheduling.{legal-schedule}
use Rattle.blk_trace.proofs.trace.Trace.commands.Goals as goal

pub returns-in_err-alloc-clause-scheduled : goal.returns-in_err-alloc-clause-scheduled
returns-in_err-alloc-clause-scheduled g c =
    let P : Traced → Type 0 = λ v. IsScheduled v.setup v.events in
    subst P c.self.view_is (legal-schedule c.self.inside.setup c.self.inside.events.items c.self.invariant.0.legal)

pub returns-clause-scheduled : goal.returns-clause-scheduled
returns-clause-scheduled g c =
    let P : Traced → Type 0 = λ v. IsScheduled v.setup v.events in
    subst P c.self.view_is (legal-schedule c.self.inside.setup c.self.inside.events.items c.self.invariant.0.legal)

pub returns-in_err-alloc-clause-bounded : goal.returns-in_err-alloc-clause-bounded
returns-in_err-alloc-clause-bounded g c =
    let P : Traced → Type 0 = λ v. AreBounded (commands_of v.setup v.events) (rounds_of v.events) in
    subst P c.self.view_is (bounded c.self.inside.setup c.self.inside.events.items c.self.invariant.0.ranges c.self.invariant.0.legal)

pub returns-clause-bounded : goal.returns-clause-bounded
returns-clause-bounded g c =
    let P : Traced → Type 0 = λ v. AreBounded (commands_of v.setup v.events) (rounds_of v.events) in
    subst P c.self.view_is (bounded c.self.inside.setup c.self.inside.events.items c.self.invariant.0.ranges c.self.invariant.0.legal)
