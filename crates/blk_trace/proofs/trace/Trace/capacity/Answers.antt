use Rattle.std.proofs.Common.{◌≡◌, ◌∙◌, List, ap, sym, subst}
use Rattle.edd_commands.specs.declared.steps.Step.{Step}
use Rattle.edd_commands.specs.Capacity.{IsCapacity}
use Rattle.blk_trace.specs.Happened.{Happened}
use Rattle.blk_trace.specs.Depths.{capacity_of}
use Rattle.blk_trace.proofs.Changes.{capacity_steps, capacity_depth, no_fault}
use Rattle.blk_trace.proofs.trace.Trace.capacity.Goals as goal

pub unreachable-requires : goal.unreachable-requires
unreachable-requires g c =
    let s = c.self.inside in
    let es : List Happened = s.events.items in
    let is : c.in_ok-steps.steps.items ≡ capacity_of s.setup es = c.in_ok-steps.ensures ∙ ap (λ l. capacity_of s.setup l) c.as_slice.ensures.value in
    no_fault c.in_ok-steps.steps.items c.in-Err.field-0 (subst (λ (l : List Step). IsCapacity l) (sym is) (capacity_steps s.setup es c.self.invariant.0.ranges c.self.invariant.0.legal)) c.in-Err.ensures.refused

pub returns-in_err-alloc-clause-each : goal.returns-in_err-alloc-clause-each
returns-in_err-alloc-clause-each g c = λ round. capacity_depth c.args.self.now.setup c.args.self.now.events round

pub returns-in_err-steps-clause-each : goal.returns-in_err-steps-clause-each
returns-in_err-steps-clause-each g c = λ round. capacity_depth c.args.self.now.setup c.args.self.now.events round

pub returns-clause-each : goal.returns-clause-each
returns-clause-each g c = λ round. capacity_depth c.args.self.now.setup c.args.self.now.events round
