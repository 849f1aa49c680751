-- What answers say by themselves.
use Rattle.std.proofs.Common.{◌≡◌, ◌∙◌, ◌+◌, ◌<◌, ◌≤◌, ◌⊎◌, ℕ, Result, Ok, Err, OnOk, IfOk, IfErr, ap, subst, arith}
use Rattle.blk_trace.specs.declared.event.Event.TheVariants.{Tick}
use Rattle.blk_trace.specs.Events.{round_of}
use Rattle.blk_trace.proofs.More.{round_more}
use Rattle.blk_core.specs.State.{CoreState}
use Rattle.blk_sched.specs.Policies.{OfTick}
use Rattle.blk_core.specs.Calls.{Ends}
use Rattle.blk_core.specs.Faults.{IsTickFault, CanSetDepth, IsDepthFault}
use Rattle.blk_core.specs.declared.refusals.TickFault.{TickFault}
use Rattle.blk_core.specs.declared.refusals.TickFault.TheVariants as tick
use Rattle.blk_core.specs.declared.refusals.DepthFault.{DepthFault}
use Rattle.blk_core.specs.declared.refusals.DepthFault.TheVariants as depth
use Rattle.blk_layer.specs.Serving.{IsTickAnswer, IsDepthAnswer}

pub tick_answer : (told : OfTick) (old new : CoreState) (r : Result ℕ TickFault) → OnOk r (Ends told old new) → IfOk r (λ round. round ≡ round_of new.events)
    → IfErr r (IsTickFault old) → IsTickAnswer r
tick_answer told old new (Ok round) ends is fault =
    let more : round_of new.events ≡ round_of old.events + 1 = ap round_of ends.0.1 ∙ round_more old.events Tick in
    omega (arith, is, more)
tick_answer told old new (Err (tick.InFlight n)) ends is fault = fault.1
tick_answer told old new (Err tick.TraceFull) ends is fault = tt
tick_answer told old new (Err tick.Memory) ends is fault = tt

pub depth_answer : (c : CoreState) (most n : ℕ) (r : Result (Unit {0}) DepthFault) → c.setup.depth ≡ most → OnOk r (CanSetDepth c n) → IfErr r (IsDepthFault c n)
    → IsDepthAnswer most n r
depth_answer c most n (Ok u) same can fault = (can.some, subst (λ m. n ≤ m) same can.few)
depth_answer c most n (Err depth.TraceFull) same can fault = tt
depth_answer c most n (Err depth.DepthRange) same can fault = subst (λ m. (n ≡ 0) ⊎ (m < n)) same fault.1
depth_answer c most n (Err depth.Memory) same can fault = (fault.some, subst (λ m. n ≤ m) same fault.few)
