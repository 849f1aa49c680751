use Rattle.std.proofs.Common.{◌≡◌, ◌≢◌, ◌<◌, ◌≤◌, ◌%◌, ◌-◌, ℕ, length}
use Rattle.std.specs.Prelude.{slice_get}
use Rattle.std.specs.Option.{option_map}
use Rattle.blk_sim.specs.Moves.{EnterInTurn, served_requests, drained}
use Rattle.blk_sim.proofs.steps.drain.Given as goal

abbrev pub invariant-loop-s : goal.invariant-loop-s
invariant-loop-s g l = record {
  entered : EnterInTurn g.S.Scheduler.policy l.hw (served_requests l.initial.queues.items l.initial.core.setup.hw l.hw l.s) l.initial.core l.core;
  setup : l.core.setup ≡ l.initial.core.setup;
  own : (l.s % l.initial.core.setup.hw) ≡ l.hw;
  as_many : length l.queues.items ≡ length l.initial.queues.items;
  later : (t : ℕ) → l.s ≤ t → slice_get l.queues.items t ≡ slice_get l.initial.queues.items t;
  others : (t : ℕ) → (t % l.initial.core.setup.hw) ≢ l.hw → slice_get l.queues.items t ≡ slice_get l.initial.queues.items t;
  served : (t : ℕ) → t < l.s → (t % l.initial.core.setup.hw) ≡ l.hw → slice_get l.queues.items t ≡ option_map drained (slice_get l.initial.queues.items t);
}

abbrev pub decreases-loop-s : goal.decreases-loop-s
decreases-loop-s g l = length l.queues.items - l.s
