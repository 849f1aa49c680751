use Rattle.std.proofs.Common.{◌≡◌, take, length}
use Rattle.std.specs.Prelude.{sum_by}
use Rattle.blk_trace.specs.Events.{round_of}
use Rattle.blk_text.specs.Script.{scripted}
use Rattle.blk_sim.specs.Simulation.{ticks_of}
use Rattle.blk_sim.specs.State.{start_of}
use Rattle.blk_sim.specs.Runs.{Runs}
use Rattle.blk_sim.specs.Simulated.{Stands, IsReady}
use Rattle.blk_sim.specs.Inside.Places.{placings}
use Rattle.blk_sim.proofs.simulation.simulate.Given as goal

abbrev pub invariant-loop-place : goal.invariant-loop-place
invariant-loop-place g l = record {
  runs : Runs g.S.Scheduler.policy (take l.place l.script.lines.items) (start_of (scripted l.script) (g.S.Scheduler.meaning l.fn.scheduler) (g.S.Scheduler.kept l.fn.scheduler)) l.simulation;
  stands : Stands (placings l.script.setup.hw (take l.place l.script.lines.items)) l.simulation.plugs l.simulation.queues l.simulation.core.events;
  ready : IsReady l.place l.simulation;
  setup : l.simulation.core.setup ≡ l.script.setup;
  count : length l.simulation.plugs ≡ l.script.submitters;
  ticks : round_of l.simulation.core.events ≡ sum_by ticks_of (take l.place l.script.lines.items);
}
