use Rattle.std.proofs.Common.{arith, ◌≡◌, ◌+◌, ◌<◌, ◌≤◌, ◌^◌, ◌∙◌, length, Some, take, refl, sym, ap, subst, inr}
use Rattle.std.specs.Prelude.{slice_get, IsPermutation}
use Rattle.std.proofs.lemmas.Option.{slice_get_within}
use Rattle.std.proofs.lemmas.List.{length-replicate}
use Rattle.blk_trace.specs.Setups.{Setup}
use Rattle.blk_trace.specs.Events.{entered}
use Rattle.blk_text.specs.Script.{LineFits, scripted}
use Rattle.blk_sim.specs.Simulation.{Released, bios_at, ticks_of}
use Rattle.blk_sim.specs.State.{SimState, start_of}
use Rattle.blk_sim.specs.Runs.{Runs}
use Rattle.blk_sim.specs.Simulated.{Stands, stepped}
use Rattle.blk_sim.specs.Inside.Places.{placings}
use Rattle.blk_sim.proofs.Standing.{placings_nil, all_at, stands_more, ticks_more, all_released}
use Rattle.blk_sim.proofs.Keeping.{start_ready, start_stands, steps_stand, steps_ready, steps_went, steps_plugs, ready_more}
use Rattle.blk_sim.proofs.Ending.{rounds_nil, fits_along, read_at, whole, runs_none, runs_more}
use Rattle.blk_sim.proofs.simulation.simulate.Goals as goal

pub loop-place-init : goal.loop-place-init
loop-place-init g c =
    let is : c.in-Ok.simulation ≡ start_of (scripted c.args.script.now) (g.S.Scheduler.meaning c.args.scheduler) (g.S.Scheduler.kept c.args.scheduler) = cc (c.in-Ok.ensures, c.in-Ok.is) in
    record {
      runs = runs_none g.S.Scheduler.policy _ c.in-Ok.simulation is;
      stands = subst (λ b. Stands b c.in-Ok.simulation.plugs c.in-Ok.simulation.queues c.in-Ok.simulation.core.events) (sym (placings_nil c.args.script.now.setup.hw)) (start_stands (scripted c.args.script.now) (g.S.Scheduler.meaning c.args.scheduler) (g.S.Scheduler.kept c.args.scheduler) c.in-Ok.simulation is);
      ready = start_ready (scripted c.args.script.now) (g.S.Scheduler.meaning c.args.scheduler) (g.S.Scheduler.kept c.args.scheduler) c.in-Ok.simulation is;
      setup = ap (λ (s : SimState). s.core.setup) is;
      count = ap (λ (s : SimState). length s.plugs) is ∙ length-replicate c.args.script.now.submitters _;
      ticks = rounds_nil c.in-Ok.simulation.core.events (ap (λ (s : SimState). s.core.events) is);
    }

pub step-requires-clause-ready : goal.step-requires-clause-ready
step-requires-clause-ready g c =
    let within : c.loop-place.place < length c.args.script.now.lines.items = slice_get_within c.args.script.now.lines.items c.loop-place.place c.line-item.result (read_at c.args.script.now.lines.items c.deref-line-items.result.now c.loop-place.place c.line-item.result c.deref-line-items.ensures.value c.loop-place-test.true c.line-item.is) in
    let short : length c.args.script.now.lines.items ≤ 999_998 = c.requires.script.short in
    ready_more c.loop-place.place (2 ^ 40) c.loop-place.simulation (omega (arith, within, short)) c.loop-place.invariant.ready

pub returns-in-Err-clause-fault : goal.returns-in-Err-clause-fault
returns-in-Err-clause-fault g c =
    let at : slice_get c.args.script.now.lines.items c.loop-place.place ≡ Some c.line-item.result = read_at c.args.script.now.lines.items c.deref-line-items.result.now c.loop-place.place c.line-item.result c.deref-line-items.ensures.value c.loop-place-test.true c.line-item.is in
    inr (c.loop-place.place, refl, record { state = c.loop-place.simulation; step = c.line-item.result; at = at; runs = c.loop-place.invariant.runs; refused = c.in-Err.ensures.refused })

pub loop-place-preserved : goal.loop-place-preserved
loop-place-preserved g c =
    let at : slice_get c.args.script.now.lines.items c.loop-place.place ≡ Some c.line-item.result = read_at c.args.script.now.lines.items c.deref-line-items.result.now c.loop-place.place c.line-item.result c.deref-line-items.ensures.value c.loop-place-test.true c.line-item.is in
    let i = c.loop-place.invariant in
    let step = c.in_default-step.ensures.stepped in
    let went = steps_went g.S.Scheduler.policy c.loop-place.simulation c.line-item.result c.step.new.self step in
    let fits : LineFits c.loop-place.simulation.core.setup.hw (length c.loop-place.simulation.plugs) c.line-item.result = fits_along _ _ _ _ c.line-item.result (ap (λ (s : Setup). s.hw) i.setup) i.count
    (all_at (LineFits c.args.script.now.setup.hw c.args.script.now.submitters) c.args.script.now.lines.items c.loop-place.place c.line-item.result c.requires.script.lines at) in
    let some : 0 < c.loop-place.simulation.core.setup.hw = subst (λ (s : Setup). 0 < s.hw) (sym i.setup) (let h : 1 ≤ c.args.script.now.setup.hw = c.requires.script.title.hw.0 in omega (arith, h)) in
    record {
      runs = runs_more g.S.Scheduler.policy c.loop-place.place c.args.script.now.lines.items c.line-item.result _ c.loop-place.simulation c.step.new.self at i.runs step;
      stands = stands_more c.args.script.now.setup.hw c.loop-place.place c.args.script.now.lines.items c.line-item.result c.step.new.self.plugs c.step.new.self.queues c.step.new.self.core.events at
          (subst (λ hw. Stands (stepped hw c.line-item.result (placings c.args.script.now.setup.hw (take c.loop-place.place c.args.script.now.lines.items))) c.step.new.self.plugs c.step.new.self.queues c.step.new.self.core.events) (ap (λ (s : Setup). s.hw) i.setup)
          (steps_stand g.S.Scheduler.policy c.loop-place.simulation c.line-item.result c.step.new.self (placings c.args.script.now.setup.hw (take c.loop-place.place c.args.script.now.lines.items)) some i.ready.counts fits step i.stands));
      ready = steps_ready g.S.Scheduler.policy c.loop-place.place c.loop-place.simulation c.line-item.result c.step.new.self step i.ready;
      setup = went.setup ∙ i.setup;
      count = steps_plugs g.S.Scheduler.policy c.loop-place.simulation c.line-item.result c.step.new.self step ∙ i.count;
      ticks = went.ticks ∙ ap (λ n. n + ticks_of c.line-item.result) i.ticks ∙ sym (ticks_more c.loop-place.place c.args.script.now.lines.items c.line-item.result at);
    }

pub returns-clause-ran : goal.returns-clause-ran
returns-clause-ran g c = (
  c.loop-place.simulation,
  subst (λ ls. Runs g.S.Scheduler.policy ls (start_of (scripted c.args.script.now) (g.S.Scheduler.meaning c.args.scheduler) (g.S.Scheduler.kept c.args.scheduler)) c.loop-place.simulation) (whole c.args.script.now.lines.items c.deref-line-items.result.now c.loop-place.place c.deref-line-items.ensures.value c.loop-place-test.false) c.loop-place.invariant.runs,
  c.into_trace.ensures.setup,
  c.into_trace.ensures.events,
)

pub returns-clause-bios : goal.returns-clause-bios
returns-clause-bios g c =
    subst (λ es. IsPermutation (entered es) (bios_at c.args.script.now.setup.hw Released c.args.script.now.lines.items)) (sym c.into_trace.ensures.events)
    (all_released c.args.script.now.setup.hw c.args.script.now.lines.items c.loop-place.simulation.plugs c.loop-place.simulation.queues c.loop-place.simulation.core.events
    (subst (λ ls. Stands (placings c.args.script.now.setup.hw ls) c.loop-place.simulation.plugs c.loop-place.simulation.queues c.loop-place.simulation.core.events) (whole c.args.script.now.lines.items c.deref-line-items.result.now c.loop-place.place c.deref-line-items.ensures.value c.loop-place-test.false) c.loop-place.invariant.stands))
