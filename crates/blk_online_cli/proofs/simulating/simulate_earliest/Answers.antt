use Rattle.std.proofs.Common.{◌≡◌, true, false, sym, ap, subst, All}
use Rattle.blk_trace.specs.Setups.{IsSetup}
use Rattle.blk_trace.specs.Legal.{IsLegalTrace}
use Rattle.blk_text.specs.Script.{scripted}
use Rattle.blk_earliest.specs.Choice.{earliest_kept}
use Rattle.blk_earliest.specs.Shown.{meaning_of}
use Rattle.blk_online.specs.Ticks.{AtTicks}
use Rattle.blk_online.specs.Best.{HasLeastLateness, IsOneSchedule, HasMostOnTime}
use Rattle.blk_online_cli.specs.ByRounds.{IsByRounds, HoldsNow}
use Rattle.blk_online_cli.proofs.Running.{HasRun, trace_holds, least_late, one_schedule, has_most_on_time, ok_three}
use Rattle.blk_online_cli.proofs.simulating.simulate_earliest.Goals as goal

pub returns-clause-rounds : goal.returns-clause-rounds
returns-clause-rounds g c =
    ok_three c.simulate.result
    (λ t. HasRun (scripted c.args.script.now) c.args.script.now.lines.items (meaning_of c.in-Ok-new.scheduler) (earliest_kept c.in-Ok-new.scheduler.late_last) t.setup t.events)
    (λ t. t.setup ≡ c.args.script.now.setup) (λ t. IsLegalTrace t.setup t.events) (λ t. All IsByRounds c.args.script.now.lines.items → AtTicks (HoldsNow c.args.late_last t.setup) t.events)
    c.simulate.ensures.ran c.simulate.ensures.setup c.simulate.ensures.legal
    (λ t ran own legal by. trace_holds c.args.late_last (scripted c.args.script.now) c.args.script.now.lines.items (meaning_of c.in-Ok-new.scheduler) (earliest_kept c.in-Ok-new.scheduler.late_last) t.setup t.events c.hw.ensures.is_setup c.in-Ok-new.ensures.ok (ap earliest_kept c.in-Ok-new.ensures.setting) ran own legal by)

pub returns-clause-least : goal.returns-clause-least
returns-clause-least g c =
    ok_three c.simulate.result
    (λ t. HasRun (scripted c.args.script.now) c.args.script.now.lines.items (meaning_of c.in-Ok-new.scheduler) (earliest_kept c.in-Ok-new.scheduler.late_last) t.setup t.events)
    (λ t. t.setup ≡ c.args.script.now.setup) (λ t. IsLegalTrace t.setup t.events) (λ t. c.args.late_last ≡ false → All IsByRounds c.args.script.now.lines.items → HasLeastLateness t.setup t.events)
    c.simulate.ensures.ran c.simulate.ensures.setup c.simulate.ensures.legal
    (λ t ran own legal off by. least_late c.args.late_last t.setup t.events legal off (trace_holds c.args.late_last (scripted c.args.script.now) c.args.script.now.lines.items (meaning_of c.in-Ok-new.scheduler) (earliest_kept c.in-Ok-new.scheduler.late_last) t.setup t.events c.hw.ensures.is_setup c.in-Ok-new.ensures.ok (ap earliest_kept c.in-Ok-new.ensures.setting) ran own legal by))

pub returns-clause-one : goal.returns-clause-one
returns-clause-one g c =
    ok_three c.simulate.result
    (λ t. HasRun (scripted c.args.script.now) c.args.script.now.lines.items (meaning_of c.in-Ok-new.scheduler) (earliest_kept c.in-Ok-new.scheduler.late_last) t.setup t.events)
    (λ t. t.setup ≡ c.args.script.now.setup) (λ t. IsLegalTrace t.setup t.events) (λ t. c.args.late_last ≡ false → All IsByRounds c.args.script.now.lines.items → IsOneSchedule t.setup t.events)
    c.simulate.ensures.ran c.simulate.ensures.setup c.simulate.ensures.legal
    (λ t ran own legal off by. one_schedule c.args.late_last t.setup t.events (subst IsSetup (sym own) c.hw.ensures.is_setup) legal off (trace_holds c.args.late_last (scripted c.args.script.now) c.args.script.now.lines.items (meaning_of c.in-Ok-new.scheduler) (earliest_kept c.in-Ok-new.scheduler.late_last) t.setup t.events c.hw.ensures.is_setup c.in-Ok-new.ensures.ok (ap earliest_kept c.in-Ok-new.ensures.setting) ran own legal by))

pub returns-clause-most : goal.returns-clause-most
returns-clause-most g c =
    ok_three c.simulate.result
    (λ t. HasRun (scripted c.args.script.now) c.args.script.now.lines.items (meaning_of c.in-Ok-new.scheduler) (earliest_kept c.in-Ok-new.scheduler.late_last) t.setup t.events)
    (λ t. t.setup ≡ c.args.script.now.setup) (λ t. IsLegalTrace t.setup t.events) (λ t. c.args.late_last ≡ true → All IsByRounds c.args.script.now.lines.items → HasMostOnTime t.setup t.events)
    c.simulate.ensures.ran c.simulate.ensures.setup c.simulate.ensures.legal
    (λ t ran own legal on by. has_most_on_time c.args.late_last t.setup t.events legal on (trace_holds c.args.late_last (scripted c.args.script.now) c.args.script.now.lines.items (meaning_of c.in-Ok-new.scheduler) (earliest_kept c.in-Ok-new.scheduler.late_last) t.setup t.events c.hw.ensures.is_setup c.in-Ok-new.ensures.ok (ap earliest_kept c.in-Ok-new.ensures.setting) ran own legal by))
