use Rattle.std.proofs.Common.{◌≡◌, false, Some, None, length, replicate, map, rules, subst}
use Rattle.std.specs.Result.{IfOk}
use Rattle.std.proofs.lemmas.Result.{IfOk-weaker}
use Rattle.edd_commands.specs.Schedule.{IsLegal, RoundsInRange}
use Rattle.edd_oracle.specs.Inside.Leave.{HaveLeft}
use Rattle.edd_oracle.specs.Priority.{IsEarliestDueFirst}
use Rattle.edd_oracle.proofs.Partial.{IsFinished, finish_left}
use Rattle.edd_oracle.proofs.Both.{nones_begun}
use Rattle.edd_oracle.proofs.queue.schedule.Given.{Over}
use Rattle.edd_oracle.proofs.queue.schedule.Goals as goal

pub leave-requires-clause-begun : goal.leave-requires-clause-begun
leave-requires-clause-begun g c =
    let nones : c.in_ok-rounds.rounds.items ≡ replicate (length c.args.commands.now) None = search rules in
    nones_begun c.args.commands.now c.in_ok-rounds.rounds.items c.args.capacity.now nones

finished : (g : Over) (c : goal.After-drop-rounds-2 g) → IfOk c.settled.result (λ rounds. IsFinished c.args.commands.now rounds.items c.args.capacity.now)
finished g c =
    let same : c.leave.new.rounds.items ≡ c.as_slice.result.now = search rules in
    let left : HaveLeft false c.args.commands.now c.in_ok-rounds.rounds.items c.as_slice.result.now c.args.capacity.now 0 =
    subst (λ xs. HaveLeft false c.args.commands.now c.in_ok-rounds.rounds.items xs c.args.capacity.now 0) same c.in_ok-leave.ensures in
    IfOk-weaker c.settled.result (λ rounds. map (λ x. Some x) rounds.items ≡ c.as_slice.result.now) (λ rounds. IsFinished c.args.commands.now rounds.items c.args.capacity.now)
    (λ rounds settled. finish_left c.args.commands.now c.in_ok-rounds.rounds.items c.as_slice.result.now c.args.capacity.now rounds.items left c.requires.few settled)
    c.settled.ensures

pub returns-clause-legal : goal.returns-clause-legal
returns-clause-legal g c =
    IfOk-weaker c.settled.result (λ rounds. IsFinished c.args.commands.now rounds.items c.args.capacity.now) (λ rounds. IsLegal c.args.commands.now rounds.items c.args.capacity.now) (λ rounds all. all.legal) (finished g c)

pub returns-clause-in_range : goal.returns-clause-in_range
returns-clause-in_range g c =
    IfOk-weaker c.settled.result (λ rounds. IsFinished c.args.commands.now rounds.items c.args.capacity.now) (λ rounds. RoundsInRange rounds.items) (λ rounds all. all.in_range) (finished g c)

pub returns-clause-earliest : goal.returns-clause-earliest
returns-clause-earliest g c =
    IfOk-weaker c.settled.result (λ rounds. IsFinished c.args.commands.now rounds.items c.args.capacity.now) (λ rounds. IsEarliestDueFirst c.args.commands.now rounds.items c.args.capacity.now) (λ rounds all. all.earliest) (finished g c)
