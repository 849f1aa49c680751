use Rattle.std.proofs.Common.{◌≡◌, ◌<◌, ℕ, true, false, Some, None, length, replicate, map, rules, subst}
use Rattle.std.specs.Result.{IfOk}
use Rattle.std.proofs.lemmas.Result.{IfOk-weaker}
use Rattle.edd_commands.specs.Capacity.{depth_at}
use Rattle.edd_commands.specs.Schedule.{IsLegal, RoundsInRange}
use Rattle.edd_oracle.specs.Inside.Leave.{HaveLeft, IsAfter}
use Rattle.edd_oracle.specs.OnTime.{IsOnTimeFirst}
use Rattle.edd_oracle.proofs.Both.{IsOnTimeFinished, on_time_finished, nones_begun, left_small, rest_begun}
use Rattle.edd_oracle.proofs.queue.schedule_on_time.Given.{Over}
use Rattle.edd_oracle.proofs.queue.schedule_on_time.Goals as goal

pub leave-requires-clause-begun : goal.leave-requires-clause-begun
leave-requires-clause-begun g c =
    let nones : c.in_ok-rounds.rounds.items ≡ replicate (length c.args.commands.now) None = search rules in
    nones_begun c.args.commands.now c.in_ok-rounds.rounds.items c.args.capacity.now nones

pub after-end-requires : goal.after-end-requires
after-end-requires g c =
    let same : c.leave.new.rounds.items ≡ c.as_slice.result.now = search rules in
    let left : HaveLeft true c.args.commands.now c.in_ok-rounds.rounds.items c.as_slice.result.now c.args.capacity.now 0 =
    subst (λ xs. HaveLeft true c.args.commands.now c.in_ok-rounds.rounds.items xs c.args.capacity.now 0) same c.in_ok-leave.ensures in
    left_small true c.args.commands.now c.in_ok-rounds.rounds.items c.as_slice.result.now c.args.capacity.now 0 left c.requires.few

pub leave-requires-2-clause-begun : goal.leave-requires-2-clause-begun
leave-requires-2-clause-begun g c =
    let left : HaveLeft true c.args.commands.now c.in_ok-rounds.rounds.items c.leave.new.rounds.items c.args.capacity.now 0 =
    c.in_ok-leave.ensures in
    let here : c.as_slice.result.now ≡ c.leave.new.rounds.items = search rules in
    let after : IsAfter c.leave.new.rounds.items c.after-end.result = subst (λ xs. IsAfter xs c.after-end.result) here c.after-end.ensures in
    rest_begun true c.args.commands.now c.in_ok-rounds.rounds.items c.leave.new.rounds.items c.args.capacity.now 0 c.after-end.result left after

finished : (g : Over) (c : goal.After-drop-rounds-2 g) → IfOk c.settled.result (λ rounds. IsOnTimeFinished c.args.commands.now rounds.items c.args.capacity.now)
finished g c =
    let nones : c.in_ok-rounds.rounds.items ≡ replicate (length c.args.commands.now) None = search rules in
    let first : HaveLeft true c.args.commands.now c.in_ok-rounds.rounds.items c.leave.new.rounds.items c.args.capacity.now 0 =
    c.in_ok-leave.ensures in
    let here : c.as_slice.result.now ≡ c.leave.new.rounds.items = search rules in
    let after : IsAfter c.leave.new.rounds.items c.after-end.result = subst (λ xs. IsAfter xs c.after-end.result) here c.after-end.ensures in
    let same-2 : c.leave-2.new.rounds.items ≡ c.as_slice-2.result.now = search rules in
    let rest : HaveLeft false c.args.commands.now c.leave.new.rounds.items c.as_slice-2.result.now c.args.capacity.now c.after-end.result =
    subst (λ xs. HaveLeft false c.args.commands.now c.leave.new.rounds.items xs c.args.capacity.now c.after-end.result) same-2 c.in_ok-leave-2.ensures in
    IfOk-weaker c.settled.result (λ rounds. map (λ x. Some x) rounds.items ≡ c.as_slice-2.result.now) (λ rounds. IsOnTimeFinished c.args.commands.now rounds.items c.args.capacity.now)
    (λ rounds settled. on_time_finished c.args.commands.now c.in_ok-rounds.rounds.items c.leave.new.rounds.items c.as_slice-2.result.now c.args.capacity.now c.after-end.result rounds.items nones first after rest c.requires.few settled)
    c.settled.ensures

pub returns-clause-legal : goal.returns-clause-legal
returns-clause-legal g c =
    IfOk-weaker c.settled.result (λ rounds. IsOnTimeFinished c.args.commands.now rounds.items c.args.capacity.now) (λ rounds. IsLegal c.args.commands.now rounds.items c.args.capacity.now) (λ rounds all. all.legal) (finished g c)

pub returns-clause-in_range : goal.returns-clause-in_range
returns-clause-in_range g c =
    IfOk-weaker c.settled.result (λ rounds. IsOnTimeFinished c.args.commands.now rounds.items c.args.capacity.now) (λ rounds. RoundsInRange rounds.items) (λ rounds all. all.in_range) (finished g c)

pub returns-clause-first : goal.returns-clause-first
returns-clause-first g c =
    IfOk-weaker c.settled.result (λ rounds. IsOnTimeFinished c.args.commands.now rounds.items c.args.capacity.now) (λ rounds. IsOnTimeFirst c.args.commands.now rounds.items c.args.capacity.now) (λ rounds all. all.first) (finished g c)

pub returns-clause-carries : goal.returns-clause-carries
returns-clause-carries g c =
    let some : (x : ℕ) → 0 < depth_at c.args.capacity.now x = c.in_ok-leave.ensures.some in
    IfOk-weaker c.settled.result (λ rounds. map (λ x. Some x) rounds.items ≡ c.as_slice-2.result.now) (λ _. (x : ℕ) → 0 < depth_at c.args.capacity.now x) (λ rounds settled. some) c.settled.ensures
