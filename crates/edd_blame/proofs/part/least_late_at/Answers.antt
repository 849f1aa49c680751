use Rattle.std.proofs.Common.{◌≡◌, ℕ, List, map, arith, ◌∙◌, sym, subst}
use Rattle.edd_commands.specs.declared.Command.{Command}
use Rattle.edd_commands.specs.declared.steps.Step.{Step}
use Rattle.edd_check.specs.declared.Window.{Window}
use Rattle.edd_commands.proofs.InForce.{depth_bounds}
use Rattle.edd_oracle.specs.Input.{IsTaken}
use Rattle.edd_oracle.specs.OnTime.{IsMostAnswer}
use Rattle.edd_blame.specs.Parts.{command_here}
use Rattle.edd_blame.proofs.Parting.{part_taken, least_at, few_on_time}
use Rattle.edd_blame.proofs.part.least_late_at.Goals as goal

-- the oracle's answer is of the part
answer_of : (own list : List Command) (steps : List Step) (rounds : List ℕ) (on_time : ℕ) (cover : List Window) → list ≡ own → IsMostAnswer list steps rounds on_time cover → IsMostAnswer own steps rounds on_time cover
answer_of own list steps rounds on_time cover same most = subst (λ l. IsMostAnswer l steps rounds on_time cover) same most

pub most_on_time_taken-requires : goal.most_on_time_taken-requires
most_on_time_taken-requires g c =
    subst IsTaken (sym (c.as_slice.ensures.value ∙ c.in_ok-part.ensures)) (part_taken c.args.commands.now c.args.capacity.now c.args.places.now c.requires.places c.requires.taken)

pub overflow_sub-result : goal.overflow_sub-result
overflow_sub-result g c =
    let same = c.as_slice.ensures.value ∙ c.in_ok-part.ensures in
    let most = answer_of (map (command_here c.args.commands.now) c.args.places.now) c.as_slice.result.now c.args.capacity.now c.in_ok-answer.answer.rounds.items c.in_ok-answer.answer.on_time c.in_ok-answer.answer.cover.items same c.in_ok-answer.ensures.most in
    omega (arith, few_on_time c.args.commands.now c.args.capacity.now c.args.places.now c.requires.places c.in_ok-answer.answer.rounds.items most.legal.one_each, most.number)

pub returns : goal.returns
returns g c =
    let same = c.as_slice.ensures.value ∙ c.in_ok-part.ensures in
    let most = answer_of (map (command_here c.args.commands.now) c.args.places.now) c.as_slice.result.now c.args.capacity.now c.in_ok-answer.answer.rounds.items c.in_ok-answer.answer.on_time c.in_ok-answer.answer.cover.items same c.in_ok-answer.ensures.most in
    least_at c.args.commands.now c.args.capacity.now c.args.places.now c.requires.places c.in_ok-answer.answer.rounds.items c.in_ok-answer.answer.on_time _
    (λ x. (depth_bounds c.args.capacity.now x c.at.ensures.steps).0) c.requires.taken.in_range most.rounds_in most.legal most.number most.most
    (omega (arith, few_on_time c.args.commands.now c.args.capacity.now c.args.places.now c.requires.places c.in_ok-answer.answer.rounds.items most.legal.one_each, most.number))
