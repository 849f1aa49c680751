use Rattle.std.proofs.Common.{◌≡◌, ◌≤◌, ◌+◌, ◌-◌, ◌∙◌, ℕ, Bool, List, length, arith, sym, subst}
use Rattle.edd_commands.specs.declared.Command.{Command}
use Rattle.edd_commands.specs.declared.steps.Step.{Step}
use Rattle.edd_figures.proofs.Tardy.{all_commands}
use Rattle.edd_blame.specs.Parts.{ArePlaces, IsLeastLateAt, other_places}
use Rattle.edd_blame.proofs.Marking.{other_are, least_beside}
use Rattle.edd_blame.proofs.part.least_late_beside.Goals as goal

pub least_late_at-requires-clause-places : goal.least_late_at-requires-clause-places
least_late_at-requires-clause-places g c =
    subst (λ l. ArePlaces (length c.args.commands.now) l) (sym (c.as_slice.ensures.value ∙ c.in_ok-parts.ensures.others)) (other_are c.args.marks.now (length c.args.commands.now) c.requires.one_each)

pub overflow_sub-late : goal.overflow_sub-late
overflow_sub-late g c =
    let most = c.in_ok-answer.ensures.most in
    omega (arith, all_commands c.args.commands.now c.in_ok-answer.answer.rounds.items most.legal.one_each, most.number)

pub overflow_sub-result : goal.overflow_sub-result
overflow_sub-result g c =
    let cs : List Command = c.args.commands.now in
    let steps : List Step = c.args.capacity.now in
    let marks : List Bool = c.args.marks.now in
    let most = c.in_ok-answer.ensures.most in
    let late : ℕ = length cs - c.in_ok-answer.answer.on_time in
    let fewest : IsLeastLateAt cs steps (other_places marks) c.in_ok-others.others = subst (λ l. IsLeastLateAt cs steps l c.in_ok-others.others) (c.as_slice.ensures.value ∙ c.in_ok-parts.ensures.others) c.in_ok-others.ensures in
    let all : late + c.in_ok-answer.answer.on_time ≡ length cs = omega (arith, all_commands cs c.in_ok-answer.answer.rounds.items most.legal.one_each, most.number) in
    let told = least_beside cs steps marks c.in_ok-answer.answer.on_time late c.in_ok-others.others c.requires.one_each (λ rounds. c.law_of_spares.ensures.kept cs rounds steps) most.most all fewest in
    told.0

pub returns : goal.returns
returns g c =
    let cs : List Command = c.args.commands.now in
    let steps : List Step = c.args.capacity.now in
    let marks : List Bool = c.args.marks.now in
    let most = c.in_ok-answer.ensures.most in
    let late : ℕ = length cs - c.in_ok-answer.answer.on_time in
    let fewest : IsLeastLateAt cs steps (other_places marks) c.in_ok-others.others = subst (λ l. IsLeastLateAt cs steps l c.in_ok-others.others) (c.as_slice.ensures.value ∙ c.in_ok-parts.ensures.others) c.in_ok-others.ensures in
    let all : late + c.in_ok-answer.answer.on_time ≡ length cs = omega (arith, all_commands cs c.in_ok-answer.answer.rounds.items most.legal.one_each, most.number) in
    let told = least_beside cs steps marks c.in_ok-answer.answer.on_time late c.in_ok-others.others c.requires.one_each (λ rounds. c.law_of_spares.ensures.kept cs rounds steps) most.most all fewest in
    let low : c.in_ok-others.others ≤ late = told.0 in
    told.1 (late - c.in_ok-others.others) (omega (arith, low))
