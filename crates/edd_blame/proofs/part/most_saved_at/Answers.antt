use Rattle.std.proofs.Common.{◌≡◌, ◌++◌, ℕ, List, length, map, arith, ap, sym, ◌∙◌, subst}
use Rattle.edd_check.specs.OnTime.{IsMostOnTime}
use Rattle.edd_commands.specs.declared.Command.{Command}
use Rattle.edd_commands.specs.declared.steps.Step.{Step}
use Rattle.edd_commands.proofs.InForce.{depth_bounds}
use Rattle.edd_oracle.specs.Input.{IsTaken}
use Rattle.edd_blame.specs.Inside.{on_time_places, late_places}
use Rattle.edd_blame.specs.Parts.{ArePlaces, command_here}
use Rattle.edd_blame.proofs.Parting.{part_taken}
use Rattle.edd_blame.proofs.Beside.{beside, are_beside, on_time_few, most_saved}
use Rattle.edd_blame.proofs.part.most_saved_at.Goals as goal

-- the places of the part
joined : (a b on_time late all : List ℕ) → a ≡ on_time → b ≡ late → all ≡ a ++ b → all ≡ on_time ++ late
joined a b on_time late all first other same = cc

pub commands_at-requires : goal.commands_at-requires
commands_at-requires g c =
    let cs : List Command = c.args.commands.now in
    let rs : List ℕ = c.args.rounds.now in
    let ps : List ℕ = c.args.places.now in
    let steps : List Step = c.args.capacity.now in
    let all : c.as_slice-3.result.now ≡ beside cs rs steps ps c.requires.legal c.requires.places =
    joined c.in_ok-beside.beside.items c.as_slice-2.result.now (on_time_places cs rs) (late_places cs rs ps) c.as_slice-3.result.now
    c.in_ok-beside.ensures (c.as_slice-2.ensures.value ∙ c.in_ok-late.ensures) (c.as_slice-3.ensures.value ∙ c.in_ok-extend_from_slice.ensures.items) in
    subst (λ l. ArePlaces (length cs) l) (sym all) (are_beside cs rs steps ps c.requires.legal c.requires.places)

pub most_on_time_taken-requires : goal.most_on_time_taken-requires
most_on_time_taken-requires g c =
    let cs : List Command = c.args.commands.now in
    let rs : List ℕ = c.args.rounds.now in
    let ps : List ℕ = c.args.places.now in
    let steps : List Step = c.args.capacity.now in
    let all : c.as_slice-3.result.now ≡ beside cs rs steps ps c.requires.legal c.requires.places =
    joined c.in_ok-beside.beside.items c.as_slice-2.result.now (on_time_places cs rs) (late_places cs rs ps) c.as_slice-3.result.now
    c.in_ok-beside.ensures (c.as_slice-2.ensures.value ∙ c.in_ok-late.ensures) (c.as_slice-3.ensures.value ∙ c.in_ok-extend_from_slice.ensures.items) in
    let are : ArePlaces (length cs) c.as_slice-3.result.now = subst (λ l. ArePlaces (length cs) l) (sym all) (are_beside cs rs steps ps c.requires.legal c.requires.places) in
    subst IsTaken (sym (c.as_slice-4.ensures.value ∙ c.in_ok-part.ensures)) (part_taken cs steps c.as_slice-3.result.now are c.requires.taken)

pub overflow_sub-result : goal.overflow_sub-result
overflow_sub-result g c =
    let cs : List Command = c.args.commands.now in
    let rs : List ℕ = c.args.rounds.now in
    let ps : List ℕ = c.args.places.now in
    let steps : List Step = c.args.capacity.now in
    let all : c.as_slice-3.result.now ≡ beside cs rs steps ps c.requires.legal c.requires.places =
    joined c.in_ok-beside.beside.items c.as_slice-2.result.now (on_time_places cs rs) (late_places cs rs ps) c.as_slice-3.result.now
    c.in_ok-beside.ensures (c.as_slice-2.ensures.value ∙ c.in_ok-late.ensures) (c.as_slice-3.ensures.value ∙ c.in_ok-extend_from_slice.ensures.items) in
    let own : List Command = map (command_here cs) (beside cs rs steps ps c.requires.legal c.requires.places) in
    let same : c.as_slice-4.result.now ≡ own = c.as_slice-4.ensures.value ∙ c.in_ok-part.ensures ∙ ap (map (command_here cs)) all in
    let most : IsMostOnTime own steps c.in_ok-answer.answer.on_time = subst (λ l. IsMostOnTime l steps c.in_ok-answer.answer.on_time) same c.in_ok-answer.ensures.most.most in
    let kept : length c.as_slice.result.now ≡ length (on_time_places cs rs) = ap length (c.as_slice.ensures.value ∙ c.in_ok-beside.ensures) in
    omega (arith, on_time_few cs rs steps ps c.requires.legal c.requires.places c.in_ok-answer.answer.on_time most, kept)

pub returns : goal.returns
returns g c =
    let cs : List Command = c.args.commands.now in
    let rs : List ℕ = c.args.rounds.now in
    let ps : List ℕ = c.args.places.now in
    let steps : List Step = c.args.capacity.now in
    let all : c.as_slice-3.result.now ≡ beside cs rs steps ps c.requires.legal c.requires.places =
    joined c.in_ok-beside.beside.items c.as_slice-2.result.now (on_time_places cs rs) (late_places cs rs ps) c.as_slice-3.result.now
    c.in_ok-beside.ensures (c.as_slice-2.ensures.value ∙ c.in_ok-late.ensures) (c.as_slice-3.ensures.value ∙ c.in_ok-extend_from_slice.ensures.items) in
    let own : List Command = map (command_here cs) (beside cs rs steps ps c.requires.legal c.requires.places) in
    let same : c.as_slice-4.result.now ≡ own = c.as_slice-4.ensures.value ∙ c.in_ok-part.ensures ∙ ap (map (command_here cs)) all in
    let most : IsMostOnTime own steps c.in_ok-answer.answer.on_time = subst (λ l. IsMostOnTime l steps c.in_ok-answer.answer.on_time) same c.in_ok-answer.ensures.most.most in
    let kept : length c.as_slice.result.now ≡ length (on_time_places cs rs) = ap length (c.as_slice.ensures.value ∙ c.in_ok-beside.ensures) in
    let few = on_time_few cs rs steps ps c.requires.legal c.requires.places c.in_ok-answer.answer.on_time most in
    most_saved cs rs steps ps c.requires.legal c.requires.places c.in_ok-answer.answer.on_time _ (λ x. (depth_bounds steps x c.at.ensures.steps).0) c.requires.taken.in_range
    (λ rounds. c.law_of_spares.ensures.kept own rounds steps)
    most (omega (arith, few, kept))
