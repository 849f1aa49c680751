-- What is due first goes first, whatever breaks ties: then a schedule is least late.
use Rattle.std.proofs.Common.{ℕ, List, get_or, ℤ, refl, sym}
use Rattle.edd_commands.specs.declared.Command.{Command}
use Rattle.edd_commands.specs.declared.steps.Step.{Step}
use Rattle.edd_commands.specs.Schedule.{IsLegal, IsGreatestLateness, IsLeastLateness}
use Rattle.edd_check.proofs.Least.{least_here}
use Rattle.edd_oracle.specs.Priority.{IsEarliestDueFirst}
use Rattle.edd_oracle.proofs.Crowded.{WaitsFull, full_by, waits_full, window_start, crowded_by}
use Rattle.edd_oracle.proofs.Pairs.{nobody}
use Rattle.blk_online.specs.DueFirst.{IsDueFirst}

full_least : (commands : List Command) (steps : List Step) (rounds : List ℕ) (late : ℤ) → IsLegal commands rounds steps → WaitsFull commands rounds steps → IsGreatestLateness commands rounds late → IsLeastLateness commands steps late
full_least commands steps rounds late legal waits greatest =
    let k : ℕ = greatest.place in
    let x : ℕ = get_or rounds k 0 in
    let due : ℕ = (get_or commands k nobody).due in
    let start = window_start commands rounds steps x due in
    least_here commands steps late rounds (record { from = start.0; due = due }) legal greatest
    (crowded_by commands rounds steps x due start.0 k nobody late legal.one_each waits start.1 greatest.in_list refl refl (sym (greatest.reached nobody)))

pub due_first_least : (commands : List Command) (steps : List Step) (rounds : List ℕ) (late : ℤ) → IsLegal commands rounds steps → IsDueFirst commands rounds steps → IsGreatestLateness commands rounds late → IsLeastLateness commands steps late
due_first_least commands steps rounds late legal first greatest =
    full_least commands steps rounds late legal
    (λ x k d h released later. full_by commands rounds steps x (get_or commands k d).due d legal.one_each (first.full x k d h released later) (λ j j_in at. first.due_first x k j d h released later j_in at)) greatest

pub earliest_least : (commands : List Command) (steps : List Step) (rounds : List ℕ) (late : ℤ) → IsLegal commands rounds steps → IsEarliestDueFirst commands rounds steps → IsGreatestLateness commands rounds late → IsLeastLateness commands steps late
earliest_least commands steps rounds late legal first greatest =
    full_least commands steps rounds late legal (waits_full commands rounds steps legal.one_each first) greatest
