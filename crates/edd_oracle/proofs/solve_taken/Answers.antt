use Rattle.std.proofs.Common.{rules, ◌≡◌, ℕ, List, subst, w64, to_z, of_z}
use Rattle.std.specs.Prelude.{ℤ}
use Rattle.std.proofs.lemmas.Int.{to_z-of_z}
use Rattle.edd_commands.specs.Schedule.{IsLegal, IsGreatestLateness, IsLowerBound}
use Rattle.edd_check.specs.Window.{IsCrowded}
use Rattle.edd_oracle.proofs.solve_taken.Goals as goal

pub returns-clause-best : goal.returns-clause-best
returns-clause-best g c =
    let rounds : List ℕ = c.in-Ok-schedule.rounds.items in
    let late : ℤ = to_z w64 (of_z w64 c.in-Ok-latest.lateness) in
    let back : c.in-Ok-latest.lateness ≡ late = search (rules, to_z-of_z) in
    let legal : IsLegal c.args.commands.now rounds c.args.capacity.now = c.in-Ok-schedule.ensures.legal in
    let greatest : IsGreatestLateness c.args.commands.now rounds late =
    subst (λ xs. IsGreatestLateness c.args.commands.now xs late) c.as_slice.ensures.value
    (subst (λ z. IsGreatestLateness c.args.commands.now c.as_slice.result.now z) back c.in-Ok-latest.ensures.greatest) in
    let crowded : IsCrowded c.args.commands.now c.args.capacity.now late c.in-Ok-latest.window =
    subst (λ z. IsCrowded c.args.commands.now c.args.capacity.now z c.in-Ok-latest.window) back c.in-Ok-latest.ensures.crowded in
    let bound : IsLowerBound c.args.commands.now c.args.capacity.now late = c.law_of_crowded_windows.ensures in
    record {
      legal = legal;
      greatest = greatest;
      crowded = crowded;
      least = record { schedule = rounds; legal = legal; reached = greatest; least = bound };
      rounds_in = c.in-Ok-schedule.ensures.in_range;
      window_in = c.in-Ok-latest.ensures.in_range;
    }
