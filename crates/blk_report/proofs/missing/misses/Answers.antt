use Rattle.std.proofs.Common.{◌∙◌, ℕ, List, subst}
use Rattle.edd_commands.specs.declared.Command.{Command}
use Rattle.edd_commands.specs.declared.steps.Step.{Step}
use Rattle.edd_figures.specs.declared.missing.Counts.{Counts}
use Rattle.edd_figures.specs.declared.missing.Crowd.{Crowd}
use Rattle.edd_figures.specs.Misses.{AreMisses, HasSpares}
use Rattle.blk_trace.specs.Depths.{capacity_of}
use Rattle.blk_trace.specs.Meaning.{commands_of, rounds_of}
use Rattle.blk_report.proofs.missing.misses.Goals as goal

pub returns : goal.returns
returns g c =
    let t = c.args.trace.now in
    let cs : List Command = commands_of t.setup t.events in
    let rs : List ℕ = rounds_of t.events in
    let steps : List Step = capacity_of t.setup t.events in
    let m : Counts = c.in_ok-missed.missed.counts in
    let windows : List Crowd = c.in_ok-missed.missed.windows.items in
    let told : AreMisses cs rs steps m.commands m.late m.unavoidable m.avoidable windows =
    subst (λ (x : List Step). AreMisses cs rs x m.commands m.late m.unavoidable m.avoidable windows) c.in_ok-capacity.ensures.steps
    (subst (λ (x : List ℕ). AreMisses cs x c.in_ok-capacity.capacity m.commands m.late m.unavoidable m.avoidable windows) (c.as_slice-2.ensures.value ∙ c.in_ok-rounds.ensures.rounds)
    (subst (λ (x : List Command). AreMisses x c.as_slice-2.result.now c.in_ok-capacity.capacity m.commands m.late m.unavoidable m.avoidable windows) (c.as_slice.ensures.value ∙ c.in_ok-commands.ensures.commands) c.in_ok-missed.ensures.are)) in
    let spare : HasSpares cs rs steps m.late m.spare =
    subst (λ (x : List Step). HasSpares cs rs x m.late m.spare) c.in_ok-capacity.ensures.steps
    (subst (λ (x : List ℕ). HasSpares cs x c.in_ok-capacity.capacity m.late m.spare) (c.as_slice-2.ensures.value ∙ c.in_ok-rounds.ensures.rounds)
    (subst (λ (x : List Command). HasSpares x c.as_slice-2.result.now c.in_ok-capacity.capacity m.late m.spare) (c.as_slice.ensures.value ∙ c.in_ok-commands.ensures.commands) c.in_ok-missed.ensures.spares)) in
    record {
      tallied = record { misses = told; spares = spare; waiting = c.bios_waiting.ensures.waiting; overdue = c.count_overdue.ensures };
      at_most = c.in_ok-missed.ensures.at_most;
      some = c.in_ok-missed.ensures.some;
    }
