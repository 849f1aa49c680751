use Rattle.std.proofs.Common.{rules, ℕ, List, ◌∙◌, ap}
use Rattle.std.specs.Prelude.{Option}
use Rattle.std.specs.List.{zip, filter_map}
use Rattle.edd_commands.specs.declared.Command.{Command}
use Rattle.edd_commands.specs.declared.steps.Step.{Step}
use Rattle.edd_commands.specs.Schedule.{IsLegal}
use Rattle.edd_verdict.specs.declared.Verdict.{Verdict}
use Rattle.edd_figures.proofs.Within.{commands_in}
use Rattle.blk_judge.specs.Late.{miss_of}
use Rattle.blk_judge.proofs.Only.{only_one}
use Rattle.blk_judge.proofs.missing.late_of.Goals as goal

pub find_fault-requires-clause-commands_in : goal.find_fault-requires-clause-commands_in
find_fault-requires-clause-commands_in g c = commands_in c.args.commands.now c.requires.taken

pub returns-clause-late : goal.returns-clause-late
returns-clause-late g c =
    let cs : List Command = c.args.commands.now in
    let rs : List ℕ = c.args.rounds.now in
    let steps : List Step = c.args.capacity.now in
    let vs : List (Option Verdict) = c.in-Ok-verdicts.verdicts.items in
    let legal : IsLegal cs rs steps = search rules in
    record {
      legal = legal;
      verdicts = vs;
      right = c.in-Ok-verdicts.ensures;
      only = λ others are. only_one cs rs steps (λ k h l. c.law_of_verdicts.ensures.one cs rs steps k legal c.at.ensures.steps h l) vs others c.in-Ok-verdicts.ensures are;
      are = c.in-Ok-misses.ensures ∙ ap (λ (x : List (Option Verdict)). filter_map miss_of (zip (zip cs rs) x)) c.as_slice.ensures.value;
    }
