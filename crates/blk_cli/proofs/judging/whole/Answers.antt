use Rattle.std.proofs.Common.{rules, ◌≡◌, ◌∙◌, ap}
use Rattle.answer.specs.Lines.{answer_lines}
use Rattle.blk_records.specs.Schedule.{viewed}
use Rattle.blk_cli.proofs.Schedules.{taken_of, rounds_of, judged_of, refused_as}
use Rattle.blk_cli.proofs.judging.whole.Goals as goal

pub judge-requires-clause-taken : goal.judge-requires-clause-taken
judge-requires-clause-taken c = taken_of (viewed c.args.schedule.now) c.requires.ran c.as_slice-commands.result.now (search rules)

pub judge-requires-clause-rounds_in : goal.judge-requires-clause-rounds_in
judge-requires-clause-rounds_in c = rounds_of (viewed c.args.schedule.now) c.requires.ran c.as_slice-rounds.result.now (search rules)

pub returns-in-Ok-lines-clause-text : goal.returns-in-Ok-lines-clause-text
returns-in-Ok-lines-clause-text c =
    let s = viewed c.args.schedule.now in
    let commands : c.as_slice-commands.result.now ≡ s.commands = search rules in
    let rounds : c.as_slice-rounds.result.now ≡ s.rounds = search rules in
    record {
      counts = c.in-Ok.judged.misses.counts;
      windows = c.in-Ok.judged.misses.windows.items;
      figures = c.in-Ok.judged.figures;
      judged = judged_of s c.as_slice-commands.result.now c.as_slice-rounds.result.now c.args.capacity.now commands rounds c.requires.capacity _ _ _ c.in-Ok.ensures.judged;
      is_text = c.in-Ok-lines.ensures ∙ ap answer_lines c.in-Ok-judged_answer.ensures;
    }

pub returns-in-Err-clause-fails : goal.returns-in-Err-clause-fails
returns-in-Err-clause-fails c =
    let s = viewed c.args.schedule.now in
    let commands : c.as_slice-commands.result.now ≡ s.commands = search rules in
    let rounds : c.as_slice-rounds.result.now ≡ s.rounds = search rules in
    refused_as s c.as_slice-commands.result.now c.as_slice-rounds.result.now c.args.capacity.now commands rounds c.requires.capacity c.in-Err.fault c.in-Err.ensures.refused
