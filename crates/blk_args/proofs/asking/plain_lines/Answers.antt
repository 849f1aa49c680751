use Rattle.std.proofs.Common.{None, Some, true, false}
use Rattle.blk_schedulers.specs.declared.lists.ListFault.TheVariants as list
use Rattle.blk_schedulers.specs.declared.rows.SchedKind.TheVariants as sched
use Rattle.blk_args.specs.declared.table.FiguresAsked.TheVariants as figures
use Rattle.blk_args.specs.declared.inputs.Running.TheVariants as running
use Rattle.blk_args.specs.declared.inputs.Solving.TheVariants as solving
use Rattle.blk_args.specs.declared.inputs.TraceOutput.TheVariants as telling
use Rattle.blk_args.specs.declared.inputs.TextJob.TheVariants as text_job
use Rattle.blk_args.specs.declared.words.Job.TheVariants as job
use Rattle.blk_schedulers.specs.declared.form.Form.TheVariants as form
use Rattle.blk_args.specs.declared.inputs.ShownLoad.TheVariants as shown
use Rattle.blk_args.specs.declared.words.Refusal.TheVariants as refusal
use Rattle.blk_args.specs.declared.words.Kept.TheVariants as kept
use Rattle.blk_args.specs.declared.words.Written.TheVariants as written
use Rattle.blk_schedulers.specs.Defaults.{default_sched, default_deadline, default_kyber, default_earliest, deadline_in, deadline_each, kyber_within, earliest_by, default_lineup, with_earliest, in_batches, whole}
use Rattle.blk_args.specs.Asked.{of_script, of_trace, of_list}
use Rattle.blk_args.specs.Plain.{default_trial, five_by_lateness, whole_import, by_perf, default_load, own_grid, both_positions}
use Rattle.blk_args.proofs.Plain.{asks_for, asks_for_grid, asks_for_nothing, sim_line, none_line, deadline_line, kyber_line, earliest_line, late_last_line, batch_line, each_line, both_positions_line, target_line, compare_line, compare_earliest_line, compare_late_last_line, compare_json_line, tune_line, tune_so_line, tune_json_line, tune_unknown_line, tune_no_list_line, tune_twice_line, tune_by_what_line, whole_grid_line, own_grid_line, migrate_line, commands_line, late_line, late_json_line, misses_line, misses_json_line, spread_line, spread_json_line, picture_line, drawn_line, scheduled_line, oracle_line, report_line, report_json_line, on_time_line, report_and_on_time_line, certificate_json_line, check_line, check_json_line, import_line, import_so_line, summary_line, no_time_line, no_entry_line, no_recorder_line, no_device_line, table_and_summary_line, script_line, script_alone_line, depth_alone_line, judge_line, judge_each_line, explain_line, load_line, load_json_line, busy_line, traced_line, timed_line, traced_json_line, version_line}
use Rattle.blk_args.proofs.asking.plain_lines.Goals as goal

pub returns : goal.returns
returns c = record {
  sim = asks_for "sim" (of_script (running.One default_sched)) sim_line;
  none = asks_for "sim --sched none" (of_script (running.One default_sched)) none_line;
  deadline = asks_for "sim --sched deadline" (of_script (running.One default_deadline)) deadline_line;
  kyber = asks_for "sim --sched kyber" (of_script (running.One default_kyber)) kyber_line;
  earliest = asks_for "sim --sched earliest" (of_script (running.One default_earliest)) earliest_line;
  late_last = asks_for "sim --sched earliest --late-last" (of_script (running.One (earliest_by true))) late_last_line;
  each = asks_for "sim --sched deadline --positions each" (of_script (running.One deadline_each)) each_line;
  batch = asks_for "sim --sched deadline --fifo-batch 1" (of_script (running.One (deadline_in 1))) batch_line;
  target = asks_for "sim --sched kyber --read-target 1000000" (of_script (running.One (kyber_within 1_000_000))) target_line;
  compare = asks_for "compare" (of_script (running.Each default_lineup form.Lines)) compare_line;
  compare_earliest = asks_for "compare --earliest" (of_script (running.Each (with_earliest false) form.Lines)) compare_earliest_line;
  compare_late_last = asks_for "compare --earliest --late-last" (of_script (running.Each (with_earliest true) form.Lines)) compare_late_last_line;
  compare_json = asks_for "compare --json" (of_script (running.Each default_lineup form.Json)) compare_json_line;
  tune = asks_for "tune" (default_trial form.Lines) tune_line;
  tune_so = asks_for "tune --sched deadline,none --fifo-batch 16,1 --by lateness --top 5 --threads 4" five_by_lateness tune_so_line;
  tune_json = asks_for "tune --json" (default_trial form.Json) tune_json_line;
  tune_unknown = asks_for "tune --sched none,cfq" (job.Refuse (refusal.Lists list.Scheds)) tune_unknown_line;
  tune_no_list = asks_for "tune --fifo-batch 1,x" (job.Refuse (refusal.Lists (list.Numbers sched.Deadline 0))) tune_no_list_line;
  tune_twice = asks_for "tune --read-target 2,5,2" (job.Refuse (refusal.Lists (list.Numbers sched.Kyber 0))) tune_twice_line;
  tune_by_what = asks_for "tune --by wait" (job.Refuse refusal.By) tune_by_what_line;
  whole_grid = asks_for_grid "tune" whole whole_grid_line;
  own_positions = asks_for_grid "tune --sched deadline --fifo-batch 1 --writes-starved 0 --positions each,one" both_positions both_positions_line;
  own_grid = asks_for_grid "tune --sched deadline,none --fifo-batch 16,1 --writes-starved 3 --write-target 7,0" own_grid own_grid_line;
  migrate = asks_for "migrate" (of_trace telling.Whole) migrate_line;
  commands = asks_for "commands" (of_trace telling.Commands) commands_line;
  late = asks_for "late" (of_trace (telling.Figures figures.Late form.Lines)) late_line;
  late_json = asks_for "late --json" (of_trace (telling.Figures figures.Late form.Json)) late_json_line;
  misses = asks_for "misses" (of_trace (telling.Figures figures.Misses form.Lines)) misses_line;
  misses_json = asks_for "misses --json" (of_trace (telling.Figures figures.Misses form.Json)) misses_json_line;
  spread = asks_for "spread" (of_trace (telling.Figures figures.Spread form.Lines)) spread_line;
  spread_json = asks_for "spread --json" (of_trace (telling.Figures figures.Spread form.Json)) spread_json_line;
  picture = asks_for "picture" (of_trace telling.Picture) picture_line;
  drawn = asks_for "picture --script --earliest --fifo-batch 1" (of_script (running.Drawn (in_batches 1))) drawn_line;
  scheduled = asks_for "picture --schedule" (job.OfText text_job.Draw) scheduled_line;
  oracle = asks_for "oracle" (of_list solving.Least) oracle_line;
  report = asks_for "oracle --trace" (of_trace (telling.Figures figures.Report form.Lines)) report_line;
  report_json = asks_for "oracle --trace --json" (of_trace (telling.Figures figures.Report form.Json)) report_json_line;
  met = asks_for "oracle --met" (of_list solving.Most) on_time_line;
  report_and_on_time = asks_for_nothing "oracle --trace --met" report_and_on_time_line;
  certificate_json = asks_for "oracle --met --json" (job.Refuse refusal.JsonAlone) certificate_json_line;
  check = asks_for "check" (job.OfText (text_job.Check form.Lines)) check_line;
  check_json = asks_for "check --json" (job.OfText (text_job.Check form.Json)) check_json_line;
  imported = asks_for "import" (job.Import (whole_import (written.Kept kept.Schedule))) import_line;
  imported_so = asks_for "import --read-expire 8us --from queue --as perf --device 8,0 --skip 1s --first 9 --table" (job.Import by_perf) import_so_line;
  summary = asks_for "import --write-expire 8ns --summary" (job.Import (record (whole_import written.Summary) { write_expire = 8 })) summary_line;
  no_time = asks_for "import --skip 2" (job.Refuse refusal.Skip) no_time_line;
  no_entry = asks_for "import --from issue" (job.Refuse refusal.From) no_entry_line;
  no_recorder = asks_for "import --as iostat" (job.Refuse refusal.As) no_recorder_line;
  no_device = asks_for "import --device sda" (job.Refuse refusal.Device) no_device_line;
  table_and_summary = asks_for "import --table --summary" (job.Refuse refusal.TableAndSummary) table_and_summary_line;
  script = asks_for "import --script --round 1ms" (job.Import (whole_import (written.Kept (kept.Script 1_000_000 None)))) script_line;
  script_alone = asks_for "import --script" (job.Refuse refusal.NoRound) script_alone_line;
  depth_alone = asks_for "import --depth 8" (job.Refuse refusal.NoScript) depth_alone_line;
  judge = asks_for "judge" (job.OfText (text_job.Judge false)) judge_line;
  judge_each = asks_for "judge --each" (job.OfText (text_job.Judge true)) judge_each_line;
  explain = asks_for "explain" job.Explain explain_line;
  load = asks_for "load" (job.Load default_sched default_load (shown.Account form.Lines) false) load_line;
  load_json = asks_for "load --json" (job.Load default_sched default_load (shown.Account form.Json) false) load_json_line;
  busy = asks_for "load --busy 3" (job.Load default_sched (record default_load { busy = Some 3 }) (shown.Account form.Lines) false) busy_line;
  traced = asks_for "load --trace --service 100" (job.Load default_sched (record default_load { service = 100 }) shown.Trace false) traced_line;
  timed = asks_for "load --times" (job.Load default_sched default_load (shown.Account form.Lines) true) timed_line;
  traced_json = asks_for "load --trace --json" (job.Refuse refusal.TraceAndJson) traced_json_line;
  version = version_line;
}
