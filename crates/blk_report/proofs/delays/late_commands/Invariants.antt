use Rattle.std.proofs.Common.{◌≡◌, ◌<◌, ◌-◌, ℕ, length, get_or}
use Rattle.edd_verdict.specs.declared.Verdict.{Verdict}
use Rattle.blk_report.specs.declared.below.CountAsk.{CountAsk}
use Rattle.blk_report.specs.declared.serving.Service.{Service}
use Rattle.blk_report.specs.declared.delays.LateCommand.{LateCommand}
use Rattle.blk_report.specs.Inside.Waited.{late_command}
use Rattle.blk_report.proofs.delays.late_commands.Given as goal

-- a row for each command so far
abbrev pub invariant-loop-place : goal.invariant-loop-place
invariant-loop-place g l = record {
  each : length l.rows.items ≡ l.place;
  so_far : (k : ℕ) (d : Service) (e f : CountAsk) (v : Verdict) (r : LateCommand) → k < l.place → get_or l.rows.items k r ≡ late_command l.sums (get_or l.late k d) ((get_or l.asks k e).end - (get_or l.asks k e).start) (get_or l.counted k f).count (get_or l.told k v);
}
