use Rattle.std.proofs.Common.{◌≡◌, ◌≤◌, drop}
use Rattle.std.specs.Prelude.{fold}
use Rattle.blk_cli.specs.Unflushed.{plugged_after, plugged}
use Rattle.blk_cli.proofs.unflushed.plugged.Given as goal

abbrev pub invariant-loop-line : goal.invariant-loop-line
invariant-loop-line l = record {
  same : fold (plugged_after l.submitter) l.held (drop l.line-index l.lines) ≡ plugged l.lines l.submitter;
  few : l.held ≤ l.line-index;
}
