use Rattle.std.proofs.Common.{◌≡◌, ◌≤◌, ◌*◌, length}
use Rattle.blk_cli.specs.Unflushed.{left_in_plugs}
use Rattle.blk_cli.proofs.unflushed.left_in_plugs.Given as goal

abbrev pub invariant-loop-submitter : goal.invariant-loop-submitter
invariant-loop-submitter l = record {
  same : l.left ≡ left_in_plugs l.script.lines.items l.submitter;
  few : l.left ≤ l.submitter * length l.script.lines.items;
}
