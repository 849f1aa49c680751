use Rattle.std.proofs.Common.{◌≡◌, ◌≤◌, take, length}
use Rattle.blk_picture.specs.Columns.{rounds_in}
use Rattle.blk_picture.proofs.columns.rounds_in.Given as goal

abbrev pub invariant-loop-issued : goal.invariant-loop-issued
invariant-loop-issued l = record {
  few : length l.rounds.items ≤ l.issued-index;
  rounds : l.rounds.items ≡ rounds_in l.kind (take l.issued-index l.boxes);
}
