use Rattle.std.proofs.Common.{◌≡◌, ◌<◌, ℕ, length, get_or}
use Rattle.blk_bio.specs.declared.bio.Dir.{Dir}
use Rattle.blk_blame.specs.Stages.{IsStageRow}
use Rattle.blk_blame.specs.declared.stages.Stage.{Stage}
use Rattle.blk_blame.specs.declared.stages.StageRow.{StageRow}
use Rattle.blk_blame.proofs.stages.rows_of.Given as goal

-- those so far
abbrev pub invariant-loop-pair : goal.invariant-loop-pair
invariant-loop-pair l = record {
  each : length l.rows.items ≡ l.pair-index;
  so_far : (k : ℕ) (e : StageRow) → k < l.pair-index → (d : Stage × Dir) → IsStageRow l.requests (get_or l.stages k d).1 (get_or l.stages k d).0 (get_or l.rows.items k e);
}
