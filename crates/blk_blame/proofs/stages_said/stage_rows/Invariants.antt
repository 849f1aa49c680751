use Rattle.std.proofs.Common.{◌≡◌, map, take}
use Rattle.blk_blame.specs.StagesSaid.{stage_cells}
use Rattle.blk_blame.proofs.stages_said.stage_rows.Given as goal

-- the rows so far
abbrev pub invariant-loop-stage : goal.invariant-loop-stage
invariant-loop-stage l = l.rows.items ≡ map (λ x. stage_cells x) (take l.stage-index l.stages)
