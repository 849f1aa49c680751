-- What is said of stages.
use Rattle.std.specs.Prelude.{ℕ, ◌∷◌, ◌++◌, [], List, map, true, codes}
use Rattle.answer.specs.declared.names.TheConstants as names
use Rattle.answer.specs.declared.value.Value.{Value}
use Rattle.answer.specs.declared.value.Value.TheVariants.{Count, Text}
use Rattle.answer.specs.declared.cells.Column.{Column}
use Rattle.answer.specs.declared.cells.Layout.TheVariants.{Left, Right}
use Rattle.answer.specs.declared.answer.Part.{Part}
use Rattle.answer.specs.declared.answer.Part.TheVariants.{Rows}
use Rattle.answer.specs.Parts.{column, clocked}
use Rattle.blk_blame.specs.Answers.{title, shared}
use Rattle.blk_blame.specs.EachSaid.{dir_value}
use Rattle.blk_blame.specs.declared.stages.Stage.{Stage}
use Rattle.blk_blame.specs.declared.stages.Stage.TheVariants.{Tag, Plug, Scheduler, Device, Whole}
use Rattle.blk_blame.specs.declared.stages.StageRow.{StageRow}

-- the letters between which it lies
abbrev pub stage_name : Stage → Value
stage_name Tag = Text names.Q2G.now
stage_name Plug = Text names.G2I.now
stage_name Scheduler = Text names.I2D.now
stage_name Device = Text names.D2C.now
stage_name Whole = Text names.Q2C.now

abbrev pub stage_columns : List Column
stage_columns = column (Left 6) names.STAGE.now ∷ column (Left 4) names.DIR.now ∷ column (Right 9) names.COUNT.now ∷ column (Right 12) names.P50.now ∷ column (Right 12) names.P99.now ∷ column (Right 12) names.MAX.now ∷ column (Right 8) names.SHARE.now ∷ []

abbrev pub stage_cells : StageRow → List Value
stage_cells r = stage_name r.stage ∷ dir_value r.dir ∷ Count r.times.count ∷ clocked r.times.p50 ∷ clocked r.times.p99 ∷ clocked r.times.max ∷ shared r.share ∷ []

abbrev pub with_stages : List StageRow → List Part → List Part
with_stages rows parts = (parts ++ title (10 ∷ codes "stages, in ms:" ++ 10 ∷ []) ∷ []) ++ Rows (record { name = names.STAGES.now; columns = stage_columns; head = true; rows = map stage_cells rows }) ∷ []
