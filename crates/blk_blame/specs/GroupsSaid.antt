-- What is said of processes, or of processors.
use Rattle.std.specs.Prelude.{ℕ, ◌∷◌, ◌++◌, [], List, map, true, codes, Option, None, Some}
use Rattle.answer.specs.declared.names.TheConstants as names
use Rattle.answer.specs.declared.value.Value.{Value}
use Rattle.answer.specs.declared.value.Value.TheVariants.{Count}
use Rattle.answer.specs.declared.cells.Column.{Column}
use Rattle.answer.specs.declared.cells.Layout.TheVariants.{Right}
use Rattle.answer.specs.declared.answer.Part.{Part}
use Rattle.answer.specs.declared.answer.Part.TheVariants.{Rows}
use Rattle.answer.specs.Parts.{column, clocked}
use Rattle.blk_blame.specs.Answers.{title}
use Rattle.blk_blame.specs.declared.grouped.GroupedBy.{GroupedBy}
use Rattle.blk_blame.specs.declared.grouped.GroupedBy.TheVariants.{Process, Processor}
use Rattle.blk_blame.specs.declared.groups.Group.{Group}

abbrev pub key_name : GroupedBy → List ℕ
key_name Process = names.PID.now
key_name Processor = names.CPU.now

abbrev pub groups_name : GroupedBy → List ℕ
groups_name Process = names.PROCESSES.now
groups_name Processor = names.PROCESSORS.now

abbrev pub groups_title : GroupedBy → List ℕ
groups_title Process = 10 ∷ codes "processes, the most late ones first, waits and the greatest overrun in ms:" ++ 10 ∷ []
groups_title Processor = 10 ∷ codes "processors, the most late ones first, waits and the greatest overrun in ms:" ++ 10 ∷ []

abbrev pub group_columns : GroupedBy → List Column
group_columns by =
    column (Right 10) (key_name by) ∷ column (Right 10) names.REQUESTS.now ∷ column (Right 8) names.LATE.now ∷ column (Right 9) names.STALLED.now ∷ column (Right 10) names.ARRIVALS.now
    ∷ column (Right 8) names.LEAST.now ∷ column (Right 9) names.SAVABLE.now ∷ column (Right 11) names.WAIT_P50.now ∷ column (Right 11) names.WAIT_P99.now ∷ column (Right 11) names.OVERRUN.now ∷ []

abbrev pub group_row : Group → List Value
group_row p =
    Count p.key ∷ Count p.requests ∷ Count p.late ∷ Count p.stalled ∷ Count p.arrivals ∷ Count p.least ∷ Count p.savable ∷ clocked p.wait.p50 ∷ clocked p.wait.p99 ∷ clocked p.overrun.max ∷ []

abbrev pub with_groups_by : GroupedBy → List Group → List Part → List Part
with_groups_by by groups parts =
    (parts ++ title (groups_title by) ∷ []) ++ Rows (record { name = groups_name by; columns = group_columns by; head = true; rows = map group_row groups }) ∷ []

-- where they are asked for
abbrev pub with_groups : Option GroupedBy → List Group → List Part → List Part
with_groups None groups parts = parts
with_groups (Some by) groups parts = with_groups_by by groups parts
