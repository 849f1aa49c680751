-- The records of the steps of a script.
use Rattle.blk_records.specs.Sources.{Row}
use Rattle.blk_records.specs.Kinds.{said_row}
use Rattle.blk_text.specs.Script.{step_said}
use Rattle.blk_text.specs.declared.script.Line.{Line}

-- the record of a step, however many hardware queues and submitters there are
abbrev pub step_row : Line → Row
step_row l = said_row (step_said 1 1 l)
