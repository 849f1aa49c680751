-- The table of the steps of a script.
use Rattle.std.specs.Prelude.{ℕ, List, [], ◌∷◌, Option, None, Some, get_or, map}
use Rattle.blk_records.specs.Kinds.{KindRow, row, below}
use Rattle.blk_records.specs.declared.names.FieldName.{FieldName}
use Rattle.blk_records.specs.declared.names.FieldName.TheVariants as name
use Rattle.blk_text.specs.declared.bios.TheConstants.{BIO}
use Rattle.blk_text.specs.declared.heads.TheConstants.{TICK, DONE, BACK, DEPTH}
use Rattle.blk_text.specs.declared.script.TheConstants.{FLUSH, DRAIN, STEP_ISSUE, RUN}

-- the row of each kind's record
abbrev pub step_kinds : List KindRow
step_kinds = row BIO ∷ row FLUSH ∷ row DRAIN ∷ row STEP_ISSUE ∷ row DONE ∷ row BACK ∷ row TICK ∷ row RUN ∷ row DEPTH ∷ []

-- how many hardware queues or submitters the title tells of, for a field that is called by one of these
abbrev pub told_in_title : (hw submitters : ℕ) → FieldName → Option ℕ
told_in_title hw submitters name.Queue = Some hw
told_in_title hw submitters name.Submitter = Some submitters
told_in_title hw submitters n = None

-- a row whose first number lies below such a count, if there is one
abbrev pub limited : KindRow → Option ℕ → KindRow
limited k None = k
limited k (Some count) = record k { slots = below count k.slots }

-- the rows for these numbers of hardware queues and submitters
abbrev pub step_table : (hw submitters : ℕ) → List KindRow
step_table hw submitters = map (λ k. limited k (told_in_title hw submitters (get_or k.names 1 name.Unused))) step_kinds
