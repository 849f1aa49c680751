-- The setup record, which is the second one of a script and of a trace.
use Rattle.std.specs.Prelude.{◌≡◌, ℕ, List, [], ◌∷◌}
use Rattle.blk_bio.specs.Limits.{IsLimits}
use Rattle.blk_trace.specs.Setups.{Setup, IsSetup}
use Rattle.blk_records.specs.Sources.{Row}
use Rattle.blk_records.specs.Tables.{Cell, cells_by, row_by, word_record}
use Rattle.blk_records.specs.declared.fault.TextReason.{TextReason}
use Rattle.blk_records.specs.declared.fault.TextReason.TheVariants as why
use Rattle.blk_text.specs.declared.setup.TheConstants.{SETUP}
use Rattle.text_grammar.specs.Parts.{Part}

-- setup, read_expire, write_expire, max_sectors, max_segments, empty
abbrev pub setup_cells : List (Cell Setup)
setup_cells = cells_by SETUP.slots ((λ s. s.read_expire) ∷ (λ s. s.write_expire) ∷ (λ s. s.limits.max_sectors) ∷ (λ s. s.limits.max_segments) ∷ [])

-- the setup record of a setup; its depth and hardware queues stand in the title
abbrev pub setup_row : Setup → Row
setup_row s = SETUP.word ∷ row_by setup_cells s

-- the numbers of a setup lie in their ranges
pub record IsWholeSetup (s : Setup) : Type 0 where
  pub is_setup : IsSetup s
  pub is_limits : IsLimits s.limits

-- a setup of these numbers of tags and hardware queues
abbrev pub FitsSetup : ℕ → ℕ → Setup → Type 0
FitsSetup depth hw s = (s.depth ≡ depth) × (s.hw ≡ hw) × IsWholeSetup s

-- the setup record, for these numbers of tags and hardware queues
abbrev pub setup : ℕ → ℕ → Part Row TextReason Setup
setup depth hw = word_record why.Word SETUP.word setup_cells (FitsSetup depth hw)
