-- The records of a trace, one by one, as they are written.
use Rattle.std.specs.Prelude.{ℕ, List, [], ◌∷◌, length, map, decimal}
use Rattle.blk_bio.specs.Bios.{Bio}
use Rattle.blk_trace.specs.Happened.{Happened}
use Rattle.blk_trace.specs.Setups.{Setup}
use Rattle.blk_records.specs.Sources.{Row}
use Rattle.blk_records.specs.Kinds.{said_row}
use Rattle.blk_records.specs.Titles.{title_by}
use Rattle.blk_text.specs.Inside.BioTable.{bio_row}
use Rattle.blk_text.specs.TraceForm.{Head, said, event_told, trace_numbers}
use Rattle.blk_text.specs.declared.heads.TheConstants.{TRACE}
use Rattle.blk_text.specs.declared.setup.TheConstants.{LATEST}

-- a record of a word and two fields; the other three are empty
abbrev pub word_row : List ℕ → List ℕ → List ℕ → Row
word_row word first second = word ∷ first ∷ second ∷ [] ∷ [] ∷ [] ∷ []

-- a word, a request's id and how many bios it has, and their records in tile order
abbrev pub group_rows : List ℕ → ℕ → List Bio → List Row
group_rows word id bios = word_row word (decimal id) (decimal (length bios)) ∷ map bio_row bios

-- the first record of an event
abbrev pub head_row : Head → Row
head_row h = said_row (said h)

-- the records of an event: its first, and those of its bios
abbrev pub event_rows : Happened → List Row
event_rows e = head_row (event_told e).0 ∷ map bio_row (event_told e).1

-- the title in the latest version
abbrev pub title_row : Setup → ℕ → Row
title_row s count = title_by TRACE trace_numbers (LATEST, record { depth = s.depth; hw = s.hw; count = count })
