-- What was matched, as a whole.
use Rattle.std.specs.Prelude.{ℕ, ◌+◌, List, length}
use Rattle.blk_capture.specs.Summaries.{IsSummary}
use Rattle.blk_capture.specs.declared.record.Record.{Record}
use Rattle.blk_capture.specs.declared.requests.Matched.{Matched}
use Rattle.blk_capture.specs.declared.summary.Summary.{Summary}

-- how many requests were opened: those that are taken, those that were merged into others, and those left out
abbrev pub all_opened : {A : Type 0} → Matched A → ℕ
all_opened m = length m.requests.items + m.absorbed + m.left_out

-- how many of them were not merged into others
abbrev pub all_unmerged : {A : Type 0} → Matched A → ℕ
all_unmerged m = m.left_out + length m.requests.items

-- a capture in numbers
abbrev pub IsSummaryOf : {A : Type 0} → List Record → Matched A → Summary → Type 0
IsSummaryOf records m s = IsSummary records m.requests.items m.bios.items m.fates.items s
