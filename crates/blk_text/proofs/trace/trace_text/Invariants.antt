use Rattle.std.proofs.Common.{[], ◌∷◌, length, take}
use Rattle.std.specs.Prelude.{All}
use Rattle.blk_text.specs.SetupRecord.{setup_row}
use Rattle.blk_text.specs.Inside.TraceRecords.{event_rows, title_row}
use Rattle.blk_text.specs.TraceRecords.{EventFits}
use Rattle.blk_records.proofs.DraftLemmas.{IsSoFar}
use Rattle.text_output.specs.Drafts.{draft_text}
use Rattle.blk_text.proofs.trace.trace_text.Given as goal

abbrev pub invariant-loop-i : goal.invariant-loop-i
invariant-loop-i g l = record {
  text : IsSoFar event_rows [] (title_row l.fn.trace.setup (length l.events) ∷ setup_row l.fn.trace.setup ∷ []) l.events l.i (draft_text l.draft);
  fits : All EventFits (take l.i l.events);
}
