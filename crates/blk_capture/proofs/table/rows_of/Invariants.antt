use Rattle.std.proofs.Common.{ℕ, ◌≡◌, ◌<◌, length, get_or}
use Rattle.blk_capture.specs.Tables.{request_row}
use Rattle.blk_capture.specs.declared.requests.CapturedRequest.{CapturedRequest}
use Rattle.blk_capture.specs.declared.table.RequestRow.{RequestRow}
use Rattle.blk_capture.proofs.table.rows_of.Given as goal

abbrev pub invariant-loop-place : goal.invariant-loop-place
invariant-loop-place g l = record {
  each : length l.rows.items ≡ l.place;
  are : (k : ℕ) (d : CapturedRequest) (e : RequestRow) → k < l.place → get_or l.rows.items k e ≡ request_row l.begin k (get_or l.requests k d);
}
