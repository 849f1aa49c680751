-- What one more event changes, word by word, where the events with it are legal.
pub use Rattle.blk_trace.proofs.Unissued.{unissued-ticked, unissued-released, unissued-joined, unissued-issued, unissued-finished}
pub use Rattle.blk_trace.proofs.Requeues.{unissued_requeued, count_requeued}
pub use Rattle.blk_trace.proofs.Counting.{count-ticked, count-released, count-joined, count-issued, count-finished}
pub use Rattle.blk_trace.proofs.Seats.{seat-ticked, seat-released, seat-joined, seat-issued, seat-below}
pub use Rattle.blk_trace.proofs.Opening.{open-ticked, open-before_tick, open-released, open-joined, open-issued, open-both}
pub use Rattle.blk_trace.proofs.Commands.{commands-issued}
pub use Rattle.blk_trace.proofs.Allowed.{allowed-unbroken}
