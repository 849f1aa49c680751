-- By what the requests of a capture are put together.
use Rattle.std.specs.Prelude.{ℕ}
use Rattle.blk_capture.specs.declared.requests.CapturedRequest.{CapturedRequest}
use Rattle.blk_blame.specs.declared.grouped.GroupedBy.{GroupedBy}
use Rattle.blk_blame.specs.declared.grouped.GroupedBy.TheVariants.{Process, Processor}

-- the process that opened a request, or the processor on which that ran
abbrev pub group_key : GroupedBy → CapturedRequest → ℕ
group_key Process q = q.pid
group_key Processor q = q.cpu
