use Rattle.std.proofs.Common.{◌≡◌, ◌<◌, ℕ, length, get_or}
use Rattle.blk_report.specs.declared.below.CountAsk.{CountAsk}
use Rattle.blk_report.specs.declared.serving.Service.{Service}
use Rattle.blk_report.specs.Inside.Waited.{IsAskOfWait}
use Rattle.blk_report.proofs.delays.asks.Given as goal

-- a question for each command so far
abbrev pub invariant-loop-service : goal.invariant-loop-service
invariant-loop-service g l = record {
  each : length l.asks.items ≡ l.service-index;
  so_far : (k : ℕ) (d : Service) (e : CountAsk) → k < l.service-index → IsAskOfWait l.services (get_or l.late k d) (get_or l.asks.items k e);
}
