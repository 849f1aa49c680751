use Rattle.blk_online.proofs.Laws.{on_time_first, trace_most}
use Rattle.blk_online.proofs.law_of_late_last_traces.Goals as goal

pub returns : goal.returns
returns c = record { first = λ setup events is. on_time_first setup events is.0 is.1; most = λ setup events is. trace_most setup events is.0 is.1 }
