use Rattle.blk_trace_state.proofs.Replaying.{legal_where, fault_where}
use Rattle.blk_trace_state.proofs.law_of_replay.Goals as goal

pub returns : goal.returns
returns c = record { legal = legal_where; refused = λ setup events at rule each. fault_where setup events at rule each }
