use Rattle.blk_trace_state.specs.Laws.{IsStateOf}
use Rattle.blk_trace_state.proofs.Projecting.{leaves, state_is}
use Rattle.blk_trace_state.proofs.law_of_states.Goals as goal

pub returns : goal.returns
returns c = leaves IsStateOf (λ setup events s is st. state_is setup events s st)
