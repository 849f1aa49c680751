use Rattle.blk_trace_state.proofs.Replaying.{broken_where, unbroken_where, replay_more}
use Rattle.blk_trace_state.proofs.Projecting.{leaves}
use Rattle.blk_trace_state.proofs.law_of_steps.Goals as goal

pub returns : goal.returns
returns c = record {
  broken = leaves _ (λ setup events s is st e rule. broken_where setup events s st e rule);
  unbroken = leaves _ (λ setup events s is st e. unbroken_where setup events s st e);
  next = leaves _ (λ setup events s is st e all. replay_more setup events s e is ((unbroken_where setup events s st e).1 all));
}
