use Rattle.blk_online.proofs.Laws.{earliest_first, oracle_same, trace_least}
use Rattle.blk_online.proofs.law_of_earliest_traces.Goals as goal

pub returns : goal.returns
returns c =
    record {
      first = λ setup events is. earliest_first setup events is.0 is.1;
      one = λ setup events ranges is. oracle_same setup events ranges is.0 is.1;
      least = λ setup events is. trace_least setup events is.0 is.1;
    }
