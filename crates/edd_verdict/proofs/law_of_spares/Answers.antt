use Rattle.std.proofs.Common.{arith}
use Rattle.edd_verdict.proofs.Saving.{all_kinds, avoidable_spare, some_spare}
use Rattle.edd_verdict.proofs.Climbing.{most_keeps}
use Rattle.edd_verdict.proofs.law_of_spares.Goals as goal

pub returns : goal.returns
returns c =
    record {
      kinds = all_kinds;
      most = avoidable_spare;
      some = λ commands rounds steps verdicts legal are most is. (
        λ fewer. omega (arith, avoidable_spare commands rounds steps verdicts legal are most is),
        some_spare commands rounds steps verdicts legal are most is,
      );
      kept = most_keeps;
    }
