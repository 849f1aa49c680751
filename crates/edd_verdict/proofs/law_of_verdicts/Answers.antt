use Rattle.edd_verdict.proofs.Judging.{some_verdict, one_verdict, spare_apart, spare_can, none_spare}
use Rattle.edd_verdict.proofs.Climbing.{have_verdicts}
use Rattle.edd_verdict.proofs.law_of_verdicts.Goals as goal

pub returns : goal.returns
returns c =
    record {
      one = λ commands rounds steps k legal capacity within late.
          let found = some_verdict commands rounds steps legal k within late in
          (found.0, found.1, λ other is. one_verdict commands rounds steps legal k within late other found.0 is found.1);
      spare = λ commands rounds steps k legal capacity within late. (
        λ spare. (spare_can commands rounds steps legal k within late spare, spare_apart commands rounds steps legal k within late spare),
        λ open'. none_spare commands rounds steps legal k within late open'.0 open'.1,
      );
      all = have_verdicts;
    }
