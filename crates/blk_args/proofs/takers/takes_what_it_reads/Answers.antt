use Rattle.blk_args.proofs.Taken.{takes_each, reads_each}
use Rattle.blk_args.proofs.takers.takes_what_it_reads.Goals as goal

pub returns : goal.returns
returns c = λ m i name. (reads_each m i name, takes_each m i name)
