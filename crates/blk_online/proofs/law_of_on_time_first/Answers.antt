use Rattle.blk_online.proofs.Most.{most_on_time_first}
use Rattle.blk_online.proofs.law_of_on_time_first.Goals as goal

pub returns : goal.returns
returns c = λ commands steps rounds legal first. most_on_time_first commands rounds steps legal first
