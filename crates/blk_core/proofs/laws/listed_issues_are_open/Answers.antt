use Rattle.blk_core.proofs.Listed.{listed_open, open_listed}
use Rattle.blk_core.proofs.laws.listed_issues_are_open.Goals as goal

pub returns : goal.returns
returns c events id tag = (λ listed. listed_open events id tag listed.0 listed.1, λ stands. open_listed events id tag stands)
