use Rattle.blk_bio.specs.Requests.{last_of}
use Rattle.blk_bio.proofs.bio.Bio.extent.Goals as goal

pub returns-clause-value : goal.returns-clause-value
unfolding last_of
returns-clause-value c = rw (← c.self.view_is) c.of.ensures
