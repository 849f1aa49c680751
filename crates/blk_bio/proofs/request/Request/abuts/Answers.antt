use Rattle.blk_bio.proofs.Fitting.{apart_none}
use Rattle.blk_bio.proofs.request.Request.abuts.Goals as goal

pub returns-clause-none : goal.returns-clause-none
returns-clause-none g c = apart_none c.touches.result c.extent.result c.extent-2.result c.args.self.now c.args.other.now c.extent.ensures.value c.extent-2.ensures.value c.touches.ensures.none
