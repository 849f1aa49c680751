use Rattle.std.proofs.Common.{arith}
use Rattle.blk_bio.specs.Requests.{IsRequest}
use Rattle.blk_bio.proofs.Tiles.{fills}
use Rattle.blk_bio.proofs.request.Request.sectors.Goals as goal

pub returns-clause-value : goal.returns-clause-value
returns-clause-value g c =
    let r : IsRequest c.args.self.now = rw (← c.self.view_is) c.self.invariant in
    omega (arith, fills c.args.self.now r)
