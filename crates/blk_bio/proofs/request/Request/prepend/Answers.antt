use Rattle.std.proofs.Common.{◌≡◌, ◌++◌, sym}
use Rattle.blk_bio.specs.Requests.{IsRequest, first_of, last_of, dir_of}
use Rattle.blk_bio.proofs.Tiles.{joins, either_way}
use Rattle.blk_bio.proofs.request.Request.prepend.Goals as goal

pub invariant_of-self : goal.invariant_of-self
invariant_of-self g c =
    let xs = c.self.inside.bios in
    let ys = c.bios.result.now in
    let other : IsRequest ys = rw c.bios.ensures.bios c.bios.ensures.is_request in
    let same : dir_of ys ≡ dir_of xs = rw (c.self.view_is, c.bios.ensures.bios) c.requires.direction in
    let next : last_of ys ≡ first_of xs = rw (c.self.view_is, c.bios.ensures.bios) c.requires.abuts in
    either_way c.prepend.result xs (ys ++ xs) c.prepend.new.self c.self.invariant (joins ys xs other c.self.invariant (sym same) (sym next)) c.prepend.ensures.ok c.prepend.ensures.err
