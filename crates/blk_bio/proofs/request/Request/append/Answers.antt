use Rattle.std.proofs.Common.{◌≡◌, ◌++◌}
use Rattle.blk_bio.specs.Requests.{IsRequest, first_of, last_of, dir_of}
use Rattle.blk_bio.proofs.Tiles.{joins, either_way}
use Rattle.blk_bio.proofs.request.Request.append.Goals as goal

pub invariant_of-self : goal.invariant_of-self
invariant_of-self g c =
    let xs = c.self.inside.bios in
    let ys = c.bios.result.now in
    let other : IsRequest ys = rw c.bios.ensures.bios c.bios.ensures.is_request in
    let same : dir_of ys ≡ dir_of xs = rw (c.self.view_is, c.bios.ensures.bios) c.requires.direction in
    let next : first_of ys ≡ last_of xs = rw (c.self.view_is, c.bios.ensures.bios) c.requires.abuts in
    either_way c.append.result xs (xs ++ ys) c.append.new.self c.self.invariant (joins xs ys c.self.invariant other same next) c.append.ensures.ok c.append.ensures.err
