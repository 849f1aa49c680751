use Rattle.std.proofs.Common.{rules, ◌≡◌, ◌++◌, [], ◌∷◌}
use Rattle.blk_bio.specs.Requests.{IsRequest, first_of, last_of, dir_of}
use Rattle.blk_bio.proofs.Tiles.{joins, either_way}
use Rattle.blk_bio.proofs.request.Request.append_bio.Goals as goal

pub invariant_of-self : goal.invariant_of-self
invariant_of-self g c =
    let xs = c.self.inside.bios in
    let ys = c.args.bio ∷ [] in
    let same : dir_of ys ≡ dir_of xs = rw c.self.view_is c.requires.direction in
    let next : first_of ys ≡ last_of xs = rw c.self.view_is c.requires.abuts in
    let other : IsRequest ys = search rules in
    let all : IsRequest (xs ++ c.from_ref.result.now) = rw c.from_ref.ensures.value (joins xs ys c.self.invariant other same next) in
    either_way c.append.result xs (xs ++ c.from_ref.result.now) c.append.new.self c.self.invariant all c.append.ensures.ok c.append.ensures.err
