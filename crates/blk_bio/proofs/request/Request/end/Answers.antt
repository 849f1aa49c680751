use Rattle.std.proofs.Common.{arith, ◌≡◌, ◌-◌, ◌<◌, length, get_or, ap, ◌∙◌}
use Rattle.blk_bio.specs.Bios.{end_of}
use Rattle.blk_bio.specs.Requests.{IsRequest, first_of, last_of}
use Rattle.blk_bio.proofs.Tiles.{last_at, range_of}
use Rattle.blk_bio.proofs.request.Request.end.Goals as goal

pub returns-clause-value : goal.returns-clause-value
returns-clause-value g c =
    let items = c.bios-bios.result.now in
    let request : IsRequest items = rw c.bios-bios.ensures.bios c.bios-bios.ensures.is_request in
    let last : end_of (get_or items (length items - 1) c.index-bios-bios.result) ≡ last_of items = last_at items (length items - 1) c.index-bios-bios.result (omega (arith, request.not_empty)) in
    rw (← c.bios-bios.ensures.bios) (omega (arith, c.first.ensures.value, c.sectors.ensures.value, ap end_of c.index-bios-bios.is ∙ last))

pub returns-clause-above : goal.returns-clause-above
returns-clause-above g c =
    let range : first_of c.args.self.now < last_of c.args.self.now = (range_of c.args.self.now c.bios-bios.ensures.is_request).0 in
    omega (arith, returns-clause-value g c, range)
