use Rattle.std.proofs.Common.{length, ap, arith}
use Rattle.blk_bio.proofs.Tiles.{counted, fills}
use Rattle.blk_bio.proofs.request.Request.extent.Goals as goal

pub of-requires : goal.of-requires
of-requires g c =
    let bios = c.args.self.now in
    let is = c.bios.ensures.is_request in
    let count = ap length c.bios.ensures.bios in
    record {
      some = omega (arith, count, is.not_empty);
      filled = omega (arith, count, counted bios is, fills bios is, c.first.ensures, c.end.ensures.value);
      in_range = c.end.ensures.in_range;
    }
