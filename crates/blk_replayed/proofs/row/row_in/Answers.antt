use Rattle.std.proofs.Common.{◌≡◌, ◌∙◌, arith, refl, sym, length}
use Rattle.blk_replayed.proofs.Late.{late_alike}
use Rattle.blk_replayed.proofs.Told.{at_least}
use Rattle.blk_replayed.proofs.row.row_in.Goals as goal

pub returns : goal.returns
returns c =
    let commands = c.args.commands.now in
    let rounds = c.args.rounds.now in
    let each : length commands ≡ length c.args.requests.now = omega (arith, c.requires.each, c.requires.legal.one_each) in
    let late = c.late_of-late.ensures in
    record {
      chosen = refl;
      count = refl;
      late = late;
      least = refl;
      rest = omega (arith, at_least commands rounds c.args.unavoidable c.requires.least c.requires.legal, late);
      both = late_alike c.args.requests.now commands rounds c.in_ok-clock.clock each c.requires.each c.requires.alike c.in_ok-clock.ensures ∙ sym late;
      by_clock = c.in_ok-clock.ensures;
    }
