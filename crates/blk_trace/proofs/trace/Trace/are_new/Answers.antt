use Rattle.std.proofs.Common.{◌++◌, ◌↔◌, IsTrue, List, subst}
use Rattle.blk_bio.specs.Bios.{Bio}
use Rattle.blk_trace.specs.Events.{entered, AreOnce}
use Rattle.blk_trace.proofs.Newness.{new_where_none}
use Rattle.blk_trace.proofs.trace.Trace.are_new.Goals as goal

pub returns : goal.returns
returns g c =
    let P : List Bio → Type 0 = λ l. IsTrue c.is_none.result ↔ AreOnce (entered c.args.self.now.events ++ l) in
    subst P c.bios.ensures.bios (new_where_none (entered c.args.self.now.events) c.bios.result.now c.first_repeated.result c.is_none.result c.is_none.ensures c.first_repeated.ensures.some c.first_repeated.ensures.none)
