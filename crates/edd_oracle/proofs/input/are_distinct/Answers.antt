use Rattle.edd_oracle.proofs.Ids.{told_distinct}
use Rattle.edd_oracle.proofs.input.are_distinct.Goals as goal

pub returns : goal.returns
returns g c =
    told_distinct c.args.commands.now c.in-Ok.ids.items c.sort_unstable.new.self.items c.as_slice.result.now c.is_rising.result c.in-Ok.ensures c.sort_unstable.ensures.permutation c.as_slice.ensures.value c.is_rising.ensures
