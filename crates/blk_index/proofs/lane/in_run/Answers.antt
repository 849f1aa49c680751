use Rattle.std.proofs.Common.{◌∙◌, sym}
use Rattle.blk_index.proofs.Lanes.{read_at, within}
use Rattle.blk_index.proofs.lane.in_run.Goals as goal

pub returns : goal.returns
returns g c =
    c.as_ref.ensures.value
    ∙ read_at c.args.run.now.items c.in-Some.index c.index.result.now c.in-Some.ensures.short c.index.ensures
    ∙ sym (within c.args.from c.args.run.now.items c.in-Some.index c.args.id c.in-Some.ensures.place)
