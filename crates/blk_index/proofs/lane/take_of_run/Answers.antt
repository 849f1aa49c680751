use Rattle.std.proofs.Common.{◌∙◌, sym, None}
use Rattle.blk_index.proofs.Lanes.{one_set, read_at, within}
use Rattle.blk_index.proofs.lane.take_of_run.Goals as goal

pub returns-clause-value : goal.returns-clause-value
returns-clause-value g c =
    read_at c.args.run.now.items c.in-Some.index c.index-found.result.now c.in-Some.ensures.short c.index-found.ensures
    ∙ sym (within c.args.from c.args.run.now.items c.in-Some.index c.args.id c.in-Some.ensures.place)

pub returns-clause-taken : goal.returns-clause-taken
returns-clause-taken g c = one_set c.args.from c.args.run.now.items c.args.id c.in-Some.index None c.in-Some.ensures.place c.in-Some.ensures.short
