use Rattle.std.proofs.Common.{◌∙◌, sym, refl, Some}
use Rattle.blk_index.proofs.Lanes.{on_true, on_false, one_set, no_some, read_at, within}
use Rattle.blk_index.proofs.lane.set_in_run.Goals as goal

pub returns-then-waits-clause-yes : goal.returns-then-waits-clause-yes
returns-then-waits-clause-yes g c = on_true c.is_some-waits.result (one_set c.args.from c.args.run.now.items c.args.queued.now.id c.in-Some.index (Some c.args.queued.now) c.in-Some.ensures.place c.in-Some.ensures.short)

pub returns-else-waits-clause-no : goal.returns-else-waits-clause-no
returns-else-waits-clause-no g c = on_false c.is_some-waits.result (
  refl,
  within c.args.from c.args.run.now.items c.in-Some.index c.args.queued.now.id c.in-Some.ensures.place
      ∙ sym (read_at c.args.run.now.items c.in-Some.index c.index.result.now c.in-Some.ensures.short c.index.ensures)
      ∙ no_some c.index.result.now (sym c.is_some-waits.ensures ∙ c.if-waits.false),
)
