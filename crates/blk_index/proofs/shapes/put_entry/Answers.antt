use Rattle.ordered.specs.Ordered.{listed}
use Rattle.blk_index.specs.Inside.Entries.{entry_cmp}
use Rattle.blk_index.proofs.Shaped.{put_keeps}
use Rattle.blk_index.proofs.shapes.put_entry.Goals as goal

pub returns-clause-kept : goal.returns-clause-kept
returns-clause-kept g c = λ e there. put_keeps entry_cmp (listed entry_cmp c.args.entries.now) (listed entry_cmp c.put.new.self) c.entry_of.result c.put.result e c.put.ensures.ok c.put.ensures.same there
