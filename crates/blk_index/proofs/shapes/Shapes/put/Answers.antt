use Rattle.std.proofs.Common.{◌≡◌, ℕ, true}
use Rattle.ordered.specs.Ordered.{listed}
use Rattle.blk_index.specs.Inside.Entries.{entry_cmp}
use Rattle.blk_index.specs.Inside.Shapes.{IsUnit, IsIn, entry_at}
use Rattle.blk_index.proofs.Shaped.{all_spans, on_ok}
use Rattle.blk_index.proofs.shapes.Shapes.put.Goals as goal

pub returns-clause-ok : goal.returns-clause-ok
returns-clause-ok g c =
    let one = listed entry_cmp c.put_in.new.entries in
    let two = listed entry_cmp c.put_in-2.new.entries in
    on_ok c.put_in-2.result ((unit : ℕ) → IsUnit unit → two (entry_at c.args.place c.args.shape c.args.id 16 unit) ≡ true) (IsIn two c.args.place c.args.shape c.args.id)
    (λ last. all_spans c.args.place c.args.shape c.args.id one two c.in_ok-put_in.ensures.ok last c.put_in-2.ensures.kept) c.put_in-2.ensures.ok
