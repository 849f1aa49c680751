use Rattle.std.proofs.Common.{◌≡◌, true, subst, ℕ}
use Rattle.ordered.specs.Ordered.{listed}
use Rattle.blk_index.specs.Inside.Entries.{Key, entry_cmp}
use Rattle.blk_index.specs.Inside.Shapes.{IsUnit, entry_at}
use Rattle.blk_index.proofs.Shaped.{all_units, on_ok}
use Rattle.blk_index.proofs.shapes.put_in.Goals as goal

pub returns-clause-ok : goal.returns-clause-ok
returns-clause-ok g c =
    let one = listed entry_cmp c.put_entry.new.entries in
    let two = listed entry_cmp c.put_entry-2.new.entries in
    let three = listed entry_cmp c.put_entry-3.new.entries in
    let four = listed entry_cmp c.put_entry-4.new.entries in
    on_ok c.put_entry-4.result (four (c.block_of-4.result, c.args.id) ≡ true) ((unit : ℕ) → IsUnit unit → four (entry_at c.args.place c.args.shape c.args.id c.args.span unit) ≡ true)
    (λ last. all_units c.args.place c.args.shape c.args.id c.args.span one two three four
    (subst (λ (q : Key). one q ≡ true) (c.block_of.ensures c.args.id) c.in_ok-put_entry.ensures.ok)
    (subst (λ (q : Key). two q ≡ true) (c.block_of-2.ensures c.args.id) c.in_ok-put_entry-2.ensures.ok)
    (subst (λ (q : Key). three q ≡ true) (c.block_of-3.ensures c.args.id) c.in_ok-put_entry-3.ensures.ok)
    (subst (λ (q : Key). four q ≡ true) (c.block_of-4.ensures c.args.id) last)
    c.put_entry-2.ensures.kept c.put_entry-3.ensures.kept c.put_entry-4.ensures.kept) c.put_entry-4.ensures.ok
