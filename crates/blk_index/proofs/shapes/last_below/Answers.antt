use Rattle.std.proofs.Common.{◌≡◌, ◌<◌, ◌≤◌, ℕ, true, ap, sym, subst, ◌∙◌}
use Rattle.ordered.specs.Ordered.{listed, IsGreatestBelow, NoneBelow}
use Rattle.blk_index.specs.Inside.Entries.{Block, Key, class_cmp, entry_cmp}
use Rattle.blk_index.proofs.Shaped.{class_exact, same_key, other_key, no_block, of_block, block_low, block_newest}
use Rattle.blk_index.proofs.shapes.last_below.Goals as goal

pub returns-in_err-found-clause-none : goal.returns-in_err-found-clause-none
returns-in_err-found-clause-none g c =
    rw c.from_residual.ensures (no_block (listed entry_cmp c.args.entries.now) c.args.sized c.args.end
    (subst (NoneBelow entry_cmp (listed entry_cmp c.args.entries.now)) c.entry_of.ensures c.in_err-found.ensures.none))

pub returns-then-is_sized-clause-low : goal.returns-then-is_sized-clause-low
returns-then-is_sized-clause-low g c =
    let e = c.in_ok-found.found in
    subst (λ (x : Block). x.1 < c.args.end) (sym c.block_at-last.ensures)
    (block_low (listed entry_cmp c.args.entries.now) c.args.sized c.args.end e
    (subst (λ (u : Key). IsGreatestBelow entry_cmp (listed entry_cmp c.args.entries.now) u e) c.entry_of.ensures c.in_ok-found.ensures.some)
    (sym (ap (λ (x : Block). x.0) c.block_at-last.ensures) ∙ same_key class_cmp class_exact c.block_at-last.result.0 c.args.sized (sym c.if-is_sized.ensures)))

pub returns-then-is_sized-clause-last : goal.returns-then-is_sized-clause-last
returns-then-is_sized-clause-last g c = λ n k less there.
    let e = c.in_ok-found.found in
    let block = of_block (listed entry_cmp c.args.entries.now) c.args.sized c.args.end e
    (subst (λ (u : Key). IsGreatestBelow entry_cmp (listed entry_cmp c.args.entries.now) u e) c.entry_of.ensures c.in_ok-found.ensures.some)
    n k less there in
    subst (λ (x : Block). n ≤ x.1) (sym c.block_at-last.ensures) block.2

pub returns-then-is_sized-clause-newest : goal.returns-then-is_sized-clause-newest
returns-then-is_sized-clause-newest g c = λ k less there.
    let e = c.in_ok-found.found in
    block_newest (listed entry_cmp c.args.entries.now) c.args.sized c.args.end e
    (subst (λ (u : Key). IsGreatestBelow entry_cmp (listed entry_cmp c.args.entries.now) u e) c.entry_of.ensures c.in_ok-found.ensures.some)
    (sym (ap (λ (x : Block). x.0) c.block_at-last.ensures) ∙ same_key class_cmp class_exact c.block_at-last.result.0 c.args.sized (sym c.if-is_sized.ensures))
    k (subst (λ (n : ℕ). n < k) (ap (λ (x : Key). x.1) c.found.view_is) less)
    (subst (λ (x : Block). listed entry_cmp c.args.entries.now ((c.args.sized, x.1), k) ≡ true) c.block_at-last.ensures there)

pub returns-else-is_sized-clause-none : goal.returns-else-is_sized-clause-none
returns-else-is_sized-clause-none g c = λ n k less there.
    let e = c.in_ok-found.found in
    let block = of_block (listed entry_cmp c.args.entries.now) c.args.sized c.args.end e
    (subst (λ (u : Key). IsGreatestBelow entry_cmp (listed entry_cmp c.args.entries.now) u e) c.entry_of.ensures c.in_ok-found.ensures.some)
    n k less there in
    other_key class_cmp class_exact c.block_at-last.result.0 c.args.sized (sym c.if-is_sized.ensures) (ap (λ (x : Block). x.0) c.block_at-last.ensures ∙ block.0)
