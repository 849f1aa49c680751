use Rattle.std.proofs.Common.{ℕ, Option, ap, subst, sym, ◌∙◌}
use Rattle.std.specs.Prelude.{IfSome}
use Rattle.ordered.specs.Ordered.{listed, Takes}
use Rattle.blk_index.specs.Inside.Entries.{Key, entry_cmp}
use Rattle.blk_index.specs.Inside.Shapes.{Spares}
use Rattle.blk_index.proofs.Shaped.{taken_but, entry_exact, taken_spares}
use Rattle.blk_index.proofs.shapes.take_entry.Goals as goal
use Rattle.blk_index.proofs.shapes.take_entry.Goals.{in-Some+else-is_block, in_default}

pub returns-clause-kept : goal.returns-clause-kept
returns-clause-kept g c = λ e other there.
    let is = c.entry_of.ensures ∙ c.block_of-block.ensures c.args.id in
    taken_but entry_cmp (listed entry_cmp c.args.entries.now) (listed entry_cmp c.take.new.self) c.entry_of.result entry_exact e c.take.ensures
    (λ same. other (ap (λ (q : Key). q.0.0.0.0.0) (same ∙ is)) (ap (λ (q : Key). q.1) (same ∙ is))) there

pub returns-clause-spared : goal.returns-clause-spared
returns-clause-spared g c =
    let has = listed entry_cmp c.args.entries.now in
    let now = listed entry_cmp c.take.new.self in
    elim c.match-but.branch [
      | in-Some+else-is_block w ↦
          subst (λ (o : Option (ℕ × ℕ)). IfSome o (Spares c.args.place c.args.id has now)) (sym w.in-Some.is)
          (taken_spares has now c.args.place c.args.shape w.in-Some.other c.args.id c.args.span c.args.unit c.block_of-block.result w.block_of.result
          c.block_of-block.ensures w.block_of.ensures (sym w.if-is_block.ensures) (subst (λ (q : Key). Takes entry_cmp has q now) c.entry_of.ensures c.take.ensures))
      | in_default w ↦ subst (λ (o : Option (ℕ × ℕ)). IfSome o (Spares c.args.place c.args.id has now)) (sym w.in_default.is) tt
    ]
