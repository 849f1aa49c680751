use Rattle.std.proofs.Common.{◌≡◌, ◌≤◌, ◌-◌, ℕ, inl, inr, sym, subst}
use Rattle.blk_index.specs.Inside.Shapes.{entries_in, IsIn}
use Rattle.blk_index.proofs.Edged.{listed_still, listed_but, listed_in}
use Rattle.blk_index.proofs.edges.Edge.relist_among.Goals as goal

pub returns-in_default-clause-own : goal.returns-in_default-clause-own
returns-in_default-clause-own g c = λ s b more longer there. elim there [
  | inl one ↦ inl one
  | inr listed ↦ inr (listed_still (entries_in c.args.self.now.others) (entries_in c.put.new.self) c.args.spot.0 c.args.spot.1 s b c.in_default.ensures.kept listed)
]

pub returns-clause-kept : goal.returns-clause-kept
returns-clause-kept g c = λ p k s b other there. elim there [
  | inl one ↦ inl one
  | inr listed ↦
      inr (listed_but (entries_in c.put.new.self) (entries_in c.take.new.self) c.args.spot.0 c.args.spot.1 p k s b c.take.ensures.kept other
      (listed_still (entries_in c.args.self.now.others) (entries_in c.put.new.self) p k s b c.in-Ok.ensures.kept listed))
]

pub returns-clause-own : goal.returns-clause-own
returns-clause-own g c = λ s b more longer there. elim there [
  | inl one ↦ inl one
  | inr listed ↦
      let after = c.args.after.now in
      let put : IsIn (entries_in c.put.new.self) c.args.spot.0 c.shape_of-shape.result c.args.spot.1 = c.in-Ok.ensures.ok in
      let shape : ℕ × ℕ = c.shape_of-shape.result in
      let is : shape ≡ (after.bios, after.end - after.first) = c.shape_of-shape.ensures in
      inr (listed_in (entries_in c.put.new.self) (entries_in c.take.new.self) c.args.spot.0 c.args.spot.1 shape s b c.take.ensures.spared put
      (subst (λ (x : ℕ × ℕ). x.1 ≤ s) (sym is) more) (subst (λ (x : ℕ × ℕ). x.0 ≤ b) (sym is) longer))
]
