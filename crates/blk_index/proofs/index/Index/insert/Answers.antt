use Rattle.std.proofs.Common.{◌≡◌, ℕ, ap, ◌∙◌, refl, None}
use Rattle.std.specs.FinMap as map
use Rattle.blk_sched.specs.Meaning.{Pending}
use Rattle.blk_index.proofs.Indexed.{becomes_given, named_one, named_same}
use Rattle.blk_index.proofs.Edged.{edges_kept, with_one, here, becomes_back}
use Rattle.blk_index.proofs.index.Index.insert.Goals as goal

pub invariant_of-self : goal.invariant_of-self
invariant_of-self g c =
    let none : map.get c.self.inside.waiting c.args.queued.id ≡ None = ap (λ (m : Pending). map.get m c.args.queued.id) c.self.view_is ∙ c.requires in
    (c.self.invariant.0, c.in_err-add.ensures.same (map.get c.self.inside.waiting) c.self.invariant.1 none)

pub invariant_of-self-in-Ok : goal.invariant_of-self-in-Ok
invariant_of-self-in-Ok g c =
    let none : map.get c.self.inside.waiting c.args.queued.id ≡ None = ap (λ (m : Pending). map.get m c.args.queued.id) c.self.view_is ∙ c.requires in
    let becomes = becomes_given c.self.inside.waiting c.insert.new.self c.args.queued.id c.args.queued c.in-Ok.ensures.ok in (
      named_one (map.get c.self.inside.waiting) (map.get c.insert.new.self) c.args.queued.id c.args.queued c.self.invariant.0 refl becomes,
      c.in_ok-add.ensures.ok (map.get c.self.inside.waiting) (map.get c.insert.new.self) c.args.queued refl c.self.invariant.1 none becomes,
    )

pub invariant_of-self-in-Err : goal.invariant_of-self-in-Err
invariant_of-self-in-Err g c =
    let none : map.get c.self.inside.waiting c.args.queued.id ≡ None = ap (λ (m : Pending). map.get m c.args.queued.id) c.self.view_is ∙ c.requires in
    let found = map.get c.self.inside.waiting in
    let same : (k : ℕ) → map.get c.insert.new.self k ≡ map.get c.self.inside.waiting k = λ k. ap (λ (m : Pending). map.get m k) c.in-Err.ensures.same in
    let meanwhile = with_one found c.args.queued.id c.args.queued in
    let back = becomes_back found c.args.queued.id c.args.queued none in (
      named_same found (map.get c.insert.new.self) c.self.invariant.0 same,
      edges_kept found (map.get c.insert.new.self) c.del.new.self
          (c.del.ensures meanwhile found c.args.queued refl
          (c.in_ok-add.ensures.ok found meanwhile c.args.queued refl c.self.invariant.1 none (λ k. refl))
          (here found c.args.queued.id c.args.queued) back)
          same,
    )
