use Rattle.std.proofs.Common.{rules, ◌≡◌, sym, subst, refl, ◌++◌, Some, length}
use Rattle.std.proofs.Math.ListN.{take}
use Rattle.std.specs.List.{slice_get}
use Rattle.std.proofs.lemmas.Option.{slice_get_read}
use Rattle.blk_trace.specs.Events.{AreOnce}
use Rattle.blk_trace.specs.Events.{HasId}
use Rattle.blk_layer.proofs.Repeats.{has_left, has_right, has_neither, one_taken, take_all}
use Rattle.blk_layer.proofs.accounts.Account.first_repeated.Goals as goal
use Rattle.blk_layer.proofs.accounts.Account.first_repeated.Goals.{then-has-via-then-has, then-has-via-else-has+then-stands_in}

pub returns-then-has-clause-some : goal.returns-then-has-clause-some
returns-then-has-clause-some g c =
    let before = c.args.self.now in
    let earlier = take c.loop-place.place c.args.bios.now in
    let stands : slice_get c.args.bios.now c.loop-place.place ≡ Some c.index-bios-place.result = slice_get_read c.args.bios.now (length c.args.bios.now) c.loop-place.place c.index-bios-place.result refl (search rules) (c.index-bios-place.is) in
    let again : HasId (before ++ earlier) c.id-id.result = elim c.then-has.branch [
      | then-has-via-then-has w ↦ has_left before earlier c.id-id.result (search rules)
      | then-has-via-else-has+then-stands_in w ↦ has_right before earlier c.id-id.result (search rules)
    ] in
    record { place = c.loop-place.place; bio = c.index-bios-place.result; stands = stands; named = sym c.id-id.ensures; again = again; first = c.loop-place.invariant }

pub loop-place-preserved : goal.loop-place-preserved
loop-place-preserved g c =
    let before = c.args.self.now in
    let earlier = take c.loop-place.place c.args.bios.now in
    let stands : slice_get c.args.bios.now c.loop-place.place ≡ Some c.index-bios-place.result = slice_get_read c.args.bios.now (length c.args.bios.now) c.loop-place.place c.index-bios-place.result refl (search rules) (c.index-bios-place.is) in
    let new : HasId (before ++ earlier) c.id-id.result → ⊥ = has_neither before earlier c.id-id.result (search rules) (search rules) in
    one_taken before c.args.bios.now c.loop-place.place c.index-bios-place.result stands c.loop-place.invariant (subst (λ i. HasId (before ++ earlier) i → ⊥) c.id-id.ensures new)

pub returns-clause-none : goal.returns-clause-none
returns-clause-none g c =
    subst (λ x. AreOnce (c.args.self.now ++ x)) (take_all c.args.bios.now c.loop-place.place c.loop-place-test.false) c.loop-place.invariant
