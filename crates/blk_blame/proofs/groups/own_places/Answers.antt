use Rattle.std.proofs.Common.{◌++◌, ◌∷◌, [], ◌∙◌, ℕ, ap, sym, subst, length, arith}
use Rattle.edd_blame.specs.Parts.{ArePlaces}
use Rattle.edd_blame.proofs.Beside.{more_kept, more_out}
use Rattle.blk_blame.specs.Groups.{is_in_group}
use Rattle.blk_blame.proofs.Placing.{are_own_places, opened, unopened, all_opened}
use Rattle.blk_blame.proofs.groups.own_places.Goals as goal
use Rattle.blk_blame.proofs.groups.own_places.Goals.{then-group_key-key+in_ok-push, else-group_key-key}

pub loop-place-preserved : goal.loop-place-preserved
loop-place-preserved c =
    let i : ℕ = c.loop-place.place in
    elim c.if-group_key-key.branch [
      | then-group_key-key+in_ok-push w ↦
          ap (λ v. v.items) w.places-is ∙ w.in_ok-push.ensures.items ∙ ap (λ l. l ++ i ∷ []) c.loop-place.invariant
          ∙ sym (more_kept (is_in_group c.args.by c.args.requests.now c.args.key) i (opened c.args.by c.args.requests.now c.args.key i _ c.loop-place-test.true (sym c.group_key.ensures ∙ w.if-group_key-key.true)))
      | else-group_key-key w ↦
          ap (λ v. v.items) w.places-is ∙ c.loop-place.invariant
          ∙ sym (more_out (is_in_group c.args.by c.args.requests.now c.args.key) i (unopened c.args.by c.args.requests.now c.args.key i _ c.loop-place-test.true (λ e. w.if-group_key-key.false (c.group_key.ensures ∙ e))))
    ]

pub returns-clause-value : goal.returns-clause-value
returns-clause-value c = all_opened c.args.by c.args.requests.now c.args.key c.loop-place.place c.loop-place.places.items (omega (arith, c.loop-place-test.false, c.loop-place.auto.place-end)) c.loop-place.invariant

pub returns-clause-places : goal.returns-clause-places
returns-clause-places c =
    subst (λ l. ArePlaces (length c.args.requests.now) l) (sym (all_opened c.args.by c.args.requests.now c.args.key c.loop-place.place c.loop-place.places.items (omega (arith, c.loop-place-test.false, c.loop-place.auto.place-end)) c.loop-place.invariant))
    (are_own_places c.args.by c.args.requests.now c.args.key)
