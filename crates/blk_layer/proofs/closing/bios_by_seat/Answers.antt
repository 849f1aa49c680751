use Rattle.std.proofs.Common.{rules, ◌≡◌, [], ◌∙◌, ◌+◌, arith, ◌++◌, take, Some, sym, ap, subst, inl, inr}
use Rattle.std.specs.Prelude.{slice_get}
use Rattle.std.proofs.lemmas.Bool.{cases_Bool, ltb-true, ltb-false}
use Rattle.std.proofs.lemmas.Option.{slice_get-get_or, slice_get_within}
use lib.Dec.{ltb}
use Rattle.blk_layer.specs.Seats.{SubmitterSeat}
use Rattle.blk_layer.specs.Closing.{all_accepted}
use Rattle.blk_layer.specs.Inside.Closing.{IsAccountOf, all_left}
use Rattle.blk_layer.proofs.Checked.{lists_more}
use Rattle.blk_layer.proofs.Gathered.{accepted_more, no_accepted}
use Rattle.blk_layer.proofs.closing.bios_by_seat.Goals as goal

pub loop-submitter-init : goal.loop-submitter-init
loop-submitter-init g c =
    let none : all_accepted [] ≡ [] = no_accepted in
    (search (rules, none), λ k s less at. absurd (omega (arith, less)))

pub loop-submitter-preserved : goal.loop-submitter-preserved
loop-submitter-preserved g c =
    let i = c.loop-submitter.submitter-index in
    let seats = c.args.submitters.now in
    let item : SubmitterSeat = c.submitter-item.result in
    let more : all_accepted (take (i + 1) seats) ≡ all_accepted (take i seats) ++ item.accepted = accepted_more seats i item c.loop-submitter-test.true c.submitter-item.is in
    let old = c.loop-submitter.accounts.items in
    let own : c.of.result ≡ item.accepted = search rules in (
      ap all_left c.in_ok-push.ensures.items ∙ lists_more old c.of.result ∙ ap (λ l. l ++ c.of.result) c.loop-submitter.invariant.0 ∙ ap (λ l. all_accepted (take i seats) ++ l) own ∙ sym more,
      λ k s less at. elim (cases_Bool (ltb k i)) [
        | inl y ↦ c.loop-submitter.invariant.1 k s (ltb-true k i y) at
        | inr n ↦
            let here : k ≡ i = omega (arith, less, ltb-false k i n) in
            let stands : slice_get seats i ≡ Some item = slice_get-get_or seats i item c.loop-submitter-test.true ∙ ap Some (sym c.submitter-item.is) in
            let both : Some item ≡ Some s = sym stands ∙ ap (slice_get seats) (sym here) ∙ at in
            let same : item ≡ s = cc in
            subst IsAccountOf same (c.accepted.ensures.own, c.accepted.ensures.once)
      ],
    )

pub returns-clause-each : goal.returns-clause-each
returns-clause-each g c = λ k s at. c.loop-submitter.invariant.1 k s (omega (arith, c.loop-submitter-test.false, slice_get_within c.args.submitters.now k s at)) at
