use Rattle.std.proofs.Common.{◌≤◌, ◌∙◌, get_or, length, ap, sym, subst, append-nil}
use Rattle.std.specs.List.{filter_map}
use Rattle.std.proofs.lemmas.List.{take_all}
use Rattle.blk_trace.specs.declared.issued.Outcome.TheVariants.{Flying}
use Rattle.blk_trace.specs.declared.issued.Issued.{Issued}
use Rattle.blk_trace.specs.Issues.{issues_of}
use Rattle.blk_trace.specs.Inside.Issues.{round_in}
use Rattle.blk_trace.proofs.Issues.{next_taken}
use Rattle.blk_trace.proofs.Served.{rounds_are, in_round}
use Rattle.blk_trace.proofs.trace.reading.all_rounds.Goals as goal
use Rattle.blk_trace.proofs.trace.reading.all_rounds.Goals.{then-not-was_requeued+in_ok-push, else-not-was_requeued}

pub loop-issue-preserved : goal.loop-issue-preserved
loop-issue-preserved g c =
    let t = c.args.trace.now in
    let xs = c.issues-issue-items.result.now in
    let k = c.loop-issue.issue-index in
    let i : Issued = get_or xs k (record { round = 0; id = 0; tag = 0; outcome = Flying }) in
    elim c.if-not-was_requeued.branch [
      | then-not-was_requeued+in_ok-push w ↦
          next_taken round_in xs (issues_of t.events) k _ _ _ _ c.issues-issue-items.ensures.issues c.loop-issue-test.true (sym (in_round i _ (sym c.was_requeued.ensures ∙ w.if-not-was_requeued.true))) c.loop-issue.invariant (ap (λ v. v.items) w.rounds-is ∙ w.in_ok-push.ensures.items)
      | else-not-was_requeued w ↦
          next_taken round_in xs (issues_of t.events) k _ _ _ _ c.issues-issue-items.ensures.issues c.loop-issue-test.true (sym (in_round i _ (sym c.was_requeued.ensures ∙ w.if-not-was_requeued.false))) c.loop-issue.invariant (ap (λ v. v.items) w.rounds-is ∙ sym (append-nil c.loop-issue.rounds.items))
    ]

pub returns : goal.returns
returns g c =
    let t = c.args.trace.now in
    c.loop-issue.invariant
    ∙ ap (filter_map round_in) (take_all c.loop-issue.issue-index (issues_of t.events) (subst (λ l. length l ≤ c.loop-issue.issue-index) c.issues-issue-items.ensures.issues c.loop-issue-test.false))
    ∙ rounds_are t.events
