use Rattle.std.proofs.Common.{◌≤◌, ◌++◌, ◌∷◌, [], ◌∙◌, get_or, length, ap, sym, subst, append-nil}
use Rattle.std.specs.List.{filter_map}
use Rattle.std.proofs.lemmas.List.{take_all}
use Rattle.blk_trace.specs.declared.issued.Outcome.TheVariants.{Flying}
use Rattle.blk_trace.specs.declared.issued.Issued.{Issued}
use Rattle.blk_trace.specs.Issues.{issues_of}
use Rattle.blk_trace.proofs.Issues.{issued_there, next_taken}
use Rattle.blk_report.specs.Inside.Services.{served_by}
use Rattle.blk_report.proofs.Requests.{by_issue, all_served}
use Rattle.blk_report.proofs.serving.served.Goals as goal
use Rattle.blk_report.proofs.serving.served.Goals.{then-not-was_requeued+in_ok-push, else-not-was_requeued}

pub service_of-requires : goal.service_of-requires
service_of-requires g c = issued_there c.args.trace.now.events c.issues-issue-items.result.now c.loop-issue.issue-index _ c.issues-issue-items.ensures.issues c.loop-issue-test.true

pub loop-issue-preserved : goal.loop-issue-preserved
loop-issue-preserved g c =
    let t = c.args.trace.now in
    let f = served_by t.setup t.events in
    let xs = c.issues-issue-items.result.now in
    let k = c.loop-issue.issue-index in
    let i : Issued = get_or xs k (record { round = 0; id = 0; tag = 0; outcome = Flying }) in
    elim c.if-not-was_requeued.branch [
      | then-not-was_requeued+in_ok-push w ↦
          next_taken f xs (issues_of t.events) k _ _ _ _ c.issues-issue-items.ensures.issues c.loop-issue-test.true (sym (by_issue t.setup t.events i _ (sym c.was_requeued.ensures ∙ w.if-not-was_requeued.true))) c.loop-issue.invariant
          (ap (λ v. v.items) w.services-is ∙ w.in_ok-push.ensures.items ∙ ap (λ s. c.loop-issue.services.items ++ s ∷ []) w.service_of.ensures)
      | else-not-was_requeued w ↦
          next_taken f xs (issues_of t.events) k _ _ _ _ c.issues-issue-items.ensures.issues c.loop-issue-test.true (sym (by_issue t.setup t.events i _ (sym c.was_requeued.ensures ∙ w.if-not-was_requeued.false))) c.loop-issue.invariant
          (ap (λ v. v.items) w.services-is ∙ sym (append-nil c.loop-issue.services.items))
    ]

pub returns : goal.returns
returns g c =
    let t = c.args.trace.now in
    c.loop-issue.invariant
    ∙ ap (filter_map (served_by t.setup t.events)) (take_all c.loop-issue.issue-index (issues_of t.events) (subst (λ l. length l ≤ c.loop-issue.issue-index) c.issues-issue-items.ensures.issues c.loop-issue-test.false))
    ∙ all_served t.setup t.events
