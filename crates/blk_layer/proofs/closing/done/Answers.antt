use Rattle.std.proofs.Common.{◌≤◌, ◌∙◌, length, ap, sym, subst, append-nil}
use Rattle.std.specs.List.{filter_map}
use Rattle.std.proofs.lemmas.List.{take_all}
use Rattle.blk_trace.specs.Issues.{issues_of}
use Rattle.blk_trace.proofs.Issues.{issued_there, next_taken}
use Rattle.blk_layer.specs.Closing.{command_done, done_commands}
use Rattle.blk_layer.proofs.closing.done.Goals as goal
use Rattle.blk_layer.proofs.closing.done.Goals.{in-Some+in_ok-push, in_default}

pub command_done-requires : goal.command_done-requires
command_done-requires g c = issued_there c.args.trace.now.events c.issues-issue-items.result.now c.loop-issue.issue-index _ c.issues-issue-items.ensures.issues c.loop-issue-test.true

pub loop-issue-preserved : goal.loop-issue-preserved
loop-issue-preserved g c =
    let t = c.args.trace.now in
    let f = command_done t.setup t.events in
    let xs = c.issues-issue-items.result.now in
    let k = c.loop-issue.issue-index in
    elim c.match-command_done.branch [
      | in-Some+in_ok-push w ↦
          next_taken f xs (issues_of t.events) k _ _ _ _ c.issues-issue-items.ensures.issues c.loop-issue-test.true (sym w.in-Some.is ∙ c.command_done.ensures) c.loop-issue.invariant (ap (λ v. v.items) w.commands-is ∙ w.in_ok-push.ensures.items)
      | in_default w ↦
          next_taken f xs (issues_of t.events) k _ _ _ _ c.issues-issue-items.ensures.issues c.loop-issue-test.true (sym w.in_default.is ∙ c.command_done.ensures) c.loop-issue.invariant (ap (λ v. v.items) w.commands-is ∙ sym (append-nil c.loop-issue.commands.items))
    ]

pub returns : goal.returns
unfolding done_commands
returns g c =
    let t = c.args.trace.now in
    c.loop-issue.invariant
    ∙ ap (filter_map (command_done t.setup t.events)) (take_all c.loop-issue.issue-index (issues_of t.events) (subst (λ l. length l ≤ c.loop-issue.issue-index) c.issues-issue-items.ensures.issues c.loop-issue-test.false))
