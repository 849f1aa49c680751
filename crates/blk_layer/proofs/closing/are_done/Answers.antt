use Rattle.std.proofs.Common.{◌≡◌, ◌≤◌, ◌∷◌, ◌++◌, ◌∙◌, ◌+◌, [], length, take, refl, sym, ap, subst, append-nil, IsPermutation}
use Rattle.std.specs.List.{filter_map}
use Rattle.std.proofs.lemmas.List.{take_all}
use Rattle.edd_commands.specs.declared.Command.{Command}
use Rattle.blk_trace.specs.Issues.{issues_of}
use Rattle.blk_trace.proofs.Issues.{issued_there, next_taken}
use Rattle.blk_layer.specs.Closing.{command_done, done_commands}
use Rattle.blk_layer.specs.Inside.Closing.{all_left}
use Rattle.blk_layer.proofs.Checked.{off_next, put_back}
use Rattle.blk_layer.proofs.closing.are_done.Goals as goal
use Rattle.blk_layer.proofs.closing.are_done.Goals.{in-Some+in-Some-check_one, in_default}

pub command_done-requires : goal.command_done-requires
command_done-requires g c = issued_there c.args.trace.now.events c.issues-issue-items.result.now c.loop-issue.issue-index _ c.issues-issue-items.ensures.issues c.loop-issue-test.true

pub loop-issue-preserved : goal.loop-issue-preserved
loop-issue-preserved g c =
    let t = c.args.trace.now in
    let f = command_done t.setup t.events in
    let xs = c.issues-issue-items.result.now in
    let k = c.loop-issue.issue-index in
    let all = all_left c.args.accounts.items in
    let before = filter_map f (take k (issues_of t.events)) in
    let after = filter_map f (take (k + 1) (issues_of t.events)) in
    let old = c.loop-issue.accounts.items in
    elim c.match-command_done.branch [
      | in-Some+in-Some-check_one w ↦
          let x : Command = w.in-Some.command in
          let new = w.check_one.new.accounts in
          let given : w.as_mut_slice.result.now ≡ old = w.as_mut_slice.ensures.value in
          let back = put_back new old c.loop-issue.accounts.len c.loop-issue.accounts.ok.0 (w.check_one.auto.accounts ∙ ap length given) in
          let off : IsPermutation (all_left old) (x ∷ all_left new) = subst (λ l. IsPermutation (all_left l) (x ∷ all_left new)) given w.in-Some-check_one.ensures in
          let more : before ++ x ∷ [] ≡ after = next_taken f xs (issues_of t.events) k _ _ before (before ++ x ∷ []) c.issues-issue-items.ensures.issues c.loop-issue-test.true (sym w.in-Some.is ∙ c.command_done.ensures) refl refl in
          subst (λ l. IsPermutation all (l ++ all_left c.match-command_done.accounts.items)) more
          (subst (λ l. IsPermutation all ((before ++ x ∷ []) ++ all_left l)) (sym (ap (λ v. v.items) w.accounts-is ∙ back)) (off_next all before (all_left old) (all_left new) x c.loop-issue.invariant off))
      | in_default w ↦
          let same : before ≡ after = next_taken f xs (issues_of t.events) k _ _ before before c.issues-issue-items.ensures.issues c.loop-issue-test.true (sym w.in_default.is ∙ c.command_done.ensures) refl (sym (append-nil before)) in
          subst (λ l. IsPermutation all (l ++ all_left c.match-command_done.accounts.items)) same (subst (λ v. IsPermutation all (before ++ all_left v.items)) (sym w.accounts-is) c.loop-issue.invariant)
    ]

pub returns : goal.returns
unfolding done_commands
returns g c = λ yes.
    let t = c.args.trace.now in
    let f = command_done t.setup t.events in
    let k = c.loop-issue.issue-index in
    let before = filter_map f (take k (issues_of t.events)) in
    let none : all_left c.loop-issue.accounts.items ≡ [] = ap all_left (sym c.as_slice.ensures.value) ∙ c.are_over.ensures yes in
    let whole : before ≡ filter_map f (issues_of t.events) = ap (filter_map f) (take_all k (issues_of t.events) (subst (λ l. length l ≤ k) c.issues-issue-items.ensures.issues c.loop-issue-test.false)) in
    subst (IsPermutation (all_left c.args.accounts.items)) (ap (λ l. before ++ l) none ∙ append-nil before ∙ whole) c.loop-issue.invariant
