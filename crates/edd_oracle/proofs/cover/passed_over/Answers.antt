use Rattle.std.proofs.Common.{◌+◌, List, ℕ, arith, ap, sym, subst, inl, inr}
use Rattle.std.proofs.lemmas.List.Sorted.{IsNonDecreasingBy-from_sort}
use Rattle.edd_commands.specs.declared.Command.{Command}
use Rattle.edd_oracle.proofs.Late.{AreLate, no_late, more_late, same_late, late_in_order}
use Rattle.edd_oracle.proofs.cover.passed_over.Given.{Over}
use Rattle.edd_oracle.proofs.cover.passed_over.Goals as goal
use Rattle.edd_oracle.proofs.cover.passed_over.Goals.{then-command+then-command-rounds+in-Ok, else-command, else-command-via-then-command+else-command-rounds, else-command-via-else-command}

abbrev none : Command
none = record { id = 0; release = 0; due = 0 }

pub loop-place-init : goal.loop-place-init
loop-place-init g c = no_late c.args.commands.now c.args.rounds.now c.new-found.result.items c.new-found.ensures.items

pub loop-place-preserved : goal.loop-place-preserved
loop-place-preserved g c =
    elim c.if-command.branch [
      | then-command+then-command-rounds+in-Ok w ↦
          subst (λ (v : List ℕ). AreLate c.args.commands.now c.args.rounds.now (c.loop-place.place + 1) v) (sym (ap (λ v. v.items) w.found-is))
          (more_late c.args.commands.now c.args.rounds.now c.loop-place.found.items w.push.new.self.items c.loop-place.place none c.loop-place.invariant c.loop-place-test.true (omega arith) (omega arith) w.in-Ok.ensures.items)
      | else-command w ↦
          subst (λ (v : List ℕ). AreLate c.args.commands.now c.args.rounds.now (c.loop-place.place + 1) v) (sym (ap (λ v. v.items) w.found-is))
          (same_late c.args.commands.now c.args.rounds.now c.loop-place.found.items c.loop-place.place none c.loop-place.invariant c.loop-place-test.true
          (elim w.else-command.branch [
            | else-command-via-then-command+else-command-rounds v ↦ inr (omega arith)
            | else-command-via-else-command v ↦ inl (omega arith)
          ]))
    ]

sorted : (g : Over) (c : goal.After-sort_unstable g) → AreLate c.args.commands.now c.args.rounds.now c.loop-place.place c.sort_unstable.new.self.items
sorted g c =
    late_in_order c.args.commands.now c.args.rounds.now c.loop-place.found.items c.sort_unstable.new.self.items c.loop-place.place c.loop-place.invariant c.sort_unstable.ensures.permutation

pub returns-clause-each : goal.returns-clause-each
returns-clause-each g c = λ k d passed. (sorted g c).each k d (omega (arith, passed.in_list)) passed

pub returns-clause-some : goal.returns-clause-some
returns-clause-some g c = (sorted g c).some

pub returns-clause-rising : goal.returns-clause-rising
returns-clause-rising g c = IsNonDecreasingBy-from_sort (λ x. x) c.sort_unstable.new.self.items c.sort_unstable.ensures.sorted
