use Rattle.std.proofs.Common.{◌+◌, List, arith, ap, sym, subst, refl, rules}
use Rattle.std.proofs.lemmas.List.Sorted.{IsNonDecreasingBy-from_sort_by_key}
use Rattle.edd_commands.specs.declared.Command.{Command}
use Rattle.edd_oracle.specs.declared.cover.Served.{Served}
use Rattle.edd_oracle.proofs.Running.{AreServed, none_served, more_served, same_served, served_same, served_few}
use Rattle.edd_oracle.proofs.cover.served_before.Goals as goal
use Rattle.edd_oracle.proofs.cover.served_before.Goals.{then-round-until+in-Ok, else-round-until}

abbrev none : Command
none = record { id = 0; release = 0; due = 0 }

pub loop-place-init : goal.loop-place-init
loop-place-init g c = none_served c.args.commands.now c.args.rounds.now c.args.until c.new-found.result.items c.new-found.ensures.items

pub loop-place-preserved : goal.loop-place-preserved
loop-place-preserved g c =
    elim c.if-round-until.branch [
      | then-round-until+in-Ok w ↦
          subst (λ (v : List Served). AreServed c.args.commands.now c.args.rounds.now c.args.until (c.loop-place.place + 1) v) (sym (ap (λ v. v.items) w.found-is))
          (more_served c.args.commands.now c.args.rounds.now c.args.until c.loop-place.place c.loop-place.found.items w.push.new.self.items _ none c.loop-place.invariant c.requires c.loop-place-test.true refl refl w.in-Ok.ensures.items)
      | else-round-until w ↦
          subst (λ (v : List Served). AreServed c.args.commands.now c.args.rounds.now c.args.until (c.loop-place.place + 1) v) (sym (ap (λ v. v.items) w.found-is))
          (same_served c.args.commands.now c.args.rounds.now c.args.until c.loop-place.place c.loop-place.found.items none c.loop-place.invariant c.requires c.loop-place-test.true (omega arith))
    ]

pub returns-clause-same : goal.returns-clause-same
returns-clause-same g c =
    served_same c.args.commands.now c.args.rounds.now c.args.until c.loop-place.place c.loop-place.found.items c.sort_unstable_by_key.new.self.items c.loop-place.invariant c.requires (omega arith) c.sort_unstable_by_key.ensures.permutation

pub returns-clause-few : goal.returns-clause-few
returns-clause-few g c =
    served_few c.args.commands.now c.args.rounds.now c.args.until c.loop-place.place c.loop-place.found.items c.sort_unstable_by_key.new.self.items c.loop-place.invariant c.requires (omega arith) c.sort_unstable_by_key.ensures.permutation

pub returns-clause-rising : goal.returns-clause-rising
returns-clause-rising g c =
    IsNonDecreasingBy-from_sort_by_key (λ s. s.round) _ c.sort_unstable_by_key.ensures.sorted (λ s r q k. search rules)
