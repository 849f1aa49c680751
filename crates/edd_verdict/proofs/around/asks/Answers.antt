use Rattle.std.proofs.Common.{◌+◌, List, arith, rules, refl, ap, sym, subst, inl, inr}
use Rattle.std.proofs.lemmas.List.Sorted.{IsNonDecreasingBy-from_sort_by_key}
use Rattle.edd_verdict.specs.declared.around.Ask.{Ask}
use Rattle.edd_oracle.proofs.Pairs.{nobody}
use Rattle.edd_verdict.proofs.Opening.{AreAsks, no_asks, ask_here, more_asks, same_asks, asks_in_order}
use Rattle.edd_verdict.proofs.around.asks.Goals as goal
use Rattle.edd_verdict.proofs.around.asks.Goals.{then-command-rounds+then-command+in-Ok, else-command-rounds, else-command-rounds-via-then-command-rounds+else-command, else-command-rounds-via-else-command-rounds}

pub loop-place-init : goal.loop-place-init
loop-place-init g c = no_asks c.args.commands.now c.args.rounds.now c.new-asks.result.items c.new-asks.ensures.items

pub loop-place-preserved : goal.loop-place-preserved
loop-place-preserved g c =
    elim c.if-command-rounds.branch [
      | then-command-rounds+then-command+in-Ok w ↦
          subst (λ (v : List Ask). AreAsks c.args.commands.now c.args.rounds.now (c.loop-place.place + 1) v) (sym (ap (λ v. v.items) w.asks-is))
          (more_asks c.args.commands.now c.args.rounds.now c.loop-place.place c.loop-place.asks.items w.push.new.self.items _ c.loop-place.invariant (ask_here c.args.commands.now c.args.rounds.now c.loop-place.place nobody c.loop-place-test.true (omega arith) (omega arith)) refl w.in-Ok.ensures.items)
      | else-command-rounds w ↦
          subst (λ (v : List Ask). AreAsks c.args.commands.now c.args.rounds.now (c.loop-place.place + 1) v) (sym (ap (λ v. v.items) w.asks-is))
          (same_asks c.args.commands.now c.args.rounds.now c.loop-place.place c.loop-place.asks.items nobody c.loop-place.invariant
          (elim w.else-command-rounds.branch [
            | else-command-rounds-via-then-command-rounds+else-command v ↦ inr (omega arith)
            | else-command-rounds-via-else-command-rounds v ↦ inl (omega arith)
          ]))
    ]

pub returns-clause-each : goal.returns-clause-each
returns-clause-each g c =
    (asks_in_order c.args.commands.now c.args.rounds.now c.loop-place.place c.loop-place.asks.items c.sort_unstable_by_key.new.self.items c.loop-place.invariant c.sort_unstable_by_key.ensures.permutation).each

pub returns-clause-all : goal.returns-clause-all
returns-clause-all g c =
    λ k h late can. (asks_in_order c.args.commands.now c.args.rounds.now c.loop-place.place c.loop-place.asks.items c.sort_unstable_by_key.new.self.items c.loop-place.invariant c.sort_unstable_by_key.ensures.permutation).all k (omega arith) late can

pub returns-clause-rising : goal.returns-clause-rising
returns-clause-rising g c =
    IsNonDecreasingBy-from_sort_by_key (λ a. a.due) _ c.sort_unstable_by_key.ensures.sorted (λ s r q k. search rules)
