use Rattle.std.proofs.Common.{◌≡◌, ◌+◌, ◌++◌, ◌∷◌, [], ◌∙◌, List, sym, ap, arith, take, length}
use Rattle.std.specs.List.{cons_option}
use Rattle.std.proofs.lemmas.List.{take_all, take_more, length-append}
use Rattle.blk_trace.specs.Happened.{Happened}
use Rattle.blk_picture.specs.Columns.{entered_in}
use Rattle.blk_picture.proofs.Walk.{round_next, round_none, round_step}
use Rattle.blk_picture.proofs.Counting.{entered_none, entered_more, some_few}
use Rattle.blk_picture.proofs.columns.entered.Goals as goal

pub loop-event-init : goal.loop-event-init
loop-event-init c = record {
  round = round_none;
  early = omega arith;
  few = omega (arith, ap length c.new-rounds.ensures.items);
  rounds = c.new-rounds.ensures.items ∙ sym (entered_none c.args.dir);
}

pub loop-event-preserved : goal.loop-event-preserved
loop-event-preserved c =
    let events : List Happened = c.args.events.now in
    let before : List Happened = take c.loop-event.event-index events in
    let up : take (c.loop-event.event-index + 1) events ≡ before ++ c.event-item.result ∷ [] =
    take_more events c.loop-event.event-index c.event-item.result c.loop-event-test.true ∙ ap (λ x. before ++ x ∷ []) (sym c.event-item.is) in
    record {
      round = round_next before c.event-item.result c.loop-event.round c.next_round-round.result _ c.loop-event.invariant.round c.next_round-round.ensures up;
      early = omega (arith, c.loop-event.invariant.early, round_step c.event-item.result c.loop-event.round, c.next_round-round.ensures);
      few = omega (arith, c.loop-event.invariant.few, some_few c.entry_in.result, ap length c.in_ok-push_some.ensures, length-append c.loop-event.rounds.items (cons_option c.entry_in.result []));
      rounds = c.in_ok-push_some.ensures ∙ entered_more c.args.dir before c.event-item.result c.loop-event.round c.loop-event.rounds.items c.entry_in.result _ c.loop-event.invariant.round c.loop-event.invariant.rounds c.entry_in.ensures up;
    }

pub returns-clause-rounds : goal.returns-clause-rounds
returns-clause-rounds c = c.loop-event.invariant.rounds ∙ ap (entered_in c.args.dir) (take_all c.loop-event.event-index c.args.events.now c.loop-event-test.false)

pub returns-clause-few : goal.returns-clause-few
returns-clause-few c = let b = c.loop-event.auto.event-index-end in omega (arith, c.loop-event.invariant.few, b)
