use Rattle.std.proofs.Common.{[], ◌∙◌, length, sym, ap, arith}
use Rattle.std.specs.List.{cons_option}
use Rattle.std.proofs.lemmas.List.{take_all, length-append}
use Rattle.blk_picture.specs.Columns.{rounds_in}
use Rattle.blk_picture.proofs.Counting.{rounds_none, rounds_push, some_few}
use Rattle.blk_picture.proofs.columns.rounds_in.Goals as goal

pub loop-issued-init : goal.loop-issued-init
loop-issued-init c = record {
  few = omega (arith, ap length c.new-rounds.ensures.items);
  rounds = c.new-rounds.ensures.items ∙ sym (rounds_none c.args.kind c.args.boxes.now);
}

pub loop-issued-preserved : goal.loop-issued-preserved
loop-issued-preserved c = record {
  few = omega (arith, c.loop-issued.invariant.few, some_few c.round_in.result, ap length c.in_ok-push_some.ensures, length-append c.loop-issued.rounds.items (cons_option c.round_in.result []));
  rounds = rounds_push c.args.kind c.args.boxes.now c.loop-issued.issued-index _ c.loop-issued.rounds.items _ c.round_in.result c.loop-issued-test.true c.loop-issued.invariant.rounds c.round_in.ensures c.in_ok-push_some.ensures;
}

pub returns-clause-rounds : goal.returns-clause-rounds
returns-clause-rounds c = c.loop-issued.invariant.rounds ∙ ap (rounds_in c.args.kind) (take_all c.loop-issued.issued-index c.args.boxes.now c.loop-issued-test.false)

pub returns-clause-few : goal.returns-clause-few
returns-clause-few c = let b = c.loop-issued.auto.issued-index-end in omega (arith, c.loop-issued.invariant.few, b)
