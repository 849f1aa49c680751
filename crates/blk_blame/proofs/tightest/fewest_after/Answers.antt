use Rattle.std.proofs.Common.{◌≡◌, ◌∙◌, length, List, Bool, sym, ap, subst, arith}
use Rattle.std.proofs.lemmas.List.{length-map}
use Rattle.blk_capture.specs.Counting.{AreServed}
use Rattle.blk_capture.specs.Summaries.{goes}
use Rattle.blk_capture.specs.declared.requests.CapturedRequest.{CapturedRequest}
use Rattle.blk_blame.specs.Tightest.{timed_after, marks_of, IsFewestOf}
use Rattle.blk_blame.proofs.Glue.{taken_in}
use Rattle.blk_blame.proofs.Serving.{served_after}
use Rattle.blk_blame.proofs.tightest.fewest_after.Goals as goal

pub count_rounds-requires-clause-served : goal.count_rounds-requires-clause-served
count_rounds-requires-clause-served c = subst AreServed (sym (c.as_slice.ensures.value ∙ c.in_ok-timed.ensures)) (served_after c.args.aim c.args.own c.args.requests.now c.requires.timed)

pub count_rounds-requires-clause-few : goal.count_rounds-requires-clause-few
count_rounds-requires-clause-few c = omega (arith, c.requires.few, ap length (c.as_slice.ensures.value ∙ c.in_ok-timed.ensures), length-map c.args.requests.now (timed_after c.args.aim c.args.own))

pub fewest_of-requires-clause-taken : goal.fewest_of-requires-clause-taken
fewest_of-requires-clause-taken c = rw c.as_slice-2.ensures.value (taken_in _ _ _ c.in_ok-counted.ensures.counted
    (omega (arith, c.requires.few, ap length (c.as_slice.ensures.value ∙ c.in_ok-timed.ensures), length-map c.args.requests.now (timed_after c.args.aim c.args.own))) c.in_ok-counted.ensures.solvable)

pub fewest_of-requires-clause-one_each : goal.fewest_of-requires-clause-one_each
fewest_of-requires-clause-one_each c =
    omega (
      arith,
      ap length c.requires.marked,
      length-map c.args.requests.now (λ (q : CapturedRequest). goes q.dir c.args.aim.dir),
      ap length c.as_slice-2.ensures.value,
      c.in_ok-counted.ensures.counted.a_command,
      ap length (c.as_slice.ensures.value ∙ c.in_ok-timed.ensures),
      length-map c.args.requests.now (timed_after c.args.aim c.args.own),
    )

pub returns : goal.returns
returns c = record {
  commands = c.in_ok-counted.counted.commands.items;
  rounds = c.in_ok-counted.counted.rounds.items;
  counted = rw (c.as_slice.ensures.value ∙ c.in_ok-timed.ensures) at c.in_ok-counted.ensures.counted;
  fewest = rw (c.as_slice-2.ensures.value, c.requires.marked) at c.in_ok-fewest.ensures;
}
