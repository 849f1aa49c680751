use Rattle.std.proofs.Common.{◌∙◌, inl, inr, refl, []}
use Rattle.blk_recorders.specs.Steps.{sofar}
use Rattle.blk_recorders.specs.declared.steps.TheConstants.{MAX_STEPS}
use Rattle.blk_recorders.proofs.Reading.{in_order}
use Rattle.blk_recorders.proofs.Wholes.{none_behind, started}
use Rattle.blk_recorders.proofs.steps.read_lines.Goals as goal

pub returns-in-Err-clause-err : goal.returns-in-Err-clause-err
returns-in-Err-clause-err c = elim (c.in-Err.ensures.reads [] [] (inl refl)) [
  | inl memory ↦ inl memory
  | inr e ↦ inr (started c.args.recorder c.args.asked _ _ c.args.text.now _ c.new-reading.ensures.first c.new-reading.ensures.none e)
]

pub returns-in-Ok-steps-clause-ok : goal.returns-in-Ok-steps-clause-ok
returns-in-Ok-steps-clause-ok c =
    let rest = c.in-Ok-steps.ensures.rest in record {
      told = sofar [] c.take_lines.new.self;
      read_so = started c.args.recorder c.args.asked _ _ c.args.text.now _ c.new-reading.ensures.first c.new-reading.ensures.none (c.in-Ok.ensures.reads [] [] (inl refl) ∙ none_behind MAX_STEPS c.args.recorder c.args.asked _ (sofar [] c.take_lines.new.self));
      ordered = c.in-Ok-steps.ensures.ordered;
      device_is = rest.device_is;
      others_are = rest.others_are;
      remarks_are = rest.remarks_are;
      losses_are = rest.losses_are;
    }

pub returns-in-Ok-steps-clause-in_order : goal.returns-in-Ok-steps-clause-in_order
returns-in-Ok-steps-clause-in_order c =
    in_order c.args.recorder c.args.asked c.args.text.now (sofar [] c.take_lines.new.self) c.in-Ok-steps.steps.records.items
    (started c.args.recorder c.args.asked _ _ c.args.text.now _ c.new-reading.ensures.first c.new-reading.ensures.none (c.in-Ok.ensures.reads [] [] (inl refl) ∙ none_behind MAX_STEPS c.args.recorder c.args.asked _ (sofar [] c.take_lines.new.self)))
    c.in-Ok-steps.ensures.ordered
