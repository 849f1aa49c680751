use Rattle.std.proofs.Common.{◌∙◌, ap, sym}
use Rattle.std.specs.Prelude.{◌++◌}
use Rattle.std.specs.Option.{option_or}
use Rattle.blk_index.specs.Inside.Lanes.{at_id, run_of, entries_of}
use Rattle.blk_index.proofs.Lanes.{joined, both_taken, taken_of}
use Rattle.blk_index.proofs.lane.Lane.remove.Goals as goal

pub returns-clause-value : goal.returns-clause-value
returns-clause-value g c =
    let es = run_of c.args.self.now.from c.args.self.now.run.items in
    let fs = c.args.self.now.others.entries in
    c.or.ensures
    ∙ ap (λ o. option_or o c.take_other-other.result) c.take_of_run-found.ensures.value
    ∙ ap (option_or (at_id es c.args.id)) c.take_other-other.ensures.value
    ∙ sym (joined es fs c.args.id)

pub returns-clause-taken : goal.returns-clause-taken
returns-clause-taken g c =
    let from = c.args.self.now.from in
    taken_of (entries_of c.args.self.now) (run_of from c.take_of_run-found.new.run.items ++ c.take_other-other.new.others.entries) (entries_of c.drop_gone.new.self) c.args.id c.drop_gone.ensures.same
    (both_taken (run_of from c.args.self.now.run.items) (run_of from c.take_of_run-found.new.run.items) c.args.self.now.others.entries c.take_other-other.new.others.entries c.args.id c.take_of_run-found.ensures.taken c.take_other-other.ensures.taken)
