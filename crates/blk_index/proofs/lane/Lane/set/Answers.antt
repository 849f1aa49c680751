use Rattle.std.proofs.Common.{◌∙◌, ap, List, Option}
use Rattle.std.specs.Prelude.{◌++◌}
use Rattle.blk_sched.specs.Meaning.{Waiting}
use Rattle.blk_index.specs.Inside.Lanes.{at_id, run_of}
use Rattle.blk_index.proofs.Lanes.{first_given, then_given, then_there}
use Rattle.blk_index.proofs.lane.Lane.set.Goals as goal

pub set_other-requires : goal.set_other-requires
set_other-requires g c = then_there (run_of c.args.self.now.from c.args.self.now.run.items) c.args.self.now.others.entries c.args.queued.now.id c.if-not-set_in_run.ensures.no.1 c.requires

pub returns-then-not-set_in_run-clause-is_set : goal.returns-then-not-set_in_run-clause-is_set
returns-then-not-set_in_run-clause-is_set g c = λ k.
    ap (λ (os : List (Option Waiting)). at_id (run_of c.args.self.now.from os ++ c.set_other.new.others.entries) k) c.if-not-set_in_run.ensures.no.0
    ∙ then_given (run_of c.args.self.now.from c.args.self.now.run.items) c.args.self.now.others.entries c.set_other.new.others.entries c.args.queued.now.id c.args.queued.now c.if-not-set_in_run.ensures.no.1 c.set_other.ensures k

pub returns-else-not-set_in_run-clause-is_set : goal.returns-else-not-set_in_run-clause-is_set
returns-else-not-set_in_run-clause-is_set g c = first_given (run_of c.args.self.now.from c.args.self.now.run.items) (run_of c.args.self.now.from c.set_in_run.new.run.items) c.args.self.now.others.entries c.args.queued.now.id c.args.queued.now c.if-not-set_in_run.ensures.yes
