use Rattle.std.proofs.Common.{ℕ, Option, sym, subst}
use Rattle.blk_index.specs.Inside.Lanes.{run_of, found_in, IsLeastOrNone}
use Rattle.blk_index.proofs.Lanes.{least_of}
use Rattle.blk_index.proofs.lane.Lane.first.Goals as goal

pub returns : goal.returns
returns g c = λ run.
    subst (λ (r : Option ℕ). IsLeastOrNone (found_in c.args.self.now) r) (sym c.lesser.ensures)
    (least_of (run_of c.args.self.now.from c.args.self.now.run.items) c.args.self.now.others.entries c.first_of_run.result c.first_of_others.result (c.first_of_run.ensures run) c.first_of_others.ensures)
