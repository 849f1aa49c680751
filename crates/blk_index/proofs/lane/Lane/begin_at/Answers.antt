use Rattle.std.proofs.Common.{ap, sym, arith, List, ℕ}
use Rattle.blk_sched.specs.Meaning.{Waiting}
use Rattle.std.specs.Prelude.{◌++◌}
use Rattle.std.proofs.lemmas.Bool.{eqb-true}
use Rattle.blk_index.proofs.Lanes.{empty_run}
use Rattle.blk_index.proofs.lane.Lane.begin_at.Goals as goal

pub returns-then-is_empty-clause-same : goal.returns-then-is_empty-clause-same
returns-then-is_empty-clause-same g c =
    ap (λ (l : List (ℕ × Waiting)). l ++ c.args.self.now.others.entries)
    (empty_run c.args.self.now.from c.args.id c.args.self.now.run.items (omega (arith, eqb-true c.args.self.now.run.len 0 (sym c.if-is_empty.ensures))))
