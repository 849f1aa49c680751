use Rattle.std.proofs.Common.{ap, ◌∙◌, List, ℕ}
use Rattle.blk_sched.specs.Meaning.{Waiting}
use Rattle.std.specs.Prelude.{◌++◌}
use Rattle.blk_index.proofs.Lanes.{gone, one_gone}
use Rattle.blk_index.proofs.lane.Lane.drop_gone.Goals as goal

pub loop-next-preserved : goal.loop-next-preserved
loop-next-preserved g c = record {
  same =
      ap (λ (l : List (ℕ × Waiting)). l ++ c.loop-next.self.others.entries)
      (gone c.loop-next.self.from c.in-Some.next c.loop-next.self.run.items c.pop_front.new.self.items c.in-Some.ensures.next c.in-Some.ensures.gone c.pop_front.ensures.rest)
      ∙ c.loop-next.invariant.same;
  run = λ h. one_gone c.loop-next.self.from c.in-Some.next c.loop-next.self.run.items c.pop_front.new.self.items c.in-Some.ensures.next c.in-Some.ensures.gone c.pop_front.ensures.rest (c.loop-next.invariant.run h);
}

pub returns-clause-same : goal.returns-clause-same
returns-clause-same g c = c.loop-next.invariant.same

pub returns-clause-run : goal.returns-clause-run
returns-clause-run g c = c.loop-next.invariant.run
