use Rattle.std.proofs.Common.{◌≡◌, ◌∙◌, true, false, sym}
use Rattle.blk_arrivals.proofs.Comes.{came, gone}
use Rattle.blk_arrivals.proofs.coming.way_of.Goals as goal

pub returns-then-not-has_range-clause-way : goal.returns-then-not-has_range-clause-way
returns-then-not-has_range-clause-way c = sym (gone c.args.record.now c.in-Queue.is (λ h. (let clash : true ≡ false = sym (c.has_range.ensures.1 h) ∙ c.if-not-has_range.true in cc)))

pub returns-else-not-has_range-clause-way : goal.returns-else-not-has_range-clause-way
returns-else-not-has_range-clause-way c = c.dir.ensures ∙ sym (came c.args.record.now c.in-Queue.is (c.has_range.ensures.0 c.if-not-has_range.false))
