use Rattle.std.proofs.Common.{codes}
use Rattle.blk_cli.proofs.NoText.say.Goals as goal

pub returns-in-Told-clause-ends : goal.returns-in-Told-clause-ends
returns-in-Told-clause-ends g c = rw c.in-Told.is (rw c.as_slice.ensures.value at c.refuse_text.ensures)

pub returns-in-Excluded-clause-ends : goal.returns-in-Excluded-clause-ends
returns-in-Excluded-clause-ends g c = rw c.in-Excluded.is (c.refuse-in-Excluded.ensures.0, (codes "--trace and --met exclude one another\n", c.refuse-in-Excluded.ensures.1))
