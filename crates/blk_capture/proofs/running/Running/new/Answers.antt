use Rattle.std.proofs.Common.{refl}
use Rattle.blk_capture.proofs.Adding.{none_taken}
use Rattle.blk_capture.proofs.running.Running.new.Goals as goal

pub returns-clause-taken : goal.returns-clause-taken
returns-clause-taken g c = none_taken _ c.in_ok-new.ensures.known c.new-2.ensures.items refl
