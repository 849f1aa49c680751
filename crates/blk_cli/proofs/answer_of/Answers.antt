use Rattle.std.proofs.Common.{refl, inl}
use Rattle.blk_cli.specs.declared.failure.Failure.TheVariants as failure
use Rattle.blk_cli.proofs.answer_of.Goals as goal

pub returns-in-Refuse-clause-none : goal.returns-in-Refuse-clause-none
returns-in-Refuse-clause-none g c = (failure.Words c.in-Refuse.refusal, rw c.in-Refuse.is refl, inl refl)
