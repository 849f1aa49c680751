use Rattle.std.proofs.Common.{refl, arith}
use Rattle.std.specs.Str.Parse.{ParsesUnsigned, ExplainsUnsignedError, HasUnsignedDigitsIfOk}
use Rattle.clap.specs.Words.{found_of}
use Rattle.blk_schedulers.specs.declared.given.TheConstants.{MAX_SHORT}
use Rattle.blk_args.proofs.Lines.{number_by}
use Rattle.blk_args.proofs.words.short_of.Goals as goal

pub returns : goal.returns
returns c = number_by 16 MAX_SHORT (refl, omega arith) (λ bs r. ParsesUnsigned 16 10 bs r × ExplainsUnsignedError 10 bs r × HasUnsignedDigitsIfOk bs r) (λ t q h. h.0)
    (found_of c.args.options.now) c.args.id.now c.get_one.result c.get_one.ensures.none c.get_one.ensures.value
