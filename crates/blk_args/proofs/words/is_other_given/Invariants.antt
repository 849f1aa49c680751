use Rattle.std.proofs.Common.{◌≡◌}
use Rattle.std.specs.List.{list_any}
use Rattle.clap.specs.Words.{ids_left}
use Rattle.blk_args.specs.Asked.{is_other_given}
use Rattle.blk_args.specs.Inside.Options.{given}
use Rattle.blk_args.proofs.Sources.{is_other}
use Rattle.blk_args.proofs.words.is_other_given.Given as goal

abbrev pub invariant-loop-id : goal.invariant-loop-id
invariant-loop-id l = list_any (is_other l.but (given l.options)) (ids_left l.id-iterator) ≡ is_other_given l.but (given l.options)
