use Rattle.std.proofs.Common.{ap, ◌∙◌}
use Rattle.std.specs.List.{list_any}
use Rattle.clap.specs.Words.{found_of, ids_left}
use Rattle.clap.specs.declared.parser.matches.IdsRef.{IdsRef}
use Rattle.blk_args.specs.Inside.Options.{given}
use Rattle.blk_args.proofs.Sources.{is_other, among_ids}
use Rattle.blk_args.proofs.words.is_other_given.Goals as goal

pub loop-id-init : goal.loop-id-init
loop-id-init c =
    let left = ap (λ (i : IdsRef). ids_left i) c.into_iter-id-iterator.ensures.into_iter_gives ∙ c.ids-id-items.ensures in
    ap (list_any (is_other c.args.but.now (given c.args.options.now))) left ∙ among_ids (found_of c.args.options.now) c.args.but.now
