use Rattle.std.proofs.Common.{◌∙◌, Option, ap}
use Rattle.std.specs.Option.{option_or}
use Rattle.clap.proofs.WalkLemmas.{first_value-rows}
use Rattle.clap.specs.Words.{Text, found_of}
use Rattle.blk_schedulers.specs.Plans.{replay_default}
use Rattle.blk_args.proofs.replaying.replay_text.Goals as goal

pub returns-in-Some : goal.returns-in-Some
returns-in-Some c =
    ap (λ (o : Option Text). option_or o (replay_default c.args.is_grid c.args.option.now)) (c.in-Some.ensures ∙ first_value-rows (found_of c.args.options.now) c.args.option.now)

pub returns-in-None : goal.returns-in-None
returns-in-None c =
    c.replay_default.ensures ∙ ap (λ (o : Option Text). option_or o (replay_default c.args.is_grid c.args.option.now)) (c.in-None.ensures ∙ first_value-rows (found_of c.args.options.now) c.args.option.now)
