use Rattle.std.proofs.Common.{arith}
use Rattle.std.proofs.lemmas.Grind.{common_steps}
use Rattle.std.proofs.lemmas.List.{take_all, drop_all}
use Rattle.std.proofs.lemmas.List.Edits.{map_over_more}
use Rattle.blk_capture.specs.Parting.{fate_in}
use Rattle.blk_capture.proofs.part.fates_in.Goals as goal

pub loop-fate-preserved : goal.loop-fate-preserved
loop-fate-preserved c = grind (arith, common_steps, map_over_more (fate_in c.args.from c.args.count))

pub returns : goal.returns
returns c = grind (arith, common_steps, take_all, drop_all)
