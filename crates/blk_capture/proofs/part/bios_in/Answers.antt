use Rattle.std.proofs.Common.{arith}
use Rattle.std.proofs.lemmas.Grind.{common_steps}
use Rattle.std.proofs.lemmas.List.{take_all, drop_all}
use Rattle.std.proofs.lemmas.List.Edits.{map_over_more}
use Rattle.blk_capture.specs.Parting.{bio_in}
use Rattle.blk_capture.proofs.part.bios_in.Goals as goal

pub loop-bio-preserved : goal.loop-bio-preserved
loop-bio-preserved c = grind (arith, common_steps, map_over_more (bio_in c.args.from c.args.count))

pub returns : goal.returns
returns c = grind (arith, common_steps, take_all, drop_all)
