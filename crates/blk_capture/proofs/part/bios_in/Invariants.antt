use Rattle.std.proofs.Common.{◌≡◌, ◌++◌, map, take, drop}
use Rattle.blk_capture.specs.Parting.{bio_in}
use Rattle.blk_capture.proofs.part.bios_in.Given as goal

abbrev pub invariant-loop-bio : goal.invariant-loop-bio
invariant-loop-bio l = l.bios ≡ map (bio_in l.from l.count) (take l.bio-index l.initial.bios) ++ drop l.bio-index l.initial.bios
