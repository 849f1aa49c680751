use Rattle.std.proofs.Common.{take, map, ◌≡◌}
use Rattle.blk_schedulers.specs.Scheds.{name_of}
use Rattle.blk_cli.proofs.comparing.names_of.Given as goal

abbrev pub invariant-loop-i : goal.invariant-loop-i
invariant-loop-i l = record { named : map (λ name. name.now) l.names.items ≡ map name_of (take l.i l.scheds) }
