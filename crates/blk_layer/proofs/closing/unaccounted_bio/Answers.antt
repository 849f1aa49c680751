use Rattle.std.proofs.Common.{subst, List, IsPermutation}
use Rattle.std.specs.Prelude.{IfSome, IfNone}
use Rattle.blk_bio.specs.Bios.{Bio}
use Rattle.blk_layer.specs.Inside.Closing.{DiffersIn}
use Rattle.blk_layer.proofs.closing.unaccounted_bio.Goals as goal

pub returns-clause-some : goal.returns-clause-some
returns-clause-some g c = subst (λ (l : List Bio). IfSome c.differing_bio.result (DiffersIn l c.args.stored.items)) c.in_ok-accepted.ensures c.differing_bio.ensures.some

pub returns-clause-none : goal.returns-clause-none
returns-clause-none g c = subst (λ (l : List Bio). IfNone c.differing_bio.result (IsPermutation l c.args.stored.items)) c.in_ok-accepted.ensures c.differing_bio.ensures.none

pub returns-clause-each : goal.returns-clause-each
returns-clause-each g c = c.in_ok-bios_by_seat.ensures.each
