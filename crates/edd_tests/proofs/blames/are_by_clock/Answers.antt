use Rattle.std.proofs.Common.{arith}
use Rattle.edd_tests.proofs.blames.are_by_clock.Goals as goal

pub returns-then-allowances-commands : goal.returns-then-allowances-commands
returns-then-allowances-commands c = λ told. record { one_each = omega arith; each = c.each_by_clock.ensures.0 told }
