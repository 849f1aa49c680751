use Rattle.std.proofs.Common.{◌≡◌, drop, length}
use Rattle.blk_schedulers.specs.Lists.{parts, tried_of, with_names}
use Rattle.blk_schedulers.proofs.lists.tried_of.Given as goal

abbrev pub invariant-loop-name : goal.invariant-loop-name
invariant-loop-name l = record { rest : with_names l.tried (drop (length l.yielded) (parts l.text)) ≡ tried_of l.text }
