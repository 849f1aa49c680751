use Rattle.std.proofs.Common.{rules}
use Rattle.blk_kyber.specs.Limits.{Completed}
use Rattle.blk_kyber.specs.State.{KyberState}
use Rattle.blk_kyber.specs.Shown.{state_of}
use Rattle.blk_kyber.proofs.Served.{tells}
use Rattle.blk_kyber.proofs.KyberScheduler.on_done.Goals as goal

pub returns-then-wait-of-clause-told : goal.returns-then-wait-of-clause-told
returns-then-wait-of-clause-told g c =
    let old : KyberState = state_of c.args.self.now in
    let new : KyberState = record { targets = c.args.self.now.targets; limits = c.miss.new.self; turns = c.args.self.now.turns } in
    tells old new (Completed c.args.dir c.args.wait) (search rules)

pub returns-else-wait-of-clause-told : goal.returns-else-wait-of-clause-told
returns-else-wait-of-clause-told g c =
    let old : KyberState = state_of c.args.self.now in
    tells old old (Completed c.args.dir c.args.wait) (search rules)
