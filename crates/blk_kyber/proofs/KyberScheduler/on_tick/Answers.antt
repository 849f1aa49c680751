use Rattle.std.proofs.Common.{rules}
use Rattle.blk_kyber.specs.Limits.{RoundBegan}
use Rattle.blk_kyber.specs.State.{KyberState}
use Rattle.blk_kyber.specs.Shown.{state_of}
use Rattle.blk_kyber.proofs.Served.{tells}
use Rattle.blk_kyber.proofs.KyberScheduler.on_tick.Goals as goal

pub returns-then-now-eq0-clause-told : goal.returns-then-now-eq0-clause-told
returns-then-now-eq0-clause-told g c =
    let old : KyberState = state_of c.args.self.now in
    let new : KyberState = record { targets = c.args.self.now.targets; limits = c.set_anew.new.self; turns = c.args.self.now.turns } in
    tells old new (RoundBegan c.args.now) (search rules)

pub returns-else-now-eq0-clause-told : goal.returns-else-now-eq0-clause-told
returns-else-now-eq0-clause-told g c =
    let old : KyberState = state_of c.args.self.now in
    tells old old (RoundBegan c.args.now) (search rules)
