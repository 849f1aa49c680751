use Rattle.std.proofs.Common.{◌<◌, arith, inr}
use Rattle.std.proofs.lemmas.Option.{IfSome_then}
use Rattle.blk_kyber.specs.Choice.{in_flight}
use Rattle.blk_kyber.specs.Limits.{limit_of}
use Rattle.blk_index.proofs.Served.{none_then}
use Rattle.blk_kyber.proofs.Served.{head_is, no_head}
use Rattle.blk_kyber.proofs.Kyber.head.Goals as goal

pub returns-clause-some : goal.returns-clause-some
returns-clause-some g c =
    let low : in_flight c.args.dir c.args.self.now.open_picks < limit_of c.args.dir c.args.self.now.limits = omega (arith, c.of-limit.ensures.value, c.of-open.ensures, c.requeued.ensures, c.if-open-limit.false, c.if-requeued-limit.false) in
    IfSome_then c.oldest.result c.oldest.ensures.some (λ id best. head_is c.args.self.now.queues c.args.hw c.args.self.now.limits c.args.self.now.open_picks c.args.dir low id best)

pub returns-clause-none : goal.returns-clause-none
returns-clause-none g c =
    let low : in_flight c.args.dir c.args.self.now.open_picks < limit_of c.args.dir c.args.self.now.limits = omega (arith, c.of-limit.ensures.value, c.of-open.ensures, c.requeued.ensures, c.if-open-limit.false, c.if-requeued-limit.false) in
    none_then c.oldest.result _ _ c.oldest.ensures.none (no_head c.args.self.now.queues c.args.hw c.args.self.now.limits c.args.self.now.open_picks c.args.dir low)

pub returns-clause-idle : goal.returns-clause-idle
returns-clause-idle g c = none_then c.oldest.result _ _ c.oldest.ensures.none (λ none. inr none)
