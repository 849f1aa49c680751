use Rattle.std.proofs.Common.{◌∙◌, ap, sym, Some, None}
use Rattle.blk_kyber.specs.State.{after_pick}
use Rattle.blk_kyber.specs.Choice.{chosen}
use Rattle.blk_kyber.specs.Shown.{state_of, meaning_of}
use Rattle.blk_kyber.proofs.Served.{chooses}
use Rattle.blk_kyber.proofs.KyberScheduler.pick.Goals as goal

pub returns-in_default-clause-chosen : goal.returns-in_default-clause-chosen
returns-in_default-clause-chosen g c =
    let old = state_of c.args.self.now in
    chooses old old (meaning_of c.args.self.now) c.args.hw c.args.now None (sym (ap chosen c.in_default.ensures.none)) (sym (ap (after_pick c.args.hw old) c.in_default.ensures.none))

pub returns-clause-chosen : goal.returns-clause-chosen
returns-clause-chosen g c =
    let old = state_of c.args.self.now in
    let found = c.in-Some.ensures.some in
    chooses old _ (meaning_of c.args.self.now) c.args.hw c.args.now (Some c.in-Some-remove.queued)
    (c.in-Some-remove.ensures.value ∙ found.1 ∙ sym (ap chosen found.2)) (sym (ap (after_pick c.args.hw old) found.2))
