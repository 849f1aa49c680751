use Rattle.std.proofs.Common.{List, sym, subst}
use Rattle.std.specs.Result.{is_ok}
use Rattle.std.proofs.lemmas.Bool.{cond_both}
use Rattle.blk_capture.specs.Inside.Members.{AreOpened}
use Rattle.blk_capture.specs.declared.members.QueuedBio.{QueuedBio}
use Rattle.blk_capture.proofs.Openers.{opened_more}
use Rattle.blk_capture.proofs.members.Members.queue.Goals as goal

pub invariant_of-self : goal.invariant_of-self
invariant_of-self g c =
    let self = c.args.self.now in
    let openers = self.openers.items in
    record {
      opened =
          subst (λ (bs : List QueuedBio). AreOpened bs openers) (sym c.push.ensures.items)
          (cond_both (is_ok c.push.result) _ self.bios.items (λ (bs : List QueuedBio). AreOpened bs openers) (λ _. opened_more self.bios.items openers _ self.opened c.requires) (λ _. self.opened));
    }
