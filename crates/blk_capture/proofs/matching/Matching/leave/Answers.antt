use Rattle.std.proofs.Common.{◌∙◌, List, sym, subst, ap, length}
use Rattle.blk_capture.specs.Inside.LookupKeys.{has}
use Rattle.blk_capture.specs.declared.members.QueuedBio.{QueuedBio}
use Rattle.blk_capture.proofs.Sounding.{AreWaiting, bio_left}
use Rattle.blk_capture.proofs.matching.Matching.leave.Goals as goal

pub returns-clause-sound : goal.returns-clause-sound
returns-clause-sound g c = record {
  indexed = c.requires.sound.indexed;
  waiting =
      subst (λ (bs : List QueuedBio). AreWaiting bs (has c.take.new.self)) (sym c.change.ensures.bios)
      (bio_left c.args.self.now.members.bios.items c.args.number c.args.old c.args.new c.whole.result (has c.args.self.now.waiting) (has c.take.new.self) c.requires.sound.waiting c.requires.there c.requires.waits c.requires.gone c.whole.ensures c.take.ensures);
  paired = ap length c.change.ensures.openers ∙ c.requires.sound.paired;
  aged = c.requires.sound.aged;
}
