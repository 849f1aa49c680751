use Rattle.std.proofs.Common.{◌∙◌, List, length, refl, sym, ap, subst}
use Rattle.blk_capture.specs.Rules.{queued_bio}
use Rattle.blk_capture.specs.Inside.LookupKeys.{has}
use Rattle.blk_capture.specs.declared.members.QueuedBio.{QueuedBio}
use Rattle.blk_capture.proofs.Sounding.{AreWaiting, bio_more}
use Rattle.blk_capture.proofs.matching.Matching.queue.Goals as goal

pub returns-clause-sound : goal.returns-clause-sound
returns-clause-sound g c =
    let bio = queued_bio c.args.number c.args.pid c.args.range c.args.self.now.clock.now in
    record {
      indexed = c.requires.sound.indexed;
      waiting =
          subst (λ (bs : List QueuedBio). AreWaiting bs (has c.put.new.self)) (sym c.in_ok-place.ensures.bios)
          (bio_more c.args.self.now.members.bios.items bio c.whole.result c.in_ok-place.place (has c.args.self.now.waiting) (has c.put.new.self) c.requires.sound.waiting c.in_ok-place.ensures.value refl c.whole.ensures c.in_ok-put.ensures);
      paired = ap length c.queue.ensures.openers ∙ c.requires.sound.paired;
      aged = c.requires.sound.aged;
    }
