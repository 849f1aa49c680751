use Rattle.std.proofs.Common.{◌∙◌, List, length, set, sym, ap, subst}
use Rattle.blk_capture.specs.Rules.{rest_of}
use Rattle.blk_capture.specs.Inside.LookupKeys.{has}
use Rattle.blk_capture.specs.declared.members.QueuedBio.{QueuedBio}
use Rattle.blk_capture.proofs.Sounding.{AreWaiting, bio_changed, bio_more}
use Rattle.blk_capture.proofs.matching.Matching.split.Goals as goal

pub returns-clause-sound : goal.returns-clause-sound
returns-clause-sound g c =
    let self = c.args.self.now in
    let bio : QueuedBio = c.in-Some.bio in
    let first : QueuedBio = record bio { range = c.args.range } in
    let rest : QueuedBio = rest_of c.args.range bio in
    let cut : AreWaiting (set self.members.bios.items c.in-Some.number first) (has c.put.new.self) =
    bio_changed self.members.bios.items c.in-Some.number bio first c.whole.result c.whole-2.result (has self.waiting) (has c.take.new.self) (has c.put.new.self) c.requires.sound.waiting c.in-Some.ensures.there c.in-Some.ensures.fits.0 c.in-Some.ensures.fits.0 c.whole.ensures c.whole-2.ensures c.take.ensures c.in_ok-put.ensures in
    let kept : AreWaiting c.change.new.self.bios.items (has c.put.new.self) = subst (λ (bs : List QueuedBio). AreWaiting bs (has c.put.new.self)) (sym c.change.ensures.bios) cut in
    record {
      indexed = c.requires.sound.indexed;
      waiting =
          subst (λ (bs : List QueuedBio). AreWaiting bs (has c.put-2.new.self)) (sym c.in_ok-second.ensures.bios)
          (bio_more c.change.new.self.bios.items rest c.whole-3.result c.in_ok-second.second (has c.put.new.self) (has c.put-2.new.self) kept c.in_ok-second.ensures.value c.in-Some.ensures.fits.0 c.whole-3.ensures c.in_ok-put-2.ensures);
      paired = ap length (c.queue.ensures.openers ∙ c.change.ensures.openers) ∙ c.requires.sound.paired;
      aged = c.requires.sound.aged;
    }
