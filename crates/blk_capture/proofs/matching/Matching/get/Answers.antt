use Rattle.std.proofs.Common.{◌∙◌, ◌≡◌, ◌+◌, List, length, arith, refl, sym, ap, subst}
use Rattle.std.proofs.lemmas.List.{length_push}
use Rattle.blk_capture.specs.Rules.{opened_for}
use Rattle.blk_capture.specs.Inside.LookupKeys.{has}
use Rattle.blk_capture.specs.Inside.Indexes.{AreIndexed, Lists}
use Rattle.blk_capture.specs.declared.members.BioStage.TheVariants.{Into}
use Rattle.blk_capture.specs.declared.members.QueuedBio.{QueuedBio}
use Rattle.blk_capture.specs.declared.opened.Opened.{Opened}
use Rattle.blk_capture.proofs.Sounding.{AreWaiting, Aged, bio_left, listed, aged_more}
use Rattle.blk_capture.proofs.matching.Matching.get.Goals as goal

pub returns-clause-sound : goal.returns-clause-sound
returns-clause-sound g c =
    let self = c.args.self.now in
    let qs : List Opened = self.requests.items in
    let bio : QueuedBio = c.in-Some.bio in
    let into : QueuedBio = record bio { stage = Into c.len-request.result } in
    let new : Opened = opened_for c.args.number c.args.pid c.args.cpu c.args.range self.clock.now bio in
    let last : c.len-request.result ≡ length qs = omega (arith, c.len-request.ensures, self.requests.ok.0) in
    record {
      indexed =
          subst (λ (l : List Opened). AreIndexed l c.put.new.self) (sym c.in_ok-push.ensures.items)
          (listed qs new self.index c.put.new.self c.requires.sound.indexed (subst (λ n. Lists n new self.index c.put.new.self) last c.in_ok-put.ensures));
      waiting =
          subst (λ (bs : List QueuedBio). AreWaiting bs (has c.take.new.self)) (sym c.in_ok-open.ensures.bios)
          (bio_left self.members.bios.items c.in-Some.place bio into c.whole.result (has self.waiting) (has c.take.new.self) c.requires.sound.waiting c.in-Some.ensures.there c.in-Some.ensures.fits.0 refl c.whole.ensures c.take.ensures);
      paired =
          ap length c.in_ok-open.ensures.openers
          ∙ length_push self.members.openers.items c.in-Some.place
          ∙ ap (λ n. n + 1) c.requires.sound.paired
          ∙ sym (length_push qs new)
          ∙ sym (ap length c.in_ok-push.ensures.items);
      aged = subst Aged (sym c.in_ok-push.ensures.items) (aged_more qs new c.requires.sound.aged c.requires.few);
    }
