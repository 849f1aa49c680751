use Rattle.std.proofs.Common.{ℕ, ◌≡◌, map, take}
use Rattle.blk_capture.specs.Requests.{AreGone}
use Rattle.blk_capture.specs.Rules.{Known}
use Rattle.blk_capture.specs.Settled.{captured_bio}
use Rattle.blk_capture.specs.Inside.Coherent.{AreLaidOut}
use Rattle.blk_capture.specs.declared.requests.Options.{Options}
use Rattle.blk_capture.specs.Inside.Taken.{ArePlacedBios, AreWithin}
use Rattle.blk_capture.proofs.requests.bios_of.Given as goal

abbrev pub invariant-loop-bio : goal.invariant-loop-bio
invariant-loop-bio g l = record {
  placed : ArePlacedBios l.lives l.places l.queued l.bio-index l.bios.items;
  are : (o : Options) (m : Known) → AreLaidOut o m l.lives l.places → l.bios.items ≡ map (captured_bio o m) (take l.bio-index l.queued);
  gone : (n : ℕ) → AreWithin n l.places → AreGone n l.bios.items;
}
