use Rattle.std.proofs.Common.{◌≡◌, ◌≤◌, count_by, take}
use Rattle.blk_capture.specs.Inside.Coherent.{AreLaidOut}
use Rattle.blk_capture.specs.Inside.Partly.{is_counted_in}
use Rattle.blk_capture.specs.Rules.{Known}
use Rattle.blk_capture.specs.declared.requests.Options.{Options}
use Rattle.blk_capture.proofs.taken.count_bios.Given as goal

abbrev pub invariant-loop-bio : goal.invariant-loop-bio
invariant-loop-bio l = record {
  few : l.count ≤ l.bio-index;
  are : (o : Options) (m : Known) → AreLaidOut o m l.lives l.places → l.count ≡ count_by (is_counted_in l.part.from l.part.count o m) (take l.bio-index l.queued);
}
