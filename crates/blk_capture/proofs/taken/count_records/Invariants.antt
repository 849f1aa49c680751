use Rattle.std.proofs.Common.{◌≡◌, ◌≤◌, count_by, take}
use Rattle.blk_capture.specs.Fates.{is_taken}
use Rattle.blk_capture.specs.Inside.Coherent.{AreLaidOut}
use Rattle.blk_capture.specs.Inside.Partly.{fate_with}
use Rattle.blk_capture.specs.Rules.{Known}
use Rattle.blk_capture.specs.declared.requests.Options.{Options}
use Rattle.blk_capture.proofs.taken.count_records.Given as goal

abbrev pub invariant-loop-role : goal.invariant-loop-role
invariant-loop-role l = record {
  few : l.count ≤ l.role-index;
  are : (o : Options) (m : Known) → AreLaidOut o m l.lives l.places → m.bios ≡ l.queued → l.count ≡ count_by (λ r. is_taken (fate_with l.part.from l.part.count o m r)) (take l.role-index l.roles);
}
