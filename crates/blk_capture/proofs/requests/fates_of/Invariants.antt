use Rattle.std.proofs.Common.{ℕ, ◌≡◌, map, take}
use Rattle.blk_capture.specs.Fates.{is_matched, passed_by, AreOfTaken}
use Rattle.blk_capture.specs.Inside.Roles.{is_known, passed_role}
use Rattle.blk_capture.specs.Requests.{AreGone}
use Rattle.blk_capture.specs.Inside.Taken.{AreWithin}
use Rattle.blk_capture.specs.Inside.Coherent.{AreLaidOut}
use Rattle.blk_capture.specs.Rules.{Known}
use Rattle.blk_capture.specs.Settled.{captured_bio, fate_by}
use Rattle.blk_capture.specs.declared.requests.Options.{Options}
use Rattle.blk_capture.proofs.requests.fates_of.Given as goal

abbrev pub invariant-loop-role : goal.invariant-loop-role
invariant-loop-role g l = record {
  matched : map is_matched l.fates.items ≡ map is_known (take l.role-index l.roles);
  passed : map passed_by l.fates.items ≡ map passed_role (take l.role-index l.roles);
  are : (o : Options) (m : Known) → AreLaidOut o m l.lives l.places → l.bios ≡ map (captured_bio o m) m.bios → l.fates.items ≡ map (fate_by o m) (take l.role-index l.roles);
  below : (n : ℕ) → AreWithin n l.places → AreGone n l.bios → AreOfTaken n l.fates.items;
}
