use Rattle.std.proofs.Common.{◌≡◌, ◌<◌, ◌≤◌, length, get_or, map, take}
use Rattle.blk_capture.specs.Fates.{told}
use Rattle.blk_capture.specs.Rules.{AreTold}
use Rattle.blk_capture.specs.Inside.Coherent.{IsCoherent}
use Rattle.blk_capture.specs.Inside.Matchings.{all_known, IsSound}
use Rattle.blk_capture.specs.Inside.Roles.{opens_role, makes_role, passed_role}
use Rattle.blk_capture.specs.Passing.{passed_over}
use Rattle.blk_capture.specs.declared.record.Record.{Record}
use Rattle.blk_capture.proofs.requests.match_in_order.Given as goal

abbrev pub invariant-loop-place : goal.invariant-loop-place
invariant-loop-place g l = record {
  each : length l.roles.items ≡ l.place;
  opened : length l.matching.requests.items ≡ told opens_role l.records l.roles.items;
  made : length l.matching.members.bios.items ≡ told makes_role l.records l.roles.items;
  passed : map passed_role l.roles.items ≡ map passed_over (take l.place l.records);
  told : AreTold l.options l.records l.roles.items l.place (all_known l.matching);
  sound : IsSound l.matching;
  coherent : IsCoherent l.options l.matching.clock.now (all_known l.matching);
  options : l.matching.options ≡ l.options;
  now : (d : Record) → l.place < length l.records → l.matching.clock.now ≤ (get_or l.records l.place d).time;
}
