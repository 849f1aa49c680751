-- A tally of one record more.
use Rattle.std.specs.Prelude.{◌+◌, cond}
use Rattle.blk_capture.specs.declared.fates.Fate.{Fate}
use Rattle.blk_capture.specs.declared.fates.ActionTally.{ActionTally}
use Rattle.blk_capture.specs.Fates.{is_taken, is_left_out, is_unmatched, is_passed}

abbrev pub tally_with : ActionTally → Fate → ActionTally
tally_with t f = record {
  records = t.records + 1;
  taken = t.taken + cond (is_taken f) 1 0;
  left_out = t.left_out + cond (is_left_out f) 1 0;
  unmatched = t.unmatched + cond (is_unmatched f) 1 0;
  passed_over = t.passed_over + cond (is_passed f) 1 0;
}
