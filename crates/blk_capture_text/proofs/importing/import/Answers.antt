use Rattle.std.proofs.Common.{arith}
use Rattle.blk_capture.specs.Fates.{opens}
use Rattle.blk_capture_text.proofs.Imported.{imported, told_few}
use Rattle.blk_capture_text.proofs.importing.import.Goals as goal

pub part_of-requires-clause-few : goal.part_of-requires-clause-few
part_of-requires-clause-few c =
    omega (arith, c.in-Ok.ensures.opened, told_few opens c.args.records.now c.in-Ok.whole.fates.items)

pub returns-then-count-gt-MAX_COMMANDS-clause-err : goal.returns-then-count-gt-MAX_COMMANDS-clause-err
returns-then-count-gt-MAX_COMMANDS-clause-err c =
    let all = c.in-Ok.ensures in
    let part = c.in-Ok-part_of.ensures in record {
      requests = c.in-Ok-part_of.part.requests.items;
      bios = c.in-Ok-part_of.part.bios.items;
      fates = c.in-Ok-part_of.part.fates.items;
      absorbed = c.in-Ok-part_of.part.absorbed;
      left_out = c.in-Ok-part_of.part.left_out;
      imported = imported c.args.records.now c.args.asked.now _ _ _ _ _ _ _ _ _ _ _ c.begin_after.ensures
          (record { timed = all.timed; due = all.due; have_bios = all.bios; tallied = all.tallied; gone = all.gone; told_each = all.fates; passed = all.passed; below = all.below; opened = all.opened; made = all.made; matching = all.matching })
          part.requests part.bios part.fates part.absorbed part.left_out;
      counted = omega (arith, c.len-count.ensures);
      many = omega arith;
    }

pub returns-else-count-gt-MAX_COMMANDS-clause-ok : goal.returns-else-count-gt-MAX_COMMANDS-clause-ok
returns-else-count-gt-MAX_COMMANDS-clause-ok c =
    let all = c.in-Ok.ensures in
    let part = c.in-Ok-part_of.ensures in
    imported c.args.records.now c.args.asked.now _ _ _ _ _ _ _ _ _ _ _ c.begin_after.ensures
    (record { timed = all.timed; due = all.due; have_bios = all.bios; tallied = all.tallied; gone = all.gone; told_each = all.fates; passed = all.passed; below = all.below; opened = all.opened; made = all.made; matching = all.matching })
    part.requests part.bios part.fates part.absorbed part.left_out
