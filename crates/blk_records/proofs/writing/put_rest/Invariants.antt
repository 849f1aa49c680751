use Rattle.std.proofs.Common.{◌≡◌, ◌+◌, ◌*◌, ◌++◌, ◌≤◌, take, length}
use Rattle.std.proofs.Math.ListN.{replicate}
use Rattle.text_output.specs.declared.pieces.TheConstants.{MAX_DIGITS}
use Rattle.blk_records.specs.Inside.Cells.{marked}
use Rattle.blk_records.proofs.writing.put_rest.Given as goal

abbrev pub invariant-loop-i : goal.invariant-loop-i
invariant-loop-i l = record {
  end : l.end ≤ l.at + (MAX_DIGITS + 1) * l.i;
  text : take l.end l.buf ≡ take l.at l.fn.buf ++ marked (take l.i l.numbers);
}

abbrev pub invariant-loop : goal.invariant-loop
invariant-loop l = record {
  end : l.end ≤ l.at + (MAX_DIGITS + 1) * length l.numbers + l.counter;
  text : take l.end l.buf ≡ take l.at l.fn.buf ++ (marked l.numbers ++ replicate l.counter 44);
}
