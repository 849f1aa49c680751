use Rattle.std.proofs.Common.{◌≡◌, ◌<◌, ◌^◌, drop}
use Rattle.blk_recorders.specs.Words.{number_from}
use Rattle.blk_recorders.proofs.words.long_number.Given as goal

abbrev pub invariant-loop-byte : goal.invariant-loop-byte
invariant-loop-byte l = record {
  same : number_from l.number (drop l.byte-index l.word) ≡ number_from 0 l.word;
  small : l.number < 10 ^ l.byte-index;
}
