use Rattle.std.proofs.Common.{◌≡◌, drop, length, true}
use Rattle.blk_schedulers.specs.Lists.{parts}
use Rattle.blk_args.specs.Lists.{part_in, is_listed, list_by}
use Rattle.blk_args.proofs.Listed.{gathered}
use Rattle.blk_args.proofs.lists.listed.Given as goal

abbrev pub invariant-loop-part : goal.invariant-loop-part
invariant-loop-part l = record {
  rest : gathered (part_in l.parts) l.numbers.items (drop (length l.yielded) (parts l.text)) ≡ list_by (part_in l.parts) l.text;
  still : is_listed l.numbers.items ≡ true;
}
