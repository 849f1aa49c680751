use Rattle.std.proofs.Common.{◌≡◌, ◌+◌, ◌*◌, ◌≤◌, length}
use Rattle.blk_records.specs.Reads.{size_of}
use Rattle.blk_records.proofs.Reading.{MadeOf, Fitting}
use Rattle.blk_records.proofs.items.gather.Given as goal

abbrev pub invariant-loop : goal.invariant-loop
invariant-loop g l = record {
  known : g.F.ItemForm.known l.form l.items;
  count : length (g.F.ItemForm.seen l.form l.items known) ≡ l.counter;
  fit : Fitting (g.F.ItemForm.part l.form) (g.F.ItemForm.seen l.form l.items known);
  made : MadeOf (g.F.ItemForm.part l.form) l.initial.records.left (g.F.ItemForm.seen l.form l.items known) l.records.left;
  at : l.records.at ≡ l.initial.records.at + size_of (g.F.ItemForm.part l.form) (g.F.ItemForm.seen l.form l.items known);
  room : l.records.at ≤ l.initial.records.at + l.counter * (g.F.ItemForm.more + 1);
}
