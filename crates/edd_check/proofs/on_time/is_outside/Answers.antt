use Rattle.std.proofs.Common.{◌≡◌, nat_le, true, false, rules, arith, sym, ◌∙◌}
use Rattle.std.proofs.lemmas.Bool.{eq-eqb}
use Rattle.std.proofs.lemmas.List.Sorted.{IsPartitionPoint-from_clause}
use Rattle.std.specs.List.Sorted.{IsPartitionPoint}
use Rattle.edd_check.specs.declared.Window.{Window}
use Rattle.edd_check.proofs.Covers.{IsPlaced, placed_here, begins_parted, outside_first, outside_last}
use Rattle.edd_check.proofs.on_time.is_outside.Goals as goal

pub returns-then-place-eq0 : goal.returns-then-place-eq0
returns-then-place-eq0 c =
    let parted : IsPartitionPoint (λ (w : Window). nat_le w.from c.args.command.release ≡ true) (λ (w : Window). nat_le w.from c.args.command.release ≡ false) c.args.cover.now c.partition_point-place.result = IsPartitionPoint-from_clause (λ (w : Window). nat_le w.from c.args.command.release) c.args.cover.now c.partition_point-place.result c.partition_point-place.ensures.partitioned (begins_parted c.args.cover.now c.args.command.release c.requires) (search rules) in
    let at : IsPlaced c.args.command c.args.cover.now c.partition_point-place.result = placed_here c.args.command c.args.cover.now c.partition_point-place.result c.partition_point-place.ensures.bound parted in
    eq-eqb c.partition_point-place.result 0 c.if-place-eq0.true
    ∙ sym (outside_first c.args.command c.args.cover.now c.partition_point-place.result c.requires at c.if-command.true c.if-place-eq0.true)

pub returns-else-place-eq0 : goal.returns-else-place-eq0
returns-else-place-eq0 c =
    let parted : IsPartitionPoint (λ (w : Window). nat_le w.from c.args.command.release ≡ true) (λ (w : Window). nat_le w.from c.args.command.release ≡ false) c.args.cover.now c.partition_point-place.result = IsPartitionPoint-from_clause (λ (w : Window). nat_le w.from c.args.command.release) c.args.cover.now c.partition_point-place.result c.partition_point-place.ensures.partitioned (begins_parted c.args.cover.now c.args.command.release c.requires) (search rules) in
    let at : IsPlaced c.args.command c.args.cover.now c.partition_point-place.result = placed_here c.args.command c.args.cover.now c.partition_point-place.result c.partition_point-place.ensures.bound parted in
    outside_last c.args.command c.args.cover.now c.partition_point-place.result record { from = 0; due = 0 } c.requires at c.if-command.true (omega arith)
