use Rattle.std.proofs.Common.{◌≡◌, ◌≤◌, ◌<◌, ◌-◌, nat_le, true, false, rules, arith, get_or}
use Rattle.std.proofs.lemmas.List.Sorted.{IsPartitionPoint-from_clause}
use Rattle.std.specs.List.Sorted.{IsPartitionPoint}
use Rattle.edd_check.specs.declared.Window.{Window}
use Rattle.edd_check.proofs.Covers.{IsPlaced, placed_here, begins_parted}
use Rattle.edd_figures.proofs.Windows.{not_on_time, lies_at, lies_nowhere}
use Rattle.edd_figures.proofs.missing.window_of.Goals as goal
use Rattle.edd_figures.proofs.missing.window_of.Goals.{then-place-eq0-via-then-place-eq0, then-place-eq0-via-else-place-eq0+then-cover-place}

abbrev none : Window
none = record { from = 0; due = 0 }

pub returns-then-command-clause-place : goal.returns-then-command-clause-place
returns-then-command-clause-place c = λ k d h. not_on_time c.args.command (get_or c.args.cover.now k d) c.if-command.true

pub returns-then-place-eq0-clause-place : goal.returns-then-place-eq0-clause-place
returns-then-place-eq0-clause-place c = λ k d h.
    let parted : IsPartitionPoint (λ (w : Window). nat_le w.from c.args.command.release ≡ true) (λ (w : Window). nat_le w.from c.args.command.release ≡ false) c.args.cover.now c.partition_point-place.result = IsPartitionPoint-from_clause (λ (w : Window). nat_le w.from c.args.command.release) c.args.cover.now c.partition_point-place.result c.partition_point-place.ensures.partitioned (begins_parted c.args.cover.now c.args.command.release c.requires) (search rules) in
    let at : IsPlaced c.args.command c.args.cover.now c.partition_point-place.result = placed_here c.args.command c.args.cover.now c.partition_point-place.result c.partition_point-place.ensures.bound parted in
    let short : 0 < c.partition_point-place.result → (get_or c.args.cover.now (c.partition_point-place.result - 1) none).due < c.args.command.due = λ some. elim c.then-place-eq0.branch [
      | then-place-eq0-via-then-place-eq0 w ↦ absurd (omega arith)
      | then-place-eq0-via-else-place-eq0+then-cover-place w ↦ omega arith
    ] in
    lies_nowhere c.args.command c.args.cover.now c.partition_point-place.result k d none c.requires at short h

pub returns-clause-place : goal.returns-clause-place
returns-clause-place c = λ k d h.
    let parted : IsPartitionPoint (λ (w : Window). nat_le w.from c.args.command.release ≡ true) (λ (w : Window). nat_le w.from c.args.command.release ≡ false) c.args.cover.now c.partition_point-place.result = IsPartitionPoint-from_clause (λ (w : Window). nat_le w.from c.args.command.release) c.args.cover.now c.partition_point-place.result c.partition_point-place.ensures.partitioned (begins_parted c.args.cover.now c.args.command.release c.requires) (search rules) in
    let at : IsPlaced c.args.command c.args.cover.now c.partition_point-place.result = placed_here c.args.command c.args.cover.now c.partition_point-place.result c.partition_point-place.ensures.bound parted in
    let long : c.args.command.due ≤ (get_or c.args.cover.now (c.partition_point-place.result - 1) none).due = omega arith in
    lies_at c.args.command c.args.cover.now c.partition_point-place.result k d none c.requires at c.if-command.false (omega arith) long h
