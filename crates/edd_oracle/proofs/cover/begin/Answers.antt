use Rattle.std.proofs.Common.{◌≡◌, nat_le, true, false, refl, arith, rules, inl, inr}
use Rattle.std.specs.List.Sorted.{IsPartitionPoint}
use Rattle.std.proofs.lemmas.List.Sorted.{IsPartitionPoint-from_clause, IsPartitionedBy-leb}
use Rattle.edd_oracle.specs.declared.cover.Served.{Served}
use Rattle.edd_oracle.proofs.Back.{back_at_due, served_more, served_ends}
use Rattle.edd_oracle.proofs.cover.begin.Goals as goal
use Rattle.edd_oracle.proofs.cover.begin.Goals.{then-left-depth-via-then-left-depth, then-left-depth-via-else-left-depth+then-not-all_due}

pub loop-from-init : goal.loop-from-init
loop-from-init g c =
    let parted : IsPartitionPoint (λ (s : Served). nat_le s.round c.args.due ≡ true) (λ (s : Served). nat_le s.round c.args.due ≡ false) c.args.served.now c.partition_point-left.result = IsPartitionPoint-from_clause (λ (s : Served). nat_le s.round c.args.due) c.args.served.now c.partition_point-left.result c.partition_point-left.ensures.partitioned (IsPartitionedBy-leb (λ (s : Served). s.round) c.args.served.now c.args.due c.requires.rising) (search rules) in
    back_at_due c.args.served.now c.args.capacity.now c.args.due _ c.partition_point-left.result refl c.partition_point-left.ensures.bound parted

pub loop-from-preserved : goal.loop-from-preserved
loop-from-preserved g c =
    served_more c.args.served.now c.args.capacity.now c.args.due c.loop-from.from c.loop-from.left c.at-depth.result c.requires.rising c.requires.few c.loop-from.invariant c.loop-from-test.true c.at-depth.ensures.some c.at-depth.ensures.value c.if-left-depth.false
    c.if-not-all_due.ensures.yes

pub returns-then-left-depth : goal.returns-then-left-depth
returns-then-left-depth g c =
    served_ends c.args.served.now c.args.capacity.now c.args.due c.loop-from.from c.loop-from.left c.at-depth.result c.requires.rising c.requires.few c.loop-from.invariant c.loop-from-test.true c.at-depth.ensures.some c.at-depth.ensures.value
    (elim c.then-left-depth.branch [
      | then-left-depth-via-then-left-depth w ↦ inl (omega arith)
      | then-left-depth-via-else-left-depth+then-not-all_due w ↦ inr w.if-not-all_due.ensures.no
    ])
