use Rattle.std.proofs.Common.{◌≡◌, arith, ℕ, ◌≢◌, ◌<◌, ◌+◌, ◌-◌, get_or, ap}
use Rattle.edd_commands.specs.Capacity.{depth_at}
use Rattle.edd_commands.specs.Schedule.{places_at}
use Rattle.edd_check.proofs.Blocks.{nothing_counted, counted_here, counted_elsewhere, one_too_many}
use Rattle.edd_check.proofs.block_stays_within.Goals as goal
use Rattle.edd_check.proofs.block_stays_within.Goals.{then-x-from+then-x-from-lt-BLOCK+else-counts-k, else-x-from, else-x-from-via-then-x-from+else-x-from-lt-BLOCK, else-x-from-via-else-x-from}

pub loop-x-init : goal.loop-x-init
loop-x-init g c = nothing_counted c.args.rounds.now c.args.capacity.now c.args.from

pub loop-x-preserved : goal.loop-x-preserved
loop-x-preserved g c =
    let x : ℕ = get_or c.args.rounds.now c.loop-x.x-index 0 in
    elim c.if-x-from.branch [
      | then-x-from+then-x-from-lt-BLOCK+else-counts-k w ↦
          let same : c.args.from + (x - c.args.from) ≡ x = omega arith in
          let here : depth_at c.args.capacity.now (c.args.from + (x - c.args.from)) ≡ depth_at c.args.capacity.now x = ap (λ y. depth_at c.args.capacity.now y) same in
          counted_here c.args.rounds.now c.loop-x.counts c.if-x-from.counts c.args.capacity.now c.args.from c.loop-x.x-index (x - c.args.from) c.loop-x.invariant (omega arith) (omega arith) (omega arith) (omega arith) w.counts-is
      | else-x-from w ↦
          let elsewhere : (k : ℕ) → k < 4096 → x ≢ c.args.from + k =
          λ k h same. elim w.else-x-from.branch [
            | else-x-from-via-then-x-from+else-x-from-lt-BLOCK w' ↦ absurd (omega arith)
            | else-x-from-via-else-x-from w' ↦ absurd (omega arith)
          ] in
          counted_elsewhere c.args.rounds.now c.loop-x.counts c.if-x-from.counts c.args.capacity.now c.args.from c.loop-x.x-index c.loop-x.invariant (omega arith) elsewhere w.counts-is
    ]

pub returns-then-counts-k : goal.returns-then-counts-k
returns-then-counts-k g c =
    let x : ℕ = get_or c.args.rounds.now c.loop-x.x-index 0 in
    let same : c.args.from + (x - c.args.from) ≡ x = omega arith in
    let here : depth_at c.args.capacity.now (c.args.from + (x - c.args.from)) ≡ depth_at c.args.capacity.now x = ap (λ y. depth_at c.args.capacity.now y) same in
    let over : depth_at c.args.capacity.now (c.args.from + (x - c.args.from)) < places_at c.args.rounds.now (c.args.from + (x - c.args.from)) =
    one_too_many c.args.rounds.now c.loop-x.counts c.args.capacity.now c.args.from c.loop-x.x-index (x - c.args.from) c.loop-x.invariant (omega arith) (omega arith) (omega arith) (omega arith) in
    (λ never. absurd (cc), λ within. absurd (omega (arith, over, within (x - c.args.from) (omega arith))))
