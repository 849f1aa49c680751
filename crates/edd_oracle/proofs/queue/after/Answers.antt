use Rattle.std.proofs.Common.{ℕ, ◌+◌, arith, sym, subst}
use Rattle.edd_oracle.proofs.Until.{IsAfterFirst, after_none, after_later, after_same, after_all, below_by}
use Rattle.edd_oracle.proofs.queue.after.Goals as goal
use Rattle.edd_oracle.proofs.queue.after.Goals.{in-Some+then-end-x, in-Some+else-end-x, in_default}

pub loop-round-init : goal.loop-round-init
loop-round-init c = after_none c.args.rounds.now

pub loop-round-preserved : goal.loop-round-preserved
loop-round-preserved c =
    let n : ℕ = c.loop-round.round-index in
    elim c.match-round.branch [
      | in-Some+then-end-x w ↦ after_later c.args.rounds.now n c.loop-round.end w.in-Some.x c.match-round.end c.loop-round.invariant w.in-Some.is w.if-end-x.true w.end-is
      | in-Some+else-end-x w ↦
          subst (λ e. IsAfterFirst c.args.rounds.now (n + 1) e) (sym w.end-is)
          (after_same c.args.rounds.now n c.loop-round.end c.loop-round.invariant (λ y there. below_by w.in-Some.x y c.loop-round.end w.in-Some.is there w.if-end-x.false))
      | in_default w ↦
          subst (λ e. IsAfterFirst c.args.rounds.now (n + 1) e) (sym w.end-is)
          (after_same c.args.rounds.now n c.loop-round.end c.loop-round.invariant (λ y there. absurd (w.in_default.not-Some y there)))
    ]

pub returns : goal.returns
returns c = after_all c.args.rounds.now c.loop-round.round-index c.loop-round.end c.loop-round.invariant (omega arith)
