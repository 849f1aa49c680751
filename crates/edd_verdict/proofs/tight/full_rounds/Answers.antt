use Rattle.std.proofs.Common.{◌≡◌, ◌+◌, ◌-◌, List, get_or, arith, ap, sym, subst}
use Rattle.edd_oracle.specs.declared.cover.Served.{Served}
use Rattle.edd_oracle.proofs.Back.{nobody}
use Rattle.edd_verdict.proofs.Filling.{AreFoundUpto, full_at, found_full, found_timely, same_found, more_found}
use Rattle.edd_verdict.proofs.tight.full_rounds.Goals as goal
use Rattle.edd_verdict.proofs.tight.full_rounds.Goals.{then-depth-past+then-served-past+in-Ok, else-depth-past, else-depth-past-via-then-depth-past+else-served-past, else-depth-past-via-else-depth-past}

pub loop-place-preserved : goal.loop-place-preserved
loop-place-preserved g c =
    elim c.if-depth-past.branch [
      | then-depth-past+then-served-past+in-Ok w ↦
          subst (λ (v : List Served). AreFoundUpto c.args.served.now c.args.capacity.now (c.loop-place.place + 1) v) (sym (ap (λ v. v.items) w.full-is))
          (more_found c.args.served.now c.args.capacity.now c.requires.rising c.requires.few c.requires.some c.loop-place.place c.loop-place.full.items w.push.new.self.items (record { round = (get_or c.args.served.now c.loop-place.place nobody).round; due = w.latest_due-due.result }) c.loop-place.invariant
          (full_at c.args.served.now c.args.capacity.now c.loop-place.place c.at-depth.result w.latest_due-due.result c.loop-place-test.true c.at-depth.ensures.value c.at-depth.ensures.some (omega arith) (omega arith) w.latest_due-due.ensures)
          w.in-Ok.ensures.items)
      | else-depth-past w ↦
          subst (λ (v : List Served). AreFoundUpto c.args.served.now c.args.capacity.now (c.loop-place.place + 1) v) (sym (ap (λ v. v.items) w.full-is))
          (same_found c.args.served.now c.args.capacity.now c.loop-place.place c.loop-place.full.items c.loop-place.invariant
          (λ deep starts. elim w.else-depth-past.branch [
            | else-depth-past-via-then-depth-past+else-served-past v ↦
                v.if-served-past.false (subst (λ k. (get_or c.args.served.now (c.loop-place.place + 1 - k) nobody).round ≡ (get_or c.args.served.now c.loop-place.place nobody).round) (sym c.at-depth.ensures.value) starts)
            | else-depth-past-via-else-depth-past v ↦ omega (arith, deep, c.at-depth.ensures.value)
          ]))
    ]

pub returns-clause-full : goal.returns-clause-full
returns-clause-full g c =
    found_full c.args.served.now c.args.capacity.now c.requires.rising c.requires.few c.requires.some c.loop-place.place c.loop-place.full.items (omega arith) c.loop-place.invariant

pub returns-clause-timely : goal.returns-clause-timely
returns-clause-timely g c =
    found_timely c.args.served.now c.args.capacity.now c.requires.rising c.requires.few c.requires.some c.loop-place.place c.loop-place.full.items c.loop-place.invariant c.requires.timely
