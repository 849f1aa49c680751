use Rattle.std.proofs.Common.{◌∙◌, ap, arith}
use Rattle.edd_blame.proofs.Beside.{on_time_more, on_time_same, on_time_all}
use Rattle.edd_blame.proofs.part.on_time_places.Goals as goal
use Rattle.edd_blame.proofs.part.on_time_places.Goals.{then-rounds-place+in_ok-push, else-rounds-place}

pub loop-place-preserved : goal.loop-place-preserved
loop-place-preserved g c =
    elim c.if-rounds-place.branch [
      | then-rounds-place+in_ok-push w ↦
          on_time_more c.args.commands.now c.args.rounds.now c.loop-place.place c.loop-place.found.items c.if-rounds-place.found.items c.loop-place.invariant (ap (λ v. v.items) w.found-is ∙ w.in_ok-push.ensures.items) w.if-rounds-place.true
      | else-rounds-place w ↦
          on_time_same c.args.commands.now c.args.rounds.now c.loop-place.place c.loop-place.found.items c.if-rounds-place.found.items c.loop-place.invariant (ap (λ v. v.items) w.found-is) w.if-rounds-place.false
    ]

pub returns : goal.returns
returns g c = on_time_all c.args.commands.now c.args.rounds.now c.loop-place.place c.loop-place.found.items (omega arith) c.loop-place.invariant
