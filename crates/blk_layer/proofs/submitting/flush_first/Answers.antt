use Rattle.std.proofs.Common.{◌≡◌, ◌∙◌, ◌++◌, sym, ap, List}
use Rattle.blk_bio.specs.Bios.{Bio}
use Rattle.blk_trace.proofs.Keeping.{on_ok, on_err}
use Rattle.blk_layer.specs.Seats.{SubmitterSeat}
use Rattle.blk_layer.proofs.Plugged.{none_put, one_put}
use Rattle.blk_layer.proofs.submitting.flush_first.Goals as goal

pub returns-clause-moved : goal.returns-clause-moved
returns-clause-moved g c =
    let seat = c.args.submitter.now in
    let first = c.in-Some.request.now in
    let with : List Bio → SubmitterSeat = λ bios. record { number = seat.number; accepted = seat.accepted ++ bios } in
    let added : c.accept.new.self ≡ with c.bios-2.result.now = on_ok c.accept.result (c.accept.new.self ≡ with c.bios-2.result.now) (sym c.is_err.ensures.value ∙ c.if-is_err.false) c.accept.ensures.ok in
    one_put c.args.queue.now seat c.args.plug.now first c.take_over.new.queue c.accept.new.self c.take_over.new.plug (c.take_over.ensures.moved first (sym c.in-Some.ensures.value)) (added ∙ ap with c.bios-2.ensures.bios) (c.take_over.ensures.put first (sym c.in-Some.ensures.value))

pub returns-in-Some-refusal-clause-moved : goal.returns-in-Some-refusal-clause-moved
returns-in-Some-refusal-clause-moved g c = none_put c.args.queue.now c.args.submitter.now c.args.plug.now

pub returns-then-not-has_room-clause-moved : goal.returns-then-not-has_room-clause-moved
returns-then-not-has_room-clause-moved g c = none_put c.args.queue.now c.args.submitter.now c.args.plug.now

pub returns-then-is_err-clause-moved : goal.returns-then-is_err-clause-moved
returns-then-is_err-clause-moved g c =
    let seat = c.args.submitter.now in
    let same : c.accept.new.self ≡ seat = on_err c.accept.result (c.accept.new.self ≡ seat) (sym c.is_err.ensures.value ∙ c.if-is_err.true) c.accept.ensures.err in
    rw same (none_put c.args.queue.now seat c.args.plug.now)
