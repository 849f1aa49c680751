use Rattle.std.proofs.Common.{refl, inr}
use Rattle.blk_records.proofs.ScheduleLaws.{is_new, is_old, next_ids, fresh_id, known_id}
use Rattle.blk_records.proofs.schedule.add_among.Goals as goal

pub returns-in-Ok-false-clause-err : goal.returns-in-Ok-false-clause-err
returns-in-Ok-false-clause-err c =
    let ids = c.in-Ok.ensures.ids in
    inr (refl, rw c.gather_ids.ensures.served at (is_old c.gather_ids.new.known.served.items c.gather_ids.new.known.ids c.args.served ids (known_id c.in-Ok-false.field-0 _ c.in-Ok-false.ensures.added c.in-Ok-false.field-0-test)))

pub returns-in-Ok-push-clause-ok : goal.returns-in-Ok-push-clause-ok
returns-in-Ok-push-clause-ok c =
    let items = c.in-Ok-push.ensures.items in
    let ids = c.in-Ok.ensures.ids in
    let next = rw (← items) at (next_ids c.gather_ids.new.known.served.items c.gather_ids.new.known.ids c.insert.new.self c.args.served ids c.in-Ok-true.ensures.updates) in
    (rw c.in-Ok.ensures.rise next, rw c.gather_ids.ensures.served at items, rw c.gather_ids.ensures.served at (is_new c.gather_ids.new.known.served.items c.gather_ids.new.known.ids c.args.served ids (fresh_id c.in-Ok-true.field-0 _ c.in-Ok-true.ensures.added c.in-Ok-true.field-0-test)))
