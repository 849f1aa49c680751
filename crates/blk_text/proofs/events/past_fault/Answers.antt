use Rattle.std.proofs.Common.{sym}
use Rattle.csv.specs.Records.{fields_of}
use Rattle.blk_text.proofs.EventLaws.{past_head, past_group, past_event, past_rule}
use Rattle.blk_text.proofs.events.past_fault.Goals as goal

pub returns-in-Err : goal.returns-in-Err
returns-in-Err c = past_head c.args.form.now.head.version c.args.form.now.setup c.args.trace.now.events (fields_of c.args.row.now) c.in-Err.why c.in-Err.ensures.err

pub returns-in-None : goal.returns-in-None
returns-in-None c = past_group c.args.form.now.head.version c.args.form.now.setup c.args.trace.now.events (fields_of c.args.row.now) c.in-Ok.head (sym c.in-None.ensures) c.in-Ok.ensures.ok

pub returns-in-Some-first_broken : goal.returns-in-Some-first_broken
returns-in-Some-first_broken c =
    past_rule c.args.form.now.head.version c.args.form.now.setup c.args.trace.now.events (fields_of c.args.row.now) c.in-Ok.head c.in-Some.event c.in-Some-first_broken.rule (sym c.in-Some.ensures) c.in-Ok.ensures.ok
    (rw c.requires at c.in-Some-first_broken.ensures.some)

pub returns : goal.returns
returns c =
    past_event c.args.form.now.head.version c.args.form.now.setup c.args.trace.now.events (fields_of c.args.row.now) c.in-Ok.head c.in-Some.event (sym c.in-Some.ensures) c.in-Ok.ensures.ok
    (rw c.requires at c.in-None-first_broken.ensures.none)
