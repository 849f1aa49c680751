-- What is asked of the records of a capture of which none is kept.
use Rattle.std.specs.Prelude.{◌+◌, ◌||◌, false, List, [], ◌∷◌, None, Some}
use Rattle.blk_capture.specs.declared.record.Action.TheVariants as action
use Rattle.blk_capture.specs.declared.record.Record.{Record}
use Rattle.blk_capture_text.specs.Doubts.{one_if_at, tells_action}
use Rattle.blk_capture_text.specs.declared.counts.RecordCounts.{RecordCounts}

-- what is known of records of which none is kept, one after another
abbrev pub no_records : RecordCounts
no_records = record { records = 0; still = 0; last = None; queues = false; gets = false; issues = false; completes = false }

abbrev pub counted_with : RecordCounts → Record → RecordCounts
counted_with c r = record {
  records = c.records + 1;
  still = one_if_at c.still c.last r.time;
  last = Some r.time;
  queues = c.queues || tells_action action.Queue r;
  gets = c.gets || tells_action action.Get r;
  issues = c.issues || tells_action action.Issue r;
  completes = c.completes || tells_action action.Complete r;
}

unfoldable pub counted_from : RecordCounts → List Record → RecordCounts
counted_from c [] = c
counted_from c (r ∷ rs) = counted_from (counted_with c r) rs

abbrev pub records_counted : List Record → RecordCounts
records_counted rs = counted_from no_records rs
