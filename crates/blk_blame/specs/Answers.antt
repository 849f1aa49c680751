-- What is said of who was late, and why.
use Rattle.std.specs.Prelude.{ℕ, ◌-◌, ◌==◌, List, [], ◌∷◌, ◌++◌, map, true, Option, None, Some, codes, slice_get, option_map, option_and_then, if◌then◌else◌}
use Rattle.answer.specs.declared.names.TheConstants as names
use Rattle.answer.specs.declared.value.Value.{Value}
use Rattle.answer.specs.declared.value.Value.TheVariants.{Count, Nothing, Share}
use Rattle.answer.specs.declared.cells.Cell.{Cell}
use Rattle.answer.specs.declared.cells.Column.{Column}
use Rattle.answer.specs.declared.cells.Layout.TheVariants.{Name, WordsName, Words, Right}
use Rattle.answer.specs.declared.answer.Part.{Part}
use Rattle.answer.specs.declared.answer.Part.TheVariants.{Line, Object, Rows}
use Rattle.answer.specs.Parts.{cell, column, clocked}
use Rattle.blk_capture.specs.Tables.{since}
use Rattle.blk_capture.specs.declared.requests.CapturedRequest.{CapturedRequest}
use Rattle.blk_capture.specs.declared.summary.Percentiles.{Percentiles}
use Rattle.edd_blame.specs.declared.sum.Reasons.{Reasons}
use Rattle.edd_blame.specs.declared.sum.StallTime.{StallTime}
use Rattle.edd_figures.specs.declared.missing.Counts.{Counts}
use Rattle.edd_figures.specs.declared.missing.Crowd.{Crowd}
use Rattle.blk_blame.specs.Flying.{in_flight_from}
use Rattle.blk_blame.specs.declared.totals.Totals.{Totals}

abbrev pub behind : List ℕ → List ℕ → Value → Cell
behind words name value = cell (Words words) name value

abbrev pub named : List ℕ → List ℕ → Value → Cell
named words name value = cell (WordsName words) name value

-- a share, or none
abbrev pub shared : Option ℕ → Value
shared None = Nothing names.NONE.now
shared (Some share) = Share share

-- parts with what is said of the capture as a whole behind them: how many requests, how long and in which share of that at least one waited, how many were late, how many had to be and by what, how many need not have been,
-- and by how much late ones were
abbrev pub requests_part : Totals → Part
requests_part t = Line (record {
  cells = behind [] names.REQUESTS.now (Count t.requests) ∷ behind (codes " requests in ") names.SPAN.now (clocked (Some t.span)) ∷ behind (codes " ms, at least one waiting in ") names.WAITED.now (shared t.waited) ∷ [];
  end = codes " % of it" ++ 10 ∷ [];
})

abbrev pub late_part : Totals → Counts → Part
late_part t c = Line (record { cells = cell Name names.LATE.now (Count c.late) ∷ behind (codes ": reads ") names.LATE_READS.now (Count t.late_reads) ∷ behind (codes ", writes ") names.LATE_WRITES.now (Count t.late_writes) ∷ []; end = 10 ∷ [] })

abbrev pub unavoidable_part : Counts → Reasons → Part
unavoidable_part c r = Line (record {
  cells =
      behind (codes "had to be ") names.UNAVOIDABLE.now (Count c.unavoidable) ∷ behind (codes ": by stall ") names.STALLED.now (Count r.stalled)
      ∷ behind (codes ", by crowding ") names.CROWDED.now (Count r.crowded) ∷ behind (codes ", by arrival ") names.ARRIVALS.now (Count r.arrivals) ∷ [];
  end = 10 ∷ [];
})

abbrev pub avoidable_part : Counts → Part
avoidable_part c = Line (record { cells = behind (codes "the scheduler's ") names.AVOIDABLE.now (Count c.avoidable) ∷ []; end = 10 ∷ [] })

abbrev pub overrun_part : Percentiles → Part
overrun_part p = Object names.OVERRUN.now (record {
  cells = named (codes "overrun in ms: ") names.P50.now (clocked p.p50) ∷ named (codes ", ") names.P99.now (clocked p.p99) ∷ named (codes ", ") names.MAX.now (clocked p.max) ∷ [];
  end = 10 ∷ [];
})

abbrev pub with_totals : Totals → Counts → Reasons → List Part → List Part
with_totals t c r parts = ((((parts ++ requests_part t ∷ []) ++ late_part t c ∷ []) ++ unavoidable_part c r ∷ []) ++ avoidable_part c ∷ []) ++ overrun_part t.overrun ∷ []

-- when the one after n dispatches was, when the dispatch of a number, from 1 on, was, and how long it is between two times
abbrev pub time_after : ℕ → List CapturedRequest → ℕ → Option ℕ
time_after begin requests n = option_map (λ q. since begin q.dispatched) (slice_get requests n)

abbrev pub time_of_dispatch : ℕ → List CapturedRequest → ℕ → Option ℕ
time_of_dispatch begin requests n = if n == 0 then None else time_after begin requests (n - 1)

abbrev pub time_between : Option ℕ → Option ℕ → Option ℕ
time_between from until = option_and_then (λ f. option_map (λ u. u - f) until) from

-- words on a line of their own
abbrev pub title : List ℕ → Part
title words = Line (record { cells = []; end = words })

-- stalls: from the dispatch before to the next one, how many requests were due in it, and how many were at the device when it began
abbrev pub stall_columns : List Column
stall_columns = column (Right 12) names.FROM.now ∷ column (Right 12) names.UNTIL.now ∷ column (Right 10) names.LENGTH.now ∷ column (Right 10) names.REQUESTS.now ∷ column (Right 11) names.IN_FLIGHT.now ∷ []

abbrev pub stall_row : ℕ → List CapturedRequest → StallTime → List Value
stall_row begin requests s =
    let from = time_of_dispatch begin requests s.after in
    let until = time_after begin requests s.after in
    clocked from ∷ clocked until ∷ clocked (time_between from until) ∷ Count s.requests ∷ Count (in_flight_from requests s.after) ∷ []

abbrev pub with_stalls : ℕ → List CapturedRequest → List StallTime → List Part → List Part
with_stalls begin requests stalls parts =
    (parts ++ title (10 ∷ codes "stalls, in which the device took nothing, the greatest first, in ms:" ++ 10 ∷ []) ∷ [])
    ++ Rows (record { name = names.STALLS.now; columns = stall_columns; head = true; rows = map (stall_row begin requests) stalls }) ∷ []

-- windows: from the first dispatch to the last, how many requests lie in it, and how many dispatches
abbrev pub window_columns : List Column
window_columns = column (Right 12) names.FROM.now ∷ column (Right 12) names.UNTIL.now ∷ column (Right 10) names.LENGTH.now ∷ column (Right 10) names.REQUESTS.now ∷ column (Right 10) names.CARRIES.now ∷ []

abbrev pub window_row : ℕ → List CapturedRequest → Crowd → List Value
window_row begin requests w =
    let from = time_of_dispatch begin requests w.window.from in
    let until = time_of_dispatch begin requests w.window.due in
    clocked from ∷ clocked until ∷ clocked (time_between from until) ∷ Count w.commands ∷ Count w.carries ∷ []

abbrev pub with_windows : ℕ → List CapturedRequest → List Crowd → List Part → List Part
with_windows begin requests windows parts =
    (parts ++ title (10 ∷ codes "crowded windows, with more requests than dispatches, the greatest first, in ms:" ++ 10 ∷ []) ∷ [])
    ++ Rows (record { name = names.WINDOWS.now; columns = window_columns; head = true; rows = map (window_row begin requests) windows }) ∷ []
