-- The picture of what the late requests of a capture are blamed on.
use Rattle.std.specs.Prelude.{ℕ, ◌++◌, ◌∷◌, [], List, Option, None, Some, codes, map, zip, true, false}
use Rattle.std.specs.Option.{unwrap_or}
use Rattle.answer.specs.declared.answer.Part.{Part}
use Rattle.answer.specs.declared.answer.Part.TheVariants.{Line}
use Rattle.answer.specs.declared.cells.Cell.{Cell}
use Rattle.answer.specs.declared.cells.Layout.TheVariants.{Words}
use Rattle.answer.specs.declared.value.Value.TheVariants.{Count}
use Rattle.answer.specs.Lines.{answer_lines}
use Rattle.answer.specs.Parts.{cell}
use Rattle.blk_bio.specs.declared.bio.Dir.{Dir}
use Rattle.blk_bio.specs.declared.bio.Dir.TheVariants.{Read, Write}
use Rattle.blk_capture.specs.Tables.{since}
use Rattle.blk_capture.specs.declared.requests.CapturedRequest.{CapturedRequest}
use Rattle.edd_blame.specs.declared.late.Cause.{Cause}
use Rattle.edd_blame.specs.declared.late.Cause.TheVariants.{Arrival, Stall, Spare, Full}
use Rattle.edd_blame.specs.declared.sum.Reasons.{Reasons}
use Rattle.edd_blame.specs.declared.sum.StallTime.{StallTime}
use Rattle.edd_commands.specs.declared.Command.{Command}
use Rattle.edd_figures.specs.declared.missing.Counts.{Counts}
use Rattle.edd_figures.specs.declared.missing.Crowd.{Crowd}
use Rattle.blk_lanes.specs.declared.bars.Bar.{Bar}
use Rattle.blk_lanes.specs.declared.bars.Span.{Span}
use Rattle.blk_lanes.specs.declared.bars.Mark.{Mark}
use Rattle.blk_lanes.specs.declared.bars.Mark.TheVariants as mark
use Rattle.blk_lanes.specs.declared.bars.Unit.TheVariants as unit
use Rattle.blk_lanes.specs.declared.bars.Way.{Way}
use Rattle.blk_lanes.specs.declared.bars.Way.TheVariants as way
use Rattle.blk_lanes.specs.Held.{IsDrawn}
use Rattle.blk_blame.specs.Account.{IsBlameAccount}
use Rattle.blk_blame.specs.Answers.{behind, time_after, time_of_dispatch}
use Rattle.blk_blame.specs.declared.account.Account.{Account}

abbrev pub way_by : Dir → Way
way_by Read = way.Read
way_by Write = way.Write

abbrev pub mark_of_cause : Option Cause → Mark
mark_of_cause None = mark.OnTime
mark_of_cause (Some Arrival) = mark.Arrival
mark_of_cause (Some Stall) = mark.Stall
mark_of_cause (Some Spare) = mark.Spare
mark_of_cause (Some (Full w)) = mark.Full

-- a request, from its entry to its dispatch, by the number of this
abbrev pub request_bar : ℕ → (Command × CapturedRequest) × Option Cause → Bar
request_bar begin p = record {
  id = p.0.0.id;
  way = way_by p.0.1.dir;
  from = since begin p.0.1.entry;
  due = since begin p.0.1.deadline;
  to = since begin p.0.1.dispatched;
  mark = mark_of_cause p.1;
}

abbrev pub request_bars : ℕ → List Command → List CapturedRequest → List (Option Cause) → List Bar
request_bars begin commands requests causes = map (request_bar begin) (zip (zip commands requests) causes)

-- a stall, from the dispatch before it to the next one, and a window, from its first dispatch to its last
abbrev pub stall_span : ℕ → List CapturedRequest → StallTime → Span
stall_span begin requests s = record {
  from = unwrap_or (time_of_dispatch begin requests s.after) 0;
  to = unwrap_or (time_after begin requests s.after) 0;
  requests = s.requests;
  carries = 0;
  stall = true;
}

abbrev pub crowd_span : ℕ → List CapturedRequest → Crowd → Span
crowd_span begin requests w = record {
  from = unwrap_or (time_of_dispatch begin requests w.window.from) 0;
  to = unwrap_or (time_of_dispatch begin requests w.window.due) 0;
  requests = w.commands;
  carries = w.carries;
  stall = false;
}

abbrev pub all_spans : ℕ → List CapturedRequest → List StallTime → List Crowd → List Span
all_spans begin requests stalls windows = map (stall_span begin requests) stalls ++ map (crowd_span begin requests) windows

-- how many were late, how many had to be, by what, and how many need not have been
abbrev pub heading_part : Counts → Reasons → Part
heading_part c r = Line (record {
  cells =
      behind (codes "requests ") [] (Count c.commands) ∷ behind (codes ", late ") [] (Count c.late) ∷ behind (codes "; had to be ") [] (Count c.unavoidable)
      ∷ behind (codes ": by stall ") [] (Count r.stalled) ∷ behind (codes ", by crowding ") [] (Count r.crowded)
      ∷ behind (codes ", by arrival ") [] (Count r.arrivals) ∷ behind (codes "; the scheduler's ") [] (Count c.avoidable) ∷ [];
  end = [];
})

-- the picture: its requests by their causes, and its stalls and windows
pub record IsBlamePicture (begin : ℕ) (requests : List CapturedRequest) (text : List ℕ) : Type 0 where
  pub account : Account
  pub is_account : IsBlameAccount requests account
  pub drawn : IsDrawn unit.Nanoseconds (answer_lines (heading_part account.blame.misses.counts account.blame.reasons ∷ []))
      (request_bars begin account.counted.commands.items requests account.causes.items)
      (all_spans begin requests account.blame.stalls.items account.blame.misses.windows.items) text
