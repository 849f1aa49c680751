-- A capture in numbers.
use Rattle.std.specs.Prelude.{ℕ, ◌+◌, ◌-◌, ◌^◌, min, Bool, true, false, ◌++◌, ◌∷◌, [], List, count_by, decimal, codes}
use Rattle.answer.specs.declared.names.TheConstants as names
use Rattle.answer.specs.declared.answer.Part.{Part}
use Rattle.answer.specs.declared.answer.Part.TheVariants.{Member, Object}
use Rattle.answer.specs.declared.cells.Layout.TheVariants.{OtherName, Space}
use Rattle.answer.specs.declared.value.Value.TheVariants.{Count}
use Rattle.answer.specs.Parts.{cell, counted}
use Rattle.blk_capture.specs.Fates.{is_of_kind, is_passed, is_unmatched}
use Rattle.blk_capture.specs.declared.fates.Fate.{Fate}
use Rattle.blk_capture.specs.declared.record.PassReason.TheVariants as passed
use Rattle.blk_capture.specs.declared.summary.Percentiles.{Percentiles}
use Rattle.blk_capture.specs.declared.summary.Summary.{Summary}
use Rattle.blk_capture_text.specs.declared.numbers.UnusedCounts.{UnusedCounts}

-- how many records were not matched, and how many passed over, by the reason
abbrev pub counts_of : List Fate → UnusedCounts
counts_of fates = record {
  unmatched = count_by is_unmatched fates;
  passed = count_by is_passed fates;
  plugs = count_by (is_of_kind passed.Plug) fates;
  unplugs = count_by (is_of_kind passed.Unplug) fates;
  actions = count_by (is_of_kind passed.Action) fates;
  discards = count_by (is_of_kind passed.Discard) fates;
  erases = count_by (is_of_kind passed.Erase) fates;
  flushes = count_by (is_of_kind passed.Flush) fates;
  others = count_by (is_of_kind passed.Nothing) fates;
  empty = count_by (is_of_kind passed.Empty) fates;
  past_end = count_by (is_of_kind passed.PastEnd) fates;
}

-- one more where something holds, of a count that stays at the greatest number of 64 bits; and one record more, of which this is known
abbrev pub one_counted : ℕ → Bool → ℕ
one_counted n true = min (n + 1) (2 ^ 64 - 1)
one_counted n false = n

abbrev pub counts_with : UnusedCounts → Fate → UnusedCounts
counts_with c f = record {
  unmatched = one_counted c.unmatched (is_unmatched f);
  passed = one_counted c.passed (is_passed f);
  plugs = one_counted c.plugs (is_of_kind passed.Plug f);
  unplugs = one_counted c.unplugs (is_of_kind passed.Unplug f);
  actions = one_counted c.actions (is_of_kind passed.Action f);
  discards = one_counted c.discards (is_of_kind passed.Discard f);
  erases = one_counted c.erases (is_of_kind passed.Erase f);
  flushes = one_counted c.flushes (is_of_kind passed.Flush f);
  others = one_counted c.others (is_of_kind passed.Nothing f);
  empty = one_counted c.empty (is_of_kind passed.Empty f);
  past_end = one_counted c.past_end (is_of_kind passed.PastEnd f);
}

-- a phase: the median, the 99th of a hundred and the greatest
abbrev pub phase_part : List ℕ → Percentiles → Part
phase_part name p = Object name (record {
  cells = cell (OtherName name) names.P50.now (counted p.p50) ∷ cell Space names.P99.now (counted p.p99) ∷ cell Space names.MAX.now (counted p.max) ∷ [];
  end = 10 ∷ [];
})

-- how much there is, how long the phases took, and what isn't counted there
abbrev pub summary_parts : Summary → ℕ → UnusedCounts → List Part
summary_parts s left_out c =
    Member names.RECORDS.now (Count s.records) ∷ Member names.BIOS.now (Count s.bios) ∷ Member names.REQUESTS.now (Count s.requests)
    ∷ Member names.MERGES.now (Count s.merges) ∷ Member names.SUMMARY_LATE_READS.now (Count s.late_reads) ∷ Member names.SUMMARY_LATE_WRITES.now (Count s.late_writes)
    ∷ phase_part names.Q_TO_G.now s.tag ∷ phase_part names.I_TO_D.now s.scheduler ∷ phase_part names.D_TO_C.now s.device
    ∷ Member names.SUMMARY_IN_FLIGHT.now (Count s.in_flight) ∷ Member names.LEFT_OUT.now (Count left_out) ∷ Member names.UNMATCHED.now (Count c.unmatched)
    ∷ Member names.PLUGS.now (Count c.plugs) ∷ Member names.UNPLUGS.now (Count c.unplugs) ∷ Member names.ACTIONS.now (Count c.actions)
    ∷ Member names.DISCARDS.now (Count c.discards) ∷ Member names.ERASES.now (Count c.erases) ∷ Member names.FLUSHES.now (Count c.flushes)
    ∷ Member names.OTHERS.now (Count c.others) ∷ Member names.EMPTY.now (Count c.empty) ∷ Member names.PAST_END.now (Count c.past_end) ∷ []

-- the line of what was passed over or not matched
abbrev pub notice_line : UnusedCounts → List ℕ
notice_line c = (((codes "blk: passed over " ++ decimal c.passed) ++ codes ", unmatched ") ++ decimal c.unmatched) ++ 10 ∷ []
