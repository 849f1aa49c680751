use Rattle.std.proofs.Common.{List, ℕ, length, count_by, ◌∙◌, ap, subst}
use Rattle.std.proofs.lemmas.List.{length-map}
use Rattle.blk_bio.specs.declared.bio.Dir.TheVariants.{Read, Write}
use Rattle.blk_capture.specs.Summaries.{time_in, ArePercentiles}
use Rattle.blk_capture.specs.Inside.Figures.{flight_of, is_late_flight}
use Rattle.blk_capture.specs.declared.summary.Phase.TheVariants.{Tag, Scheduler, Device}
use Rattle.blk_capture.specs.declared.summary.TheConstants.{MAX_STREAMED}
use Rattle.blk_capture.proofs.Figured.{counted_map, few_times}
use Rattle.blk_capture.proofs.figures.Figures.summary.Goals as goal

pub percentiles_of-requires : goal.percentiles_of-requires
percentiles_of-requires g c = few_times (time_in Tag) c.requires.0 c.as_mut_slice.result.now MAX_STREAMED (c.as_mut_slice.ensures.value ∙ c.requires.1.tag) c.requires.2

pub percentiles_of-requires-2 : goal.percentiles_of-requires-2
percentiles_of-requires-2 g c = few_times (time_in Scheduler) c.requires.0 c.as_mut_slice-2.result.now MAX_STREAMED (c.as_mut_slice-2.ensures.value ∙ c.requires.1.scheduler) c.requires.2

pub percentiles_of-requires-3 : goal.percentiles_of-requires-3
percentiles_of-requires-3 g c = few_times (time_in Device) c.requires.0 c.as_mut_slice-3.result.now MAX_STREAMED (c.as_mut_slice-3.ensures.value ∙ c.requires.1.device) c.requires.2

pub returns : goal.returns
returns g c = λ rs qs bs fs are timed records bios merges.
    let flights = c.as_slice-flights.ensures.value ∙ are.flights in
    record {
      records_are = records;
      bios_are = bios;
      requests_are = ap length flights ∙ length-map qs flight_of;
      merges_are = merges;
      late_reads_are = c.count_late.ensures ∙ ap (count_by (is_late_flight Read)) flights ∙ counted_map (is_late_flight Read) flight_of qs;
      late_writes_are = c.count_late-2.ensures ∙ ap (count_by (is_late_flight Write)) flights ∙ counted_map (is_late_flight Write) flight_of qs;
      tag_is = subst (λ (xs : List ℕ). ArePercentiles xs c.percentiles_of.result) (c.as_mut_slice.ensures.value ∙ are.tag) c.percentiles_of.ensures;
      scheduler_is = subst (λ (xs : List ℕ). ArePercentiles xs c.percentiles_of-2.result) (c.as_mut_slice-2.ensures.value ∙ are.scheduler) c.percentiles_of-2.ensures;
      device_is = subst (λ (xs : List ℕ). ArePercentiles xs c.percentiles_of-3.result) (c.as_mut_slice-3.ensures.value ∙ are.device) c.percentiles_of-3.ensures;
      in_flight_is = c.most_at_once.ensures qs flights timed (c.as_mut_slice-4.ensures.value ∙ are.completions);
    }
