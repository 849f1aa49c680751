-- What is written of a capture in numbers is that of the records that were streamed.
use Rattle.std.proofs.Common.{◌≡◌, ◌∙◌, true, ℕ, List, Option, None, refl, subst, ap}
use Rattle.answer.specs.Lines.{answer_lines}
use Rattle.answer.specs.declared.answer.Part.{Part}
use Rattle.blk_capture.specs.declared.record.Record.{Record}
use Rattle.blk_capture_text.specs.Imports.{IsImport}
use Rattle.blk_capture_text.specs.Streaming.{IsStreamed}
use Rattle.blk_capture_text.specs.SummaryText.{summary_parts, counts_of}
use Rattle.blk_capture_text.specs.declared.importing.ImportAsked.{ImportAsked}
use Rattle.blk_capture_text.specs.declared.numbers.UnusedCounts.{UnusedCounts}
use Rattle.blk_capture_text.specs.declared.source.Printed.{Printed}
use Rattle.blk_capture_text.specs.declared.streaming.StreamedSummary.{StreamedSummary}
use Rattle.blk_args.specs.declared.words.Import.{Import}
use Rattle.blk_cli.specs.Importing.{asked_of, tags_asked, noted, SaysFrom, IsSummed}
use Rattle.blk_cli.specs.Notes.{IsDoubtTold, SaysDoubt}
use Rattle.blk_cli.specs.Said.{Said}

pub sums_up : (i : Import) (records : List Record) (printed : Option Printed) (asked : ImportAsked) (sum : StreamedSummary) (tags : ℕ) (parts : List Part) (text told : List ℕ) (note : Option (List ℕ)) (s : Said)
    → asked ≡ asked_of i → IsStreamed records asked sum → tags ≡ tags_asked i.source.tags
    → parts ≡ summary_parts sum.summary sum.left_out sum.unused → text ≡ answer_lines parts → SaysDoubt sum.counts sum.summary tags sum.unused.unmatched told
    → note ≡ noted told None → SaysFrom printed sum.counts (record { text = text; note = note; good = true }) s → IsSummed i records printed s
sums_up i records printed asked sum tags parts text told note s same st by are_parts is_text doubts is_note said =
    let of_taken : IsDoubtTold records st.requests sum.summary.in_flight tags sum.unused.unmatched told = doubts records st.requests st.counts st.is_summary.device_is in
    let of_tags : IsDoubtTold records st.requests sum.summary.in_flight (tags_asked i.source.tags) sum.unused.unmatched told =
    subst (λ n. IsDoubtTold records st.requests sum.summary.in_flight n sum.unused.unmatched told) by of_taken in
    record {
      base = record { text = text; note = note; good = true };
      summary_of = record {
        requests = st.requests;
        bios = st.bios;
        fates = st.fates;
        absorbed = st.absorbed;
        left_out = sum.left_out;
        is_import = subst (λ a. IsImport records a st.requests st.bios st.fates st.absorbed sum.left_out) same st.is_import;
        parts = parts;
        is_answer = (sum.summary, st.is_summary, are_parts ∙ ap (summary_parts sum.summary sum.left_out) st.unused);
        is_text = is_text;
        is_note = record {
          most = sum.summary.in_flight;
          is_most = st.is_summary.in_flight_is;
          told = told;
          doubts = subst (λ (u : UnusedCounts). IsDoubtTold records st.requests sum.summary.in_flight (tags_asked i.source.tags) u.unmatched told) st.unused of_tags;
          is = is_note;
        };
        good = refl;
      };
      said = said records st.counts;
    }
