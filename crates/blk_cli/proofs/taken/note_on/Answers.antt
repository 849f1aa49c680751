use Rattle.std.proofs.Common.{◌≡◌, ◌∙◌, ap, subst}
use Rattle.blk_capture_text.specs.SummaryText.{counts_of}
use Rattle.blk_capture_text.specs.declared.numbers.UnusedCounts.{UnusedCounts}
use Rattle.blk_cli.specs.Importing.{line_on, noted}
use Rattle.blk_cli.specs.Notes.{IsDoubtTold}
use Rattle.blk_cli.proofs.taken.note_on.Goals as goal

pub returns-in-Ok : goal.returns-in-Ok
returns-in-Ok c =
    let counted : c.count_fates-counts.result ≡ counts_of c.args.matched.now.fates.items = c.count_fates-counts.ensures ∙ ap counts_of c.as_slice.ensures.value in
    let most = c.in_ok-summary.summary.in_flight in
    let told = c.in_ok-doubts.doubts.items in
    let of_requests : IsDoubtTold c.args.records.now c.args.matched.now.requests.items most c.args.tags c.count_fates-counts.result.unmatched told =
    c.in_ok-doubts.ensures c.args.records.now c.args.matched.now.requests.items c.of.ensures c.in_ok-summary.ensures.device_is in
    record {
      most = most;
      is_most = c.in_ok-summary.ensures.in_flight_is;
      told = told;
      doubts = subst (λ (u : UnusedCounts). IsDoubtTold c.args.records.now c.args.matched.now.requests.items most c.args.tags u.unmatched told) counted of_requests;
      is = c.in-Ok.ensures ∙ ap (noted told) (c.in_ok-note.ensures ∙ ap line_on counted);
    }
