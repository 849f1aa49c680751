use Rattle.std.proofs.Common.{◌∷◌, ◌∙◌, [], length, arith, ap}
use Rattle.blk_text.specs.SetupRecord.{setup_row}
use Rattle.blk_text.specs.Inside.TraceRecords.{event_rows, title_row}
use Rattle.blk_text.specs.TraceRecords.{EventFits}
use Rattle.blk_records.proofs.DraftLemmas.{one_more, two_first}
use Rattle.std.proofs.lemmas.List.Elements.{All-nil}
use Rattle.blk_records.specs.Texts.{rows_text}
use Rattle.blk_text.proofs.TraceLaws.{rows_are}
use Rattle.blk_text.proofs.TraceLemmas.{all_events, few_at, one_fits, all_fit, if_ok}
use Rattle.text_output.specs.Drafts.{draft_text}
use Rattle.blk_text.proofs.trace.trace_text.Goals as goal

pub loop-i-init : goal.loop-i-init
loop-i-init g c =
    let setup = c.setup-setup.ensures in
    record {
      text = two_first (title_row c.args.trace.now.setup (length c.events-events.result.now)) (setup_row c.args.trace.now.setup ∷ []) (draft_text c.new-draft.result) (draft_text c.push.new.draft) (draft_text c.push_setup.new.draft)
          c.new-draft.ensures (rw (c.depth.ensures.value, c.hw.ensures.value, setup) at c.in_ok-push.ensures.text) (rw setup at c.in_ok-push_setup.ensures.text);
      fits = All-nil EventFits;
    }

pub loop-i-preserved : goal.loop-i-preserved
loop-i-preserved g c = record {
  text = one_more event_rows [] (title_row c.args.trace.now.setup (length c.events-events.result.now) ∷ setup_row c.args.trace.now.setup ∷ []) c.events-events.result.now c.loop-i.i c.index-events-i.result
      (draft_text c.loop-i.draft) (draft_text c.push_event.new.draft) c.loop-i-test.true c.index-events-i.is c.loop-i.invariant.text c.in_ok-push_event.ensures.text;
  fits = one_fits EventFits c.events-events.result.now c.loop-i.i c.index-events-i.result c.loop-i-test.true c.index-events-i.is c.loop-i.invariant.fits c.in_ok-push_event.ensures.fits;
}

pub returns-clause-text : goal.returns-clause-text
returns-clause-text g c =
    let all = all_events (draft_text c.loop-i.draft) c.args.trace.now c.events-events.result.now c.loop-i.i (omega arith) c.events-events.ensures.events c.loop-i.invariant.text in
    rw (all ∙ ap rows_text (rows_are c.args.trace.now)) at c.finish.ensures

pub push_event-requires : goal.push_event-requires
push_event-requires g c =
    let setup = c.setup-setup.ensures in
    let whole = rw setup at c.in_ok-push_setup.ensures.whole in
    few_at c.args.trace.now c.events-events.result.now c.loop-i.i c.index-events-i.result whole.is_limits c.events-events.ensures.legal c.events-events.ensures.events
    c.loop-i-test.true c.index-events-i.is

pub returns-clause-fits : goal.returns-clause-fits
returns-clause-fits g c =
    let setup = c.setup-setup.ensures in
    let fit = all_fit c.args.trace.now c.events-events.result.now c.loop-i.i (omega arith) c.events-events.ensures.events c.loop-i.invariant.fits in
    if_ok c.finish.result record { setup = rw setup at c.in_ok-push_setup.ensures.whole; events = fit; legal = c.events-events.ensures.legal }
