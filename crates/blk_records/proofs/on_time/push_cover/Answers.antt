use Rattle.std.proofs.Common.{[], ◌∷◌, arith}
use Rattle.text_output.specs.Drafts.{draft_text}
use Rattle.blk_records.proofs.OnTimeLaws.{window_row}
use Rattle.blk_records.proofs.DraftLemmas.{one_more_at, none_first, whole}
use Rattle.blk_records.proofs.on_time.push_cover.Goals as goal

pub loop-i-init : goal.loop-i-init
loop-i-init c = record { text = none_first (draft_text c.args.draft.now) }

pub loop-i-preserved : goal.loop-i-preserved
loop-i-preserved c = record {
  text = one_more_at (λ w. window_row w ∷ []) (draft_text c.args.draft.now) [] c.args.cover.now c.loop-i.i (record { from = 0; due = 0 }) (draft_text c.loop-i.draft) (draft_text c.push.new.draft)
      c.loop-i-test.true c.loop-i.invariant.text c.in_ok-push.ensures.text;
}

pub returns : goal.returns
returns c = record { text = whole window_row (draft_text c.args.draft.now) [] c.args.cover.now c.loop-i.i (draft_text c.loop-i.draft) (omega arith) c.loop-i.invariant.text }
