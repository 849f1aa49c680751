use Rattle.std.proofs.Common.{arith, ◌∷◌, [], decimal, length}
use Rattle.blk_text.specs.Inside.BioTable.{bio_row}
use Rattle.blk_text.specs.Inside.TraceRecords.{word_row}
use Rattle.blk_text.specs.TraceRecords.{BioFits}
use Rattle.std.proofs.lemmas.List.{take_all}
use Rattle.blk_text.proofs.TraceLemmas.{one_fits}
use Rattle.blk_records.proofs.DraftLemmas.{one_more, whole}
use Rattle.text_output.specs.Drafts.{draft_text}
use Rattle.blk_text.proofs.heads.push_group.Goals as goal

pub loop-i-preserved : goal.loop-i-preserved
loop-i-preserved g c = record {
  text = one_more (λ b. bio_row b ∷ []) (draft_text c.args.draft.now) (word_row c.args.kind.now.word (decimal c.args.id) (decimal (length c.args.bios.now)) ∷ []) c.args.bios.now c.loop-i.i c.index-bios-i.result (draft_text c.loop-i.draft) (draft_text c.push_bio.new.draft)
      c.loop-i-test.true c.index-bios-i.is c.loop-i.invariant.text c.in_ok-push_bio.ensures.text;
  fits = one_fits BioFits c.args.bios.now c.loop-i.i c.index-bios-i.result c.loop-i-test.true c.index-bios-i.is c.loop-i.invariant.fits c.in_ok-push_bio.ensures.fits;
}

pub returns : goal.returns
returns g c = record {
  text = whole bio_row (draft_text c.args.draft.now) (word_row c.args.kind.now.word (decimal c.args.id) (decimal (length c.args.bios.now)) ∷ []) c.args.bios.now c.loop-i.i (draft_text c.loop-i.draft) (omega arith) c.loop-i.invariant.text;
  fits = rw (take_all c.loop-i.i c.args.bios.now (omega arith)) at c.loop-i.invariant.fits;
}
