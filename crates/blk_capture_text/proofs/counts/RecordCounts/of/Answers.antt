use Rattle.std.proofs.Common.{◌+◌, ◌∙◌, ℕ, List, drop, sym, ap, arith}
use Rattle.std.proofs.lemmas.List.{drop_all}
use Rattle.blk_capture.proofs.Folding.{no_record}
use Rattle.blk_capture.specs.declared.record.Record.{Record}
use Rattle.blk_capture_text.specs.Counts.{counted_from}
use Rattle.blk_capture_text.specs.declared.counts.RecordCounts.{RecordCounts}
use Rattle.blk_capture_text.proofs.Doubting.{counted_next, none_more}
use Rattle.blk_capture_text.proofs.counts.RecordCounts.of.Goals as goal

pub loop-record-preserved : goal.loop-record-preserved
loop-record-preserved c =
    let records : List Record = c.args.records.now in
    let i : ℕ = c.loop-record.record-index in
    let value = c.with-counts.ensures.value in
    let each = c.loop-record.invariant.each in
    record {
      all = ap (λ (k : RecordCounts). counted_from k (drop (i + 1) records)) value ∙ sym (counted_next c.loop-record.counts records i no_record c.loop-record-test.true) ∙ c.loop-record.invariant.all;
      each = ap (λ (k : RecordCounts). k.records) value ∙ ap (λ (n : ℕ). n + 1) each;
      still = c.with-counts.ensures.still;
    }

pub returns : goal.returns
returns c =
    let records : List Record = c.args.records.now in
    sym (none_more c.loop-record.counts) ∙ ap (counted_from c.loop-record.counts) (sym (drop_all c.loop-record.record-index records (let past = c.loop-record-test.false in omega (arith, past)))) ∙ c.loop-record.invariant.all
