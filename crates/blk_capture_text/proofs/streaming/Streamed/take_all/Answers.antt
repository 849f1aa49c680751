use Rattle.std.proofs.Common.{◌∙◌, ◌++◌, ℕ, List, take, get_or, subst, arith}
use Rattle.blk_capture.proofs.Folding.{no_record}
use Rattle.blk_capture.specs.declared.record.Record.{Record}
use Rattle.blk_capture_text.specs.Streaming.{HasStreamed}
use Rattle.blk_capture_text.proofs.Lining.{next_behind, taken_next}
use Rattle.blk_capture_text.proofs.streaming.Streamed.take_all.Goals as goal

pub take-requires-clause-time : goal.take-requires-clause-time
take-requires-clause-time c =
    let behind = c.requires.behind in
    let had = c.loop-record.invariant.streamed behind.0 behind.1 in
    had.next (get_or c.args.records.now c.loop-record.record-index no_record) (next_behind behind.0 c.args.records.now c.loop-record.record-index no_record behind.2 c.loop-record-test.true)

pub loop-record-preserved : goal.loop-record-preserved
loop-record-preserved c =
    let records : List Record = c.args.records.now in
    let i : ℕ = c.loop-record.record-index in
    let ensures = c.in_ok-take.ensures in
    let count = ensures.count in
    let before = c.loop-record.invariant.count in
    record {
      work = ensures.steady;
      streamed = λ past had. subst (λ (rs : List Record). HasStreamed rs c.take.new.self) (taken_next past records i no_record c.loop-record-test.true) (ensures.streamed (past ++ take i records) (c.loop-record.invariant.streamed past had));
      options = ensures.options ∙ c.loop-record.invariant.options;
      count = omega (arith, count, before);
    }
