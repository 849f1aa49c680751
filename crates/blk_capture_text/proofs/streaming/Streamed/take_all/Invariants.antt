use Rattle.std.proofs.Common.{◌≡◌, ◌+◌, ◌++◌, List, take}
use Rattle.blk_capture.specs.declared.record.Record.{Record}
use Rattle.blk_capture_text.specs.Streaming.{IsAtWork, HasStreamed, stream_count, stream_options}
use Rattle.blk_capture_text.proofs.streaming.Streamed.take_all.Given as goal

abbrev pub invariant-loop-record : goal.invariant-loop-record
invariant-loop-record l = record {
  work : IsAtWork l.self;
  streamed : (past : List Record) → HasStreamed past l.initial.self → HasStreamed (past ++ take l.record-index l.records) l.self;
  options : stream_options l.self ≡ stream_options l.initial.self;
  count : stream_count l.self ≡ stream_count l.initial.self + l.record-index;
}
