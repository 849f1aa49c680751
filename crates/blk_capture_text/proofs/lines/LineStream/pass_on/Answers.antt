use Rattle.std.proofs.Common.{◌≡◌, ◌∙◌, ◌++◌, false, List, sym, subst}
use Rattle.blk_capture.specs.declared.record.Record.{Record}
use Rattle.blk_recorders.specs.Steps.{is_unordered}
use Rattle.blk_capture_text.specs.Streaming.{HasStreamed}
use Rattle.blk_capture_text.proofs.Passing.{passed_on}
use Rattle.blk_capture_text.proofs.lines.LineStream.pass_on.Goals as goal

pub returns : goal.returns
returns c = λ o d past given read.
    let unordered : is_unordered c.args.recorder ≡ false = sym c.is_unordered.ensures ∙ c.if-is_unordered.false in
    let all = c.in_ok-take_all.ensures in
    passed_on o c.args.recorder d past given c.args.self.now _ read unordered c.let_go.ensures.goes c.let_go.ensures.none c.let_go.ensures.number
    (subst (λ (rs : List Record). HasStreamed (given ++ rs) c.take_all.new.self) c.records.ensures (all.streamed given read.streamed)) all.steady all.options
