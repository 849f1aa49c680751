use Rattle.std.proofs.Common.{◌∙◌, sym}
use Rattle.std.proofs.lemmas.List.{take_rest}
use Rattle.blk_explain.proofs.Walks.{strip_marked}
use Rattle.blk_explain.proofs.lines.unmarked.Goals as goal

pub returns-then-is_mark : goal.returns-then-is_mark
returns-then-is_mark c = take_rest c.args.bytes.now 3 ∙ sym (strip_marked c.args.bytes.now c.if-bytes-lt3.false (sym c.is_mark.ensures ∙ c.if-is_mark.true))
