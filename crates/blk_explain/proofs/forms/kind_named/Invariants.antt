use Rattle.std.proofs.Common.{take}
use Rattle.blk_explain.proofs.Worded.{Lacks}
use Rattle.blk_explain.proofs.forms.kind_named.Given as goal

abbrev pub invariant-loop-kind : goal.invariant-loop-kind
invariant-loop-kind l = Lacks l.word (take l.kind-index l.kinds)
