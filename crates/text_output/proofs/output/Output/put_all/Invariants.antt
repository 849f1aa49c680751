use Rattle.std.proofs.Common.{take}
use Rattle.std.specs.Prelude.{flat_map}
use Rattle.text_output.specs.Outputs.{IsWritten, stream_of}
use Rattle.text_output.proofs.output.Output.put_all.Given as goal

abbrev pub invariant-loop-i : goal.invariant-loop-i
invariant-loop-i g l = record {
  written : IsWritten (flat_map (λ part. part.now) (take l.i l.parts)) (stream_of g.W.Write.contents l.initial.self) (stream_of g.W.Write.contents l.self);
}
