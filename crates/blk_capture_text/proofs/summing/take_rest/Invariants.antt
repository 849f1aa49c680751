use Rattle.std.proofs.Common.{◌≡◌, ◌++◌, ℕ, List, length}
use Rattle.std.specs.Io.KnownBytes.{Consumes}
use Rattle.blk_capture.specs.declared.requests.Options.{Options}
use Rattle.blk_capture_text.specs.Inside.Along.{IsAlong}
use Rattle.blk_capture_text.proofs.summing.take_rest.Given as goal

-- what was taken in is a text behind the first
abbrev pub invariant-loop : goal.invariant-loop
invariant-loop g l = record {
  along : (o : Options) (text : List ℕ) → IsAlong o l.recorder l.device text l.initial.stream → (more : List ℕ) × IsAlong o l.recorder l.device (text ++ more) l.stream × Consumes l.initial.records.bytes l.records.bytes more;
  room : length l.part ≡ length l.initial.part;
}
