use Rattle.std.proofs.Common.{ℕ, ◌≡◌, ◌≤◌, ◌+◌, ◌-◌, ◌++◌, ◌⊎◌, List, [], length}
use Rattle.blk_capture.specs.declared.record.Record.{Record}
use Rattle.blk_recorders.specs.Steps.{read_from, lines_of, sofar, steps_read, HasWholeLines, IsCountedOn}
use Rattle.blk_recorders.proofs.Cutting.{lines_left}
use Rattle.blk_recorders.proofs.steps.StepReader.take_lines.Given as goal

-- whatever stands behind the text, the lines that are left go on from what was read
abbrev pub invariant-loop-begin : goal.invariant-loop-begin
invariant-loop-begin l = record {
  within : l.begin ≤ length l.text + 1;
  landed : (rest : List ℕ) → HasWholeLines l.text rest → (l.begin ≤ length l.text) ⊎ (rest ≡ []);
  same : (past : List Record) (rest : List ℕ) → HasWholeLines l.text rest → read_from l.most l.recorder l.asked l.self.number (sofar past l.self) (lines_left (l.text ++ rest) l.begin) ≡ read_from l.most l.recorder l.asked l.initial.self.number (sofar past l.initial.self) (lines_of (l.text ++ rest));
  counted : IsCountedOn l.initial.self l.self;
  few : steps_read l.initial.self ≤ l.most → steps_read l.self ≤ l.most;
}

abbrev pub decreases-loop-begin : goal.decreases-loop-begin
decreases-loop-begin l = length l.text + 1 - l.begin
