use Rattle.std.proofs.Common.{◌≡◌, ◌≤◌, ◌+◌, ◌-◌, take, length}
use Rattle.blk_recorders.specs.Detected.{first_form, form_of_lines}
use Rattle.blk_recorders.specs.declared.detect.TheConstants.{FIRST_LINES}
use Rattle.blk_recorders.proofs.Cutting.{lines_left}
use Rattle.blk_recorders.proofs.detect.form_of.Given as goal

-- the lines that are left tell
abbrev pub invariant-loop-line : goal.invariant-loop-line
invariant-loop-line l = record {
  within : l.begin ≤ length l.text + 1;
  same : first_form (take (FIRST_LINES - l._line) (lines_left l.text l.begin)) ≡ form_of_lines l.text;
}
