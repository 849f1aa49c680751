use Rattle.std.proofs.Common.{◌≡◌, ◌<◌, ℕ, length, get_or, take}
use Rattle.edd_check.specs.declared.Window.{Window}
use Rattle.edd_check.specs.OnTime.{inside_of}
use Rattle.edd_figures.proofs.missing.inside_each.Given as goal

-- a count for each window, of the commands so far
abbrev pub invariant-loop-command : goal.invariant-loop-command
invariant-loop-command g l = record {
  each : length l.counts.items ≡ length l.cover;
  so_far : (k : ℕ) (d : Window) → k < length l.cover → get_or l.counts.items k 0 ≡ inside_of (take l.command-index l.commands) (get_or l.cover k d);
}
