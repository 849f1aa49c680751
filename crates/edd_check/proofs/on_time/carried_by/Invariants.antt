use Rattle.std.proofs.Common.{◌≡◌, ◌<◌, ◌≤◌, ◌*◌, ◌-◌, ◌+◌, take, slice_index_or}
use Rattle.edd_check.specs.declared.Window.{Window}
use Rattle.edd_check.specs.OnTime.{carried_by}
use Rattle.edd_check.proofs.on_time.carried_by.Given as goal

abbrev pub invariant-loop-window : goal.invariant-loop-window
invariant-loop-window g l = record {
  so_far : l.total ≡ carried_by l.capacity (take l.window-index l.cover);
  none : l.window-index ≡ 0 → l.total ≡ 0;
  small : (d : Window) → 0 < l.window-index → l.total ≤ 256 * ((slice_index_or l.cover (l.window-index - 1) d).due + 1);
}
