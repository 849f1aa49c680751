use Rattle.std.proofs.Common.{◌≡◌, take, None}
use Rattle.std.specs.Prelude.{find}
use Rattle.std.specs.Str.{bytes_eq}
use Rattle.blk_schedulers.specs.declared.rows.SettingRow.{SettingRow}
use Rattle.blk_schedulers.proofs.plans.setting_in.Given as goal

abbrev pub invariant-loop-i : goal.invariant-loop-i
invariant-loop-i l = record { none : find (λ (s : SettingRow). bytes_eq l.option s.option.now) (take l.i l.settings) ≡ None }
