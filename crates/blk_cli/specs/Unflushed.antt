-- The bios of a script that no flush takes out of their plugs.
use Rattle.std.specs.Prelude.{ℕ, Bool, ◌≡◌, true, not, zero, suc, ◌+◌, ◌==◌, if◌then◌else◌, List, fold, is_some}
use Rattle.blk_text.specs.Script.{Scripted}
use Rattle.blk_text.specs.declared.script.Line.{Line}
use Rattle.blk_text.specs.declared.script.Line.TheVariants as line
use Rattle.blk_cli.specs.Said.{Said}

-- how many bios the plug of a submitter holds after one more line, and after all of them
abbrev pub plugged_after : ℕ → ℕ → Line → ℕ
plugged_after s held (line.Bio b) = if b.id.submitter == s then held + 1 else held
plugged_after s held (line.Flush t) = if t == s then 0 else held
plugged_after s held l = held

abbrev pub plugged : List Line → ℕ → ℕ
plugged lines s = fold (plugged_after s) 0 lines

-- those of the first submitters together
unfoldable pub left_in_plugs : List Line → ℕ → ℕ
left_in_plugs lines zero = 0
left_in_plugs lines (suc s) = left_in_plugs lines s + plugged lines s

-- whether some stay, which is told beside what is written of the script, which is good
abbrev pub leaves_some : Scripted → Bool
leaves_some s = not (left_in_plugs s.lines s.submitters == 0)

abbrev pub TellsPlugs : Scripted → Said → Type 0
TellsPlugs script s = (is_some s.note ≡ leaves_some script) × (s.good ≡ true)
