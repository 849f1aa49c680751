-- The line on which a record begins. Lines are ended by a line feed, a carriage return, or the first followed by the second.
use Rattle.std.specs.Prelude.{◌+◌, ◌-◌, ◌==◌, ◌&&◌, ◌||◌, not, if◌then◌else◌, Bool, false, ℕ, List, [], ◌∷◌}
use Rattle.csv.specs.Machine.{step, ends_at_end}
use Rattle.csv.specs.Reading.{default_config, strip_bom}
use Rattle.csv.specs.declared.parser.State.{State}
use Rattle.csv.specs.declared.parser.State.TheVariants as st

-- its state after a byte
abbrev pub state_after : State → ℕ → State
state_after s c = (step default_config s c).0

-- whether a record begins with a byte
abbrev pub begins : State → ℕ → Bool
begins s c = not (ends_at_end s) && ends_at_end (state_after s c)

-- whether a byte ends a line: a line feed after a carriage return ends none
abbrev pub ends_line : Bool → ℕ → Bool
ends_line returned c = (c == 13) || ((c == 10) && not returned)

-- the line on which the n-th record from here on begins, or the last one: from this state, after a carriage return or none, on this line
unfoldable pub line_from : State → Bool → ℕ → ℕ → List ℕ → ℕ
line_from s returned line n [] = line
line_from s returned line n (c ∷ rest) =
    if begins s c && (n == 1) then line
    else line_from (state_after s c) (c == 13) (if ends_line returned c then line + 1 else line) (if begins s c then n - 1 else n) rest

-- the line on which the n-th record of a text begins, from 1 on; where there is none, the last line
abbrev pub line_at : List ℕ → ℕ → ℕ
line_at bytes n = line_from st.StartRecord false 1 n (strip_bom bytes)
