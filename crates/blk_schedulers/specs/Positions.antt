-- The setting `positions` of deadline by its names.
use Rattle.std.specs.Prelude.{ℕ, ◌∷◌, [], List, Option, None, Some, codes, if◌then◌else◌, ◌==◌}
use Rattle.std.specs.Str.{bytes_eq}
use Rattle.blk_deadline.specs.declared.Positions.{Positions}
use Rattle.blk_deadline.specs.declared.Positions.TheVariants.{One, Each}

abbrev pub positions_name : Positions → List ℕ
positions_name One = codes "one"
positions_name Each = codes "each"

-- those of a value, and the value of a name
abbrev pub positions_of : ℕ → Positions
positions_of value = if value == 1 then Each else One

abbrev pub position_named : List ℕ → Option ℕ
position_named text =
    if bytes_eq text (codes "one") then Some 0
    else (if bytes_eq text (codes "each") then Some 1 else None)

-- the values of a list of names, each once
abbrev pub positions_listed : List ℕ → Option (List ℕ)
positions_listed text =
    if bytes_eq text (codes "one") then Some (0 ∷ [])
    else (if bytes_eq text (codes "each") then Some (1 ∷ [])
    else (if bytes_eq text (codes "one,each") then Some (0 ∷ 1 ∷ [])
    else (if bytes_eq text (codes "each,one") then Some (1 ∷ 0 ∷ []) else None)))
