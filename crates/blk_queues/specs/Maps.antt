-- Maps of software queues to the hardware queues that serve them: the list of the hardware queues, by software queue.
use Rattle.std.specs.Prelude.{ℕ, ◌≡◌, ◌<◌, ◌≤◌, ◌-◌, ◌⊎◌, ◌↔◌, List, [], length, All, Any, Contains, Result, Ok, Err, ◌∷◌}
use Rattle.blk_bio.specs.declared.limits.TheConstants.{MAX_QUEUES, MAX_SOFT_QUEUES}
use Rattle.blk_queues.specs.declared.hardware.MapFault.{MapFault}
use Rattle.blk_queues.specs.declared.hardware.MapFault.TheVariants.{Empty, TooMany, Unserved}
use Rattle.edd_commands.specs.Order.{BreaksFirst}

-- the greatest number of a hardware queue
abbrev pub greatest_hw : ℕ
greatest_hw = MAX_QUEUES - 1

-- a map: at least one entry and no more than that, each at most the greatest number, and each number below an entry is an entry
pub record IsMap (entries : List ℕ) : Type 0 where
  pub some_entry : 0 < length entries
  pub few_entries : length entries ≤ MAX_SOFT_QUEUES
  pub in_range : All (λ hw. hw ≤ greatest_hw) entries
  pub served : (greater hw : ℕ) → Contains entries greater → hw < greater → Contains entries hw

-- how many hardware queues there are: the entries are just the numbers below it
abbrev pub IsHwCount : List ℕ → ℕ → Type 0
IsHwCount entries count = (hw : ℕ) → Contains entries hw ↔ (hw < count)

-- the least number below the greatest entry that is no entry
pub record IsLeastUnserved (entries : List ℕ) (hw : ℕ) : Type 0 where
  pub below : Any (λ greater. hw < greater) entries
  pub unserved : ¬ Contains entries hw
  pub least : (less : ℕ) → less < hw → Contains entries less

-- the rules of a map, in the order in which they are looked at
abbrev pub map_rules : List ℕ → List (Type 0)
map_rules entries =
    (0 < length entries)
    ∷ ((length entries ≤ MAX_SOFT_QUEUES) × All (λ hw. hw ≤ greatest_hw) entries)
    ∷ ((hw : ℕ) → Any (λ greater. hw < greater) entries → Contains entries hw) ∷ []

-- what each fault says of the entries
abbrev pub IsMapFault : List ℕ → MapFault → Type 0
IsMapFault entries Empty = BreaksFirst (map_rules entries) 0 (entries ≡ [])
IsMapFault entries TooMany = BreaksFirst (map_rules entries) 1 ((MAX_SOFT_QUEUES < length entries) ⊎ Any (λ hw. greatest_hw < hw) entries)
IsMapFault entries (Unserved hw) = BreaksFirst (map_rules entries) 2 (IsLeastUnserved entries hw)

-- what is made of entries
abbrev pub IsMapAnswer : List ℕ → Result (List ℕ) MapFault → Type 0
IsMapAnswer entries (Ok map) = (map ≡ entries) × IsMap map
IsMapAnswer entries (Err fault) = IsMapFault entries fault
