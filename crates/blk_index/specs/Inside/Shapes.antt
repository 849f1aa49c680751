-- Requests by their places and the blocks of bios and of sectors that they fill.
use Rattle.std.specs.Prelude.{ℕ, ◌≡◌, ◌≤◌, ◌+◌, ◌/◌, ◌⊎◌, Bool, true, Option, Some, None}
use Rattle.ordered.specs.Ordered.{listed}
use Rattle.blk_index.specs.Inside.Spots.{DirSector, IsBelow, IsNewer}
use Rattle.blk_index.specs.Inside.Entries.{Class, Key, entry_cmp}
use Rattle.blk_index.specs.declared.shapes.Shapes.{Shapes}

-- the sizes of blocks of bios, and of blocks of sectors
abbrev pub IsSpan : ℕ → Type 0
IsSpan span = (span ≡ 1) ⊎ (span ≡ 16)

abbrev pub IsUnit : ℕ → Type 0
IsUnit unit = (unit ≡ 1) ⊎ ((unit ≡ 16) ⊎ ((unit ≡ 256) ⊎ (unit ≡ 4096)))

-- what a request of so many bios and sectors stands by in its blocks of two sizes
abbrev pub entry_at : DirSector → ℕ × ℕ → ℕ → ℕ → ℕ → Key
entry_at place shape id span unit = (((((place, span), shape.0 / span), unit), shape.1 / unit), id)

-- a request of a class stands in its block of each size
abbrev pub IsInClass : (Key → Bool) → Class → ℕ → ℕ → Type 0
IsInClass has class sectors id = (unit : ℕ) → IsUnit unit → has (((class, unit), sectors / unit), id) ≡ true

-- a request at a place does in its blocks of each two sizes
abbrev pub IsIn : (Key → Bool) → DirSector → ℕ × ℕ → ℕ → Type 0
IsIn has place shape id = (span : ℕ) → IsSpan span → IsInClass has ((place, span), shape.0 / span) shape.1 id

-- what a request of a shape stands by stays
abbrev pub Spares : DirSector → ℕ → (Key → Bool) → (Key → Bool) → ℕ × ℕ → Type 0
Spares place id old new shape = (span unit : ℕ) → old (entry_at place shape id span unit) ≡ true → new (entry_at place shape id span unit) ≡ true

-- a request at a place has an id, and as many sectors and bios at least as is said there
pub record ShapeListed (has : Key → Bool) (place : DirSector) (id sectors bios : ℕ) : Type 0 where
  pub said : ℕ
  pub said_bios : ℕ
  pub least : said ≤ sectors
  pub fewest : said_bios ≤ bios
  pub there : IsIn has place (said_bios, said) id

-- an id below a bound, if there is one, that is greater than the one that was found, if one was
pub record StandsBetween (below found : Option ℕ) (id : ℕ) : Type 0 where
  pub low : IsBelow below id
  pub past : IsNewer found id

-- what is above a key, as a block or a place, with each id below a bound
abbrev pub upper_of : {L : Type 0} → L × ℕ → Option ℕ → (L × ℕ) × ℕ
upper_of key None = ((key.0, key.1 + 1), 0)
upper_of key (Some b) = (key, b)

module _ {A : Type 0} where
  abbrev pub entries_in : Shapes A → Key → Bool
  entries_in s = listed entry_cmp s.entries
