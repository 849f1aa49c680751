-- The order of requests of shared places: by their places, the blocks of bios and the blocks of sectors that they fill, and their ids.
use Rattle.std.specs.Prelude.{ℕ}
use Rattle.std.specs.Cmp.{IsTotalOrder, nat_cmp_total, bool_cmp_total, on_total, then_total}
use Rattle.std.specs.declared.cmp.Ordering.{Ordering}
use Rattle.blk_index.specs.Keys.{keyed_cmp}
use Rattle.blk_index.specs.Inside.Spots.{DirSector, place_cmp}

-- a place and the size of blocks of bios; with their number; with the size of blocks of sectors; with their number; and with an id
abbrev pub Spanned : Type 0
Spanned = DirSector × ℕ

abbrev pub Class : Type 0
Class = Spanned × ℕ

abbrev pub Sized : Type 0
Sized = Class × ℕ

abbrev pub Block : Type 0
Block = Sized × ℕ

abbrev pub Key : Type 0
Key = Block × ℕ

abbrev pub spanned_cmp : Spanned → Spanned → Ordering
spanned_cmp = keyed_cmp place_cmp

abbrev pub class_cmp : Class → Class → Ordering
class_cmp = keyed_cmp spanned_cmp

abbrev pub sized_cmp : Sized → Sized → Ordering
sized_cmp = keyed_cmp class_cmp

abbrev pub block_cmp : Block → Block → Ordering
block_cmp = keyed_cmp sized_cmp

abbrev pub entry_cmp : Key → Key → Ordering
entry_cmp = keyed_cmp block_cmp

keyed_total : {K : Type 0} (cmp : K → K → Ordering) → IsTotalOrder cmp → IsTotalOrder (keyed_cmp cmp)
keyed_total {K} cmp total = then_total (on_total (λ (t : K × ℕ). t.0) total) (on_total (λ (t : K × ℕ). t.1) nat_cmp_total)

place_total : IsTotalOrder place_cmp
place_total = then_total (on_total (λ (t : DirSector). t.0) bool_cmp_total) (on_total (λ (t : DirSector). t.1) nat_cmp_total)

pub entry_total : IsTotalOrder entry_cmp
entry_total = keyed_total block_cmp (keyed_total sized_cmp (keyed_total class_cmp (keyed_total spanned_cmp (keyed_total place_cmp place_total))))
