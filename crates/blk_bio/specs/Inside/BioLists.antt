-- The bios of a request, of which one alone stands in the request itself.
use Rattle.std.specs.Prelude.{List, [], ◌∷◌}
use Rattle.blk_bio.specs.Bios.{Bio}
use Rattle.blk_bio.specs.declared.list.Bios.{Bios}
use Rattle.blk_bio.specs.declared.list.Bios.TheVariants.{One, Many}

module _ {A : Type 0} where
  abbrev pub listed : Bios A → List Bio
  listed (One alloc bio) = bio ∷ []
  listed (Many bios) = bios.items
