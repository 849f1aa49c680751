-- The letters of directions, as texts have them.
use Rattle.std.specs.Prelude.{ℕ, List, codes}
use Rattle.blk_bio.specs.declared.bio.Dir.{Dir}
use Rattle.blk_bio.specs.declared.bio.Dir.TheVariants as dir

-- R for a read, W for a write
abbrev pub direction_text : Dir → List ℕ
direction_text dir.Read = codes "R"
direction_text dir.Write = codes "W"
