-- The pieces of each record make its text, after some bytes.
use Rattle.std.proofs.Common.{◌≡◌, ℕ, List, [], ◌∷◌, ◌++◌, codes, decimal, true, false, refl, append_assoc, arith}
use Rattle.csv.specs.Writing.{needs_quotes, default_writer}
use Rattle.blk_bio.specs.Bios.{Bio}
use Rattle.blk_bio.specs.declared.bio.Dir.{Dir}
use Rattle.blk_bio.specs.declared.bio.Dir.TheVariants as dir
use Rattle.blk_text.specs.Inside.BioTable.{bio_row}
use Rattle.blk_bio.specs.Letters.{direction_text}
use Rattle.blk_records.specs.Inside.Cells.{line_of}
use Rattle.blk_records.specs.Texts.{rows_text}
use Rattle.blk_records.proofs.PlainRows.{all_plain, decimal_plain, line_is}

direction_plain : (d : Dir) → needs_quotes default_writer (direction_text d) ≡ false
direction_plain dir.Read = refl
direction_plain dir.Write = refl

pub bio_is : (start : List ℕ) (b : Bio) (r : ℕ) → r ∷ [] ≡ direction_text b.dir
    → ((((start ++ codes "bio,") ++ (decimal b.id.submitter ++ 44 ∷ decimal b.id.serial)) ++ (44 ∷ r ∷ 44 ∷ [])) ++ (decimal b.first ++ 44 ∷ decimal b.sectors)) ++ (10 ∷ [])
    ≡ start ++ rows_text (bio_row b ∷ [])
unfolding line_of
bio_is start b r is =
    let plain : all_plain (bio_row b) ≡ true = rw (decimal_plain b.id.submitter, decimal_plain b.id.serial, direction_plain b.dir, decimal_plain b.first, decimal_plain b.sectors) refl in
    rw (line_is (bio_row b) (omega arith) plain, ← is) (simp append_assoc)
