-- The pieces of each record make its text, after some bytes.
use Rattle.std.proofs.Common.{◌≡◌, ◌+◌, ◌<◌, ◌≤◌, ◌^◌, ◌∙◌, ℕ, zero, suc, ℤ, List, [], ◌∷◌, ◌++◌, length, take, codes, decimal, true, false, refl, sym, ap, add-one, append_assoc, arith, get_or}
use Rattle.std.proofs.Math.ListN.{replicate}
use Rattle.std.proofs.Math.Seq.{take-suc}
use Rattle.std.proofs.lemmas.List.{append-nil}
use Rattle.std.proofs.lemmas.List.Concat.{flat_map-append}
use Rattle.csv.specs.Writing.{needs_quotes, default_writer}
use Rattle.std.specs.Fmt.{signed_decimal}
use Rattle.std.specs.Int.Signed.{mag}
use Rattle.std.proofs.lemmas.Fmt.{length_signed_le}
use Rattle.edd_check.specs.declared.Window.{Window}
use Rattle.blk_records.specs.Cells.{number_cells}
use Rattle.blk_records.specs.Inside.Cells.{line_of, marked, rest_of_line}
use Rattle.blk_records.specs.Texts.{rows_text}
use Rattle.blk_records.specs.Sources.{Row}
use Rattle.blk_records.specs.Certificate.{no_bound_row}
use Rattle.blk_records.proofs.PlainRows.{all_plain, decimal_plain, signed_plain, line_is}

-- one number more after a comma
pub marked_more : (start ns : List ℕ) (i : ℕ) → i < length ns
    → ((start ++ marked (take i ns)) ++ 44 ∷ []) ++ decimal (get_or ns i 0) ≡ start ++ marked (take (i + 1) ns)
marked_more start ns i l =
    let next : take (i + 1) ns ≡ take i ns ++ get_or ns i 0 ∷ [] = rw (add-one i) (take-suc ns i 0 l) in
    let more : marked (take i ns ++ get_or ns i 0 ∷ []) ≡ marked (take i ns) ++ 44 ∷ decimal (get_or ns i 0) =
    flat_map-append (λ n. 44 ∷ decimal n) (take i ns) (get_or ns i 0 ∷ []) ∙ ap (λ (t : List ℕ). marked (take i ns) ++ 44 ∷ t) (append-nil (decimal (get_or ns i 0))) in
    rw (next, more) (simp append_assoc)

-- the fields of numbers need no quotes
cells_plain : (ns : List ℕ) (k : ℕ) → all_plain (number_cells ns k) ≡ true
cells_plain [] zero = refl
cells_plain [] (suc k) = cells_plain [] k
cells_plain (n ∷ ns) k = rw (decimal_plain n) (cells_plain ns k)

cells_long : (ns : List ℕ) (k : ℕ) → length (number_cells ns k) ≡ length ns + k
cells_long [] zero = refl
cells_long [] (suc k) = omega (arith, cells_long [] k)
cells_long (n ∷ ns) k = omega (arith, cells_long ns k)

-- a field and then numbers
line_made : (f ns : List ℕ) (k : ℕ) → line_of (f ∷ number_cells ns k) ≡ f ++ rest_of_line ns k
unfolding line_of
line_made f [] zero = refl
line_made f [] (suc k) = ap (λ (t : List ℕ). f ++ 44 ∷ t) (line_made [] [] k)
line_made f (n ∷ ns) k = ap (λ (t : List ℕ). f ++ 44 ∷ t) (line_made (decimal n) ns k ∙ sym (append_assoc (decimal n) (marked ns ++ replicate k 44) (10 ∷ [])) ∙ ap (λ (t : List ℕ). t ++ 10 ∷ []) (sym (append_assoc (decimal n) (marked ns) (replicate k 44))))

-- the record of a field and of numbers
pub row_is : (start f ns : List ℕ) (k : ℕ) → needs_quotes default_writer f ≡ false → 1 ≤ length ns + k
    → (start ++ f) ++ rest_of_line ns k ≡ start ++ rows_text ((f ∷ number_cells ns k) ∷ [])
row_is start f ns k plain some =
    let all : all_plain (f ∷ number_cells ns k) ≡ true = rw plain (cells_plain ns k) in
    append_assoc start f (rest_of_line ns k) ∙ ap (λ (t : List ℕ). start ++ t) (sym (line_is (f ∷ number_cells ns k) (omega (arith, some, cells_long ns k)) all ∙ line_made f ns k))

pub no_bound_is : (start : List ℕ) → start ++ (codes "bound,none,none,none" ++ 10 ∷ []) ≡ start ++ rows_text (no_bound_row ∷ [])
unfolding line_of
no_bound_is start = rw (line_is no_bound_row (omega arith) refl) refl

abbrev bound_row : ℤ → Window → Row
bound_row z w = codes "bound" ∷ signed_decimal z ∷ decimal w.from ∷ decimal w.due ∷ []

pub bound_is : (start : List ℕ) (z : ℤ) (w : Window)
    → ((((start ++ codes "bound,") ++ signed_decimal z) ++ (44 ∷ [])) ++ (decimal w.from ++ 44 ∷ decimal w.due)) ++ (10 ∷ []) ≡ start ++ rows_text (bound_row z w ∷ [])
unfolding line_of
bound_is start z w =
    let all : all_plain (bound_row z w) ≡ true = rw (signed_plain z, decimal_plain w.from, decimal_plain w.due) refl in
    rw (line_is (bound_row z w) (omega arith) all) (simp append_assoc)

-- a lateness is short
pub late_long : (bytes : List ℕ) (z : ℤ) → bytes ≡ signed_decimal z → mag z < 2 ^ 63 → length bytes ≤ 20
late_long bytes z is small = rw is (length_signed_le 19 z (omega (arith, small)) small)
