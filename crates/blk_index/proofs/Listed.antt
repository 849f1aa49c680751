-- The order of places.
use Rattle.std.proofs.Common.{◌≡◌, ◌<◌, ℕ, true, false, sym, ap, refl, arith}
use Rattle.std.specs.Ordering.{nat_cmp, ordering_then, is_eq}
use Rattle.std.specs.Cmp.{nat_cmp_total, ranked, tied_itself}
use Rattle.std.specs.declared.cmp.Ordering.{Ordering}
use Rattle.std.specs.declared.cmp.Ordering.TheVariants.{Less, Equal, Greater}
use Rattle.blk_index.specs.Inside.Spots.{DirSector, place_cmp}

pub lt_of : (a b : ℕ) → nat_cmp a b ≡ Less → a < b
lt_of a b e = ranked a b Less (sym e)

gt_of : (a b : ℕ) → nat_cmp a b ≡ Greater → b < a
gt_of a b e = ranked a b Greater (sym e)

pub eq_of : (a b : ℕ) → nat_cmp a b ≡ Equal → a ≡ b
eq_of a b e = ranked a b Equal (sym e)

pub nat_less : (a b : ℕ) → a < b → nat_cmp a b ≡ Less
nat_less a b lt = elim (nat_cmp a b) as (λ o. nat_cmp a b ≡ o → o ≡ Less) [
  | Less ↦ λ _. refl
  | Equal ↦ λ e. let same = eq_of a b e in absurd (omega arith)
  | Greater ↦ λ e. let more = gt_of a b e in absurd (omega arith)
] refl

pub same_place : (a b : DirSector) → place_cmp a b ≡ Equal → a ≡ b
same_place (false, s) (false, t) h = ap (λ (n : ℕ). let p : DirSector = (false, n) in p) (eq_of s t h)
same_place (false, s) (true, t) h = cc
same_place (true, s) (false, t) h = cc
same_place (true, s) (true, t) h = ap (λ (n : ℕ). let p : DirSector = (true, n) in p) (eq_of s t h)

pub place_itself : (a : DirSector) → place_cmp a a ≡ Equal
place_itself (false, s) = tied_itself nat_cmp_total s
place_itself (true, s) = tied_itself nat_cmp_total s

pub below_zero : (n : ℕ) → nat_cmp n 0 ≡ Less → ⊥
below_zero n e = let low = lt_of n 0 e in omega arith

pub first_less : (o r : Ordering) → ordering_then o r ≡ Less → (r ≡ Less → ⊥) → o ≡ Less
first_less Less r h n = refl
first_less Equal r h n = absurd (n h)
first_less Greater r h n = cc

pub is_equal : (o : Ordering) → is_eq o ≡ true → o ≡ Equal
is_equal Less h = cc
is_equal Equal h = refl
is_equal Greater h = cc
