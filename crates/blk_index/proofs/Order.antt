-- The next request of a direction by its first sector.
use Rattle.std.proofs.Common.{◌≡◌, ◌<◌, inl, inr, ℕ, Bool, true, false, sym, ap, subst, ◌∙◌, refl, arith, Some, None, Option}
use mathlib.Core.Bool.{beq}
use Rattle.std.specs.Ordering.{nat_cmp, ordering_then, is_eq, is_gt}
use Rattle.std.specs.Cmp.{nat_cmp_total, ranked, tied_itself}
use Rattle.std.specs.declared.cmp.Ordering.{Ordering}
use Rattle.std.specs.declared.cmp.Ordering.TheVariants.{Less, Equal, Greater}
use Rattle.blk_bio.specs.declared.bio.Dir.{Dir}
use Rattle.blk_bio.specs.declared.bio.Dir.TheVariants.{Read, Write}
use Rattle.ordered.specs.Ordered.{IsLeastAbove, NoneAbove}
use Rattle.blk_sched.specs.Meaning.{Waiting}
use Rattle.blk_index.specs.Inside.Spots.{DirSector, Spot, place_cmp, is_write, begin_of}
use Rattle.blk_index.specs.Keys.{keyed_cmp, AreKeyed}
use Rattle.blk_index.specs.Index.{IsNext, NoNext, IsBefore}
use Rattle.blk_index.proofs.Listed.{same_place, is_equal, place_itself, nat_less, lt_of}
use Rattle.blk_index.proofs.Indexed.{Found}
use Rattle.blk_index.proofs.Keyed.{has_key, keyed}

same_dir : (d e : Dir) → is_write d ≡ is_write e → d ≡ e
same_dir Read Read h = refl
same_dir Read Write h = cc
same_dir Write Read h = cc
same_dir Write Write h = refl

abbrev Has : Type 0
Has = Spot → Bool

abbrev spot_cmp : Spot → Spot → Ordering
spot_cmp = keyed_cmp place_cmp

abbrev Starts : Found → Has → Type 0
Starts = AreKeyed place_cmp begin_of

placed : (p : DirSector) (o : Option Waiting) → has_key place_cmp begin_of p o ≡ true → (w : Waiting) × (o ≡ Some w) × (begin_of w ≡ p)
placed p None h = absurd (cc)
placed p (Some w) h = (w, refl, same_place (begin_of w) p (is_equal (place_cmp (begin_of w) p) h))

standing : (found : Found) (has : Has) (k : ℕ) (v : Waiting) → Starts found has → found k ≡ Some v → has (begin_of v, k) ≡ true
standing found has k v starts is = keyed place_cmp begin_of found has starts (begin_of v) k ∙ ap (has_key place_cmp begin_of (begin_of v)) is ∙ ap is_eq (place_itself (begin_of v))

pub greater : (a b : ℕ) → b < a → nat_cmp a b ≡ Greater
greater a b lt = elim (nat_cmp a b) as (λ o. nat_cmp a b ≡ o → o ≡ Greater) [
  | Less ↦ λ e. let m = lt_of a b e in absurd (omega arith)
  | Equal ↦ λ e. let m : a ≡ b = ranked a b Equal (sym e) in absurd (omega arith)
  | Greater ↦ λ _. refl
] refl

equal : (a b : ℕ) → a ≡ b → nat_cmp a b ≡ Equal
equal a b e = ap (nat_cmp a) (sym e) ∙ tied_itself nat_cmp_total a

-- at one direction the order of spots is that of first sectors and ids
at_one : (b : Bool) (f g i j : ℕ) → spot_cmp ((b, f), i) ((b, g), j) ≡ ordering_then (nat_cmp f g) (nat_cmp i j)
at_one false f g i j = refl
at_one true f g i j = refl

before_less : (b : Bool) (f g i j : ℕ) → IsBefore f i g j → spot_cmp ((b, f), i) ((b, g), j) ≡ Less
before_less b f g i j (inl lt) = at_one b f g i j ∙ ap (λ o. ordering_then o (nat_cmp i j)) (nat_less f g lt)
before_less b f g i j (inr (e, lt)) = at_one b f g i j ∙ ap (λ o. ordering_then o (nat_cmp i j)) (equal f g e) ∙ nat_less i j lt

before_greater : (b : Bool) (f g i j : ℕ) → IsBefore f i g j → spot_cmp ((b, g), j) ((b, f), i) ≡ Greater
before_greater b f g i j (inl lt) = at_one b g f j i ∙ ap (λ o. ordering_then o (nat_cmp j i)) (greater g f lt)
before_greater b f g i j (inr (e, lt)) = at_one b g f j i ∙ ap (λ o. ordering_then o (nat_cmp j i)) (equal g f (sym e)) ∙ greater j i lt

less_before : (b : Bool) (f g i j : ℕ) → spot_cmp ((b, f), i) ((b, g), j) ≡ Less → IsBefore f i g j
less_before b f g i j h = elim (nat_cmp f g) as (λ o. nat_cmp f g ≡ o → ordering_then o (nat_cmp i j) ≡ Less → IsBefore f i g j) [
  | Less ↦ λ e _. inl (lt_of f g e)
  | Equal ↦ λ e r. inr (ranked f g Equal (sym e), lt_of i j r)
  | Greater ↦ λ _ r. absurd (cc)
] refl (sym (at_one b f g i j) ∙ h)

at_first : (found : Found) (has : Has) (dir : Dir) (k : ℕ) (v : Waiting) → Starts found has → found k ≡ Some v → v.extent.dir ≡ dir → has ((is_write dir, v.extent.first), k) ≡ true
at_first found has dir k v starts is same = ap (λ (d : Dir). has ((is_write d, v.extent.first), k)) (sym same) ∙ standing found has k v starts is

-- whether two are one
one_way : (x y : Bool) → beq x y ≡ true → x ≡ y
one_way true true h = refl
one_way true false h = cc
one_way false true h = cc
one_way false false h = refl

two_ways : (x y : Bool) → beq x y ≡ false → x ≡ y → ⊥
two_ways true true h same = cc
two_ways true false h same = cc
two_ways false true h same = cc
two_ways false false h same = cc

-- after an entry of another direction none is of this one
past : (write other : Bool) (first last sector id f k : ℕ) → (other ≡ write → ⊥) → spot_cmp ((write, first), last) ((other, sector), id) ≡ Less → is_gt (spot_cmp ((other, sector), id) ((write, f), k)) ≡ true
past false true first last sector id f k apart high = refl
past false false first last sector id f k apart high = absurd (apart refl)
past true true first last sector id f k apart high = absurd (apart refl)
past true false first last sector id f k apart high = cc

module _ (found : Found) (has : Has) (dir : Dir) (first last : ℕ) (write : Bool) (own : write ≡ is_write dir) (starts : Starts found has) where
  there : (k : ℕ) (v : Waiting) → found k ≡ Some v → v.extent.dir ≡ dir → has ((write, v.extent.first), k) ≡ true
  there k v is same = ap (λ b. has ((b, v.extent.first), k)) own ∙ at_first found has dir k v starts is same

  pub the_next : (p : Spot) → IsLeastAbove spot_cmp has ((write, first), last) p → beq p.0.0 write ≡ true → IsNext dir first last found p.1
  the_next ((other, sector), id) p is_way =
      let same_way : other ≡ write = one_way other write is_way in
      let at = placed (other, sector) (found id) (sym (keyed place_cmp begin_of found has starts (other, sector) id) ∙ p.there) in
      let way : is_write at.0.extent.dir ≡ other = ap (λ (q : DirSector). q.0) at.2 in
      let start : at.0.extent.first ≡ sector = ap (λ (q : DirSector). q.1) at.2 in
      record {
        waiting = at.0;
        is_found = at.1;
        same_dir = same_dir at.0.extent.dir dir (way ∙ same_way ∙ own);
        after = subst (λ (n : ℕ). IsBefore first last n id) (sym start) (less_before write first sector last id (ap (λ b. spot_cmp ((write, first), last) ((b, sector), id)) (sym same_way) ∙ p.high));
        least = λ k v is same after before.
            let not_greater = p.least ((write, v.extent.first), k) (before_less write first v.extent.first last k after) (there k v is same) in
            let more : spot_cmp ((write, sector), id) ((write, v.extent.first), k) ≡ Greater = before_greater write v.extent.first sector k id (subst (λ (n : ℕ). IsBefore v.extent.first k n id) start before) in
            let a : true ≡ false = ap is_gt (sym more) ∙ ap (λ b. is_gt (spot_cmp ((b, sector), id) ((write, v.extent.first), k))) (sym same_way) ∙ not_greater in cc;
      }

  pub none_next : NoneAbove spot_cmp has ((write, first), last) → NoNext dir first last found
  none_next none k v is same after = let a : true ≡ false = sym (there k v is same) ∙ none ((write, v.extent.first), k) (before_less write first v.extent.first last k after) in cc

  pub other_next : (p : Spot) → IsLeastAbove spot_cmp has ((write, first), last) p → beq p.0.0 write ≡ false → NoNext dir first last found
  other_next ((other, sector), id) p apart k v is same after =
      let a : true ≡ false = sym (past write other first last sector id v.extent.first k (two_ways other write apart) p.high) ∙ p.least ((write, v.extent.first), k) (before_less write first v.extent.first last k after) (there k v is same) in cc
