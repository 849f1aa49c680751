-- Keys in order.
use Rattle.std.specs.Prelude.{ℕ, ◌≡◌, Bool, true, false, cond, Option, None, Some}
use Rattle.std.specs.BTreeSet.{contains}
use Rattle.std.specs.Ordering.{eq_by_cmp, is_gt, is_lt}
use Rattle.std.specs.declared.cmp.Ordering.{Ordering}
use Rattle.std.specs.declared.cmp.Ordering.TheVariants.{Less}
use Rattle.ordered.specs.declared.Ordered.{Ordered}

-- as before
abbrev pub Keeps : {K : Type 0} → (K → Bool) → (K → Bool) → Type 0
Keeps {K} old new = (q : K) → new q ≡ old q

module _ {K : Type 0} (cmp : K → K → Ordering) where
  -- whether a key is there
  abbrev pub listed : {A : Type 0} → Ordered K A → K → Bool
  listed order q = contains cmp order.keys q

  -- one more, and one less
  abbrev pub Adds : (K → Bool) → K → (K → Bool) → Type 0
  Adds old p new = (q : K) → new q ≡ cond (eq_by_cmp cmp p q) true (old q)

  abbrev pub Takes : (K → Bool) → K → (K → Bool) → Type 0
  Takes old p new = (q : K) → new q ≡ cond (eq_by_cmp cmp p q) false (old q)

  -- the least that is there; of those above a lower one; of those that aren't below it
  pub record IsLeast (has : K → Bool) (p : K) : Type 0 where
    pub there : has p ≡ true
    pub least : (q : K) → has q ≡ true → is_gt (cmp p q) ≡ false

  pub record IsLeastAbove (has : K → Bool) (lower p : K) : Type 0 where
    pub there : has p ≡ true
    pub high : cmp lower p ≡ Less
    pub least : (q : K) → cmp lower q ≡ Less → has q ≡ true → is_gt (cmp p q) ≡ false

  pub record IsLeastFrom (has : K → Bool) (lower p : K) : Type 0 where
    pub there : has p ≡ true
    pub high : is_gt (cmp lower p) ≡ false
    pub least : (q : K) → is_gt (cmp lower q) ≡ false → has q ≡ true → is_gt (cmp p q) ≡ false

  -- the greatest of those below an upper one; of those that aren't above it
  pub record IsGreatestBelow (has : K → Bool) (upper p : K) : Type 0 where
    pub there : has p ≡ true
    pub low : cmp p upper ≡ Less
    pub greatest : (q : K) → cmp q upper ≡ Less → has q ≡ true → is_lt (cmp p q) ≡ false

  pub record IsGreatestUpTo (has : K → Bool) (upper p : K) : Type 0 where
    pub there : has p ≡ true
    pub low : is_gt (cmp p upper) ≡ false
    pub greatest : (q : K) → is_gt (cmp q upper) ≡ false → has q ≡ true → is_lt (cmp p q) ≡ false

  -- no such one
  abbrev pub NoneAbove : (K → Bool) → K → Type 0
  NoneAbove has lower = (q : K) → cmp lower q ≡ Less → has q ≡ false

  abbrev pub NoneFrom : (K → Bool) → K → Type 0
  NoneFrom has lower = (q : K) → is_gt (cmp lower q) ≡ false → has q ≡ false

  abbrev pub NoneBelow : (K → Bool) → K → Type 0
  NoneBelow has upper = (q : K) → cmp q upper ≡ Less → has q ≡ false

  abbrev pub NoneUpTo : (K → Bool) → K → Type 0
  NoneUpTo has upper = (q : K) → is_gt (cmp q upper) ≡ false → has q ≡ false

  -- whether a key, if there is one, is this one
  abbrev pub is_key : Option K → K → Bool
  is_key None q = false
  is_key (Some e) q = eq_by_cmp cmp e q

  -- each thing that has a key stands under it, and nothing else does
  abbrev pub IsIndexOf : (K → ℕ) → (ℕ → Option K) → (K → Bool) → Type 0
  IsIndexOf id_of key_at has = (q : K) → has q ≡ is_key (key_at (id_of q)) q
