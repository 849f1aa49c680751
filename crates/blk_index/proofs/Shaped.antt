-- The order of entries, and which requests of shared places are looked at.
use Rattle.std.proofs.Common.{◌≡◌, ◌<◌, ◌≤◌, ◌+◌, ◌-◌, ◌*◌, ◌/◌, ◌%◌, inl, inr, ℕ, Bool, true, false, cond, sym, ap, subst, ◌∙◌, refl, arith, Some, None, Option}
use Rattle.std.specs.Prelude.{IfSome, OnOk, OnErr, Result, Ok, Err, nat_lt}
use Rattle.std.specs.Ordering.{nat_cmp, bool_cmp, ordering_then, eq_by_cmp, is_eq, is_lt}
use Rattle.std.specs.Cmp.{nat_cmp_total, tied_itself}
use Rattle.std.specs.declared.cmp.Ordering.{Ordering}
use Rattle.std.specs.declared.cmp.Ordering.TheVariants.{Less, Equal, Greater}
use Rattle.std.proofs.lemmas.Bool.{cases_eq, cases_lt}
use borrow.Author.Tests.{ltb-true, ltb-false}
use Rattle.blk_index.specs.Inside.Spots.{DirSector, place_cmp, IsBelow, IsNewer, greater_of}
use Rattle.ordered.specs.Ordered.{Adds, Takes, Keeps, IsGreatestBelow, NoneBelow}
use Rattle.blk_index.specs.Keys.{keyed_cmp}
use Rattle.blk_index.specs.Inside.Entries.{Sized, Block, Key, spanned_cmp, class_cmp, sized_cmp, block_cmp, entry_cmp}
use Rattle.blk_index.specs.Inside.Shapes.{IsSpan, IsUnit, IsIn, entry_at, Spares, StandsBetween, upper_of}
use Rattle.blk_index.proofs.Listed.{lt_of, nat_less, eq_of, same_place, place_itself, is_equal, first_less, below_zero}

number_itself : (n : ℕ) → nat_cmp n n ≡ Equal
number_itself n = tied_itself nat_cmp_total n

-- an order in which only equal ones are tied, and each one with itself
pub record IsExact {K : Type 0} (cmp : K → K → Ordering) : Type 0 where
  pub tied : (x y : K) → cmp x y ≡ Equal → x ≡ y
  pub itself : (x : K) → cmp x x ≡ Equal

both : (o r : Ordering) → ordering_then o r ≡ Equal → (o ≡ Equal) × (r ≡ Equal)
both Less r h = cc
both Equal r h = (refl, h)
both Greater r h = cc

not_lt : (a b : ℕ) → (a < b → ⊥) → b ≤ a
not_lt a b not_less = elim (cases_lt a b) [ inl less ↦ absurd (not_less less) | inr more ↦ more ]

same_pair : {K : Type 0} (x y : K × ℕ) → x.0 ≡ y.0 → x.1 ≡ y.1 → x ≡ y
same_pair {K} x y one other = ap (λ (k : K). let r : K × ℕ = (k, x.1) in r) one ∙ ap (λ (n : ℕ). let r : K × ℕ = (y.0, n) in r) other

place_exact : IsExact place_cmp
place_exact = record { tied = same_place; itself = place_itself }

same_bool : (a b : Bool) → bool_cmp a b ≡ Equal → a ≡ b
same_bool false false h = refl
same_bool false true h = cc
same_bool true false h = cc
same_bool true true h = refl

bool_itself : (a : Bool) → bool_cmp a a ≡ Equal
bool_itself false = refl
bool_itself true = refl

pub bool_exact : IsExact bool_cmp
bool_exact = record { tied = same_bool; itself = bool_itself }

module _ {K : Type 0} (cmp : K → K → Ordering) where
  -- nothing is below a number of 0
  before : (e : K × ℕ) (x : K) → keyed_cmp cmp e (x, 0) ≡ Less → cmp e.0 x ≡ Less
  before e x low = first_less (cmp e.0 x) (nat_cmp e.1 0) low (below_zero e.1)

  sooner : (e q : K × ℕ) → cmp e.0 q.0 ≡ Less → keyed_cmp cmp e q ≡ Less
  sooner e q h = ap (λ o. ordering_then o (nat_cmp e.1 q.1)) h

module _ {K : Type 0} (cmp : K → K → Ordering) (exact : IsExact cmp) where
  number_exact : IsExact (keyed_cmp cmp)
  number_exact = record {
    tied = λ x y h. let two = both (cmp x.0 y.0) (nat_cmp x.1 y.1) h in same_pair x y (exact.tied x.0 y.0 two.0) (eq_of x.1 y.1 two.1);
    itself = λ x. ap (λ o. ordering_then o (nat_cmp x.1 x.1)) (exact.itself x.0) ∙ number_itself x.1;
  }

  same_then : (e : K × ℕ) (p : K) (k : ℕ) → e.0 ≡ p → e.1 < k → keyed_cmp cmp e (p, k) ≡ Less
  same_then e p k same less = ap (λ o. ordering_then o (nat_cmp e.1 k)) (ap (λ x. cmp x p) same ∙ exact.itself p) ∙ nat_less e.1 k less

  -- what is below one number of a key, and not below another, is of the key
  between : (e : K × ℕ) (p : K) (b k : ℕ) → keyed_cmp cmp e (p, b) ≡ Less → (keyed_cmp cmp e (p, k) ≡ Less → ⊥) → (e.0 ≡ p) × (e.1 < b) × (k ≤ e.1)
  between e p b k low not_less = elim (cmp e.0 p) as (λ o. cmp e.0 p ≡ o → (e.0 ≡ p) × (e.1 < b) × (k ≤ e.1)) [
    | Less ↦ λ h. absurd (not_less (ap (λ o. ordering_then o (nat_cmp e.1 k)) h))
    | Equal ↦ λ h. (
      exact.tied e.0 p h,
      lt_of e.1 b (sym (ap (λ o. ordering_then o (nat_cmp e.1 b)) h) ∙ low),
      not_lt e.1 k (λ less. not_less (ap (λ o. ordering_then o (nat_cmp e.1 k)) h ∙ nat_less e.1 k less)),
    )
    | Greater ↦ λ h. let g : Greater ≡ Less = sym (ap (λ o. ordering_then o (nat_cmp e.1 b)) h) ∙ low in absurd (cc)
  ] refl

spanned_exact : IsExact spanned_cmp
spanned_exact = number_exact place_cmp place_exact

pub class_exact : IsExact class_cmp
class_exact = number_exact spanned_cmp spanned_exact

pub sized_exact : IsExact sized_cmp
sized_exact = number_exact class_cmp class_exact

block_exact : IsExact block_cmp
block_exact = number_exact sized_cmp sized_exact

is_not_less : (o : Ordering) → is_lt o ≡ false → o ≡ Less → ⊥
is_not_less Less h e = cc
is_not_less Equal h e = cc
is_not_less Greater h e = cc

-- ---- the blocks of a size

module _ (has : Key → Bool) (sized : Sized) (end : ℕ) where
  low_entry : (n k : ℕ) → n < end → entry_cmp ((sized, n), k) ((sized, end), 0) ≡ Less
  low_entry n k less = sooner block_cmp ((sized, n), k) ((sized, end), 0) (same_then sized_cmp sized_exact (sized, n) sized end refl less)

  pub no_block : NoneBelow entry_cmp has ((sized, end), 0) → (n k : ℕ) → n < end → has ((sized, n), k) ≡ true → ⊥
  no_block none n k less there = let x : true ≡ false = sym there ∙ none ((sized, n), k) (low_entry n k less) in cc

  module _ (e : Key) (found : IsGreatestBelow entry_cmp has ((sized, end), 0) e) where
    stays_below : (n k : ℕ) → n < end → has ((sized, n), k) ≡ true → entry_cmp e ((sized, n), k) ≡ Less → ⊥
    stays_below n k less there h = is_not_less (entry_cmp e ((sized, n), k)) (found.greatest ((sized, n), k) (low_entry n k less) there) h

    pub of_block : (n k : ℕ) → n < end → has ((sized, n), k) ≡ true → (e.0.0 ≡ sized) × (e.0.1 < end) × (n ≤ e.0.1)
    of_block n k less there =
        between sized_cmp sized_exact e.0 sized end n (before block_cmp e (sized, end) found.low)
        (λ h. stays_below n k less there (sooner block_cmp e ((sized, n), k) h))

    pub block_low : e.0.0 ≡ sized → e.0.1 < end
    block_low same =
        let low : block_cmp e.0 (sized, end) ≡ Less = before block_cmp e (sized, end) found.low in
        lt_of e.0.1 end (sym (ap (λ o. ordering_then o (nat_cmp e.0.1 end)) (ap (λ x. sized_cmp x sized) same ∙ sized_exact.itself sized)) ∙ low)

    pub block_newest : e.0.0 ≡ sized → (k : ℕ) → e.1 < k → has ((sized, e.0.1), k) ≡ true → ⊥
    block_newest same k less there =
        stays_below e.0.1 k (block_low same) there (same_then block_cmp block_exact e (sized, e.0.1) k (same_pair e.0 (sized, e.0.1) same refl) less)

-- ---- the ids of a key, as a block or a place

module _ {L : Type 0} (cmp : L → L → Ordering) (exact : IsExact cmp) where
  pub same_key : (a b : L × ℕ) → eq_by_cmp (keyed_cmp cmp) a b ≡ true → a ≡ b
  same_key a b h = (number_exact cmp exact).tied a b (is_equal (keyed_cmp cmp a b) h)

  pub other_key : (a b : L × ℕ) → eq_by_cmp (keyed_cmp cmp) a b ≡ false → a ≡ b → ⊥
  other_key a b h same = let e : true ≡ false = sym (ap is_eq (ap (λ x. keyed_cmp cmp a x) (sym same) ∙ (number_exact cmp exact).itself a)) ∙ h in cc

  below_upper : (key : L × ℕ) (below : Option ℕ) (k : ℕ) → IsBelow below k → keyed_cmp (keyed_cmp cmp) (key, k) (upper_of key below) ≡ Less
  below_upper key None k low = sooner (keyed_cmp cmp) (key, k) ((key.0, key.1 + 1), 0) (same_then cmp exact key key.0 (key.1 + 1) refl (omega arith))
  below_upper key (Some b) k low = same_then (keyed_cmp cmp) (number_exact cmp exact) (key, k) key b refl low

  of_key : (e : (L × ℕ) × ℕ) (key : L × ℕ) (below : Option ℕ) (k : ℕ) → keyed_cmp (keyed_cmp cmp) e (upper_of key below) ≡ Less → (keyed_cmp (keyed_cmp cmp) e (key, k) ≡ Less → ⊥) → e.0 ≡ key
  of_key e key None k low not_less =
      let w = between cmp exact e.0 key.0 (key.1 + 1) key.1 (before (keyed_cmp cmp) e (key.0, key.1 + 1) low) (λ h. not_less (sooner (keyed_cmp cmp) e (key, k) h)) in
      same_pair e.0 key w.0 (omega (arith, w.1, w.2))
  of_key e key (Some b) k low not_less = (between (keyed_cmp cmp) (number_exact cmp exact) e key b k low not_less).0

  low_in : (e : (L × ℕ) × ℕ) (key : L × ℕ) (below : Option ℕ) → e.0 ≡ key → keyed_cmp (keyed_cmp cmp) e (upper_of key below) ≡ Less → IsBelow below e.1
  low_in e key None same low = tt
  low_in e key (Some b) same low = lt_of e.1 b (sym (ap (λ o. ordering_then o (nat_cmp e.1 b)) (ap (λ x. keyed_cmp cmp x key) same ∙ (number_exact cmp exact).itself key)) ∙ low)

  module _ (has : (L × ℕ) × ℕ → Bool) (key : L × ℕ) (below : Option ℕ) where
    pub none_below : NoneBelow (keyed_cmp (keyed_cmp cmp)) has (upper_of key below) → (k : ℕ) → IsBelow below k → has (key, k) ≡ true → ⊥
    none_below none k under there = let x : true ≡ false = sym there ∙ none (key, k) (below_upper key below k under) in cc

    module _ (e : (L × ℕ) × ℕ) (found : IsGreatestBelow (keyed_cmp (keyed_cmp cmp)) has (upper_of key below) e) where
      stays : (k : ℕ) → IsBelow below k → has (key, k) ≡ true → keyed_cmp (keyed_cmp cmp) e (key, k) ≡ Less → ⊥
      stays k under there h = is_not_less (keyed_cmp (keyed_cmp cmp) e (key, k)) (found.greatest (key, k) (below_upper key below k under) there) h

      pub none_in : eq_by_cmp (keyed_cmp cmp) e.0 key ≡ false → (k : ℕ) → IsBelow below k → has (key, k) ≡ true → ⊥
      none_in other k under there = other_key e.0 key other (of_key e key below k found.low (stays k under there))

      pub newest_here : eq_by_cmp (keyed_cmp cmp) e.0 key ≡ true → (k : ℕ) → StandsBetween below (Some e.1) k → has (key, k) ≡ true → ⊥
      newest_here same k follows there = stays k follows.low there (same_then (keyed_cmp cmp) (number_exact cmp exact) e key k (same_key e.0 key same) follows.past)

      pub low_here : eq_by_cmp (keyed_cmp cmp) e.0 key ≡ true → IsBelow below e.1
      low_here same = low_in e key below (same_key e.0 key same) found.low

-- ---- a key put in, and one taken out

pub entry_exact : IsExact entry_cmp
entry_exact = number_exact block_cmp block_exact

pub spot_exact : IsExact (keyed_cmp place_cmp)
spot_exact = number_exact place_cmp place_exact

module _ {K : Type 0} (cmp : K → K → Ordering) (has now : K → Bool) (e : K) where
  pub put_keeps : {T E : Type 0} (r : Result T E) (q : K) → OnOk r (Adds cmp has e now) → OnErr r (Keeps has now) → has q ≡ true → now q ≡ true
  put_keeps (Ok x) q adds same there = adds q ∙ ap (cond (eq_by_cmp cmp e q) true) there ∙ elim (eq_by_cmp cmp e q) as (λ b. cond b true true ≡ true) [ true ↦ refl | false ↦ refl ]
  put_keeps (Err x) q adds same there = same q ∙ there

  pub taken_but : IsExact cmp → (q : K) → Takes cmp has e now → (q ≡ e → ⊥) → has q ≡ true → now q ≡ true
  taken_but exact q takes other there = takes q ∙ elim (eq_by_cmp cmp e q) as (λ b. eq_by_cmp cmp e q ≡ b → cond b false (has q) ≡ true) [
    | true ↦ λ h. absurd (other (sym (exact.tied e q (is_equal (cmp e q) h))))
    | false ↦ λ _. there
  ] refl

-- a request of another shape, where the entry that goes is none of its own
pub taken_spares : (has now : Key → Bool) (place : DirSector) (shape other : ℕ × ℕ) (id span unit : ℕ) (mine yours : Block) → ((k : ℕ) → (mine, k) ≡ entry_at place shape k span unit) → ((k : ℕ) → (yours, k) ≡ entry_at place other k span unit) → eq_by_cmp block_cmp yours mine ≡ false
    → Takes entry_cmp has (mine, id) now → Spares place id has now other
taken_spares has now place shape other id span unit mine yours is its apart takes size sized there =
    taken_but entry_cmp has now (mine, id) entry_exact (entry_at place other id size sized) takes (λ same.
    let whole : entry_at place other id size sized ≡ entry_at place shape id span unit = same ∙ is id in
    let spans : size ≡ span = ap (λ (q : Key). q.0.0.0.0.1) whole in
    let units : sized ≡ unit = ap (λ (q : Key). q.0.0.1) whole in
    let there : entry_at place other id span unit ≡ (mine, id) = subst (λ (u : ℕ). entry_at place other id span u ≡ (mine, id)) units (subst (λ (u : ℕ). entry_at place other id u sized ≡ (mine, id)) spans same) in
    other_key sized_cmp sized_exact yours mine apart (ap (λ (q : Key). q.0) (its id ∙ there))) there

pub on_ok : {T E : Type 0} (r : Result T E) (P Q : Type 0) → (P → Q) → OnOk r P → OnOk r Q
on_ok (Ok x) P Q to h = to h
on_ok (Err x) P Q to h = tt

-- entries stay
abbrev Stays : (Key → Bool) → (Key → Bool) → Type 0
Stays old new = (q : Key) → old q ≡ true → new q ≡ true

-- a request that was put into its block of each size in turn
module _ (place : DirSector) (shape : ℕ × ℕ) (id : ℕ) where
  abbrev Stands : (Key → Bool) → ℕ → ℕ → Type 0
  Stands has span unit = has (entry_at place shape id span unit) ≡ true

  pub all_units : (span : ℕ) (one two three four : Key → Bool) → Stands one span 1 → Stands two span 16 → Stands three span 256 → Stands four span 4096 → Stays one two → Stays two three → Stays three four → (unit : ℕ) → IsUnit unit → Stands four span unit
  all_units span one two three four a b c d to_two to_three to_four unit (inl is) =
      subst (Stands four span) (sym is) (to_four (entry_at place shape id span 1) (to_three (entry_at place shape id span 1) (to_two (entry_at place shape id span 1) a)))
  all_units span one two three four a b c d to_two to_three to_four unit (inr (inl is)) = subst (Stands four span) (sym is) (to_four (entry_at place shape id span 16) (to_three (entry_at place shape id span 16) b))
  all_units span one two three four a b c d to_two to_three to_four unit (inr (inr (inl is))) = subst (Stands four span) (sym is) (to_four (entry_at place shape id span 256) c)
  all_units span one two three four a b c d to_two to_three to_four unit (inr (inr (inr is))) = subst (Stands four span) (sym is) d

  pub all_spans : (one two : Key → Bool) → ((unit : ℕ) → IsUnit unit → Stands one 1 unit) → ((unit : ℕ) → IsUnit unit → Stands two 16 unit) → Stays one two → IsIn two place shape id
  all_spans one two a b to_two span (inl is) unit size = subst (λ (u : ℕ). Stands two u unit) (sym is) (to_two (entry_at place shape id 1 unit) (a unit size))
  all_spans one two a b to_two span (inr is) unit size = subst (λ (u : ℕ). Stands two u unit) (sym is) (b unit size)

-- ---- of two ids the greater

pub past_both : (one other : Option ℕ) (k : ℕ) → IsNewer (greater_of one other) k → IsNewer one k × IsNewer other k
past_both None other k past = (tt, past)
past_both (Some a) None k past = (past, tt)
past_both (Some a) (Some b) k past = elim (nat_lt a b) as (λ less. nat_lt a b ≡ less → IsNewer (greater_of (Some a) (Some b)) k → (a < k) × (b < k)) [
  | true ↦ λ e h. let lt : a < b = ltb-true a b e in let g : b < k = grind (arith, e, h) in (omega arith, g)
  | false ↦ λ e h. let le : b ≤ a = ltb-false a b e in let g : a < k = grind (arith, e, h) in (g, omega arith)
] refl past

pub follows_both : (below one other : Option ℕ) (k : ℕ) → StandsBetween below (greater_of one other) k → StandsBetween below one k × StandsBetween below other k
follows_both below one other k follows =
    let two = past_both one other k follows.past in
    (record { low = follows.low; past = two.0 }, record { low = follows.low; past = two.1 })

pub low_both : (below one other : Option ℕ) → IfSome one (IsBelow below) → IfSome other (IsBelow below) → IfSome (greater_of one other) (IsBelow below)
low_both below None other l r = r
low_both below (Some a) None l r = l
low_both below (Some a) (Some b) l r = elim (nat_lt a b) as (λ less. nat_lt a b ≡ less → IfSome (greater_of (Some a) (Some b)) (IsBelow below)) [
  | true ↦ λ e. grind (arith, e, l, r)
  | false ↦ λ e. grind (arith, e, l, r)
] refl

-- ---- blocks of bios and of sectors

-- blocks of the next size are a 16th as many
pub blocks_up : (unit end s : ℕ) → IsUnit unit → end % 16 ≡ 0 → s / unit < end → s / (unit * 16) < end / 16
blocks_up unit end s (inl is) whole less = subst (λ (u : ℕ). s / u < end → s / (u * 16) < end / 16) (sym is) (λ (h : s / 1 < end). let g : s / 16 < end / 16 = omega arith in g) less
blocks_up unit end s (inr (inl is)) whole less = subst (λ (u : ℕ). s / u < end → s / (u * 16) < end / 16) (sym is) (λ (h : s / 16 < end). let g : s / 256 < end / 16 = omega arith in g) less
blocks_up unit end s (inr (inr (inl is))) whole less = subst (λ (u : ℕ). s / u < end → s / (u * 16) < end / 16) (sym is) (λ (h : s / 256 < end). let g : s / 4096 < end / 16 = omega arith in g) less
blocks_up unit end s (inr (inr (inr is))) whole less = subst (λ (u : ℕ). s / u < end → s / (u * 16) < end / 16) (sym is) (λ (h : s / 4096 < end). let g : s / 65536 < end / 16 = omega arith in g) less

pub unit_up : (unit : ℕ) → IsUnit unit → unit < 4096 → IsUnit (unit * 16)
unit_up unit (inl is) less = inr (inl (ap (λ u. u * 16) is))
unit_up unit (inr (inl is)) less = inr (inr (inl (ap (λ u. u * 16) is)))
unit_up unit (inr (inr (inl is))) less = inr (inr (inr (ap (λ u. u * 16) is)))
unit_up unit (inr (inr (inr is))) less = absurd (omega arith)

pub span_up : (span : ℕ) → IsSpan span → span < 16 → IsSpan (span * 16)
span_up span (inl is) less = inr (ap (λ u. u * 16) is)
span_up span (inr is) less = absurd (omega arith)

pub is_unit : (span : ℕ) → IsSpan span → IsUnit span
is_unit span (inl is) = inl is
is_unit span (inr is) = inr (inl is)

-- a number below the end, and not the last below it
pub not_last : (n end : ℕ) → n < end → (n ≡ end - 1 → ⊥) → n < end - 1
not_last n end less other = elim (cases_eq n (end - 1)) [ inl same ↦ absurd (other same) | inr apart ↦ omega arith ]

pub not_most : (n most : ℕ) → n ≤ most → (n ≡ most → ⊥) → n < most
not_most n most less other = elim (cases_eq n most) [ inl same ↦ absurd (other same) | inr apart ↦ omega arith ]
