-- What the calls do to the requests of each hardware queue, and to what waits.
use Rattle.std.proofs.Common.{◌≡◌, ◌<◌, ◌+◌, ◌-◌, ◌==◌, ◌&&◌, ◌∷◌, ◌++◌, ◌∙◌, sym, ap, subst, refl, arith, zero, suc, true, false, Bool, cond, ℕ, Some, None, Option, [], length, get_or, set, get_or-set_same, get_or-set_other}
use Rattle.std.specs.Prelude.{if◌then◌else◌}
use Rattle.std.specs.Ordering.{nat_cmp}
use Rattle.std.specs.Cmp.{nat_cmp_total}
use Rattle.std.specs.Option.{is_some}
use Rattle.std.specs.FinMap as map
use Rattle.std.proofs.lemmas.Bool.{eqb-true, eq-eqb}
use Rattle.std.proofs.lemmas.List.{get_or_default, set-get_or, length-set}
use Rattle.blk_bio.specs.declared.bio.Dir.{Dir}
use Rattle.blk_bio.specs.declared.limits.TheConstants.{MAX_QUEUES}
use Rattle.blk_bio.specs.declared.request.Side.{Side}
use Rattle.blk_bio.specs.Extents.{Extent}
use Rattle.blk_bio.specs.Limits.{Limits}
use Rattle.blk_sched.specs.Meaning.{Waiting, Pending, joined_waiting}
use Rattle.blk_sched.specs.Fits.{IsNewestFit, FitsNone, HasTouch}
use Rattle.blk_index.specs.Index.{IsJoined, IsOldest, IsFirst, NoneOf, FindsNothing}
use Rattle.blk_index.specs.Inside.Queues.{AreSplit, all_pending, queue_at}
use Rattle.blk_index.specs.Queues.{if_served, served_of}
use Rattle.blk_index.proofs.Served.{serves_it}
use Rattle.blk_index.proofs.Queued.{Queues, swapped, found_in, waiting_in, found_changed, none_pending, got_inserted, got_removed, is_inserted, is_removed, stays_removed}

-- what is read at a hardware queue is its own
pub queue_is : (queues : Queues) (waiting hw : ℕ) (m : Pending) → AreSplit queues waiting → hw < MAX_QUEUES → m ≡ get_or queues hw m → m ≡ queue_at queues hw
queue_is queues waiting hw m split low is =
    let within : hw < length queues = omega (arith, low, split.count) in
    is ∙ get_or_default queues hw m map.empty within

-- what a hardware queue has is what it serves of all that wait
pub here : (queues : Queues) (waiting hw : ℕ) (self m : Pending) → AreSplit queues waiting → all_pending queues ≡ self → m ≡ queue_at queues hw → (k : ℕ) → map.get m k ≡ served_of hw self k
here queues waiting hw self m split v is k = ap (λ (n : Pending). map.get n k) is ∙ split.split hw k ∙ ap (λ (n : Pending). served_of hw n k) v

-- ---- where a request is

-- one of another hardware queue is not served
not_served : (hw q : ℕ) (o : Option Waiting) → ((w : Waiting) → o ≡ Some w → w.hw ≡ hw) → (q ≡ hw → ⊥) → if_served q o ≡ None
not_served hw q None own differ = refl
not_served hw q (Some w) own differ =
    elim (w.hw == q) as (λ b. (w.hw == q) ≡ b → (if b then Some w else None) ≡ None) [
      | true ↦ λ e. absurd (differ (sym (eqb-true w.hw q e) ∙ own w refl))
      | false ↦ λ _. refl
    ] refl

-- an id of a hardware queue is at no other
alone : (queues : Queues) (waiting hw id : ℕ) → AreSplit queues waiting → ((w : Waiting) → found_in queues id ≡ Some w → w.hw ≡ hw) → (q : ℕ) → (q ≡ hw → ⊥) → waiting_in queues q id ≡ None
alone queues waiting hw id split own q differ = split.split q id ∙ not_served hw q (found_in queues id) own differ

-- ---- one hardware queue is changed at one id

is_changed : (queues : Queues) (hw id : ℕ) (m : Pending) (x : Option Waiting) → hw < length queues → ((k : ℕ) → map.get m k ≡ (if k == id then x else waiting_in queues hw k)) → (q k : ℕ) → waiting_in (set queues hw m) q k ≡ cond (q == hw && k == id) x (waiting_in queues q k)
is_changed queues hw id m x low h q k =
    elim (q == hw) as (λ t. (q == hw) ≡ t → waiting_in (set queues hw m) q k ≡ cond (t && k == id) x (waiting_in queues q k)) [
      | true ↦ λ e. let same : q ≡ hw = eqb-true q hw e in
          ap (λ j. waiting_in (set queues hw m) j k) same
          ∙ ap (λ (l : Pending). map.get l k) (get_or-set_same queues hw m map.empty low)
          ∙ h k
          ∙ ap (λ j. cond (k == id) x (waiting_in queues j k)) (sym same)
      | false ↦ λ e. ap (λ (l : Pending). map.get l k) (get_or-set_other queues hw q m map.empty (λ same. let a : (q == hw) ≡ true = eq-eqb q hw same in cc))
    ] refl

served_own : (hw q : ℕ) (x : Option Waiting) → ((w : Waiting) → x ≡ Some w → w.hw ≡ hw) → if_served q x ≡ cond (q == hw) x None
served_own hw q None own = elim (q == hw) as (λ b. ◌≡◌ {A = Option Waiting} None (cond b None None)) [ true ↦ refl | false ↦ refl ]
served_own hw q (Some w) own = ap (λ b. if b then Some w else None) (ap (λ h. h == q) (own w refl) ∙ swapped hw q)

served_turn : (b : Bool) (x this : Option Waiting) → (b ≡ false → this ≡ None) → cond (b && true) x this ≡ cond b x None
served_turn true x this none = refl
served_turn false x this none = none refl

change : (hw q : ℕ) (same : Bool) (x old this : Option Waiting) → ((w : Waiting) → x ≡ Some w → w.hw ≡ hw) → (same ≡ true → (q ≡ hw → ⊥) → this ≡ None) → this ≡ if_served q old → cond ((q == hw) && same) x this ≡ if_served q (if same then x else old)
change hw q true x old this own others is =
    served_turn (q == hw) x this (λ e. others refl (λ same. let a : (q == hw) ≡ true = eq-eqb q hw same in absurd (cc)))
    ∙ sym (served_own hw q x own)
change hw q false x old this own others is = elim (q == hw) as (λ b. cond (b && false) x this ≡ this) [ true ↦ refl | false ↦ refl ] ∙ is

-- a change of one hardware queue at one id, as each call makes it: what is there then, if anything, entered there
pub record IsChange (queues : Queues) (waiting hw id : ℕ) (m : Pending) (x : Option Waiting) : Type 0 where
  pub split : AreSplit queues waiting
  pub low : hw < MAX_QUEUES
  pub own : (w : Waiting) → found_in queues id ≡ Some w → w.hw ≡ hw
  pub own_then : (w : Waiting) → x ≡ Some w → w.hw ≡ hw
  pub is : (k : ℕ) → map.get m k ≡ (if k == id then x else waiting_in queues hw k)

module _ (queues : Queues) (waiting hw id : ℕ) (m : Pending) (x : Option Waiting) (t : IsChange queues waiting hw id m x) where
  found_then : (k : ℕ) → found_in (set queues hw m) k ≡ (if k == id then x else found_in queues k)
  found_then = let low : hw < length queues = omega (arith, t.low, t.split.count) in found_changed queues hw id m x low (alone queues waiting hw id t.split t.own) t.is

  split_then : (count : ℕ) → count ≡ map.len (all_pending (set queues hw m)) → AreSplit (set queues hw m) count
  split_then count counted =
      let low : hw < length queues = omega (arith, t.low, t.split.count) in
      record {
        count = length-set queues hw m ∙ t.split.count;
        split = λ q k. is_changed queues hw id m x low t.is q k
            ∙ change hw q (k == id) x (found_in queues k) (waiting_in queues q k) t.own_then
            (λ e differ. ap (waiting_in queues q) (eqb-true k id e) ∙ alone queues waiting hw id t.split t.own q differ)
            (t.split.split q k)
            ∙ ap (if_served q) (sym (found_then k));
        counted = counted;
      }

-- how many wait then
count_put : (m : Pending) (id : ℕ) (w : Waiting) → map.get m id ≡ None → map.len (map.insert m id w) ≡ map.len m + 1
count_put m id w none = map.len-insert nat_cmp_total m id w ∙ ap (λ o. cond (is_some o) (map.len m) (map.len m + 1)) none

count_changed : (m : Pending) (id : ℕ) (w v : Waiting) → map.get m id ≡ Some v → map.len (map.insert m id w) ≡ map.len m
count_changed m id w v some = map.len-insert nat_cmp_total m id w ∙ ap (λ o. cond (is_some o) (map.len m) (map.len m + 1)) some

count_out : (m : Pending) (id : ℕ) (w : Waiting) → map.get m id ≡ Some w → map.len (map.remove m id) ≡ map.len m - 1
count_out m id w some = map.len-remove nat_cmp_total m id ∙ ap (λ o. cond (is_some o) (map.len m - 1) (map.len m)) some

some_waits : (m : Pending) (id : ℕ) (w : Waiting) → map.get m id ≡ Some w → 0 < map.len m
some_waits m id w there = elim (map.len m) as (λ n. map.len m ≡ n → 0 < n) [
  | zero ↦ λ e. let none : map.get m id ≡ None = ap (λ (k : Pending). map.get k id) (map.empty_of_len m e) ∙ map.get-empty nat_cmp id in absurd (cc)
  | suc n ↦ λ _. omega arith
] refl

-- a queue that stays leaves all as it was
stays : (queues : Queues) (hw : ℕ) (m after : Pending) → m ≡ queue_at queues hw → after ≡ m → set queues hw after ≡ queues
stays queues hw m after is same = ap (set queues hw) (same ∙ is) ∙ set-get_or queues hw map.empty

-- ---- entering

module _ (queues : Queues) (waiting hw : ℕ) (self m after : Pending) (w : Waiting) (v : all_pending queues ≡ self) (split : AreSplit queues waiting) (low : hw < MAX_QUEUES) (is : m ≡ queue_at queues hw) (own : w.hw ≡ hw) (none : map.get self w.id ≡ None) (put : after ≡ map.insert m w.id w) where
  absent : found_in queues w.id ≡ None
  absent = ap (λ (n : Pending). map.get n w.id) v ∙ none

  enters : IsChange queues waiting hw w.id after (Some w)
  enters = record {
    split = split;
    low = low;
    own = λ u found. let gone : found_in queues w.id ≡ None = absent in absurd (cc);
    own_then = λ u one. let same : w ≡ u = cc in ap (λ (x : Waiting). x.hw) (sym same) ∙ own;
    is = λ k. ap (λ (n : Pending). map.get n k) put ∙ got_inserted m w.id w k ∙ ap (λ (n : Pending). if k == w.id then Some w else map.get n k) is;
  }

  put_in : all_pending (set queues hw after) ≡ map.insert (all_pending queues) w.id w
  put_in = is_inserted (all_pending queues) (all_pending (set queues hw after)) w.id w (found_then queues waiting hw w.id after (Some w) enters)

  pub entered_view : all_pending (set queues hw after) ≡ map.insert self w.id w
  entered_view = put_in ∙ ap (λ (n : Pending). map.insert n w.id w) v

  pub entered_split : (count : ℕ) → count ≡ waiting + 1 → AreSplit (set queues hw after) count
  entered_split count more = split_then queues waiting hw w.id after (Some w) enters count (
      more ∙ ap (λ n. n + 1) split.counted ∙ sym (count_put (all_pending queues) w.id w absent) ∙ ap map.len (sym put_in))

pub not_there : (queues : Queues) (waiting hw : ℕ) (self m : Pending) (id : ℕ) → all_pending queues ≡ self → AreSplit queues waiting → m ≡ queue_at queues hw → map.get self id ≡ None → map.get m id ≡ None
not_there queues waiting hw self m id v split is none = here queues waiting hw self m split v is id ∙ ap (if_served hw) none

-- ---- joining

module _ (queues : Queues) (waiting hw now : ℕ) (self m after : Pending) (id : ℕ) (newcomer : Extent) (side : Side) (v : all_pending queues ≡ self) (split : AreSplit queues waiting) (low : hw < MAX_QUEUES) (is : m ≡ queue_at queues hw) (came : IsJoined now newcomer m id side after) where
  one : Waiting
  one = came.waiting

  grown : Waiting
  grown = joined_waiting side now newcomer came.waiting

  was_there : (found_in queues id ≡ Some came.waiting) × (came.waiting.hw ≡ hw)
  was_there = serves_it hw (found_in queues id) came.waiting (sym (split.split hw id) ∙ ap (λ (n : Pending). map.get n id) (sym is) ∙ came.was)

  joining : IsChange queues waiting hw id after (Some (joined_waiting side now newcomer came.waiting))
  joining = record {
    split = split;
    low = low;
    own = λ u found. let first : Some came.waiting ≡ Some u = sym was_there.0 ∙ found in let same : came.waiting ≡ u = cc in ap (λ (x : Waiting). x.hw) (sym same) ∙ was_there.1;
    own_then = λ u first. let same : joined_waiting side now newcomer came.waiting ≡ u = cc in ap (λ (x : Waiting). x.hw) (sym same) ∙ was_there.1;
    is = λ k. ap (λ (n : Pending). map.get n k) came.is ∙ got_inserted m id (joined_waiting side now newcomer came.waiting) k
        ∙ ap (λ (n : Pending). if k == id then Some (joined_waiting side now newcomer came.waiting) else map.get n k) is;
  }

  changed_in : all_pending (set queues hw after) ≡ map.insert (all_pending queues) id (joined_waiting side now newcomer came.waiting)
  changed_in = is_inserted (all_pending queues) (all_pending (set queues hw after)) id (joined_waiting side now newcomer came.waiting) (found_then queues waiting hw id after (Some (joined_waiting side now newcomer came.waiting)) joining)

  pub joined_view : IsJoined now newcomer self id side (all_pending (set queues hw after))
  joined_view = record {
    waiting = came.waiting;
    was = ap (λ (n : Pending). map.get n id) (sym v) ∙ was_there.0;
    is = changed_in ∙ ap (λ (n : Pending). map.insert n id (joined_waiting side now newcomer came.waiting)) v;
  }

  pub joined_split : AreSplit (set queues hw after) waiting
  joined_split = split_then queues waiting hw id after (Some (joined_waiting side now newcomer came.waiting)) joining waiting (
      split.counted ∙ sym (count_changed (all_pending queues) id (joined_waiting side now newcomer came.waiting) came.waiting was_there.0) ∙ ap map.len (sym changed_in))

pub touch_here : (queues : Queues) (waiting hw : ℕ) (self m : Pending) (newcomer : Extent) (id : ℕ) (side : Side) → all_pending queues ≡ self → AreSplit queues waiting → m ≡ queue_at queues hw → HasTouch (served_of hw self) newcomer id side → HasTouch (map.get m) newcomer id side
touch_here queues waiting hw self m newcomer id side v split is touch = (touch.0, here queues waiting hw self m split v is id ∙ touch.1, touch.2)

-- ---- looking

module _ (queues : Queues) (waiting hw : ℕ) (self m : Pending) (v : all_pending queues ≡ self) (split : AreSplit queues waiting) (is : m ≡ queue_at queues hw) where
  pub newest_here : (limits : Limits) (newcomer : Extent) (id : ℕ) (side : Side) → IsNewestFit limits true (map.get m) newcomer id side → IsNewestFit limits true (served_of hw self) newcomer id side
  newest_here limits newcomer id side best = record {
    waiting = best.waiting;
    is_found = sym (here queues waiting hw self m split v is id) ∙ best.is_found;
    fits = best.fits;
    newest = λ other w later there. best.newest other w later (here queues waiting hw self m split v is other ∙ there);
  }

  pub none_fits_here : (limits : Limits) (newcomer : Extent) → FitsNone limits true (map.get m) newcomer → FitsNone limits true (served_of hw self) newcomer
  none_fits_here limits newcomer none id w there = none id w (here queues waiting hw self m split v is id ∙ there)

  pub oldest_here : (dir : Dir) (id : ℕ) → IsOldest dir (map.get m) id → IsOldest dir (served_of hw self) id
  oldest_here dir id best = record {
    waiting = best.waiting;
    is_found = sym (here queues waiting hw self m split v is id) ∙ best.is_found;
    same_dir = best.same_dir;
    least = λ k w before there. best.least k w before (here queues waiting hw self m split v is k ∙ there);
  }

  pub none_here : (dir : Dir) → NoneOf dir (map.get m) → NoneOf dir (served_of hw self)
  none_here dir none k w there = none k w (here queues waiting hw self m split v is k ∙ there)

  pub first_here : (id : ℕ) → IsFirst (map.get m) id → IsFirst (served_of hw self) id
  first_here id best = record {
    waiting = best.waiting;
    is_found = sym (here queues waiting hw self m split v is id) ∙ best.is_found;
    least = λ k w before there. best.least k w before (here queues waiting hw self m split v is k ∙ there);
  }

  pub nothing_here : FindsNothing (map.get m) → FindsNothing (served_of hw self)
  nothing_here none k w there = none k w (here queues waiting hw self m split v is k ∙ there)

-- ---- taking out

module _ (queues : Queues) (waiting hw : ℕ) (self m after : Pending) (id : ℕ) (w : Waiting) (v : all_pending queues ≡ self) (split : AreSplit queues waiting) (low : hw < MAX_QUEUES) (is : m ≡ queue_at queues hw) (there : map.get m id ≡ Some w) (gone : after ≡ map.remove m id) where
  stood : (found_in queues id ≡ Some w) × (w.hw ≡ hw)
  stood = serves_it hw (found_in queues id) w (sym (split.split hw id) ∙ ap (λ (n : Pending). map.get n id) (sym is) ∙ there)

  taking : IsChange queues waiting hw id after None
  taking = record {
    split = split;
    low = low;
    own = λ u found. let first : Some w ≡ Some u = sym stood.0 ∙ found in let same : w ≡ u = cc in ap (λ (x : Waiting). x.hw) (sym same) ∙ stood.1;
    own_then = λ u nothing. absurd (cc);
    is = λ k. ap (λ (n : Pending). map.get n k) gone ∙ got_removed m id k ∙ ap (λ (n : Pending). if k == id then None else map.get n k) is;
  }

  taken_out : all_pending (set queues hw after) ≡ map.remove (all_pending queues) id
  taken_out = is_removed (all_pending queues) (all_pending (set queues hw after)) id (found_then queues waiting hw id after None taking)

  pub taken_view : all_pending (set queues hw after) ≡ map.remove self id
  taken_view = taken_out ∙ ap (λ (n : Pending). map.remove n id) v

  pub taken_split : (count : ℕ) → count ≡ waiting - 1 → AreSplit (set queues hw after) count
  taken_split count less = split_then queues waiting hw id after None taking count (
      less ∙ ap (λ n. n - 1) split.counted ∙ sym (count_out (all_pending queues) id w stood.0) ∙ ap map.len (sym taken_out))

  pub one_waits : 0 < waiting
  one_waits = let some : 0 < map.len (all_pending queues) = some_waits (all_pending queues) id w stood.0 in omega (arith, some, split.counted)

module _ (queues : Queues) (waiting hw : ℕ) (m after : Pending) (id : ℕ) (split : AreSplit queues waiting) (is : m ≡ queue_at queues hw) (none : map.get m id ≡ None) (gone : after ≡ map.remove m id) where
  pub nothing_taken : set queues hw after ≡ queues
  nothing_taken = stays queues hw m after is (gone ∙ stays_removed m id none)

  pub still_split : AreSplit (set queues hw after) waiting
  still_split = subst (λ (l : Queues). AreSplit l waiting) (sym nothing_taken) split

-- ---- at first

-- an empty queue after empty ones
pub all_empty : (queues : Queues) (m : Pending) → ((q : ℕ) → get_or queues q map.empty ≡ map.empty) → m ≡ map.empty → (q : ℕ) → get_or (queues ++ m ∷ []) q map.empty ≡ map.empty
all_empty [] m h e zero = e
all_empty [] m h e (suc q) = refl
all_empty (l ∷ queues) m h e zero = h 0
all_empty (l ∷ queues) m h e (suc q) = all_empty queues m (λ j. h (suc j)) e q

pub empty_split : (queues : Queues) → length queues ≡ MAX_QUEUES → ((q : ℕ) → get_or queues q map.empty ≡ map.empty) → AreSplit queues 0
empty_split queues count none = record {
  count = count;
  split = λ q k. ap (λ (m : Pending). map.get m k) (none q) ∙ map.get-empty nat_cmp k
      ∙ sym (ap (if_served q) (ap (λ (m : Pending). map.get m k) (none_pending queues none) ∙ map.get-empty nat_cmp k));
  counted = sym (ap map.len (none_pending queues none) ∙ map.len-empty nat_cmp Waiting);
}
