-- A command that comes into a worker's hands under a tag, and one that leaves them.
use Rattle.std.proofs.Common.{◌≡◌, ◌∙◌, ◌+◌, ◌<◌, ◌≤◌, ◌==◌, ℕ, zero, suc, List, [], ◌∷◌, ◌++◌, Bool, true, false, Some, None, map, length, refl, sym, ap, subst, inl, inr, arith, length-set, cond, get_or}
use Rattle.std.specs.Prelude.{Option, IfSome, IfNone, is_some, slice_get, slice_set, slice_index_or, count_by, Contains}
use Rattle.std.proofs.lemmas.Bool.{cases_Bool, eq-eqb}
use Rattle.std.proofs.lemmas.List.{map-set, length-map}
use Rattle.std.proofs.lemmas.List.Sums.{count_by-le-length, sum_by-set}
use Rattle.std.proofs.lemmas.Option.{get_or_from_slice_get}
use Rattle.edd_commands.specs.declared.Command.{Command}
use Rattle.blk_trace.specs.Setups.{Setup}
use Rattle.blk_tags.specs.Tags.{Set, Seat, one_if, count_of, without}
use Rattle.blk_tags.specs.Inside.{Marks}
use Rattle.blk_tags.proofs.Counts.{none_count}
use Rattle.blk_tags.proofs.Marked.{marked_take, marked_give, no_mark}
use Rattle.blk_layer.specs.Seats.{WorkerSeat}
use Rattle.blk_layer.specs.Serving.{TakesInHand}
use Rattle.blk_layer.specs.Inside.Seats.{IsWorking}
use Rattle.blk_layer.proofs.Held.{tags_are}

-- a tag that is put at the end and taken away again leaves what was there
pub pushed_without : (t : ℕ) (v : List ℕ) → count_of t v ≡ 0 → without t (v ++ t ∷ []) ≡ v
pushed_without t [] none = rw (eq-eqb t t refl) refl
pushed_without t (x ∷ xs) none = elim (cases_Bool (x == t)) [
  | inl y ↦ absurd (let e : one_if (x == t) ≡ 1 = rw y refl in omega (arith, none, e))
  | inr n ↦ let e : one_if (x == t) ≡ 0 = rw n refl in rw n (ap (λ l. x ∷ l) (pushed_without t xs (omega (arith, none, e))))
]

-- an unmarked tag is that of an empty hand
empty_at : (hands : List (Option Command)) (t : ℕ) → t < length hands → slice_index_or (map is_some hands) t false ≡ false → slice_get hands t ≡ Some None
empty_at [] t less h = absurd (omega (arith, less))
empty_at (None ∷ hs) zero less h = refl
empty_at (Some c ∷ hs) zero less h = absurd (cc)
empty_at (_ ∷ hs) (suc t) less h = empty_at hs t (omega (arith, less)) h

one_false : (b : Bool) → one_if b ≡ 0 → b ≡ false
one_false true h = absurd (omega (arith, h))
one_false false h = refl

pub free_at : (hands : List (Option Command)) (v : List ℕ) (t : ℕ) → Marks (map is_some hands) v → t < length hands → count_of t v ≡ 0 → slice_get hands t ≡ Some None
free_at hands v t m less none = empty_at hands t less (one_false (slice_index_or (map is_some hands) t false) (sym (m t) ∙ none))

-- a tag that was taken and given back: what the seat of its tags is of, and what it holds
pub given_back : (old took gave : Seat) (t : ℕ) (one other : Option ℕ) → took ≡ record { of_set = old.of_set; tags = old.tags ++ t ∷ []; last = one; steps = took.steps }
    → gave ≡ record { of_set = took.of_set; tags = without t took.tags; last = other; steps = took.steps ++ t ∷ [] } → ¬ Contains old.tags t
    → (gave.of_set ≡ old.of_set) × (gave.tags ≡ old.tags)
given_back old took gave t one other e f free = (
  ap (λ (s : Seat). s.of_set) f ∙ ap (λ (s : Seat). s.of_set) e,
  ap (λ (s : Seat). s.tags) f ∙ ap (λ (s : Seat). without t s.tags) e ∙ pushed_without t old.tags (none_count old.tags t free),
)

-- a worker whose account has more room
pub more_room : (setup : Setup) (queues : List ℕ) (hw depth same : ℕ) (v w : List ℕ) (hands : List (Option Command)) (ran as_many room more parts amount : ℕ)
    → IsWorking setup queues hw depth v hands ran room parts amount → same ≡ depth → w ≡ v → as_many ≡ ran → room ≤ more
    → IsWorking setup queues hw same w hands as_many more parts amount
more_room setup queues hw depth same v w hands ran as_many room more parts amount is d e r le = rw (d, e, r) (record {
  queue = is.queue;
  one = is.one;
  named = is.named;
  places = is.places;
  marks = is.marks;
  room_left = omega (arith, is.room_left, le);
  part = is.part;
  counted = is.counted;
})

-- one whose part of the ledger has what it had
pub same_part : (setup : Setup) (queues : List ℕ) (hw depth : ℕ) (v : List ℕ) (hands : List (Option Command)) (ran room parts pieces amount sum : ℕ)
    → IsWorking setup queues hw depth v hands ran room parts amount → pieces ≡ parts → sum ≡ amount → IsWorking setup queues hw depth v hands ran room pieces sum
same_part setup queues hw depth v hands ran room parts pieces amount sum is p s = rw (p, s) is

pub same_seat : (set same : Set) (hw : ℕ) (v w : List ℕ) (hands : List (Option Command)) (ran all : List Command) → same ≡ set → w ≡ v → all ≡ ran
    → (let new : WorkerSeat = record { tag_set = same; hw = hw; tags = w; hands = hands; ran = all } in new) ≡ record { tag_set = set; hw = hw; tags = v; hands = hands; ran = ran }
same_seat set same hw v w hands ran all e f g = rw (e, f, g) refl

-- a worker with a command more in its hands, whose account has room for all that it can hold
pub one_more : (setup : Setup) (queues : List ℕ) (hw depth same : ℕ) (v w : List ℕ) (hands : List (Option Command)) (ran as_many room more parts amount at t : ℕ) (command : Command)
    → IsWorking setup queues hw depth v hands ran room parts amount → same ≡ depth → as_many ≡ ran → as_many + length hands ≤ more → t < depth → ¬ Contains v t
    → w ≡ v ++ t ∷ [] → at ≡ t → IsWorking setup queues hw same w (slice_set hands at (Some command)) as_many more parts amount
one_more setup queues hw depth same v w hands ran as_many room more parts amount at t command is d r le less free e a =
    let now : List (Option Command) = slice_set hands t (Some command) in
    let long : length now ≡ length hands = length-set hands t (Some command) in
    let below : t < length (map is_some hands) = omega (arith, length-map hands is_some, less, is.places) in
    let marks : Marks (map is_some now) w = subst (λ (marks : List Bool). Marks marks w) (sym (map-set is_some hands t (Some command))) (marked_take (map is_some hands) v w t is.marks below (none_count v t free) e) in
    let whole : IsWorking setup queues hw depth w now ran more parts amount = record {
      queue = is.queue;
      one = is.one;
      named = is.named;
      places = long ∙ is.places;
      marks = marks;
      room_left = omega (arith, count_by-le-length is_some now, long, le, r);
      part = is.part;
      counted = is.counted;
    } in
    rw (d, a, r) whole

pub takes : (set same : Set) (hw : ℕ) (v w : List ℕ) (hands : List (Option Command)) (ran all : List Command) (at t : ℕ) (command : Command)
    → same ≡ set → w ≡ v ++ t ∷ [] → all ≡ ran → at ≡ t → Marks (map is_some hands) v → length hands ≡ set.depth → t < set.depth → ¬ Contains v t
    → TakesInHand (record { tag_set = set; hw = hw; tags = v; hands = hands; ran = ran }) t command (record { tag_set = same; hw = hw; tags = w; hands = slice_set hands at (Some command); ran = all })
takes set same hw v w hands ran all at t command e f g a marks long less free = rw (e, f, g, a) (record {
  below = less;
  free = free_at hands v t marks (omega (arith, long, less)) (none_count v t free);
  unheld = free;
  taken = refl;
})

-- what was read at a place below the length stands there
pub read_at : {X : Type 0} (xs : List X) (t : ℕ) (x : X) → t < length xs → x ≡ slice_index_or xs t x → slice_get xs t ≡ Some x
read_at [] t x less e = absurd (omega (arith, less))
read_at (y ∷ ys) zero x less e = ap Some (sym e)
read_at (y ∷ ys) (suc t) x less e = read_at ys t x (omega (arith, less)) e

pub hand_some : (hands : List (Option Command)) (t : ℕ) (r : Option Command) → slice_get hands t ≡ Some r → IfSome r (λ command. slice_get hands t ≡ Some (Some command))
hand_some hands t (Some command) e = e
hand_some hands t None e = tt

pub hand_none : (hands : List (Option Command)) (v : List ℕ) (t : ℕ) (r : Option Command) → Marks (map is_some hands) v → slice_get hands t ≡ Some r → IfNone r (¬ Contains v t)
hand_none hands v t (Some command) m e = tt
hand_none hands v t None m e = λ has. not_both ((tags_are v hands m t).0 has)
  where
    not_both : (command : Command) × (slice_get hands t ≡ Some (Some command)) → ⊥
    not_both h = let s : Some (Some h.0) ≡ Some None = sym h.1 ∙ e in absurd (cc)

pub hand_past : (hands : List (Option Command)) (v : List ℕ) (t : ℕ) → Marks (map is_some hands) v → length hands ≤ t → ¬ Contains v t
hand_past hands v t m past = no_mark (map is_some hands) v t m (omega (arith, length-map hands is_some, past))

pub within : {X : Type 0} (xs : List X) (t : ℕ) (x : X) → slice_get xs t ≡ Some x → t < length xs
within [] t x h = absurd (let e : None ≡ Some x = h in cc)
within (y ∷ ys) zero x h = omega arith
within (y ∷ ys) (suc t) x h = omega (arith, within ys t x h)

pub one_less : (hands : List (Option Command)) (t : ℕ) (command : Command) → slice_get hands t ≡ Some (Some command) → count_by is_some (slice_set hands t None) + 1 ≡ count_by is_some hands
one_less hands t command held =
    let one : Option Command → ℕ = λ hand. cond (is_some hand) 1 0 in
    let there : one (get_or hands t None) ≡ 1 = ap one (get_or_from_slice_get hands t (Some command) None held) in
    let sums : count_by is_some (slice_set hands t None) + one (get_or hands t None) ≡ count_by is_some hands + 0 = sum_by-set one hands t None None (within hands t (Some command) held) in
    omega (arith, sums, there)

-- a tag whose command is in the hands is held
pub tag_held : (hands : List (Option Command)) (v : List ℕ) (t : ℕ) (command : Command) → Marks (map is_some hands) v → slice_get hands t ≡ Some (Some command) → Contains v t
tag_held hands v t command m at = (tags_are v hands m t).1 (command, at)

-- a worker with a command less in its hands, which its account may have more
pub one_fewer : (setup : Setup) (queues : List ℕ) (hw depth same : ℕ) (v w : List ℕ) (hands : List (Option Command)) (ran as_many room more parts pieces amount sum at t : ℕ) (command : Command)
    → IsWorking setup queues hw depth v hands ran room parts amount → same ≡ depth → slice_get hands t ≡ Some (Some command) → w ≡ without t v → at ≡ t
    → as_many ≤ ran + 1 → more ≡ room → pieces ≡ parts → sum ≡ as_many
    → IsWorking setup queues hw same w (slice_set hands at None) as_many more pieces sum
one_fewer setup queues hw depth same v w hands ran as_many room more parts pieces amount sum at t command is d held e a few m p s =
    let now : List (Option Command) = slice_set hands t None in
    let long : length now ≡ length hands = length-set hands t None in
    let below : t < length (map is_some hands) = omega (arith, length-map hands is_some, within hands t (Some command) held) in
    let marks : Marks (map is_some now) w = subst (λ (marks : List Bool). Marks marks w) (sym (map-set is_some hands t None)) (marked_give (map is_some hands) v w t is.marks below e) in
    let whole : IsWorking setup queues hw depth w now as_many room parts as_many = record {
      queue = is.queue;
      one = is.one;
      named = is.named;
      places = long ∙ is.places;
      marks = marks;
      room_left = omega (arith, one_less hands t command held, is.room_left, few);
      part = is.part;
      counted = refl;
    } in
    rw (d, a, m, p, s) whole
