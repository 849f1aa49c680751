-- How the tags of a round stand: lists by tags.
use Rattle.std.proofs.lemmas.Bool.{cases_lt}
use Rattle.std.proofs.lemmas.Bool.Decides.{eqb_tells}
use Rattle.std.proofs.Common.{inl, inr, zero, suc, ◌≡◌, ◌≢◌, ◌∙◌, sym, ap, subst, refl, ℕ, ◌+◌, ◌≤◌, ◌<◌, arith, cond, List, [], ◌∷◌, ◌++◌, length, map, Option, Some, None, get_or, get_or-set_same, get_or-set_other, sum_by, set, ◌==◌}
use Rattle.std.proofs.lemmas.List.{get_or-replicate}
use Rattle.std.proofs.lemmas.List.Sums.{sum_by-cons}
use Rattle.std.proofs.Math.ListN.{replicate, length-replicate, take, drop}
use Rattle.std.proofs.Math.Seq.{take-append_seam}
use Rattle.std.specs.List.{slice_get}
use Rattle.blk_bio.specs.declared.bio.Dir.{Dir}
use Rattle.blk_bio.specs.declared.bio.Dir.TheVariants.{Read, Write}
use Rattle.blk_trace.specs.Inside.Seats.{RoundSeat}
use Rattle.blk_trace.specs.Setups.{same_dir}
use Rattle.blk_sched.specs.Meaning.{Waiting, OpenPicks, opened, requeued_of, after_requeue}
use Rattle.blk_core.specs.declared.tags.TagState.{TagState}
use Rattle.blk_core.specs.declared.tags.TagState.TheVariants.{Free, InFlight, Spent}
use Rattle.blk_core.specs.State.{Flight}
use Rattle.blk_core.specs.Inside.Ties.{seat_of, queue_of, flight_of, flying, IfInFlight}

by_dir : (d : Dir) → cond (same_dir Read d) 1 0 + cond (same_dir Write d) 1 0 ≤ 1
by_dir Read = omega arith
by_dir Write = omega arith

one_each : (s : TagState) → flying Read s + flying Write s ≤ 1
one_each Free = omega arith
one_each (InFlight hw w) = by_dir w.extent.dir
one_each (Spent d) = omega arith

-- no more commands are in flight than there are tags
pub few_fly : (tags : List TagState) → sum_by (flying Read) tags + sum_by (flying Write) tags ≤ length tags
few_fly [] = omega arith
few_fly (s ∷ tags) = omega (arith, one_each s, few_fly tags, sum_by-cons (flying Read) s tags, sum_by-cons (flying Write) s tags)

-- and fewer where one of these is free
pub free_flies : (tags : List TagState) (tag : ℕ) → tag < length tags → get_or tags tag Free ≡ Free → sum_by (flying Read) tags + sum_by (flying Write) tags < length tags
free_flies [] tag lt at = absurd (omega arith)
free_flies (s ∷ tags) zero lt at =
    let r : flying Read s ≡ 0 = ap (flying Read) at in
    let w : flying Write s ≡ 0 = ap (flying Write) at in
    omega (arith, few_fly tags, sum_by-cons (flying Read) s tags, sum_by-cons (flying Write) s tags)
free_flies (s ∷ tags) (suc tag) lt at = omega (arith, one_each s, free_flies tags tag (omega arith) at, sum_by-cons (flying Read) s tags, sum_by-cons (flying Write) s tags)

-- the counts of picks, with one more that is open or requeued
pub opened_reads : (d : Dir) (p : OpenPicks) → (opened d p).reads ≡ p.reads + cond (same_dir Read d) 1 0
opened_reads Read p = refl
opened_reads Write p = omega arith

pub opened_writes : (d : Dir) (p : OpenPicks) → (opened d p).writes ≡ p.writes + cond (same_dir Write d) 1 0
opened_writes Read p = omega arith
opened_writes Write p = refl

pub opened_requeued : (e d : Dir) (p : OpenPicks) → requeued_of e (opened d p) ≡ requeued_of e p
opened_requeued Read Read p = refl
opened_requeued Read Write p = refl
opened_requeued Write Read p = refl
opened_requeued Write Write p = refl

pub requeued_reads : (d : Dir) (p : OpenPicks) → (after_requeue d p).reads ≡ p.reads
requeued_reads Read p = refl
requeued_reads Write p = refl

pub requeued_writes : (d : Dir) (p : OpenPicks) → (after_requeue d p).writes ≡ p.writes
requeued_writes Read p = refl
requeued_writes Write p = refl

pub requeued_more : (e d : Dir) (p : OpenPicks) → requeued_of e (after_requeue d p) ≡ requeued_of e p + cond (same_dir e d) 1 0
requeued_more Read Read p = refl
requeued_more Read Write p = omega arith
requeued_more Write Read p = omega arith
requeued_more Write Write p = refl

-- the seats of the tags, after one is set
pub seats_set : (W V : ℕ → Option RoundSeat) (tags : List TagState) (tag : ℕ) (s : TagState) → tag < length tags → ((t : ℕ) → t < length tags → seat_of (get_or tags t Free) ≡ W t) → ((t : ℕ) → V t ≡ cond (tag == t) (seat_of s) (W t)) → (t : ℕ) → t < length tags → seat_of (get_or (set tags tag s) t Free) ≡ V t
seats_set W V tags tag s lt h step t u = elim (eqb_tells tag t) [
  | inl y ↦ subst (λ k. seat_of (get_or (set tags tag s) k Free) ≡ seat_of s) y.1 (ap seat_of (get_or-set_same tags tag s Free lt))
      ∙ ap (λ b. cond b (seat_of s) (W t)) (sym y.0) ∙ sym (step t)
  | inr n ↦ ap seat_of (get_or-set_other tags tag t s Free (λ e. n.1 (sym e))) ∙ h t u
      ∙ ap (λ b. cond b (seat_of s) (W t)) (sym n.0) ∙ sym (step t)
]

-- their hardware queues
pub queues_set : (count : ℕ) (tags : List TagState) (tag : ℕ) (s : TagState) → tag < length tags → queue_of s < count → ((t : ℕ) → queue_of (get_or tags t Free) < count) → (t : ℕ) → queue_of (get_or (set tags tag s) t Free) < count
queues_set count tags tag s lt small h t = elim (eqb_tells tag t) [
  | inl y ↦ subst (λ k. queue_of (get_or (set tags tag s) k Free) < count) y.1 (subst (λ x. queue_of x < count) (sym (get_or-set_same tags tag s Free lt)) small)
  | inr n ↦ subst (λ x. queue_of x < count) (sym (get_or-set_other tags tag t s Free (λ e. n.1 (sym e)))) (h t)
]

-- what is said of their commands in flight
pub flown_set : (P Q : ℕ → Waiting → Type 0) (tags : List TagState) (tag : ℕ) (s : TagState) → tag < length tags → ((t : ℕ) (w : Waiting) → tag ≢ t → P t w → Q t w) → ((hw : ℕ) (w : Waiting) → s ≡ InFlight hw w → Q tag w) → ((t hw : ℕ) (w : Waiting) → get_or tags t Free ≡ InFlight hw w → P t w) → (t hw : ℕ) (w : Waiting) → get_or (set tags tag s) t Free ≡ InFlight hw w → Q t w
flown_set P Q tags tag s lt kept here h t hw w at = elim (eqb_tells tag t) [
  | inl y ↦ subst (λ k. Q k w) y.1 (here hw w (sym (get_or-set_same tags tag s Free lt) ∙ subst (λ k. get_or (set tags tag s) k Free ≡ InFlight hw w) (sym y.1) at))
  | inr n ↦ kept t w n.1 (h t hw w (sym (get_or-set_other tags tag t s Free (λ e. n.1 (sym e))) ∙ at))
]

past_end : (tags : List TagState) (q : ℕ) → length tags ≤ q → get_or tags q Free ≡ Free
past_end [] q h = refl
past_end (s ∷ tags) zero h = absurd (omega arith)
past_end (s ∷ tags) (suc q) h = past_end tags q (omega arith)

-- a tag of which no command was issued
abbrev pub unused : TagState
unused = Free

pub all_free : (n q : ℕ) → get_or (replicate n unused) q Free ≡ Free
all_free n q = elim (cases_lt q n) [ inl h ↦ get_or-replicate n q unused Free h | inr h ↦ past_end (replicate n unused) q (let l = length-replicate n unused in omega arith) ]

-- what stands at a place, whatever is read past the end
pub any_default : {X : Type 0} (xs : List X) (k : ℕ) (d e : X) → k < length xs → get_or xs k d ≡ get_or xs k e
any_default [] k d e h = absurd (omega arith)
any_default (x ∷ xs) zero d e h = refl
any_default (x ∷ xs) (suc k) d e h = any_default xs k d e (omega arith)

-- two lists that read alike are one
alike : (xs ys : List TagState) → length xs ≡ length ys → ((k : ℕ) → k < length xs → get_or xs k Free ≡ get_or ys k Free) → xs ≡ ys
alike [] [] e h = refl
alike [] (y ∷ ys) e h = absurd (omega arith)
alike (x ∷ xs) [] e h = absurd (omega arith)
alike (x ∷ xs) (y ∷ ys) e h = let a : x ≡ y = h 0 (omega arith) in let b : xs ≡ ys = alike xs ys (omega arith) (λ k l. h (suc k) (omega arith)) in cc

-- a list of tags that are all free
pub freed : (tags : List TagState) (n : ℕ) → length tags ≡ n → ((k : ℕ) → k < length tags → get_or tags k Free ≡ Free) → tags ≡ replicate n Free
freed tags n e h = alike tags (replicate n unused) (e ∙ sym (length-replicate n unused)) (λ k l. h k l ∙ sym (all_free n k))

-- where one more of them is freed the others stay
pub one_freed : (tags : List TagState) (i : ℕ) → i < length tags → (k : ℕ) → (k ≢ i → get_or tags k Free ≡ Free) → get_or (set tags i Free) k Free ≡ Free
one_freed tags i low k before = elim (eqb_tells k i) [
  | inl y ↦ ap (λ n. get_or (set tags i Free) n Free) y.1 ∙ get_or-set_same tags i Free Free low
  | inr n ↦ get_or-set_other tags i k Free Free n.1 ∙ before n.1
]

-- a slice that is written whole is what its Vec then has
pub put_back : {X : Type 0} (x : X) (new old : List X) (k n : ℕ) → new ≡ replicate n x → k ≡ n → take k (new ++ drop (length new) old) ≡ replicate n x
put_back x new old k n e h =
    let l : length new ≡ n = ap length e ∙ length-replicate n x in
    ap (λ i. take i (new ++ drop (length new) old)) (h ∙ sym l) ∙ take-append_seam new (drop (length new) old) ∙ e

-- the command in flight under a tag
pub flight_at : (tags : List TagState) (tag hw : ℕ) (w : Waiting) → tag < length tags → get_or tags tag Free ≡ InFlight hw w → slice_get (map flight_of tags) tag ≡ Some (Some (record { hw = hw; request = w }))
flight_at [] tag hw w lt at = absurd (omega arith)
flight_at (s ∷ tags) zero hw w lt at = ap (λ x. Some (flight_of x)) at
flight_at (s ∷ tags) (suc tag) hw w lt at = flight_at tags tag hw w (omega arith) at

-- no command is in flight where none is counted
abbrev nobody : Option Flight
nobody = None

one_of : (d : Dir) → cond (same_dir Read d) 1 0 + cond (same_dir Write d) 1 0 ≡ 1
one_of Read = refl
one_of Write = refl

not_flying : (s : TagState) → flying Read s + flying Write s ≡ 0 → flight_of s ≡ nobody
not_flying Free h = refl
not_flying (InFlight hw w) h = absurd (let one = one_of w.extent.dir in omega arith)
not_flying (Spent d) h = refl

pub none_flies : (tags : List TagState) → sum_by (flying Read) tags + sum_by (flying Write) tags ≡ 0 → map flight_of tags ≡ replicate (length tags) None
none_flies [] h = refl
none_flies (s ∷ tags) h =
    let r = sum_by-cons (flying Read) s tags in
    let w = sum_by-cons (flying Write) s tags in
    let here : flight_of s ≡ nobody = not_flying s (omega arith) in
    let rest : map flight_of tags ≡ replicate (length tags) nobody = none_flies tags (omega arith) in
    cc

pub free_flights : (n : ℕ) → map flight_of (replicate n unused) ≡ replicate n None
free_flights zero = refl
free_flights (suc n) = ap (λ l. nobody ∷ l) (free_flights n)

-- what is known of the tag that the code writes
pub of_flying : (P : ℕ → Waiting → Type 0) (fl : List TagState) (tag hw : ℕ) (seen : TagState) (w : Waiting) → tag < length fl → seen ≡ get_or fl tag seen → get_or fl tag Free ≡ InFlight hw w → IfInFlight seen P → P hw w
of_flying P fl tag hw seen w lt e at h = let is : seen ≡ InFlight hw w = e ∙ any_default fl tag seen Free lt ∙ at in subst (λ (s : TagState). IfInFlight s P) is h
