-- Bios that stand once in all accounts together, and so among those that a closed layer issued and left.
use Rattle.std.proofs.Common.{◌≡◌, ◌∙◌, ◌+◌, ◌<◌, ◌≤◌, ◌≢◌, ◌==◌, ℕ, zero, suc, sym, ap, refl, arith, inl, inr, Bool, true, false, cond, List, [], ◌∷◌, Some, length, map, count_by, IsPermutation}
use Rattle.std.specs.Prelude.{slice_get}
use Rattle.std.specs.Option.{option_map}
use Rattle.std.specs.List.{flat_map}
use Rattle.std.proofs.lemmas.Bool.{cases_Bool, eqb-true, eq-eqb, false_from_ne_true}
use Rattle.std.proofs.lemmas.List.{length-map}
use Rattle.std.proofs.lemmas.Option.{slice_get-map, slice_get_within, get_or_from_slice_get}
use Rattle.blk_bio.specs.Bios.{Bio}
use Rattle.blk_bio.specs.declared.bio.BioId.{BioId}
use Rattle.blk_trace.specs.Events.{AreOnce}
use Rattle.blk_trace.specs.Inside.Kept.{is_bio, has_bio_id}
use Rattle.blk_trace.proofs.Newness.{same_bio, bio_same, at_has, in_either, once_both, once_second}
use Rattle.blk_tags.specs.Tags.{count_of, without, one_if}
use Rattle.blk_tags.proofs.Counts.{others_left}
use Rattle.blk_layer.specs.Seats.{SubmitterSeat, AreOwn}
use Rattle.blk_layer.specs.Closing.{HasNumber, all_accepted}
use Rattle.blk_layer.specs.Inside.Closing.{IsAccountOf}
use Rattle.blk_layer.specs.Inside.Closing.{AllDiffer}
use Rattle.blk_layer.proofs.Same.{count_cons, count_moved}

-- numbers that are there for each number below a count are at least as many
without_length : (t : ℕ) (xs : List ℕ) → length (without t xs) + count_of t xs ≡ length xs
without_length t [] = refl
without_length t (x ∷ xs) = elim (cases_Bool (x == t)) [
  | inl y ↦ rw y (omega (arith, without_length t xs))
  | inr n ↦ rw n (omega (arith, without_length t xs))
]

few_cover : (n : ℕ) (xs : List ℕ) → ((k : ℕ) → k < n → 0 < count_of k xs) → n ≤ length xs
few_cover zero xs all = omega arith
few_cover (suc n) xs all =
    let less : n ≤ length (without n xs) = few_cover n (without n xs) (λ k low.
    let same : count_of k (without n xs) ≡ count_of k xs = others_left k n xs (λ q. omega (arith, low, q)) in
    omega (arith, all k (omega (arith, low)), same)) in
    omega (arith, less, without_length n xs, all n (omega arith))

one_at : (x m : ℕ) → x ≡ m → one_if (x == m) ≡ 1
one_at x m e = rw (eq-eqb x m e) refl

-- a number that stands at a place is counted, and one that stands at two is counted counted_twice
there : (xs : List ℕ) (k m : ℕ) → slice_get xs k ≡ Some m → 0 < count_of m xs
there [] k m h = absurd (cc)
there (x ∷ xs) zero m h = let e : x ≡ m = (let s : Some x ≡ Some m = h in cc) in omega (arith, one_at x m e)
there (x ∷ xs) (suc k) m h = omega (arith, there xs k m h)

counted_twice : (xs : List ℕ) (j k m : ℕ) → slice_get xs j ≡ Some m → slice_get xs k ≡ Some m → j ≢ k → 2 ≤ count_of m xs
counted_twice [] j k m h l d = absurd (cc)
counted_twice (x ∷ xs) zero zero m h l d = absurd (d refl)
counted_twice (x ∷ xs) zero (suc k) m h l d = let e : x ≡ m = (let s : Some x ≡ Some m = h in cc) in omega (arith, one_at x m e, there xs k m l)
counted_twice (x ∷ xs) (suc j) zero m h l d = let e : x ≡ m = (let s : Some x ≡ Some m = l in cc) in omega (arith, one_at x m e, there xs j m h)
counted_twice (x ∷ xs) (suc j) (suc k) m h l d = omega (arith, counted_twice xs j k m h l (λ e. d (ap suc e)))

number_at : (seats : List SubmitterSeat) (k : ℕ) (s : SubmitterSeat) → slice_get seats k ≡ Some s → slice_get (map (λ (x : SubmitterSeat). x.number) seats) k ≡ Some s.number
number_at seats k s h = slice_get-map (λ (x : SubmitterSeat). x.number) seats k ∙ ap (option_map (λ (x : SubmitterSeat). x.number)) h

-- where all seats are there, no two have one number
pub are_distinct : (n : ℕ) (seats : List SubmitterSeat) → length seats ≡ n → ((k : ℕ) → k < n → HasNumber seats k) → AllDiffer seats
are_distinct n seats count all j k a b p q same = elim (cases_Bool (j == k)) [
  | inl y ↦ eqb-true j k y
  | inr differ ↦ absurd (
      let xs : List ℕ = map (λ (x : SubmitterSeat). x.number) seats in
      let m : ℕ = a.number in
      let here : slice_get xs j ≡ Some m = number_at seats j a p in
      let again : slice_get xs k ≡ Some m = number_at seats k b q ∙ ap Some (sym same) in
      let two : 2 ≤ count_of m xs = counted_twice xs j k m here again (λ e. cc (eq-eqb j k e)) in
      let covers : (i : ℕ) → i < n → 0 < count_of i (m ∷ without m xs) = λ i low. elim (cases_Bool (m == i)) [
        | inl y ↦ let one : one_if (m == i) ≡ 1 = rw y refl in omega (arith, one)
        | inr other ↦
            let h = all i low in
            let at : slice_get xs h.0 ≡ Some i = number_at seats h.0 h.1.0 h.1.1 ∙ ap Some h.1.2 in
            let kept : count_of i (without m xs) ≡ count_of i xs = others_left i m xs (λ e. cc (eq-eqb m i (sym e))) in
            omega (arith, there xs h.0 i at, kept)
      ] in
      let many : n ≤ length (m ∷ without m xs) = few_cover n (m ∷ without m xs) covers in
      omega (arith, many, without_length m xs, two, count, length-map seats (λ (x : SubmitterSeat). x.number))
      )
]

-- the bios of an account are its submitter's
own_at : (number : ℕ) (bios : List Bio) (k : ℕ) (b : Bio) → AreOwn number bios → slice_get bios k ≡ Some b → b.id.submitter ≡ number
own_at number bios k b own h = ap (λ (x : Bio). x.id.submitter) (sym (get_or_from_slice_get bios k b b h)) ∙ own k b (slice_get_within bios k b h)

owner_of : (seats : List SubmitterSeat) (k : ℕ) (b : Bio) → ((j : ℕ) (s : SubmitterSeat) → slice_get seats j ≡ Some s → IsAccountOf s) → slice_get (flat_map (λ (s : SubmitterSeat). s.accepted) seats) k ≡ Some b
    → (i : ℕ) × ((s : SubmitterSeat) × (slice_get seats i ≡ Some s) × (b.id.submitter ≡ s.number))
owner_of [] k b each at = absurd (cc)
owner_of (s ∷ ss) k b each at = elim (in_either s.accepted (flat_map (λ (x : SubmitterSeat). x.accepted) ss) k b at) [
  | inl p ↦ (0, (s, refl, own_at s.number s.accepted k b (each 0 s refl).0 p))
  | inr p ↦ let r = owner_of ss p.0 b (λ j t h. each (suc j) t h) p.1.1 in (suc r.0, r.1)
]

accounts_once : (seats : List SubmitterSeat) → ((j : ℕ) (s : SubmitterSeat) → slice_get seats j ≡ Some s → IsAccountOf s) → AllDiffer seats → AreOnce (flat_map (λ (s : SubmitterSeat). s.accepted) seats)
accounts_once [] each apart = λ j k b c h l same. absurd (cc)
accounts_once (s ∷ ss) each apart =
    let rest : List Bio = flat_map (λ (x : SubmitterSeat). x.accepted) ss in
    let others : AreOnce rest = accounts_once ss (λ j t h. each (suc j) t h) (λ j k a b p q e. omega (arith, apart (suc j) (suc k) a b p q e)) in
    once_both s.accepted rest (each 0 s refl).1 others (λ k c at. false_from_ne_true (has_bio_id s.accepted c.id) (λ t.
    let found = at_has s.accepted c.id t in
    let mine : found.1.0.id.submitter ≡ s.number = own_at s.number s.accepted found.0 found.1.0 (each 0 s refl).0 found.1.1 in
    let its = owner_of ss k c (λ j u h. each (suc j) u h) at in
    let same : s.number ≡ its.1.0.number = sym mine ∙ ap (λ (i : BioId). i.submitter) found.1.2 ∙ its.1.2 in
    absurd (omega (arith, apart 0 (suc its.0) s its.1.0 refl its.1.1 same))))

-- how many bios have an id, in a list and in a permutation of it
abbrev number : Bool → ℕ
number b = cond b 1 0

abbrev named_as : BioId → Bio → Bool
named_as id b = is_bio b.id id

some_time : (xs : List Bio) (k : ℕ) (b : Bio) (id : BioId) → slice_get xs k ≡ Some b → b.id ≡ id → 0 < count_by (named_as id) xs
some_time [] k b id h e = absurd (cc)
some_time (x ∷ xs) zero b id h e =
    let is : x ≡ b = (let s : Some x ≡ Some b = h in cc) in
    let one : number (named_as id x) ≡ 1 = rw (bio_same x.id id (ap (λ (c : Bio). c.id) is ∙ e)) refl in
    omega (arith, count_cons (named_as id) x xs, one)
some_time (x ∷ xs) (suc k) b id h e = omega (arith, count_cons (named_as id) x xs, some_time xs k b id h e)

stands : (xs : List Bio) (id : BioId) → 0 < count_by (named_as id) xs → (k : ℕ) × ((b : Bio) × (slice_get xs k ≡ Some b) × (b.id ≡ id))
stands [] id h = absurd (omega (arith, h))
stands (x ∷ xs) id h = elim (cases_Bool (named_as id x)) [
  | inl y ↦ (0, (x, refl, same_bio x.id id y))
  | inr n ↦
      let none : number (named_as id x) ≡ 0 = rw n refl in
      let r = stands xs id (omega (arith, h, none, count_cons (named_as id) x xs)) in (suc r.0, r.1)
]

once_few : (xs : List Bio) → AreOnce xs → (id : BioId) → count_by (named_as id) xs ≤ 1
once_few [] once id = omega arith
once_few (x ∷ xs) once id =
    let rest : count_by (named_as id) xs ≤ 1 = once_few xs (once_second (x ∷ []) xs once) id in
    elim (cases_Bool (named_as id x)) [
      | inr n ↦ let none : number (named_as id x) ≡ 0 = rw n refl in omega (arith, count_cons (named_as id) x xs, none, rest)
      | inl y ↦
          let one : number (named_as id x) ≡ 1 = rw y refl in
          let is : x.id ≡ id = same_bio x.id id y in
          elim (cases_Bool (0 == count_by (named_as id) xs)) [
            | inl none ↦ let zero_is : 0 ≡ count_by (named_as id) xs = eqb-true 0 (count_by (named_as id) xs) none in omega (arith, count_cons (named_as id) x xs, one, zero_is)
            | inr some ↦
                let more : 0 < count_by (named_as id) xs = positive (count_by (named_as id) xs) some in
                let r = stands xs id more in
                absurd (omega (arith, once 0 (suc r.0) x r.1.0 refl r.1.1 (is ∙ sym r.1.2)))
          ]
    ]
  where
    positive : (n : ℕ) → (0 == n) ≡ false → 0 < n
    positive zero e = absurd (let t : true ≡ false = e in cc)
    positive (suc n) e = omega arith

few_once : (xs : List Bio) → ((id : BioId) → count_by (named_as id) xs ≤ 1) → AreOnce xs
few_once [] few j k b c h l same = absurd (cc)
few_once (x ∷ xs) few zero zero b c h l same = refl
few_once (x ∷ xs) few zero (suc k) b c h l same = absurd (
    let is : x ≡ b = (let s : Some x ≡ Some b = h in cc) in
    let one : number (named_as c.id x) ≡ 1 = rw (bio_same x.id c.id (ap (λ (y : Bio). y.id) is ∙ same)) refl in
    omega (arith, few c.id, count_cons (named_as c.id) x xs, one, some_time xs k c c.id l refl))
few_once (x ∷ xs) few (suc j) zero b c h l same = absurd (
    let is : x ≡ c = (let s : Some x ≡ Some c = l in cc) in
    let one : number (named_as b.id x) ≡ 1 = rw (bio_same x.id b.id (ap (λ (y : Bio). y.id) is ∙ sym same)) refl in
    omega (arith, few b.id, count_cons (named_as b.id) x xs, one, some_time xs j b b.id h refl))
few_once (x ∷ xs) few (suc j) (suc k) b c h l same = ap suc (few_once xs (λ id. omega (arith, few id, count_cons (named_as id) x xs)) j k b c h l same)

pub once_moved : (xs ys : List Bio) → IsPermutation xs ys → AreOnce xs → AreOnce ys
once_moved xs ys moved once = few_once ys (λ id. omega (arith, count_moved (named_as id) xs ys moved, once_few xs once id))

-- the bios of all accounts stand once
pub all_once : (seats : List SubmitterSeat) → ((j : ℕ) (s : SubmitterSeat) → slice_get seats j ≡ Some s → IsAccountOf s) → AllDiffer seats → AreOnce (all_accepted seats)
unfolding all_accepted
all_once seats each apart = accounts_once seats each apart
