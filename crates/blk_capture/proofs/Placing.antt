-- The requests that are taken, dispatch by dispatch, and their places.
use Rattle.std.proofs.Common.{◌≡◌, ◌≢◌, ◌<◌, ◌≤◌, ◌+◌, ◌++◌, ◌∙◌, ℕ, Bool, true, false, cond, List, [], ◌∷◌, length, get_or, set, map, take, drop, drop-cons, suc, ◌==◌, replicate, Option, None, Some, inl, inr, refl, sym, ap, subst, arith, eqb}
use Rattle.std.specs.List.{slice_get, filter_map, enumerate_from}
use Rattle.std.specs.Option.{option_and_then, option_map}
use Rattle.std.specs.Prelude.{nat_lt}
use Rattle.std.proofs.lemmas.Bool.{ne_eqb, eq-eqb, lt-ltb, le-ltb, cases_lt}
use Rattle.std.proofs.lemmas.Bool.Decides.{eqb_tells}
use Rattle.std.proofs.lemmas.List.{take_more, map_push, length-take-le, get_or_past, get_or-set_same, get_or-set_other, get_or-replicate, length-replicate, length-set, drop_all}
use Rattle.std.proofs.lemmas.List.Elements.{filter_map-append}
use Rattle.std.proofs.lemmas.Option.{slice_get-get_or, slice_get-map, slice_get_past, slice_get_within, slice_get_cases, get_or_from_slice_get}
use Rattle.blk_capture.specs.Requests.{IsDue}
use Rattle.blk_capture.specs.Rules.{Known, goes_out_by}
use Rattle.blk_capture.specs.Settled.{taken_if, taken_last, taken_from, captured, ends_in, is_absorbed, place_by, place_in_end, place_with, captured_bio}
use Rattle.blk_capture.specs.Inside.Coherent.{IsCoherent, IsLast, AreRoots, AreLaidOut}
use Rattle.blk_capture.specs.Inside.Taken.{IsOwn, Puts}
use Rattle.blk_capture.specs.declared.clock.Dispatch.{Dispatch}
use Rattle.blk_capture.specs.declared.members.QueuedBio.{QueuedBio}
use Rattle.blk_capture.specs.declared.opened.Absorption.{Absorption}
use Rattle.blk_capture.specs.declared.opened.Opened.{Opened}
use Rattle.blk_capture.specs.declared.opened.Stage.{Stage}
use Rattle.blk_capture.specs.declared.opened.Stage.TheVariants as stage
use Rattle.blk_capture.specs.declared.requests.CapturedBio.{CapturedBio}
use Rattle.blk_capture.specs.declared.requests.CapturedRequest.{CapturedRequest}
use Rattle.blk_capture.specs.declared.requests.MergeRoot.{MergeRoot}
use Rattle.blk_capture.specs.declared.requests.Options.{Options}
use Rattle.blk_capture.specs.declared.requests.Taken.{Taken}
use Rattle.blk_capture.proofs.Cohering.{ends_past}
use Rattle.blk_capture.proofs.Taking.{IsTakenTo}

pub some_is : {X : Type 0} (x y : X) → Some x ≡ Some y → x ≡ y
some_is x y e = cc

pub some_not : {X : Type 0} (x : X) → Some x ≡ None → ⊥
some_not x e = cc

pub by_bool : {T : Type 0} (b : Bool) → (b ≡ true → T) → (b ≡ false → T) → T
by_bool true so not_so = so refl
by_bool false so not_so = not_so refl

-- ---- one dispatch more
enumerate_push : {X : Type 0} (a : ℕ) (xs : List X) (y : X) → enumerate_from a (xs ++ y ∷ []) ≡ enumerate_from a xs ++ (a + length xs, y) ∷ []
enumerate_push a [] y = ap (λ n. (n, y) ∷ []) (let e : a ≡ a + 0 = omega arith in e)
enumerate_push a (x ∷ xs) y = ap (λ ps. (a, x) ∷ ps) (enumerate_push (a + 1) xs y ∙ ap (λ n. enumerate_from (a + 1) xs ++ (n, y) ∷ []) (let e : a + 1 + length xs ≡ a + length (x ∷ xs) = omega arith in e))

pub one_of : {X Y : Type 0} (h : X → Option Y) (x : X) (y : Y) → h x ≡ Some y → filter_map h (x ∷ []) ≡ y ∷ []
one_of h x y e = rw e refl

pub none_of : {X Y : Type 0} (h : X → Option Y) (x : X) → h x ≡ None → filter_map h (x ∷ []) ≡ []
none_of h x e = rw e refl

pub append_none : {X : Type 0} (xs : List X) → xs ++ [] ≡ xs
append_none [] = refl
append_none (x ∷ xs) = ap (λ ys. x ∷ ys) (append_none xs)

pub taken_next : (o : Options) (m : Known) (sent : List Dispatch) (n : ℕ) (x : Dispatch) → slice_get sent n ≡ Some x → taken_from o m (take (n + 1) sent) ≡ taken_from o m (take n sent) ++ filter_map (taken_last o m) ((n, x) ∷ [])
taken_next o m sent n x at =
    let within : n < length sent = slice_get_within sent n x at in
    let is : get_or sent n x ≡ x = get_or_from_slice_get sent n x x at in
    let long : 0 + length (take n sent) ≡ n = (let e = length-take-le n sent (omega (arith, within)) in omega (arith, e)) in
    ap (λ ds. taken_from o m ds) (take_more sent n x within ∙ ap (λ d. take n sent ++ d ∷ []) is)
    ∙ ap (filter_map (taken_last o m)) (enumerate_push 0 (take n sent) x ∙ ap (λ k. enumerate_from 0 (take n sent) ++ (k, x) ∷ []) long)
    ∙ filter_map-append (taken_last o m) (enumerate_from 0 (take n sent)) ((n, x) ∷ [])

-- ---- places after some dispatches
abbrev if_before : Options → Known → ℕ → ℕ → Option ℕ
if_before o m n l = cond (nat_lt l n) (Some (length (taken_from o m (take l m.dispatches)))) None

abbrev place_before : Options → Known → ℕ → Stage → Option ℕ
place_before o m n (stage.InFlight l) = if_before o m n l
place_before o m n (stage.Completed l) = if_before o m n l
place_before o m n _ = None

-- by the first n dispatches
pub record IsTakenSo (o : Options) (m : Known) (places : List (Option ℕ)) (requests : List CapturedRequest) (n : ℕ) : Type 0 where
  pub taken : requests ≡ taken_from o m (take n m.dispatches)
  pub placed : (k : ℕ) (q : Opened) → slice_get m.requests k ≡ Some q → get_or places k None ≡ place_before o m n q.stage

out_not : (n : ℕ) (w : Stage) → goes_out_by n w ≡ true → is_absorbed w ≡ false
out_not n stage.Opened e = refl
out_not n stage.Inserted e = refl
out_not n (stage.InFlight l) e = refl
out_not n (stage.Completed l) e = refl
out_not n stage.Absorbed e = cc

same_number : (l n : ℕ) → eqb l n ≡ true → l ≡ n
same_number l n e = elim (eqb_tells l n) [
  | inl a ↦ a.1
  | inr a ↦ (let bad : false ≡ true = sym (ne_eqb l n a.1) ∙ e in cc)
]

-- the one that goes out by it has no place before, and this one after it
free_if : (o : Options) (m : Known) (n l : ℕ) → eqb l n ≡ true → if_before o m n l ≡ None
free_if o m n l e = ap (λ b. cond b (Some (length (taken_from o m (take l m.dispatches)))) None) (le-ltb l n (let same = same_number l n e in omega (arith, same)))

pub free_before : (o : Options) (m : Known) (n : ℕ) (w : Stage) → goes_out_by n w ≡ true → place_before o m n w ≡ None
free_before o m n stage.Opened e = refl
free_before o m n stage.Inserted e = refl
free_before o m n (stage.InFlight l) e = free_if o m n l e
free_before o m n (stage.Completed l) e = free_if o m n l e
free_before o m n stage.Absorbed e = refl

here_if : (o : Options) (m : Known) (n l : ℕ) → eqb l n ≡ true → if_before o m (n + 1) l ≡ Some (length (taken_from o m (take n m.dispatches)))
here_if o m n l e =
    let same : l ≡ n = same_number l n e in
    ap (λ b. cond b (Some (length (taken_from o m (take l m.dispatches)))) None) (lt-ltb l (n + 1) (omega (arith, same)))
    ∙ ap (λ k. Some (length (taken_from o m (take k m.dispatches)))) same

here_before : (o : Options) (m : Known) (n : ℕ) (w : Stage) → goes_out_by n w ≡ true → place_before o m (n + 1) w ≡ Some (length (taken_from o m (take n m.dispatches)))
here_before o m n stage.Opened e = cc
here_before o m n stage.Inserted e = cc
here_before o m n (stage.InFlight l) e = here_if o m n l e
here_before o m n (stage.Completed l) e = here_if o m n l e
here_before o m n stage.Absorbed e = cc

-- another's stays
other_if : (o : Options) (m : Known) (n l : ℕ) → eqb l n ≡ false → if_before o m n l ≡ if_before o m (n + 1) l
other_if o m n l e = ap (λ b. cond b (Some (length (taken_from o m (take l m.dispatches)))) None) (same_side l n e)
  where
    above : (l n : ℕ) → eqb l n ≡ false → n ≤ l → n + 1 ≤ l
    above l n e high = elim (eqb_tells l n) [
      | inl a ↦ (let bad : true ≡ false = sym (eq-eqb l n a.1) ∙ e in cc)
      | inr a ↦ (let other : l ≢ n = a.1 in omega (arith, other, high))
    ]

    same_side : (l n : ℕ) → eqb l n ≡ false → nat_lt l n ≡ nat_lt l (n + 1)
    same_side l n e = elim (cases_lt l n) [
      | inl low ↦ lt-ltb l n low ∙ sym (lt-ltb l (n + 1) (omega (arith, low)))
      | inr high ↦ le-ltb l n high ∙ sym (le-ltb l (n + 1) (above l n e high))
    ]

other_before : (o : Options) (m : Known) (n : ℕ) (w : Stage) → goes_out_by n w ≡ false → place_before o m n w ≡ place_before o m (n + 1) w
other_before o m n stage.Opened e = refl
other_before o m n stage.Inserted e = refl
other_before o m n (stage.InFlight l) e = other_if o m n l e
other_before o m n (stage.Completed l) e = other_if o m n l e
other_before o m n stage.Absorbed e = refl

-- what goes out by a dispatch is its request
sent_of : (o : Options) (t : ℕ) (m : Known) (n k : ℕ) (x : Dispatch) (q : Opened) → IsCoherent o t m → slice_get m.dispatches n ≡ Some x → slice_get m.requests k ≡ Some q → goes_out_by n q.stage ≡ true → x.request ≡ k
sent_of o t m n k x q c at there out =
    let by = c.sent k n q there out in
    ap (λ (d : Dispatch). d.request) (some_is x by.dispatch (sym at ∙ by.there)) ∙ by.of

pub taken_so_none : (o : Options) (m : Known) (places : List (Option ℕ)) (requests : List CapturedRequest) (n : ℕ) → requests ≡ [] → places ≡ replicate n None → IsTakenSo o m places requests 0
taken_so_none o m places requests n none blank = record {
  taken = none;
  placed = λ k q there. ap (λ ps. get_or ps k None) blank ∙ blank_at n k ∙ sym (nothing_before q.stage);
}
  where
    the_none : Option ℕ
    the_none = None

    blank_at : (n k : ℕ) → get_or (replicate {A = Option ℕ} n None) k None ≡ None
    blank_at n k = elim (cases_lt k n) [
      | inl low ↦ get_or-replicate n k None None low
      | inr high ↦ get_or_past (replicate {A = Option ℕ} n None) k None (let long = length-replicate n the_none in omega (arith, high, long))
    ]

    nothing_before : (w : Stage) → place_before o m 0 w ≡ None
    nothing_before stage.Opened = refl
    nothing_before stage.Inserted = refl
    nothing_before (stage.InFlight l) = ap (λ b. cond b (Some (length (taken_from o m (take l m.dispatches)))) None) (le-ltb l 0 (omega arith))
    nothing_before (stage.Completed l) = ap (λ b. cond b (Some (length (taken_from o m (take l m.dispatches)))) None) (le-ltb l 0 (omega arith))
    nothing_before stage.Absorbed = refl

-- a dispatch that isn't the last one
pub taken_so_same : (o : Options) (t : ℕ) (m : Known) (places : List (Option ℕ)) (requests : List CapturedRequest) (n : ℕ) (x : Dispatch) → IsCoherent o t m → slice_get m.dispatches n ≡ Some x → taken_last o m (n, x) ≡ None → IsTakenSo o m places requests n → IsTakenSo o m places requests (n + 1)
taken_so_same o t m places requests n x c at none so = record {
  taken = so.taken ∙ sym (taken_next o m m.dispatches n x at ∙ ap (λ qs. taken_from o m (take n m.dispatches) ++ qs) (none_of (taken_last o m) (n, x) none) ∙ append_none (taken_from o m (take n m.dispatches)));
  placed = λ k q there. by_bool (goes_out_by n q.stage)
      (λ out. absurd (stays k q there out))
      (λ out. so.placed k q there ∙ other_before o m n q.stage out);
}
  where
    stays : (k : ℕ) (q : Opened) → slice_get m.requests k ≡ Some q → goes_out_by n q.stage ≡ true → ⊥
    stays k q there out =
        let same : x.request ≡ k = sent_of o t m n k x q c at there out in
        let is : slice_get m.requests x.request ≡ Some q = ap (λ j. slice_get m.requests j) same ∙ there in
        let some : taken_last o m (n, x) ≡ Some (captured o (get_or m.openers x.request 0) x.time q) =
        ap (λ r. option_and_then (taken_if o (get_or m.openers x.request 0) n x.time) r) is ∙ ap (λ b. cond b (Some (captured o (get_or m.openers x.request 0) x.time q)) None) out in
        some_not (captured o (get_or m.openers x.request 0) x.time q) (sym some ∙ none)

-- one that is
pub taken_so_more : (o : Options) (t : ℕ) (m : Known) (old new : List (Option ℕ)) (requests more : List CapturedRequest) (n : ℕ) (x : Dispatch) (q : CapturedRequest) → IsCoherent o t m → slice_get m.dispatches n ≡ Some x → taken_last o m (n, x) ≡ Some q → IsLast m n x
    → new ≡ set old x.request (Some (length requests)) → more ≡ requests ++ q ∷ [] → x.request < length old → IsTakenSo o m old requests n → IsTakenSo o m new more (n + 1)
taken_so_more o t m old new requests more n x q c at some last put_place put_request there so = record {
  taken = put_request ∙ ap (λ qs. qs ++ q ∷ []) so.taken ∙ ap (λ qs. taken_from o m (take n m.dispatches) ++ qs) (sym (one_of (taken_last o m) (n, x) q some)) ∙ sym (taken_next o m m.dispatches n x at);
  placed = λ k r is. ap (λ ps. get_or ps k None) put_place ∙ elim (eqb_tells k x.request) [
    | inl a ↦
        let same : r ≡ last.opened = some_is r last.opened (sym is ∙ ap (λ j. slice_get m.requests j) a.1 ∙ last.there) in
        let out : goes_out_by n r.stage ≡ true = ap (λ (w : Opened). goes_out_by n w.stage) same ∙ last.last in
        ap (λ j. get_or (set old x.request (Some (length requests))) j None) a.1
        ∙ get_or-set_same old x.request (Some (length requests)) None there
        ∙ ap (λ (qs : List CapturedRequest). Some (length qs)) so.taken
        ∙ sym (here_before o m n r.stage out)
    | inr a ↦
        get_or-set_other old x.request k (Some (length requests)) None a.1
        ∙ so.placed k r is
        ∙ by_bool (goes_out_by n r.stage) (λ out. absurd (a.1 (sym (sent_of o t m n k x r c at is out)))) (λ out. other_before o m n r.stage out)
  ];
}

pub taken_so_put : {A : Type 0} (o : Options) (t : ℕ) (m : Known) (old new : Taken A) (n : ℕ) (x : Dispatch) (q : CapturedRequest) → IsCoherent o t m → slice_get m.dispatches n ≡ Some x → taken_last o m (n, x) ≡ Some q → IsLast m n x → Puts x.request q old new → x.request < length old.places.items
    → IsTakenSo o m old.places.items old.requests.items n → IsTakenSo o m new.places.items new.requests.items (n + 1)
taken_so_put o t m old new n x q c at some last put there so =
    taken_so_more o t m old.places.items new.places.items old.requests.items new.requests.items n x q c at some last put.places put.requests there so

-- after the last one
all_if : (o : Options) (t : ℕ) (m : Known) (n k l : ℕ) (q : Opened) → IsCoherent o t m → length m.dispatches ≤ n → slice_get m.requests k ≡ Some q → goes_out_by l q.stage ≡ true → if_before o m n l ≡ Some (length (taken_from o m (take l m.dispatches)))
all_if o t m n k l q c all there out =
    let by = c.sent k l q there out in
    let within : l < length m.dispatches = slice_get_within m.dispatches l by.dispatch by.there in
    ap (λ b. cond b (Some (length (taken_from o m (take l m.dispatches)))) None) (lt-ltb l n (omega (arith, within, all)))

after_all : (o : Options) (t : ℕ) (m : Known) (n k : ℕ) (q : Opened) (w : Stage) → IsCoherent o t m → length m.dispatches ≤ n → slice_get m.requests k ≡ Some q → q.stage ≡ w → place_before o m n w ≡ place_by o m w
after_all o t m n k q stage.Opened c all there e = refl
after_all o t m n k q stage.Inserted c all there e = refl
after_all o t m n k q (stage.InFlight l) c all there e = all_if o t m n k l q c all there (ap (goes_out_by l) e ∙ eq-eqb l l refl)
after_all o t m n k q (stage.Completed l) c all there e = all_if o t m n k l q c all there (ap (goes_out_by l) e ∙ eq-eqb l l refl)
after_all o t m n k q stage.Absorbed c all there e = refl

pub laid_out : (o : Options) (t : ℕ) (m : Known) (lives : List MergeRoot) (places : List (Option ℕ)) (requests : List CapturedRequest) (n : ℕ) → IsCoherent o t m → length lives ≡ length m.requests → length places ≡ length lives → AreRoots m.absorptions lives → length m.dispatches ≤ n → IsTakenSo o m places requests n → AreLaidOut o m lives places
laid_out o t m lives places requests n c each many roots all so = record {
  each_life = each;
  each_place = many ∙ each;
  roots = roots;
  merges = c.merges;
  placed = λ k q there. so.placed k q there ∙ after_all o t m n k q q.stage c all there refl;
}

pub is_own : (o : Options) (t : ℕ) (m : Known) (lives : List MergeRoot) (n : ℕ) (x : Dispatch) → IsCoherent o t m → length lives ≡ length m.requests → AreRoots m.absorptions lives → IsLast m n x → IsOwn lives x.request
is_own o t m lives n x c each roots last =
    let within : x.request < length lives = (let there = slice_get_within m.requests x.request last.opened last.there in omega (arith, there, each)) in
    record { in_list = within; root = λ d. roots x.request d within ∙ c.own x.request last.opened last.there (out_not n last.opened.stage last.last) }

pub is_free : (o : Options) (m : Known) (places : List (Option ℕ)) (requests : List CapturedRequest) (n : ℕ) (x : Dispatch) → IsLast m n x → IsTakenSo o m places requests n → get_or places x.request None ≡ None
is_free o m places requests n x last so = so.placed x.request last.opened last.there ∙ free_before o m n last.opened.stage last.last

pub sent_there : (ds es : List Dispatch) (n : ℕ) (d : Dispatch) → ds ≡ es → n < length ds → slice_get es n ≡ Some (get_or ds n d)
sent_there ds es n d same here = ap (λ xs. slice_get xs n) (sym same) ∙ slice_get-get_or ds n d here

-- all that holds of what is taken by the first n dispatches
pub record IsTakenUpto {A : Type 0} (o : Options) (m : Known) (lives : List MergeRoot) (sent : List Dispatch) (t : Taken A) (n : ℕ) : Type 0 where
  pub listed : IsTakenTo (IsDue o) lives m.openers sent t.places.items t.requests.items n
  pub so : IsTakenSo o m t.places.items t.requests.items n

-- ---- where bios and records went
pub place_is : (o : Options) (m : Known) (lives : List MergeRoot) (places : List (Option ℕ)) (k : ℕ) (d : MergeRoot) → AreLaidOut o m lives places → k < length lives → get_or places (get_or lives k d).root None ≡ place_in_end o m k
place_is o m lives places k d laid here =
    let e : ℕ = ends_in m.absorptions k in
    ap (λ j. get_or places j None) (laid.roots k d here)
    ∙ elim (slice_get_cases m.requests e).1 [
      | inl a ↦ laid.placed e a.0 a.2 ∙ sym (ap (λ r. option_and_then (λ (q : Opened). place_by o m q.stage) r) a.2)
      | inr a ↦ get_or_past places e None (let each = laid.each_place in omega (arith, a.0, each)) ∙ sym (ap (λ r. option_and_then (λ (q : Opened). place_by o m q.stage) r) a.1)
    ]

pub place_past : (o : Options) (m : Known) (lives : List MergeRoot) (places : List (Option ℕ)) (k : ℕ) → AreLaidOut o m lives places → length lives ≤ k → place_in_end o m k ≡ None
place_past o m lives places k laid past =
    let low : length m.requests ≤ k = (let each = laid.each_life in omega (arith, past, each)) in
    ap (λ j. option_and_then (λ (q : Opened). place_by o m q.stage) (slice_get m.requests j)) (ends_past m.absorptions (length m.requests) k laid.merges low)
    ∙ ap (λ r. option_and_then (λ (q : Opened). place_by o m q.stage) r) (slice_get_past m.requests k low)

pub mapped_next : {X Y : Type 0} (f : X → Y) (xs new : List Y) (ys : List X) (n : ℕ) (y : Y) (d : X) → xs ≡ map f (take n ys) → n < length ys → y ≡ f (get_or ys n d) → new ≡ xs ++ y ∷ [] → new ≡ map f (take (n + 1) ys)
mapped_next f xs new ys n y d so_far here same is =
    is
    ∙ ap (λ zs. zs ++ y ∷ []) so_far
    ∙ ap (λ z. map f (take n ys) ++ z ∷ []) same
    ∙ sym (map_push f (take n ys) (get_or ys n d))
    ∙ ap (map f) (sym (take_more ys n d here))

with_request : (o : Options) (m : Known) (b : Option QueuedBio) → option_and_then (λ (x : CapturedBio). x.request) (option_map (captured_bio o m) b) ≡ option_and_then (place_with o m) b
with_request o m None = refl
with_request o m (Some b) = refl

pub bio_place_is : (o : Options) (m : Known) (bios : List CapturedBio) (k : ℕ) → bios ≡ map (captured_bio o m) m.bios → option_and_then (λ (x : CapturedBio). x.request) (slice_get bios k) ≡ option_and_then (place_with o m) (slice_get m.bios k)
bio_place_is o m bios k is =
    ap (λ bs. option_and_then (λ (x : CapturedBio). x.request) (slice_get bs k)) is
    ∙ ap (λ r. option_and_then (λ (x : CapturedBio). x.request) r) (slice_get-map (captured_bio o m) m.bios k)
    ∙ with_request o m (slice_get m.bios k)

pub relaid : (o : Options) (m : Known) (lives lives2 : List MergeRoot) (places places2 : List (Option ℕ)) → lives2 ≡ lives → places2 ≡ places → AreLaidOut o m lives places → AreLaidOut o m lives2 places2
relaid o m lives lives2 places places2 same same2 laid = subst (λ ls. AreLaidOut o m ls places2) (sym same) (subst (AreLaidOut o m lives) (sym same2) laid)

-- what was merged into another has no place
no_place : (o : Options) (m : Known) (w : Stage) → is_absorbed w ≡ true → place_by o m w ≡ None
no_place o m stage.Opened e = refl
no_place o m stage.Inserted e = refl
no_place o m (stage.InFlight n) e = cc
no_place o m (stage.Completed n) e = cc
no_place o m stage.Absorbed e = refl

pub apart_of : (o : Options) (m : Known) (lives : List MergeRoot) (places places2 : List (Option ℕ)) (requests : List Opened) → requests ≡ m.requests → places2 ≡ places → AreLaidOut o m lives places
    → (k : ℕ) (q : Opened) → slice_get requests k ≡ Some q → is_absorbed q.stage ≡ true → get_or places2 k None ≡ None
apart_of o m lives places places2 requests same same2 laid k q there gone =
    ap (λ ps. get_or ps k None) same2
    ∙ laid.placed k q (ap (λ qs. slice_get qs k) (sym same) ∙ there)
    ∙ no_place o m q.stage gone

-- ---- lives, from the last merge back
pub ends_done : (merges : List Absorption) (n k : ℕ) → length merges ≤ n → ends_in (drop n merges) k ≡ k
unfolding ends_in
ends_done merges n k all = ap (λ xs. ends_in xs k) (drop_all n merges all)

ends_step : (merges : List Absorption) (p n k : ℕ) (a : Absorption) → p + 1 ≡ n → p < length merges → a ≡ get_or merges p a → ends_in (drop p merges) k ≡ ends_in (drop n merges) (cond (k == a.request) a.into k)
unfolding ends_in
ends_step merges p n k a next here is =
    let after : suc p ≡ n = omega (arith, next) in
    ap (λ xs. ends_in xs k) (drop-cons merges p a here ∙ ap (λ b. b ∷ drop (suc p) merges) (sym is) ∙ ap (λ j. a ∷ drop j merges) after)

pub roots_step : (lives : List MergeRoot) (merges : List Absorption) (p n : ℕ) (a : Absorption) (y : MergeRoot) → p + 1 ≡ n → p < length merges → a ≡ get_or merges p a → a.request < length lives → a.into < length lives
    → ((k : ℕ) (d : MergeRoot) → k < length lives → (get_or lives k d).root ≡ ends_in (drop n merges) k) → y ≡ get_or lives a.into y
    → (k : ℕ) (d : MergeRoot) → k < length (set lives a.request y) → (get_or (set lives a.request y) k d).root ≡ ends_in (drop p merges) k
roots_step lives merges p n a y next here is low low2 roots at k d in_list = elim (eqb_tells k a.request) [
  | inl e ↦
      ap (λ (l : MergeRoot). l.root) (ap (λ j. get_or (set lives a.request y) j d) e.1 ∙ get_or-set_same lives a.request y d low ∙ at)
      ∙ roots a.into y low2
      ∙ ap (λ b. ends_in (drop n merges) (cond b a.into k)) (sym (eq-eqb k a.request e.1))
      ∙ sym (ends_step merges p n k a next here is)
  | inr e ↦
      ap (λ (l : MergeRoot). l.root) (get_or-set_other lives a.request k y d e.1)
      ∙ roots k d (let long = length-set lives a.request y in omega (arith, in_list, long))
      ∙ ap (λ b. ends_in (drop n merges) (cond b a.into k)) (sym (ne_eqb k a.request e.1))
      ∙ sym (ends_step merges p n k a next here is)
]
