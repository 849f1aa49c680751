-- One record more, and what becomes of all of them.
use Rattle.std.proofs.Common.{◌≡◌, ◌≢◌, ◌<◌, ◌≤◌, ◌+◌, ◌++◌, ◌∙◌, ◌==◌, ◌&&◌, ℕ, zero, suc, Bool, true, false, cond, List, [], ◌∷◌, length, map, get_or, count_by, Option, None, Some, inl, inr, refl, sym, ap, subst, arith}
use Rattle.std.specs.List.{slice_get}
use Rattle.std.specs.Option.{option_and_then}
use Rattle.std.specs.Prelude.{IfSome}
use Rattle.std.proofs.lemmas.List.{length_push, length-map, map_push, get_or-map}
use Rattle.std.proofs.lemmas.List.Sums.{sum_by-cons}
use Rattle.std.proofs.lemmas.Option.{slice_get_within, get_or_from_slice_get, slice_get_cases}
use Rattle.blk_capture.specs.Fates.{told, is_taken, is_of_action, is_matched, passed_by, IsTakenBelow, AreOfTaken}
use Rattle.blk_capture.specs.Parting.{fate_at}
use Rattle.blk_capture.specs.Passing.{place_of}
use Rattle.blk_capture.specs.Requests.{AreGone}
use Rattle.blk_capture.specs.Rules.{Known, nothing_known, IsTold, AreTold}
use Rattle.blk_capture.specs.Settled.{ends_in, place_by, place_in_end, place_with, captured_bio, fate_by}
use Rattle.blk_capture.specs.Summaries.{all_merges}
use Rattle.blk_capture.specs.Running.{is_merge, of_merges, fate_so_far, so_far, run_count, HasTaken}
use Rattle.blk_capture.specs.Inside.Coherent.{AreLaidOut}
use Rattle.blk_capture.specs.Inside.Matchings.{all_known}
use Rattle.blk_capture.specs.Inside.Roles.{adds, is_known, passed_role}
use Rattle.blk_capture.specs.Inside.Taken.{AreWithin}
use Rattle.blk_capture.specs.declared.fates.Fate.{Fate}
use Rattle.blk_capture.specs.declared.fates.Fate.TheVariants as fate
use Rattle.blk_capture.specs.declared.matching.Role.{Role}
use Rattle.blk_capture.specs.declared.matching.Role.TheVariants as role
use Rattle.blk_capture.specs.declared.opened.Opened.{Opened}
use Rattle.blk_capture.specs.declared.record.Action.{Action}
use Rattle.blk_capture.specs.declared.record.Action.TheVariants as action
use Rattle.blk_capture.specs.declared.record.Action.TheVariants.{BackMerge, FrontMerge}
use Rattle.blk_capture.specs.declared.record.Record.{Record}
use Rattle.blk_capture.specs.declared.requests.CapturedBio.{CapturedBio}
use Rattle.blk_capture.specs.declared.requests.MergeRoot.{MergeRoot}
use Rattle.blk_capture.specs.declared.requests.Options.{Options}
use Rattle.blk_capture.specs.declared.running.Running.{Running}
use Rattle.blk_capture.proofs.Folding.{told_more}
use Rattle.blk_capture.proofs.Indexed.{get_pushed, get_but_last}
use Rattle.blk_capture.proofs.Placing.{bio_place_is}

-- ---- one record more
told_longer : (o : Options) (records : List Record) (r : Record) (roles : List Role) (n : ℕ) (m : Known) → n ≤ length records → AreTold o records roles n m → AreTold o (records ++ r ∷ []) roles n m
told_longer o records r roles zero m few h = h
told_longer o records r roles (suc n) m few h =
    let at = h.1.1 in
    let other : n ≢ length records = λ e. (let bad : ⊥ = omega (arith, e, few) in bad) in (
      h.0,
      (
        told_longer o records r roles n h.0 (omega (arith, few)) h.1.0,
        record {
          read = at.read;
          role = at.role;
          there = get_but_last records r n other ∙ at.there;
          of = at.of;
          told = at.told;
        },
      ),
    )

pub told_on : (o : Options) (records : List Record) (roles : List Role) (n : ℕ) (r : Record) (p : Role) (before after : Known) → n ≡ length records → length roles ≡ length records → AreTold o records roles (length records) before → IsTold o n r before (after, p)
    → AreTold o (records ++ r ∷ []) (roles ++ p ∷ []) (length (records ++ r ∷ [])) after
told_on o records roles n r p before after here each h told =
    let longer : AreTold o (records ++ r ∷ []) roles (length records) before = told_longer o records r roles (length records) before (omega arith) h in
    let rule : IsTold o (length records) r before (after, p) = subst (λ k. IsTold o k r before (after, p)) here told in
    subst (λ k. AreTold o (records ++ r ∷ []) (roles ++ p ∷ []) k after) (sym (length_push records r))
    (told_more o (records ++ r ∷ []) roles (roles ++ p ∷ []) p (length records) r before after longer each (get_pushed records r) refl rule)

step : (b : Bool) (n m : ℕ) → m ≡ n → cond b (suc m) m ≡ n + cond b 1 0
step true n m e = omega (arith, e)
step false n m e = omega (arith, e)

more : (b c : Bool) (n m : ℕ) → m ≡ n + cond c 1 0 → cond b (suc m) m ≡ cond b (suc n) n + cond c 1 0
more true c n m e = omega (arith, e)
more false c n m e = e

pub at_most_one : (b : Bool) (before n after : ℕ) → before ≤ n → after ≡ before + adds b → after ≤ n + 1
at_most_one true before n after few more = omega (arith, few, more)
at_most_one false before n after few more = omega (arith, few, more)

-- one more of both lists
told_both : {F : Type 0} (p : Action → F → Bool) (rs : List Record) (fs : List F) (r : Record) (f : F) → length fs ≡ length rs → told p (rs ++ r ∷ []) (fs ++ f ∷ []) ≡ told p rs fs + cond (p r.action f) 1 0
unfolding told
told_both p [] [] r f e = step (p r.action f) 0 0 refl
told_both p [] (g ∷ fs) r f e = absurd (omega (arith, e))
told_both p (q ∷ rs) [] r f e = absurd (omega (arith, e))
told_both p (q ∷ rs) (g ∷ fs) r f e = more (p q.action g) (p r.action f) (told p rs fs) (told p (rs ++ r ∷ []) (fs ++ f ∷ [])) (told_both p rs fs r f (omega (arith, e)))

pub told_next_of : {F : Type 0} (p : Action → F → Bool) (rs : List Record) (fs : List F) (r : Record) (f : F) (m n : ℕ) → length fs ≡ length rs → m ≡ told p rs fs → n ≡ m + cond (p r.action f) 1 0 → n ≡ told p (rs ++ r ∷ []) (fs ++ f ∷ [])
told_next_of p rs fs r f m n each before next = next ∙ ap (λ k. k + cond (p r.action f) 1 0) before ∙ sym (told_both p rs fs r f each)

pub mapped_both : {X Y Z : Type 0} (f : X → Z) (g : Y → Z) (xs : List X) (ys : List Y) (x : X) (y : Y) → map f xs ≡ map g ys → f x ≡ g y → map f (xs ++ x ∷ []) ≡ map g (ys ++ y ∷ [])
mapped_both f g xs ys x y before same =
    map_push f xs x ∙ ap (λ zs. zs ++ f x ∷ []) before ∙ ap (λ z. map g ys ++ z ∷ []) same ∙ sym (map_push g ys y)

-- ---- what is said of merges
put_if : {F : Type 0} (b c : Bool) (g f : F) (xs ys : List F) → ys ≡ cond c (xs ++ f ∷ []) xs → cond b (g ∷ ys) ys ≡ cond c (cond b (g ∷ xs) xs ++ f ∷ []) (cond b (g ∷ xs) xs)
put_if true true g f xs ys e = ap (λ zs. g ∷ zs) e
put_if true false g f xs ys e = ap (λ zs. g ∷ zs) e
put_if false true g f xs ys e = e
put_if false false g f xs ys e = e

merges_both : {F : Type 0} (rs : List Record) (fs : List F) (r : Record) (f : F) → length fs ≡ length rs → of_merges (rs ++ r ∷ []) (fs ++ f ∷ []) ≡ cond (is_merge r.action) (of_merges rs fs ++ f ∷ []) (of_merges rs fs)
unfolding of_merges
merges_both [] [] r f e = refl
merges_both [] (g ∷ fs) r f e = absurd (omega (arith, e))
merges_both (q ∷ rs) [] r f e = absurd (omega (arith, e))
merges_both (q ∷ rs) (g ∷ fs) r f e = put_if (is_merge q.action) (is_merge r.action) g f (of_merges rs fs) (of_merges (rs ++ r ∷ []) (fs ++ f ∷ [])) (merges_both rs fs r f (omega (arith, e)))

pub merge_kept : (rs : List Record) (fs old new : List Role) (r : Record) (f : Role) → length fs ≡ length rs → old ≡ of_merges rs fs → new ≡ cond (is_merge r.action) (old ++ f ∷ []) old → new ≡ of_merges (rs ++ r ∷ []) (fs ++ f ∷ [])
merge_kept rs fs old new r f each before is = is ∙ ap (λ (zs : List Role). cond (is_merge r.action) (zs ++ f ∷ []) zs) before ∙ sym (merges_both rs fs r f each)

put_mapped : {F G : Type 0} (h : F → G) (f : F) (b : Bool) (xs : List F) (ys : List G) → ys ≡ map h xs → cond b (h f ∷ ys) ys ≡ map h (cond b (f ∷ xs) xs)
put_mapped h f true xs ys e = ap (λ zs. h f ∷ zs) e
put_mapped h f false xs ys e = e

pub merges_mapped : {F G : Type 0} (h : F → G) (rs : List Record) (fs : List F) → of_merges rs (map h fs) ≡ map h (of_merges rs fs)
unfolding of_merges
merges_mapped h [] fs = refl
merges_mapped h (r ∷ rs) [] = refl
merges_mapped h (r ∷ rs) (f ∷ fs) = put_mapped h f (is_merge r.action) (of_merges rs fs) (of_merges rs (map h fs)) (merges_mapped h rs fs)

count_cons : {X : Type 0} (p : X → Bool) (x : X) (xs : List X) → count_by p (x ∷ xs) ≡ cond (p x) 1 0 + count_by p xs
count_cons p x xs = sum_by-cons (λ y. cond (p y) 1 0) x xs

one_merge : (a : Action) (t : Bool) (m n k : ℕ) → m + n ≡ k
    → cond ((place_of a == place_of BackMerge) && t) (suc m) m + cond ((place_of a == place_of FrontMerge) && t) (suc n) n ≡ cond (is_merge a) (cond t 1 0 + k) k
one_merge action.Queue t m n k e = e
one_merge action.Get t m n k e = e
one_merge action.BackMerge true m n k e = omega (arith, e)
one_merge action.BackMerge false m n k e = omega (arith, e)
one_merge action.FrontMerge true m n k e = omega (arith, e)
one_merge action.FrontMerge false m n k e = omega (arith, e)
one_merge action.Insert t m n k e = e
one_merge action.Issue t m n k e = e
one_merge action.Complete t m n k e = e
one_merge action.Requeue t m n k e = e
one_merge action.Split t m n k e = e
one_merge action.Plug t m n k e = e
one_merge action.Unplug t m n k e = e
one_merge action.Other t m n k e = e

counted_if : (f : Fate) (b : Bool) (xs : List Fate) → count_by is_taken (cond b (f ∷ xs) xs) ≡ cond b (cond (is_taken f) 1 0 + count_by is_taken xs) (count_by is_taken xs)
counted_if f true xs = count_cons is_taken f xs
counted_if f false xs = refl

pub merges_counted : (rs : List Record) (fs : List Fate) → count_by is_taken (of_merges rs fs) ≡ all_merges rs fs
unfolding of_merges told
merges_counted [] fs = refl
merges_counted (r ∷ rs) [] = refl
merges_counted (r ∷ rs) (f ∷ fs) =
    counted_if f (is_merge r.action) (of_merges rs fs)
    ∙ ap (λ k. cond (is_merge r.action) (cond (is_taken f) 1 0 + k) k) (merges_counted rs fs)
    ∙ sym (one_merge r.action (is_taken f) (told (is_of_action BackMerge is_taken) rs fs) (told (is_of_action FrontMerge is_taken) rs fs) (all_merges rs fs) refl)

-- ---- what became of records, by what they are of
matched_at : (x : Option ℕ) → is_matched (fate_at x) ≡ true
matched_at None = refl
matched_at (Some k) = refl

unpassed_at : (x : Option ℕ) → passed_by (fate_at x) ≡ None
unpassed_at None = refl
unpassed_at (Some k) = refl

left_at : (x : Option ℕ) → so_far (fate_at x) ≡ fate.LeftOut
left_at None = refl
left_at (Some k) = refl

matched_by : (o : Options) (m : Known) (p : Role) → is_matched (fate_by o m p) ≡ is_known p
matched_by o m (role.Bio b) = matched_at (option_and_then (place_with o m) (slice_get m.bios b))
matched_by o m (role.Request k) = matched_at (place_in_end o m k)
matched_by o m role.Unmatched = refl
matched_by o m (role.PassedOver kind) = refl

passed_by_role : (o : Options) (m : Known) (p : Role) → passed_by (fate_by o m p) ≡ passed_role p
passed_by_role o m (role.Bio b) = unpassed_at (option_and_then (place_with o m) (slice_get m.bios b))
passed_by_role o m (role.Request k) = unpassed_at (place_in_end o m k)
passed_by_role o m role.Unmatched = refl
passed_by_role o m (role.PassedOver kind) = refl

known_by_role : (o : Options) (m : Known) (p : Role) → so_far (fate_by o m p) ≡ fate_so_far p
known_by_role o m (role.Bio b) = left_at (option_and_then (place_with o m) (slice_get m.bios b))
known_by_role o m (role.Request k) = left_at (place_in_end o m k)
known_by_role o m role.Unmatched = refl
known_by_role o m (role.PassedOver kind) = refl

mapped_twice : {X Y Z : Type 0} (f : Y → Z) (g : X → Y) (h : X → Z) → ((x : X) → f (g x) ≡ h x) → (xs : List X) → map f (map g xs) ≡ map h xs
mapped_twice f g h same [] = refl
mapped_twice f g h same (x ∷ xs) = ap (λ z. z ∷ map f (map g xs)) (same x) ∙ ap (λ zs. h x ∷ zs) (mapped_twice f g h same xs)

pub all_matched : (o : Options) (m : Known) (roles : List Role) → map is_matched (map (fate_by o m) roles) ≡ map is_known roles
all_matched o m roles = mapped_twice is_matched (fate_by o m) is_known (matched_by o m) roles

pub all_passed : (o : Options) (m : Known) (roles : List Role) → map passed_by (map (fate_by o m) roles) ≡ map passed_role roles
all_passed o m roles = mapped_twice passed_by (fate_by o m) passed_role (passed_by_role o m) roles

pub all_so_far : (o : Options) (m : Known) (roles : List Role) → map so_far (map (fate_by o m) roles) ≡ map fate_so_far roles
all_so_far o m roles = mapped_twice so_far (fate_by o m) fate_so_far (known_by_role o m) roles

-- ---- all of them are among those that are taken
below_at : (n : ℕ) (x : Option ℕ) → IfSome x (λ k. k < n) → IsTakenBelow n (fate_at x)
below_at n None h = tt
below_at n (Some k) h = h

some_within : (n : ℕ) (x y : Option ℕ) → y ≡ x → IfSome x (λ k. k < n) → IfSome y (λ k. k < n)
some_within n x y e h = subst (λ z. IfSome z (λ k. k < n)) (sym e) h

none_within : (n : ℕ) (x : Option ℕ) → x ≡ None → IfSome x (λ k. k < n)
none_within n None e = tt
none_within n (Some k) e = absurd (cc)

bio_within : (n : ℕ) (bios : List CapturedBio) (b : ℕ) → AreGone n bios → IfSome (option_and_then (λ (x : CapturedBio). x.request) (slice_get bios b)) (λ k. k < n)
bio_within n bios b gone = elim (slice_get_cases bios b).1 [
  | inl a ↦ some_within n a.0.request _ (ap (λ r. option_and_then (λ (x : CapturedBio). x.request) r) a.2) (one a.0 a.2)
  | inr a ↦ none_within n _ (ap (λ r. option_and_then (λ (x : CapturedBio). x.request) r) a.1)
]
  where
    one : (x : CapturedBio) → slice_get bios b ≡ Some x → IfSome x.request (λ k. k < n)
    one x there =
        let inside : b < length bios = slice_get_within bios b x there in
        let is : get_or bios b x ≡ x = get_or_from_slice_get bios b x x there in
        subst (λ (y : CapturedBio). IfSome y.request (λ k. k < n)) is (gone b x inside)

stage_within : (o : Options) (m : Known) (lives : List MergeRoot) (places : List (Option ℕ)) (n k : ℕ) (q : Opened) → AreLaidOut o m lives places → AreWithin n places → slice_get m.requests k ≡ Some q → IfSome (place_by o m q.stage) (λ j. j < n)
stage_within o m lives places n k q laid within there =
    let inside : k < length places = (let each = laid.each_place in let low = slice_get_within m.requests k q there in omega (arith, each, low)) in
    some_within n (get_or places k None) (place_by o m q.stage) (sym (laid.placed k q there)) (within k None inside)

pub request_within : (o : Options) (m : Known) (lives : List MergeRoot) (places : List (Option ℕ)) (n k : ℕ) → AreLaidOut o m lives places → AreWithin n places → IfSome (place_in_end o m k) (λ j. j < n)
request_within o m lives places n k laid within = elim (slice_get_cases m.requests (ends_in m.absorptions k)).1 [
  | inl a ↦ some_within n (place_by o m a.0.stage) (place_in_end o m k) (ap (λ r. option_and_then (λ (q : Opened). place_by o m q.stage) r) a.2) (stage_within o m lives places n (ends_in m.absorptions k) a.0 laid within a.2)
  | inr a ↦ none_within n (place_in_end o m k) (ap (λ r. option_and_then (λ (q : Opened). place_by o m q.stage) r) a.1)
]

pub fate_within : (o : Options) (m : Known) (lives : List MergeRoot) (places : List (Option ℕ)) (bios : List CapturedBio) (n : ℕ) (p : Role) → AreLaidOut o m lives places → AreWithin n places → bios ≡ map (captured_bio o m) m.bios → AreGone n bios → IsTakenBelow n (fate_by o m p)
fate_within o m lives places bios n (role.Bio b) laid within is gone =
    below_at n (option_and_then (place_with o m) (slice_get m.bios b)) (some_within n _ _ (sym (bio_place_is o m bios b is)) (bio_within n bios b gone))
fate_within o m lives places bios n (role.Request k) laid within is gone = below_at n (place_in_end o m k) (request_within o m lives places n k laid within)
fate_within o m lives places bios n role.Unmatched laid within is gone = tt
fate_within o m lives places bios n (role.PassedOver kind) laid within is gone = tt

pub all_within : (o : Options) (m : Known) (n : ℕ) (roles : List Role) → ((p : Role) → IsTakenBelow n (fate_by o m p)) → AreOfTaken n (map (fate_by o m) roles)
all_within o m n roles each k d l =
    let inside : k < length roles = omega (arith, l, length-map roles (fate_by o m)) in
    subst (IsTakenBelow n) (sym (get_or-map (fate_by o m) roles k role.Unmatched d inside)) (each (get_or roles k role.Unmatched))

-- ---- no record
pub none_taken : {A : Type 0} (r : Running A) → all_known r.matching ≡ nothing_known → r.merges.items ≡ [] → run_count r ≡ 0 → HasTaken [] [] r
unfolding told of_merges
none_taken r known merges none = record {
  roles = [];
  run = record {
    each = refl;
    counted = none;
    by_rules = known;
    opened = ap (λ (m : Known). length m.requests) known;
    made = ap (λ (m : Known). length m.bios) known;
    passed = refl;
    merges = merges;
  };
  so_far_are = refl;
}
