-- What is known stays coherent by each rule.
use Rattle.std.proofs.Common.{◌≡◌, ◌≢◌, ◌<◌, ◌≤◌, ◌++◌, ◌==◌, ◌⊎◌, ◌∙◌, ℕ, zero, suc, Bool, true, false, cond, List, [], ◌∷◌, length, set, Option, None, Some, inl, inr, refl, sym, ap, subst, arith}
use Rattle.std.specs.List.{slice_get}
use Rattle.std.specs.Prelude.{IfSome, is_some, nat_lt}
use Rattle.std.proofs.lemmas.Bool.{ne_eqb}
use Rattle.std.proofs.lemmas.Bool.Decides.{eqb_tells}
use Rattle.std.proofs.lemmas.List.{length_push, length-set}
use Rattle.std.proofs.lemmas.Option.{slice_get_within}
use Rattle.blk_bio.specs.declared.request.Side.{Side}
use Rattle.blk_bio.specs.declared.request.Side.TheVariants.{Back, Front}
use Rattle.blk_capture.specs.Passing.{or_else, passed_action, passed_op, passed_range, passed_over}
use Rattle.blk_capture.specs.Ranges.{range_of}
use Rattle.blk_capture.specs.Requests.{entry_by, released_by}
use Rattle.blk_capture.specs.Rules.{Known, nothing_known, Outcome, Found, IsAbsorbed, IsMergedBy, IsByLetter, IsToldUnless, IsTold, cut, got, comes, issued, merged, absorbed, queued_bio, rest_of, opened_for, inserted_at, completed, requeued, done, grows, takes_in, put_bio, put_request, sent_at, goes_out_by, is_opened, is_inserted, is_in_flight, FindsWaitingBio, FindsLongerBio, FindsOldestOf, FindsWaiting, FindsEntering, FindsEnding, FindsAbutting}
use Rattle.blk_capture.specs.Settled.{entry_at, ends_in, is_absorbed}
use Rattle.blk_capture.specs.Inside.Coherent.{HappenedBy, IsSentBy, AreMerges, IsCoherent}
use Rattle.blk_capture.specs.declared.clock.Dispatch.{Dispatch}
use Rattle.blk_capture.specs.declared.members.BioStage.TheVariants.{Into}
use Rattle.blk_capture.specs.declared.members.QueuedBio.{QueuedBio}
use Rattle.blk_capture.specs.declared.opened.Absorption.{Absorption}
use Rattle.blk_capture.specs.declared.opened.Opened.{Opened}
use Rattle.blk_capture.specs.declared.opened.Stage.{Stage}
use Rattle.blk_capture.specs.declared.opened.Stage.TheVariants as stage
use Rattle.blk_capture.specs.declared.record.Action.{Action}
use Rattle.blk_capture.specs.declared.record.Action.TheVariants as action
use Rattle.blk_capture.specs.declared.record.PassReason.{PassReason}
use Rattle.blk_capture.specs.declared.record.Range.{Range}
use Rattle.blk_capture.specs.declared.record.Record.{Record}
use Rattle.blk_capture.specs.declared.requests.Entry.{Entry}
use Rattle.blk_capture.specs.declared.requests.Entry.TheVariants.{Insert, Queue}
use Rattle.blk_capture.specs.declared.requests.Options.{Options}
use Rattle.blk_capture.proofs.Indexed.{get_same, get_other, get_pushed, get_but_last}

-- ---- lists
some_is : {X : Type 0} (x y : X) → Some x ≡ Some y → x ≡ y
some_is x y e = cc

-- what holds of all of a list holds of it after a write, and after a push
put_others : {X : Type 0} (P : ℕ → X → Type 0) (xs : List X) (k : ℕ) (x y : X) → slice_get xs k ≡ Some x → ((j : ℕ) (z : X) → j ≢ k → slice_get xs j ≡ Some z → P j z) → P k y → (j : ℕ) (z : X) → slice_get (set xs k y) j ≡ Some z → P j z
put_others P xs k x y at all one j z there = elim (eqb_tells j k) [
  | inl a ↦
      let same : y ≡ z = some_is y z (sym (get_same xs k x y at) ∙ ap (λ n. slice_get (set xs k y) n) (sym a.1) ∙ there) in
      subst (λ w. P j w) same (subst (λ n. P n y) (sym a.1) one)
  | inr a ↦ all j z a.1 (sym (get_other xs k j y a.1) ∙ there)
]

put_all : {X : Type 0} (P : ℕ → X → Type 0) (xs : List X) (k : ℕ) (x y : X) → slice_get xs k ≡ Some x → ((j : ℕ) (z : X) → slice_get xs j ≡ Some z → P j z) → P k y → (j : ℕ) (z : X) → slice_get (set xs k y) j ≡ Some z → P j z
put_all P xs k x y at all one = put_others P xs k x y at (λ j z ne h. all j z h) one

push_all : {X : Type 0} (P : ℕ → X → Type 0) (xs : List X) (y : X) → ((j : ℕ) (z : X) → slice_get xs j ≡ Some z → P j z) → P (length xs) y → (j : ℕ) (z : X) → slice_get (xs ++ y ∷ []) j ≡ Some z → P j z
push_all P xs y all one j z there = elim (eqb_tells j (length xs)) [
  | inl a ↦
      let same : y ≡ z = some_is y z (sym (get_pushed xs y) ∙ ap (λ n. slice_get (xs ++ y ∷ []) n) (sym a.1) ∙ there) in
      subst (λ w. P j w) same (subst (λ n. P n y) (sym a.1) one)
  | inr a ↦ all j z (sym (get_but_last xs y j a.1) ∙ there)
]

pushed_before : {X : Type 0} (xs : List X) (y : X) (k : ℕ) (x : X) → slice_get xs k ≡ Some x → slice_get (xs ++ y ∷ []) k ≡ Some x
pushed_before xs y k x at =
    let within : k < length xs = slice_get_within xs k x at in
    let other : k ≢ length xs = λ e. (let bad : ⊥ = omega (arith, e, within) in bad) in
    get_but_last xs y k other ∙ at

-- ---- where requests end
pub ends_more : (merges : List Absorption) (a : Absorption) (k : ℕ) → ends_in (merges ++ a ∷ []) k ≡ cond (ends_in merges k == a.request) a.into (ends_in merges k)
unfolding ends_in
ends_more [] a k = refl
ends_more (b ∷ merges) a k = ends_more merges a (cond (k == b.request) b.into k)

ends_other : (merges : List Absorption) (a : Absorption) (k : ℕ) → ends_in merges k ≡ k → k ≢ a.request → ends_in (merges ++ a ∷ []) k ≡ k
ends_other merges a k own other =
    ends_more merges a k
    ∙ ap (λ j. cond (j == a.request) a.into j) own
    ∙ ap (λ b. cond b a.into k) (ne_eqb k a.request other)

pub ends_past : (merges : List Absorption) (n k : ℕ) → AreMerges n merges → n ≤ k → ends_in merges k ≡ k
unfolding ends_in
ends_past [] n k are le = refl
ends_past (a ∷ merges) n k are le =
    let low : a.request < n = (are 0 a refl).0 in
    let other : (k == a.request) ≡ false = ne_eqb k a.request (λ e. (let bad : ⊥ = omega (arith, e, low, le) in bad)) in
    ap (λ b. ends_in merges (cond b a.into k)) other ∙ ends_past merges n k (λ j b at. are (suc j) b at) le

-- ---- times
some_later : (x : Option ℕ) (t u : ℕ) → t ≤ u → IfSome x (λ s. s ≤ t) → IfSome x (λ s. s ≤ u)
some_later None t u le h = tt
some_later (Some s) t u le h = omega (arith, le, h)

past_later : (t u : ℕ) (q : Opened) → t ≤ u → HappenedBy t q → HappenedBy u q
past_later t u q le p = record { queued = omega (arith, le, p.queued); inserted = some_later q.inserted t u le p.inserted; merged = some_later q.merged t u le p.merged }

pub coherent_later : (o : Options) (t u : ℕ) (m : Known) → t ≤ u → IsCoherent o t m → IsCoherent o u m
coherent_later o t u m le c = record {
  bios_past = λ k b h. (let low : b.time ≤ t = c.bios_past k b h in omega (arith, low, le));
  past = λ k q h. past_later t u q le (c.past k q h);
  sent = c.sent;
  own = c.own;
  merges = c.merges;
}

none_there : {X : Type 0} (k : ℕ) (x : X) → slice_get [] k ≡ Some x → ⊥
none_there k x e = cc

pub coherent_none : (o : Options) (t : ℕ) → IsCoherent o t nothing_known
coherent_none o t = record {
  bios_past = λ k b h. absurd (none_there k b h);
  past = λ k q h. absurd (none_there k q h);
  sent = λ k n q h. absurd (none_there k q h);
  own = λ k q h. absurd (none_there k q h);
  merges = λ j a h. absurd (none_there j a h);
}

-- ---- bios
abbrev ArePast : ℕ → List QueuedBio → Type 0
ArePast t bs = (k : ℕ) (b : QueuedBio) → slice_get bs k ≡ Some b → b.time ≤ t

with_bios : (o : Options) (t : ℕ) (m : Known) (bs : List QueuedBio) → IsCoherent o t m → ArePast t bs → IsCoherent o t (record m { bios = bs })
with_bios o t m bs c past = record { bios_past = past; past = c.past; sent = c.sent; own = c.own; merges = c.merges }

bio_put : (t : ℕ) (bs : List QueuedBio) (k : ℕ) (x y : QueuedBio) → ArePast t bs → slice_get bs k ≡ Some x → y.time ≡ x.time → ArePast t (set bs k y)
bio_put t bs k x y past at same = put_all (λ j (b : QueuedBio). b.time ≤ t) bs k x y at past (let low : x.time ≤ t = past k x at in omega (arith, same, low))

bio_pushed : (t : ℕ) (bs : List QueuedBio) (y : QueuedBio) → ArePast t bs → y.time ≤ t → ArePast t (bs ++ y ∷ [])
bio_pushed t bs y past low = push_all (λ j (b : QueuedBio). b.time ≤ t) bs y past low

-- ---- requests
-- what has to hold of the request of a number
abbrev Fits : Options → ℕ → Known → ℕ → Opened → Type 0
Fits o t m k q = HappenedBy t q × (((n : ℕ) → goes_out_by n q.stage ≡ true → IsSentBy o m.dispatches n k q) × (is_absorbed q.stage ≡ false → ends_in m.absorptions k ≡ k))

request_put : (o : Options) (t : ℕ) (m : Known) (k : ℕ) (x y : Opened) → IsCoherent o t m → slice_get m.requests k ≡ Some x → Fits o t m k y → IsCoherent o t (put_request k y m)
request_put o t m k x y c at fits = record {
  bios_past = c.bios_past;
  past = put_all (λ j q. HappenedBy t q) m.requests k x y at c.past fits.0;
  sent = λ j n q there out. put_all (λ i (p : Opened). (l : ℕ) → goes_out_by l p.stage ≡ true → IsSentBy o m.dispatches l i p) m.requests k x y at (λ i p h l. c.sent i l p h) fits.1.0 j q there n out;
  own = put_all (λ i (p : Opened). is_absorbed p.stage ≡ false → ends_in m.absorptions i ≡ i) m.requests k x y at c.own fits.1.1;
  merges = subst (λ n. AreMerges n m.absorptions) (sym (length-set m.requests k y)) c.merges;
}

merges_later : (n k : ℕ) (merges : List Absorption) → n ≤ k → AreMerges n merges → AreMerges k merges
merges_later n k merges le are j a at = let both = are j a at in (omega (arith, both.0, le), omega (arith, both.1, le))

request_pushed : (o : Options) (t : ℕ) (m : Known) (openers : List ℕ) (y : Opened) → IsCoherent o t m → HappenedBy t y → y.stage ≡ stage.Opened → IsCoherent o t (record m { openers = openers; requests = m.requests ++ y ∷ [] })
request_pushed o t m openers y c past opened = record {
  bios_past = c.bios_past;
  past = push_all (λ j q. HappenedBy t q) m.requests y c.past past;
  sent = λ j n q there out. push_all (λ i (p : Opened). (l : ℕ) → goes_out_by l p.stage ≡ true → IsSentBy o m.dispatches l i p) m.requests y (λ i p h l. c.sent i l p h)
      (λ l bad. absurd (not_out l y.stage opened bad)) j q there n out;
  own = push_all (λ i (p : Opened). is_absorbed p.stage ≡ false → ends_in m.absorptions i ≡ i) m.requests y c.own (λ x. ends_past m.absorptions (length m.requests) (length m.requests) c.merges (omega arith));
  merges = merges_later (length m.requests) (length (m.requests ++ y ∷ [])) m.absorptions (let n = length_push m.requests y in omega (arith, n)) c.merges;
}
  where
    not_out : (l : ℕ) (w : Stage) → w ≡ stage.Opened → goes_out_by l w ≡ true → ⊥
    not_out l w e bad = (let worse : false ≡ true = sym (ap (goes_out_by l) e) ∙ bad in cc)

-- what is not out, where it isn't merged into another either
waits_out : (l : ℕ) (w : Stage) → (is_opened w ≡ true) ⊎ (is_inserted w ≡ true) → goes_out_by l w ≡ true → ⊥
waits_out l stage.Opened e bad = cc
waits_out l stage.Inserted e bad = cc
waits_out l (stage.InFlight n) (inl e) bad = cc
waits_out l (stage.InFlight n) (inr e) bad = cc
waits_out l (stage.Completed n) (inl e) bad = cc
waits_out l (stage.Completed n) (inr e) bad = cc
waits_out l stage.Absorbed e bad = cc

waits_apart : (w : Stage) → (is_opened w ≡ true) ⊎ (is_inserted w ≡ true) → is_absorbed w ≡ false
waits_apart stage.Opened e = refl
waits_apart stage.Inserted e = refl
waits_apart (stage.InFlight n) e = refl
waits_apart (stage.Completed n) e = refl
waits_apart stage.Absorbed (inl e) = cc
waits_apart stage.Absorbed (inr e) = cc

flies_apart : (w : Stage) → is_in_flight w ≡ true → is_absorbed w ≡ false
flies_apart stage.Opened e = refl
flies_apart stage.Inserted e = refl
flies_apart (stage.InFlight n) e = refl
flies_apart (stage.Completed n) e = refl
flies_apart stage.Absorbed e = cc

-- ---- what is found
abbrev IsThere : List Opened → ℕ × Opened → Type 0
IsThere qs p = slice_get qs p.0 ≡ Some p.1

abbrev Waits : Opened → Type 0
Waits q = (is_opened q.stage ≡ true) ⊎ (is_inserted q.stage ≡ true)

waiting_found : (s : Range) (qs : List Opened) (p : ℕ × Opened) → FindsWaiting s qs (Some p) → IsThere qs p × (Waits p.1 × (p.1.left ≡ s))
waiting_found s qs p h = elim h [
  | inl a ↦ (a.there, (inr a.fits.0, a.fits.1))
  | inr a ↦ (a.1.there, (inl a.1.fits.0, a.1.fits.1))
]

entering_found : (s : Range) (qs : List Opened) (p : ℕ × Opened) → FindsEntering s qs (Some p) → IsThere qs p × Waits p.1
entering_found s qs p h = elim h [
  | inl a ↦ (a.there, inl a.fits.0)
  | inr a ↦ (a.1.there, inl a.1.fits.0)
]

ending_found : (s : Range) (qs : List Opened) (p : ℕ × Opened) → FindsEnding s qs (Some p) → IsThere qs p × (is_in_flight p.1.stage ≡ true)
ending_found s qs p h = elim h [
  | inl a ↦ (a.there, a.fits.0)
  | inr a ↦ (a.1.there, a.1.fits.0)
]

abutting_found : (side : Side) (pid : ℕ) (s : Range) (qs : List Opened) (p : ℕ × Opened) → FindsAbutting side pid s qs (Some p) → IsThere qs p × Waits p.1
abutting_found side pid s qs p h = elim h [
  | inl a ↦ (a.there, inl a.fits.0)
  | inr a ↦ (a.1.there, inr a.1.fits.0)
]

-- it ends where the range begins
abutting_back : (pid : ℕ) (s : Range) (qs : List Opened) (p : ℕ × Opened) → FindsAbutting Back pid s qs (Some p) → p.1.left.end ≡ s.first
abutting_back pid s qs p h = elim h [
  | inl a ↦ a.fits.2.meeting
  | inr a ↦ a.1.fits.1.meeting
]

-- ---- the letters
abbrev Stays : Options → ℕ → Outcome → Type 0
Stays o t told = IsCoherent o t told.0

along : (o : Options) (t : ℕ) (told u : Outcome) → told ≡ u → Stays o t u → Stays o t told
along o t told u e h = subst (Stays o t) (sym e) h

cut_stays : (o : Options) (t : ℕ) (s : Range) (m : Known) (f : Found QueuedBio) → IsCoherent o t m → FindsLongerBio s m.bios f → Stays o t (cut s m f)
cut_stays o t s m None c finds = c
cut_stays o t s m (Some p) c finds =
    let low : p.1.time ≤ t = c.bios_past p.0 p.1 finds.there in
    with_bios o t m _ c (bio_pushed t _ (rest_of s p.1) (bio_put t m.bios p.0 p.1 (record p.1 { range = s }) c.bios_past finds.there refl) low)

got_stays : (o : Options) (n pid cpu : ℕ) (s : Range) (t : ℕ) (m : Known) (f : Found QueuedBio) → IsCoherent o t m → FindsWaitingBio s m.bios f → Stays o t (got n pid cpu s t m f)
got_stays o n pid cpu s t m None c finds = c
got_stays o n pid cpu s t m (Some p) c finds =
    let low : p.1.time ≤ t = c.bios_past p.0 p.1 finds.there in
    let bs : List QueuedBio = set m.bios p.0 (record p.1 { stage = Into (length m.requests) }) in
    let changed : IsCoherent o t (record m { bios = bs }) = with_bios o t m bs c (bio_put t m.bios p.0 p.1 _ c.bios_past finds.there refl) in
    request_pushed o t (record m { bios = bs }) _ (opened_for n pid cpu s t p.1) changed (record { queued = low; inserted = tt; merged = tt }) refl

inserted_stays : (o : Options) (n t : ℕ) (s : Range) (m : Known) (f : Found Opened) → IsCoherent o t m → FindsEntering s m.requests f → Stays o t (comes (inserted_at n t) m f)
inserted_stays o n t s m None c finds = c
inserted_stays o n t s m (Some p) c finds =
    let at = entering_found s m.requests p finds in
    let past = c.past p.0 p.1 at.0 in
    let here : t ≤ t = omega arith in
    request_put o t m p.0 p.1 (inserted_at n t p.1) c at.0
    (record { queued = past.queued; inserted = here; merged = past.merged }, (λ l bad. absurd (waits_out l stage.Inserted (inr refl) bad), λ x. c.own p.0 p.1 at.0 (waits_apart p.1.stage at.1)))

-- what came in by a time was released by it
entry_past : (e : Entry) (queued t : ℕ) (inserted : Option ℕ) → queued ≤ t → IfSome inserted (λ s. s ≤ t) → entry_by e queued inserted ≤ t
entry_past Insert queued t None low h = low
entry_past Insert queued t (Some s) low h = h
entry_past Queue queued t inserted low h = low

by_then : (entry t : ℕ) (last : Option ℕ) → entry ≤ t → IfSome last (λ s. s ≤ t) → released_by entry last ≤ t
by_then entry t None low h = low
by_then entry t (Some s) low h = omega (arith, low, h)

released_past : (o : Options) (t : ℕ) (q : Opened) → HappenedBy t q → released_by (entry_at o q) q.merged ≤ t
released_past o t q past = by_then (entry_at o q) t q.merged (entry_past o.entry q.queued t q.inserted past.queued past.inserted) past.merged

issued_stays : (o : Options) (t : ℕ) (s : Range) (m : Known) (f : Found Opened) → IsCoherent o t m → FindsWaiting s m.requests f → Stays o t (issued t m f)
issued_stays o t s m None c finds = c
issued_stays o t s m (Some p) c finds =
    let at = waiting_found s m.requests p finds in
    let past : HappenedBy t p.1 = c.past p.0 p.1 at.0 in
    let n : ℕ = length m.dispatches in
    let ds : List Dispatch = m.dispatches ++ sent_at p.0 t ∷ [] in
    let new : Opened = record p.1 { stage = stage.InFlight n } in
    let sent : IsCoherent o t (record m { dispatches = ds }) = record {
      bios_past = c.bios_past;
      past = c.past;
      sent = λ j l q there out. (let was = c.sent j l q there out in record { dispatch = was.dispatch; there = pushed_before m.dispatches (sent_at p.0 t) l was.dispatch was.there; of = was.of; released = was.released });
      own = c.own;
      merges = c.merges;
    } in
    let by_it : IsSentBy o ds n p.0 new = record { dispatch = sent_at p.0 t; there = get_pushed m.dispatches (sent_at p.0 t); of = refl; released = released_past o t p.1 past } in
    request_put o t (record m { dispatches = ds }) p.0 p.1 new sent at.0
    (record { queued = past.queued; inserted = past.inserted; merged = past.merged }, (λ l out. subst (λ k. IsSentBy o ds k p.0 new) (is_last n l out) by_it, λ x. c.own p.0 p.1 at.0 (waits_apart p.1.stage at.1.0)))
  where
    is_last : (n l : ℕ) → goes_out_by l (stage.InFlight n) ≡ true → n ≡ l
    is_last n l out = elim (eqb_tells n l) [
      | inl a ↦ a.1
      | inr a ↦ (let bad : false ≡ true = sym (ne_eqb n l a.1) ∙ out in cc)
    ]

-- one of two
either : (P : Opened → Type 0) (b : Bool) (x y : Opened) → P x → P y → P (cond b x y)
either P true x y a b = a
either P false x y a b = b

done_out : (l : ℕ) (w : Stage) → goes_out_by l (done w) ≡ true → goes_out_by l w ≡ true
done_out l stage.Opened e = e
done_out l stage.Inserted e = e
done_out l (stage.InFlight n) e = e
done_out l (stage.Completed n) e = e
done_out l stage.Absorbed e = e

completed_stays : (o : Options) (t : ℕ) (s : Range) (m : Known) (f : Found Opened) → IsCoherent o t m → FindsEnding s m.requests f → Stays o t (comes (completed s t) m f)
completed_stays o t s m None c finds = c
completed_stays o t s m (Some p) c finds =
    let at = ending_found s m.requests p finds in
    let past : HappenedBy t p.1 = c.past p.0 p.1 at.0 in
    let own : ends_in m.absorptions p.0 ≡ p.0 = c.own p.0 p.1 at.0 (flies_apart p.1.stage at.1) in
    request_put o t m p.0 p.1 (completed s t p.1) c at.0
    (either (Fits o t m p.0) (nat_lt s.end p.1.left.end) _ _
    (record { queued = past.queued; inserted = past.inserted; merged = past.merged }, (λ l out. as_sent l p.1 _ refl (c.sent p.0 l p.1 at.0 out), λ x. own))
    (record { queued = past.queued; inserted = past.inserted; merged = past.merged }, (λ l out. as_sent l p.1 _ refl (c.sent p.0 l p.1 at.0 (done_out l p.1.stage out)), λ x. own)))
  where
    as_sent : (l : ℕ) (x y : Opened) → released_by (entry_at o y) y.merged ≡ released_by (entry_at o x) x.merged → IsSentBy o m.dispatches l p.0 x → IsSentBy o m.dispatches l p.0 y
    as_sent l x y same h = record { dispatch = h.dispatch; there = h.there; of = h.of; released = (let was = h.released in omega (arith, same, was)) }

requeued_out : (l : ℕ) (b : Bool) → goes_out_by l (cond b stage.Inserted stage.Opened) ≡ true → ⊥
requeued_out l true bad = cc
requeued_out l false bad = cc

requeued_stays : (o : Options) (t : ℕ) (s : Range) (m : Known) (f : Found Opened) → IsCoherent o t m → FindsOldestOf is_in_flight s m.requests f → Stays o t (comes requeued m f)
requeued_stays o t s m None c finds = c
requeued_stays o t s m (Some p) c finds =
    let past : HappenedBy t p.1 = c.past p.0 p.1 finds.there in
    request_put o t m p.0 p.1 (requeued p.1) c finds.there
    (record { queued = past.queued; inserted = past.inserted; merged = past.merged }, (λ l bad. absurd (requeued_out l (is_some p.1.inserted) bad), λ x. c.own p.0 p.1 finds.there (flies_apart p.1.stage finds.fits.0)))

-- one grew, and what it takes in is gone
grown_fits : (o : Options) (t : ℕ) (side : Side) (s : Range) (m : Known) (k : ℕ) (q : Opened) → HappenedBy t q → Waits q → ends_in m.absorptions k ≡ k → Fits o t m k (grows side s t q)
grown_fits o t side s m k q past waits own =
    let here : t ≤ t = omega arith in
    (record { queued = past.queued; inserted = past.inserted; merged = here }, (λ l bad. absurd (waits_out l q.stage waits bad), λ x. own))

merged_stays : (o : Options) (t : ℕ) (side : Side) (pid : ℕ) (s : Range) (m : Known) (b : ℕ × QueuedBio) (f : Found Opened) → IsCoherent o t m → FindsWaitingBio s m.bios (Some b) → FindsAbutting side pid s m.requests f → Stays o t (merged side s t m b f)
merged_stays o t side pid s m b None c waits finds = with_bios o t m _ c (bio_put t m.bios b.0 b.1 _ c.bios_past waits.there refl)
merged_stays o t side pid s m b (Some p) c waits finds =
    let at = abutting_found side pid s m.requests p finds in
    let changed : IsCoherent o t (put_bio b.0 (record b.1 { stage = Into p.0 }) m) = with_bios o t m _ c (bio_put t m.bios b.0 b.1 _ c.bios_past waits.there refl) in
    request_put o t (put_bio b.0 (record b.1 { stage = Into p.0 }) m) p.0 p.1 (grows side s t p.1) changed at.0
    (grown_fits o t side s (put_bio b.0 (record b.1 { stage = Into p.0 }) m) p.0 p.1 (c.past p.0 p.1 at.0) at.1 (c.own p.0 p.1 at.0 (waits_apart p.1.stage at.1)))

absorbed_stays : (o : Options) (t : ℕ) (pid : ℕ) (s : Range) (m : Known) (p : ℕ × Opened) (f : Found Opened) → s.first < s.end → IsCoherent o t m → FindsAbutting Back pid s m.requests (Some p) → FindsWaiting s m.requests f → Stays o t (absorbed o s t m p f)
absorbed_stays o t pid s m p None some c abuts finds = c
absorbed_stays o t pid s m p (Some w) some c abuts finds =
    let at = abutting_found Back pid s m.requests p abuts in
    let gone = waiting_found s m.requests w finds in
    let apart : p.0 ≢ w.0 = λ e. same_not e at.0 gone.0 (abutting_back pid s m.requests p abuts) gone.1.1 in
    let x : Opened = record w.1 { stage = stage.Absorbed } in
    let y : Opened = grows Back s t (takes_in o w.1 p.1) in
    let a : Absorption = record { request = w.0; into = p.0 } in
    let rs : List Opened = set m.requests w.0 x in
    let there : slice_get rs p.0 ≡ Some p.1 = get_other m.requests w.0 p.0 x apart ∙ at.0 in
    let past_w : HappenedBy t w.1 = c.past w.0 w.1 gone.0 in
    let past_p : HappenedBy t p.1 = c.past p.0 p.1 at.0 in
    let own_p : ends_in m.absorptions p.0 ≡ p.0 = c.own p.0 p.1 at.0 (waits_apart p.1.stage at.1) in
    let here : t ≤ t = omega arith in
    record {
      bios_past = c.bios_past;
      past = put_all (λ j q. HappenedBy t q) rs p.0 p.1 y there (put_all (λ j q. HappenedBy t q) m.requests w.0 w.1 x gone.0 c.past (record { queued = past_w.queued; inserted = past_w.inserted; merged = past_w.merged })) (record { queued = past_p.queued; inserted = past_p.inserted; merged = here });
      sent = λ j n q has out. put_all (λ i (r : Opened). (l : ℕ) → goes_out_by l r.stage ≡ true → IsSentBy o m.dispatches l i r) rs p.0 p.1 y there
          (put_all (λ i (r : Opened). (l : ℕ) → goes_out_by l r.stage ≡ true → IsSentBy o m.dispatches l i r) m.requests w.0 w.1 x gone.0 (λ i r h l. c.sent i l r h) (λ l bad. absurd (never l bad)))
          (λ l bad. absurd (waits_out l p.1.stage at.1 bad)) j q has n out;
      own = put_all (λ i (r : Opened). is_absorbed r.stage ≡ false → ends_in (m.absorptions ++ a ∷ []) i ≡ i) rs p.0 p.1 y there
          (put_others (λ i (r : Opened). is_absorbed r.stage ≡ false → ends_in (m.absorptions ++ a ∷ []) i ≡ i) m.requests w.0 w.1 x gone.0
          (λ i r other has is. ends_other m.absorptions a i (c.own i r has is) other) (λ bad. absurd (apart_from bad)))
          (λ is. ends_other m.absorptions a p.0 own_p apart);
      merges =
          let n : length (set rs p.0 y) ≡ length m.requests = length-set rs p.0 y ∙ length-set m.requests w.0 x in
          let low_w : w.0 < length m.requests = slice_get_within m.requests w.0 w.1 gone.0 in
          let low_p : p.0 < length m.requests = slice_get_within m.requests p.0 p.1 at.0 in
          subst (λ k. AreMerges k (m.absorptions ++ a ∷ [])) (sym n)
          (push_all (λ j (b : Absorption). (b.request < length m.requests) × (b.into < length m.requests)) m.absorptions a c.merges (low_w, low_p));
    }
  where
    never : (l : ℕ) → goes_out_by l stage.Absorbed ≡ true → ⊥
    never l bad = cc

    apart_from : is_absorbed stage.Absorbed ≡ false → ⊥
    apart_from bad = cc

    same_not : p.0 ≡ w.0 → slice_get m.requests p.0 ≡ Some p.1 → slice_get m.requests w.0 ≡ Some w.1 → p.1.left.end ≡ s.first → w.1.left ≡ s → ⊥
    same_not e here there meets whole =
        let same : p.1 ≡ w.1 = some_is p.1 w.1 (sym here ∙ ap (λ k. slice_get m.requests k) e ∙ there) in
        let end : p.1.left.end ≡ s.end = ap (λ (q : Opened). q.left.end) same ∙ ap (λ (r : Range). r.end) whole in
        omega (arith, end, meets, some)

taken_in_stays : (o : Options) (t pid : ℕ) (side : Side) (s : Range) (m : Known) (f : Found Opened) (told : Outcome) → s.first < s.end → IsCoherent o t m → FindsAbutting side pid s m.requests f → IsAbsorbed o side s t m f told → Stays o t told
taken_in_stays o t pid side s m None told some c abuts h = along o t told _ h c
taken_in_stays o t pid Back s m (Some p) told some c abuts h = along o t told _ h.is (absorbed_stays o t pid s m p h.found some c abuts h.finds)
taken_in_stays o t pid Front s m (Some p) told some c abuts h = along o t told _ h c

joined_stays : (o : Options) (t pid : ℕ) (side : Side) (s : Range) (m : Known) (b : Found QueuedBio) (f : Found Opened) (told : Outcome) → s.first < s.end → IsCoherent o t m → FindsWaitingBio s m.bios b → FindsAbutting side pid s m.requests f → IsMergedBy o side s t m b f told → Stays o t told
joined_stays o t pid side s m None f told some c waits abuts h = taken_in_stays o t pid side s m f told some c abuts h
joined_stays o t pid side s m (Some b) f told some c waits abuts h = along o t told _ h (merged_stays o t side pid s m b f c waits abuts)

letter_stays : (a : Action) (o : Options) (n : ℕ) (r : Record) (m : Known) (told : Outcome) → (range_of r).first < (range_of r).end → IsCoherent o r.time m → IsByLetter a o n r m told → Stays o r.time told
letter_stays action.Queue o n r m told some c h = along o r.time told _ h (with_bios o r.time m _ c (bio_pushed r.time m.bios (queued_bio n r.pid (range_of r) r.time) c.bios_past (omega arith)))
letter_stays action.Split o n r m told some c h = along o r.time told _ h.is (cut_stays o r.time (range_of r) m h.found c h.finds)
letter_stays action.Get o n r m told some c h = along o r.time told _ h.is (got_stays o n r.pid r.cpu (range_of r) r.time m h.found c h.finds)
letter_stays action.BackMerge o n r m told some c h = joined_stays o r.time r.pid Back (range_of r) m h.waiting h.abutting told some c h.waits h.abuts h.is
letter_stays action.FrontMerge o n r m told some c h = joined_stays o r.time r.pid Front (range_of r) m h.waiting h.abutting told some c h.waits h.abuts h.is
letter_stays action.Insert o n r m told some c h = along o r.time told _ h.is (inserted_stays o n r.time (range_of r) m h.found c h.finds)
letter_stays action.Issue o n r m told some c h = along o r.time told _ h.is (issued_stays o r.time (range_of r) m h.found c h.finds)
letter_stays action.Complete o n r m told some c h = along o r.time told _ h.is (completed_stays o r.time (range_of r) m h.found c h.finds)
letter_stays action.Requeue o n r m told some c h = along o r.time told _ h.is (requeued_stays o r.time (range_of r) m h.found c h.finds)
letter_stays action.Plug o n r m told some c h = along o r.time told _ h c
letter_stays action.Unplug o n r m told some c h = along o r.time told _ h c
letter_stays action.Other o n r m told some c h = along o r.time told _ h c

-- ---- a record that isn't passed over has sectors
none_else : {X : Type 0} (a b : Option X) → or_else a b ≡ None → b ≡ None
none_else None b e = e
none_else (Some x) b e = cc

some_sectors : (first sectors : ℕ) → passed_range first sectors ≡ None → 0 < sectors
some_sectors first zero e = cc
some_sectors first (suc n) e = omega arith

has_sectors : (r : Record) → passed_over r ≡ None → (range_of r).first < (range_of r).end
has_sectors r e =
    let some : 0 < r.sectors = some_sectors r.first r.sectors (none_else (passed_op r.op) _ (none_else (passed_action r.action) _ e)) in
    omega (arith, some)

told_stays : (why : Option PassReason) (o : Options) (n : ℕ) (r : Record) (m : Known) (told : Outcome) → passed_over r ≡ why → IsCoherent o r.time m → IsToldUnless why o n r m told → Stays o r.time told
told_stays (Some kind) o n r m told e c h = along o r.time told _ h c
told_stays None o n r m told e c h = letter_stays r.action o n r m told (has_sectors r e) c h

-- one record more, no earlier
pub coherent_told : (o : Options) (n t : ℕ) (r : Record) (m : Known) (told : Outcome) → t ≤ r.time → IsCoherent o t m → IsTold o n r m told → IsCoherent o r.time told.0
coherent_told o n t r m told le c h = told_stays (passed_over r) o n r m told refl (coherent_later o t r.time m le c) h
