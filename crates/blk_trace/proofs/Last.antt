-- The place of the last Issue under each tag: with one more event, and what stands there says how the tag stands.
use Rattle.std.proofs.Common.{◌≡◌, ◌≢◌, ◌<◌, ◌≤◌, ◌++◌, ◌==◌, ◌↔◌, ℕ, zero, suc, List, [], ◌∷◌, length, map, set, refl, sym, ◌∙◌, ap, subst, arith, inl, inr, Some, None, Option, IsTrue, get_or, eq-eqb, eqb-true}
use Rattle.std.specs.Prelude.{slice_get, ◌⊎◌, replicate}
use Rattle.std.proofs.lemmas.List.{length-map, map-append}
use Rattle.std.proofs.lemmas.Option.{slice_get_within, slice_get-get_or}
use Rattle.blk_trace.specs.declared.issued.Outcome.{Outcome}
use Rattle.blk_trace.specs.declared.issued.Outcome.TheVariants.{Flying}
use Rattle.blk_trace.specs.declared.issued.Issued.{Issued}
use Rattle.blk_trace.specs.Happened.{Happened}
use Rattle.blk_trace.specs.Setups.{Setup}
use Rattle.blk_trace.specs.Events.{round_of, IsOpen, IsUsed}
use Rattle.blk_trace.specs.Issues.{issues_of}
use Rattle.blk_trace.specs.Legal.{IsLegalTrace}
use Rattle.blk_trace.specs.Inside.Issues.{ended_by}
use Rattle.blk_trace.specs.Inside.Kept.{IsFlyingAt, IsLast, AreLast, tags_of}
use Rattle.blk_trace.proofs.Places.{split, keep, last}
use Rattle.blk_trace.proofs.Issues.{issue_low, flying_by, flying_place, get_map, map_get, ended_tag}
use Rattle.blk_trace.proofs.TagUses.{by_open, open_by}
use Rattle.blk_trace.proofs.Steady.{IsNow, now_used, used_now, AreSteady, steady}

-- an end leaves the tags
pub ended_tags : (t : ℕ) (n : Outcome) (xs : List Issued) → tags_of (map (ended_by t n) xs) ≡ tags_of xs
ended_tags t n [] = refl
ended_tags t n (x ∷ xs) = ap (λ a. a ∷ tags_of (map (ended_by t n) xs)) (ended_tag t n x) ∙ ap (λ l. x.tag ∷ l) (ended_tags t n xs)

pub last_same : (xs ys : List Issued) (places : List (Option ℕ)) → tags_of ys ≡ tags_of xs → AreLast xs places → AreLast ys places
last_same xs ys places same h tag o at = subst (λ (l : List ℕ). IsLast l tag o) (sym same) (h tag o at)

-- an Issue is the last under its tag
replicate_at : {X : Type 0} (n : ℕ) (x : X) (k : ℕ) (y : X) → slice_get (replicate n x) k ≡ Some y → x ≡ y
replicate_at zero x k y h = absurd (cc)
replicate_at (suc n) x zero y h = cc
replicate_at (suc n) x (suc k) y h = replicate_at n x k y h

pub last_empty : (n : ℕ) → AreLast [] (replicate n None)
last_empty n tag o at = subst (IsLast [] tag) (replicate_at n None tag o at) (λ k h. absurd (cc))

written : {X : Type 0} (xs : List X) (k : ℕ) (x : X) (j : ℕ) (y : X) → slice_get (set xs k x) j ≡ Some y → ((j ≡ k) × (x ≡ y)) ⊎ ((j ≢ k) × (slice_get xs j ≡ Some y))
written [] k x j y h = absurd (cc)
written (z ∷ xs) zero x zero y h = inl (refl, cc)
written (z ∷ xs) zero x (suc j) y h = inr (λ e. absurd (omega (arith, e)), h)
written (z ∷ xs) (suc k) x zero y h = inr (λ e. absurd (omega (arith, e)), h)
written (z ∷ xs) (suc k) x (suc j) y h = elim (written xs k x j y h) [ inl p ↦ inl (omega (arith, p.0), p.1) | inr p ↦ inr (λ e. p.0 (omega (arith, e)), p.1) ]

last_new : (ts : List ℕ) (t : ℕ) → IsLast (ts ++ t ∷ []) t (Some (length ts))
last_new ts t = (last ts t, λ k at. elim (split ts t k t at) [ inl a ↦ omega (arith, slice_get_within ts k t a) | inr a ↦ omega (arith, a.0) ])

last_other : (ts : List ℕ) (u t : ℕ) (o : Option ℕ) → t ≢ u → IsLast ts t o → IsLast (ts ++ u ∷ []) t o
last_other ts u t None other h = λ k at. elim (split ts u k t at) [ inl a ↦ h k a | inr a ↦ other (sym a.1) ]
last_other ts u t (Some place) other h = (keep ts (u ∷ []) place t h.0, λ k at. elim (split ts u k t at) [ inl a ↦ h.1 k a | inr a ↦ absurd (other (sym a.1)) ])

pub last_issued : (xs : List Issued) (i : Issued) (places : List (Option ℕ)) (place : ℕ) → place ≡ length xs → AreLast xs places → AreLast (xs ++ i ∷ []) (set places i.tag (Some place))
last_issued xs i places place is h t o at =
    let ts : List ℕ = tags_of xs in
    let long : length ts ≡ place = length-map xs (λ (x : Issued). x.tag) ∙ sym is in
    let more : tags_of (xs ++ i ∷ []) ≡ ts ++ i.tag ∷ [] = map-append (λ (x : Issued). x.tag) xs (i ∷ []) in
    let here : IsLast (ts ++ i.tag ∷ []) i.tag (Some place) = subst (λ (n : ℕ). IsLast (ts ++ i.tag ∷ []) i.tag (Some n)) long (last_new ts i.tag) in
    let now : IsLast (ts ++ i.tag ∷ []) t o = elim (written places i.tag (Some place) t o at) [
      | inl p ↦ subst (IsLast (ts ++ i.tag ∷ []) t) p.1 (subst (λ (n : ℕ). IsLast (ts ++ i.tag ∷ []) n (Some place)) (sym p.0) here)
      | inr p ↦ last_other ts i.tag t o p.0 (h t o p.1)
    ] in
    subst (λ (l : List ℕ). IsLast l t o) (sym more) now

-- ---- what the last Issue under a tag says

pub record IsLastIssue (es : List Happened) (tag : ℕ) (i : Issued) : Type 0 where
  pub place : ℕ
  pub there : slice_get (issues_of es) place ≡ Some i
  pub under : i.tag ≡ tag
  pub last : (k : ℕ) (x : Issued) → slice_get (issues_of es) k ≡ Some x → x.tag ≡ tag → k ≤ place

tag_at : (xs : List Issued) (k tag : ℕ) (x : Issued) → slice_get xs k ≡ Some x → x.tag ≡ tag → slice_get (tags_of xs) k ≡ Some tag
tag_at xs k tag x at under = map_get (λ (y : Issued). y.tag) xs k x at ∙ ap Some under

-- the one at the place that is kept of the tag
pub last_issue : (es : List Happened) (cs : List Issued) (places : List (Option ℕ)) (tag place : ℕ) → cs ≡ issues_of es → AreLast cs places → slice_get places tag ≡ Some (Some place) → (i : Issued) × (slice_get cs place ≡ Some i) × IsLastIssue es tag i
last_issue es cs places tag place are h at =
    let l : IsLast (tags_of cs) tag (Some place) = h tag (Some place) at in
    let p = get_map (λ (y : Issued). y.tag) cs place tag l.0 in
    let same : (k : ℕ) → slice_get (issues_of es) k ≡ slice_get cs k = λ k. ap (λ (xs : List Issued). slice_get xs k) (sym are) in
    (p.0, p.1, record { place = place; there = same place ∙ p.1; under = p.2; last = λ k x there under. l.1 k (tag_at cs k tag x (sym (same k) ∙ there) under) })

-- where an Issue of this round is under a tag, the last under it is of this round
last_now : (setup : Setup) (es : List Happened) (tag : ℕ) (i j : Issued) → IsLegalTrace setup es → IsLastIssue es tag i → IsNow es tag j → i.round ≡ round_of es
last_now setup es tag i j legal l n =
    omega (arith, (steady setup es legal).rise n.place l.place j i n.there l.there (l.last n.place j n.there n.under), n.now, issue_low 0 es l.place i l.there)

pub used_last : (setup : Setup) (es : List Happened) (tag now : ℕ) (i : Issued) → IsLegalTrace setup es → now ≡ round_of es → IsLastIssue es tag i → IsTrue (i.round == now) ↔ IsUsed es tag
used_last setup es tag now i legal is l = (
  λ t. now_used es tag i record { place = l.place; there = l.there; now = eqb-true i.round now t ∙ is; under = l.under },
  λ u. let n = used_now es tag u in eq-eqb i.round now (last_now setup es tag i n.0 legal l n.1 ∙ sym is),
)

pub open_last : (setup : Setup) (es : List Happened) (tag : ℕ) (i : Issued) → IsLegalTrace setup es → IsLastIssue es tag i → (i.outcome ≡ Flying) ↔ IsOpen es tag
open_last setup es tag i legal l = (
  λ is. subst (IsOpen es) l.under (by_open es i.tag i.id (flying_by es l.place i l.there is)),
  λ o.
      let s : AreSteady (issues_of es) (round_of es) = steady setup es legal in
      let p = flying_place es tag o.id (open_by es tag o) in
      let f : IsFlyingAt (issues_of es) p.0 tag = p.1.0 in
      let now : f.issue.round ≡ round_of es = s.flies p.0 f.issue f.there f.flies in
      let here : i.round ≡ round_of es = last_now setup es tag i f.issue legal l record { place = p.0; there = f.there; now = now; under = f.under } in
      let same : l.place ≡ p.0 = s.once l.place p.0 i f.issue l.there f.there (here ∙ sym now) (l.under ∙ sym f.under) in
      let both : Some i ≡ Some f.issue = sym l.there ∙ ap (slice_get (issues_of es)) same ∙ f.there in
      let one : i ≡ f.issue = cc in
      ap (λ (x : Issued). x.outcome) one ∙ f.flies,
)

-- none is under a tag that has no place
pub none_used : (es : List Happened) (cs : List Issued) (places : List (Option ℕ)) (tag : ℕ) → cs ≡ issues_of es → AreLast cs places → slice_get places tag ≡ Some None → IsUsed es tag → ⊥
none_used es cs places tag are h at u =
    let n = used_now es tag u in
    let none : IsLast (tags_of cs) tag None = h tag None at in
    none n.1.place (ap (λ (xs : List Issued). slice_get (tags_of xs) n.1.place) are ∙ tag_at (issues_of es) n.1.place tag n.0 n.1.there n.1.under)

pub none_open : (es : List Happened) (cs : List Issued) (places : List (Option ℕ)) (tag : ℕ) → cs ≡ issues_of es → AreLast cs places → slice_get places tag ≡ Some None → IsOpen es tag → ⊥
none_open es cs places tag are h at o =
    let p = flying_place es tag o.id (open_by es tag o) in
    let none : IsLast (tags_of cs) tag None = h tag None at in
    none p.0 (ap (λ (xs : List Issued). slice_get (tags_of xs) p.0) are ∙ tag_at (issues_of es) p.0 tag p.1.0.issue p.1.0.there p.1.0.under)

-- what is read at a place
pub read_at : {X : Type 0} (xs : List X) (k : ℕ) (x : X) → k < length xs → x ≡ get_or xs k x → slice_get xs k ≡ Some x
read_at xs k x low is = slice_get-get_or xs k x low ∙ ap Some (sym is)

pub read_same : {X : Type 0} (xs : List X) (k : ℕ) (x y : X) → slice_get xs k ≡ Some y → x ≡ get_or xs k x → x ≡ y
read_same xs k x y at is = let both : Some x ≡ Some y = sym (read_at xs k x (slice_get_within xs k y at) is) ∙ at in cc
