-- The listed Issues are the open ones.
use Rattle.std.proofs.Common.{◌≡◌, ◌+◌, ℕ, zero, suc, List, [], ◌∷◌, drop, refl, sym, ap, subst, arith, Some, ◌∙◌, Bool, true, false, cond}
use Rattle.std.specs.Prelude.{slice_get, filter}
use Rattle.blk_trace.specs.declared.issued.Issued.{Issued}
use Rattle.blk_trace.specs.Happened.{Happened}
use Rattle.blk_trace.specs.Events.{IsOpen}
use Rattle.blk_trace.specs.Issues.{issues_of, flies, flying, outcome_of}
use Rattle.blk_trace.proofs.Issues.{issue_at, flies_on, flying_by, flying_is, ends_later, get_map, map_get}
use Rattle.blk_core.specs.Opens.{open_issues}

-- the tag has an open Issue of the id
abbrev HasOpen : List Happened → ℕ → ℕ → Type 0
HasOpen es id tag = (o : IsOpen es tag) × (o.id ≡ id)

-- the id and the tag are listed
abbrev IsListed : List (ℕ × ℕ) → ℕ → ℕ → Type 0
IsListed xs id tag = (k : ℕ) × (slice_get xs k ≡ Some (id, tag))

-- the places of a list's elements that pass
abbrev IsPassed : (Issued → Bool) → List Issued → Issued → Type 0
IsPassed p xs x = (j : ℕ) × (slice_get xs j ≡ Some x) × (p x ≡ true)

passed_first : (p : Issued → Bool) (y : Issued) (ys : List Issued) (b : Bool) (k : ℕ) (x : Issued) → p y ≡ b → ((i : ℕ) → slice_get (filter p ys) i ≡ Some x → IsPassed p ys x) → slice_get (cond b (y ∷ filter p ys) (filter p ys)) k ≡ Some x → IsPassed p (y ∷ ys) x
passed_first p y ys true zero x is later h = let same : y ≡ x = cc in (0, h, ap p (sym same) ∙ is)
passed_first p y ys true (suc k) x is later h = let q = later k h in (suc q.0, q.1, q.2)
passed_first p y ys false k x is later h = let q = later k h in (suc q.0, q.1, q.2)

passed : (p : Issued → Bool) (xs : List Issued) (k : ℕ) (x : Issued) → slice_get (filter p xs) k ≡ Some x → IsPassed p xs x
passed p [] k x h = absurd (cc)
passed p (y ∷ ys) k x h = passed_first p y ys (p y) k x refl (λ i there. passed p ys i x there) h

one_more : (b : Bool) (y : Issued) (zs : List Issued) (k : ℕ) (x : Issued) → slice_get zs k ≡ Some x → (j : ℕ) × (slice_get (cond b (y ∷ zs) zs) j ≡ Some x)
one_more true y zs k x h = (suc k, h)
one_more false y zs k x h = (k, h)

passes : (p : Issued → Bool) (xs : List Issued) (j : ℕ) (x : Issued) → slice_get xs j ≡ Some x → p x ≡ true → (k : ℕ) × (slice_get (filter p xs) k ≡ Some x)
passes p [] j x h is = absurd (cc)
passes p (y ∷ ys) zero x h is = let same : y ≡ x = cc in (0, ap (λ b. slice_get (cond b (y ∷ filter p ys) (filter p ys)) 0) (ap p same ∙ is) ∙ h)
passes p (y ∷ ys) (suc j) x h is = let q = passes p ys j x h is in one_more (p y) y (filter p ys) q.0 x q.1

-- a listed Issue is open
pub listed_open : (es : List Happened) (id tag k : ℕ) → slice_get (open_issues es) k ≡ Some (id, tag) → HasOpen es id tag
unfolding open_issues
listed_open es id tag k h =
    let p = get_map (λ (i : Issued). (i.id, i.tag)) (flying (issues_of es)) k (id, tag) h in
    let q = passed (λ i. flies i.outcome) (issues_of es) k p.0 p.1 in
    let o = flying_by es q.0 p.0 q.1 (flying_is p.0.outcome q.2) in
    subst (λ (x : ℕ × ℕ). HasOpen es x.0 x.1) p.2 (record { place = o.place; id = p.0.id; issued = o.issued; not_done = o.not_done }, refl)

-- an open Issue is listed
pub open_listed : (es : List Happened) (id tag : ℕ) → HasOpen es id tag → IsListed (open_issues es) id tag
unfolding open_issues
open_listed es id tag p =
    let o : IsOpen es tag = p.0 in
    let later : List Happened = drop (suc o.place) es in
    let at = issue_at 0 es o.place o.id tag o.issued in
    let i : Issued = record { round = at.1.0; id = o.id; tag = tag; outcome = outcome_of tag later } in
    let q = passes (λ i. flies i.outcome) (issues_of es) at.0 i at.1.1 (flies_on tag later (λ j d. o.not_done (suc o.place + j) (omega arith) (ends_later es o.place j tag d))) in
    (q.0, map_get (λ (i : Issued). (i.id, i.tag)) (flying (issues_of es)) q.0 i q.1 ∙ ap (λ n. Some (n, tag)) p.1)
