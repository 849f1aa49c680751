-- Whether an event breaks a rule of a trace is decided, after whatever events.
use Rattle.std.proofs.Common.{◌≡◌, ◌==◌, ◌+◌, ◌<◌, ◌≤◌, ◌∙◌, ℕ, zero, suc, List, [], ◌∷◌, ◌++◌, length, refl, sym, ap, subst, inl, inr, arith, drop, Bool, true, false, Option, Some, None}
use Rattle.std.specs.Prelude.{◌⊎◌, IfSome, IsTrue, slice_get, if◌then◌else◌}
use Rattle.std.specs.Bool.{OnTrue}
use Rattle.std.specs.Option.{MatchOption}
use Rattle.std.proofs.lemmas.Option.{slice_get_within}
use Rattle.blk_bio.specs.Bios.{Bio}
use Rattle.blk_bio.specs.Limits.{Limits}
use Rattle.blk_bio.specs.Requests.{dir_of, first_of, last_of, sectors_of, IsWithin, Abuts, joined, Fits}
use Rattle.blk_bio.specs.declared.bio.BioId.{BioId}
use Rattle.blk_bio.specs.declared.bio.Dir.{Dir}
use Rattle.blk_bio.specs.declared.bio.Dir.TheVariants as dir
use Rattle.blk_bio.specs.declared.request.Side.{Side}
use Rattle.blk_bio.specs.declared.request.Side.TheVariants as side
use Rattle.blk_trace.specs.declared.trace.TheConstants.{MAX_EVENTS}
use Rattle.blk_trace.specs.Happened.{Happened}
use Rattle.blk_trace.specs.declared.event.Event.TheVariants.{Release, Issue}
use Rattle.blk_trace.specs.Kinds.{releases, joins, issues, ends, is_tick, sets_depth, enters}
use Rattle.blk_trace.specs.Setups.{Setup}
use Rattle.blk_trace.specs.Issues.{outcome_of, was_requeued}
use Rattle.blk_trace.specs.Events.{entered, request_of, round_at, round_of, EndsAt, IsReleased, IsIssued, IsRequeued, AreRequeued, IsOpen, IsUsed, open_count, AreOnce}
use Rattle.blk_trace.specs.Depths.{depth_now}
use Rattle.blk_trace.specs.Rules.{asks_for, Obeys, rank, IsFirstBroken, BreaksNoRule}
use Rattle.blk_bio.specs.declared.rule.TraceRule.{TraceRule}
use Rattle.blk_bio.specs.declared.rule.TraceRule.TheVariants as rule
use Rattle.blk_records.proofs.Lacking.{Dec, both, either, same_as, at_most, same_number}

-- of decided things

opposite : {A : Type 0} → Dec A → Dec (¬ A)
opposite (inl a) = inr (λ n. n a)
opposite (inr n) = inl n

implied : {A B : Type 0} → Dec A → Dec B → Dec (A → B)
implied (inr n) d = inl (λ a. absurd (n a))
implied (inl a) (inl b) = inl (λ _. b)
implied (inl a) (inr n) = inr (λ f. n (f a))

less : (a b : ℕ) → Dec (a < b)
less a b = same_as (λ l. omega (arith, l)) (λ l. omega (arith, l)) (at_most (suc a) b)

is_true : (b : Bool) → Dec (IsTrue b)
is_true true = inl refl
is_true false = inr (λ h. (cc h))

on_true : {A : Type 0} (b : Bool) → Dec A → Dec (OnTrue b A)
on_true true d = d
on_true false d = inl tt

if_some : {A : Type 0} (o : Option A) (P : A → Type 0) → ((a : A) → Dec (P a)) → Dec (IfSome o P)
if_some None P d = inl tt
if_some (Some a) P d = d a

match_option : {A : Type 0} (o : Option A) (N : Type 0) (P : A → Type 0) → Dec N → ((a : A) → Dec (P a)) → Dec (MatchOption o N P)
match_option None N P n d = n
match_option (Some a) N P n d = d a

same_some : (o : Option ℕ) (n : ℕ) → Dec (o ≡ Some n)
same_some None n = inr (λ e. (cc e))
same_some (Some m) n = same_as (λ e. ap Some e) (λ e. (cc e)) (same_number m n)

-- something that stands in a list, and all that stands there

abbrev SomeAt : {E : Type 0} → List E → (ℕ → E → Type 0) → Type 0
SomeAt {E} es P = (k : ℕ) × (e : E) × (slice_get es k ≡ Some e) × P k e

some_at : {E : Type 0} (es : List E) (P : ℕ → E → Type 0) → ((k : ℕ) (e : E) → Dec (P k e)) → Dec (SomeAt es P)
some_at [] P d = inr (λ h. (let l = slice_get_within [] h.0 h.1 h.2 in omega (arith, l)))
some_at {E} (x ∷ xs) P d = same_as forth (λ h. back h.0 h.1 h.2 h.3) (either (d 0 x) (some_at xs (λ k e. P (suc k) e) (λ k e. d (suc k) e)))
  where
    forth : P 0 x ⊎ SomeAt xs (λ k e. P (suc k) e) → SomeAt (x ∷ xs) P
    forth (inl p) = (0, x, refl, p)
    forth (inr h) = (suc h.0, h.1, h.2, h.3)

    same : (e : E) → slice_get (x ∷ xs) 0 ≡ Some e → x ≡ e
    same e is = cc is

    back : (k : ℕ) (e : E) → slice_get (x ∷ xs) k ≡ Some e → P k e → P 0 x ⊎ SomeAt xs (λ k e. P (suc k) e)
    back zero e is p = inl (subst (P 0) (sym (same e is)) p)
    back (suc k) e is p = inr (k, e, is, p)

abbrev EachAt : {E : Type 0} → List E → (ℕ → E → Type 0) → Type 0
EachAt {E} es P = (k : ℕ) (e : E) → slice_get es k ≡ Some e → P k e

each_at : {E : Type 0} (es : List E) (P : ℕ → E → Type 0) → ((k : ℕ) (e : E) → Dec (P k e)) → Dec (EachAt es P)
each_at {E} es P d = elim (some_at es (λ k e. ¬ P k e) (λ k e. opposite (d k e))) [
  | inl h ↦ inr (λ all. h.3 (all h.0 h.1 h.2))
  | inr n ↦ inl (λ k e is. sure k e is (d k e) n)
]
  where
    sure : (k : ℕ) (e : E) → slice_get es k ≡ Some e → Dec (P k e) → ¬ SomeAt es (λ k e. ¬ P k e) → P k e
    sure k e is (inl p) n = p
    sure k e is (inr m) n = absurd (n (k, e, is, m))

-- what an event is

releases_id : (id : ℕ) (e : Happened) → Dec ((bios : List Bio) × (e ≡ Release id bios))
releases_id id (Release i bios) = same_as (λ s. (bios, ap (λ n. Release n bios) s)) (λ h. (let is = h.1 in cc is)) (same_number i id)
releases_id id e = inr (λ h. (let is = h.1 in cc is))

issues_id : (id : ℕ) (e : Happened) → Dec ((tag : ℕ) × (e ≡ Issue id tag))
issues_id id (Issue i tag) = same_as (λ s. (tag, ap (λ n. Issue n tag) s)) (λ h. (let is = h.1 in cc is)) (same_number i id)
issues_id id e = inr (λ h. (let is = h.1 in cc is))

issues_tag : (tag : ℕ) (e : Happened) → Dec ((id : ℕ) × (e ≡ Issue id tag))
issues_tag tag (Issue id t) = same_as (λ s. (id, ap (λ n. Issue id n) s)) (λ h. (let is = h.1 in cc is)) (same_number t tag)
issues_tag tag e = inr (λ h. (let is = h.1 in cc is))

-- of the events before

released : (events : List Happened) (id : ℕ) → Dec (IsReleased events id)
released events id = same_as (λ h. (h.0, (h.3.0, h.2 ∙ ap Some h.3.1))) (λ h. (h.0, Release id h.1.0, h.1.1, (h.1.0, refl))) (some_at events (λ k e. (bios : List Bio) × (e ≡ Release id bios)) (λ k e. releases_id id e))

issued : (events : List Happened) (id : ℕ) → Dec (IsIssued events id)
issued events id = same_as (λ h. (h.0, (h.3.0, h.2 ∙ ap Some h.3.1))) (λ h. (h.0, Issue id h.1.0, h.1.1, (h.1.0, refl))) (some_at events (λ k e. (tag : ℕ) × (e ≡ Issue id tag)) (λ k e. issues_id id e))

used : (events : List Happened) (tag : ℕ) → Dec (IsUsed events tag)
used events tag = same_as (λ h. record { place = h.0; id = h.3.0.0; issued = h.2 ∙ ap Some h.3.0.1; now = h.3.1 }) (λ u. (u.place, Issue u.id tag, u.issued, ((u.id, refl), u.now)))
    (some_at events (λ k e. ((id : ℕ) × (e ≡ Issue id tag)) × (round_at events k ≡ round_of events)) (λ k e. both (issues_tag tag e) (same_number (round_at events k) (round_of events))))

-- no event after the place ends the tag's Issue
abbrev NotDone : List Happened → ℕ → ℕ → Type 0
NotDone events k tag = (j : ℕ) → k < j → EndsAt events j tag → ⊥

not_done : (events : List Happened) (k tag : ℕ) → Dec (NotDone events k tag)
not_done events k tag = same_as (λ f j l h. f j h.0 h.1 l h.2) (λ f j e is l m. f j l (e, is, m))
    (each_at events (λ j e. k < j → ¬ (ends e ≡ Some tag)) (λ j e. implied (less k j) (opposite (same_some (ends e) tag))))

is_open : (events : List Happened) (tag : ℕ) → Dec (IsOpen events tag)
is_open events tag = same_as (λ h. record { place = h.0; id = h.3.0.0; issued = h.2 ∙ ap Some h.3.0.1; not_done = h.3.1 }) (λ o. (o.place, Issue o.id tag, o.issued, ((o.id, refl), o.not_done)))
    (some_at events (λ k e. ((id : ℕ) × (e ≡ Issue id tag)) × NotDone events k tag) (λ k e. both (issues_tag tag e) (not_done events k tag)))

-- an Issue that stands at a place is not open there
abbrev IsClosed : List Happened → ℕ → Happened → Type 0
IsClosed events k e = (tag id : ℕ) → e ≡ Issue id tag → ¬ NotDone events k tag

is_closed : (events : List Happened) (k : ℕ) (e : Happened) → Dec (IsClosed events k e)
is_closed events k (Issue i t) = same_as (λ n tag id is. subst (λ u. ¬ NotDone events k u) (let same : t ≡ tag = cc is in same) n) (λ f. f t i refl) (opposite (not_done events k t))
is_closed events k e = inl (λ tag id is. absurd (cc is))

none_open : (events : List Happened) → Dec ((tag : ℕ) → IsOpen events tag → ⊥)
none_open events = same_as (λ f tag o. f o.place (Issue o.id tag) o.issued tag o.id refl o.not_done)
    (λ f k e at tag id is n. f tag (record { place = k; id = id; issued = at ∙ ap Some is; not_done = n })) (each_at events (IsClosed events) (is_closed events))

-- an Issue of the id that stands at a place was requeued
abbrev IsBackAt : List Happened → ℕ → ℕ → Happened → Type 0
IsBackAt events id k e = (tag : ℕ) → e ≡ Issue id tag → IsRequeued events k tag

is_back : (events : List Happened) (id k : ℕ) (e : Happened) → Dec (IsBackAt events id k e)
is_back events id k (Issue i t) = same_as (λ f tag is. (let same : i ≡ id = cc is in let tags : t ≡ tag = cc is in subst (IsRequeued events k) tags (f same))) (λ f s. f t (ap (λ n. Issue n t) s))
    (implied (same_number i id) (is_true (was_requeued (outcome_of t (drop (suc k) events)))))
is_back events id k e = inl (λ tag is. absurd (cc is))

are_requeued : (events : List Happened) (id : ℕ) → Dec (AreRequeued events id)
are_requeued events id = same_as (λ f k tag at. f k (Issue id tag) at tag refl) (λ f k e at tag is. f k tag (at ∙ ap Some is)) (each_at events (IsBackAt events id) (is_back events id))

-- of bios

same_id : (a b : BioId) → Dec (a ≡ b)
same_id a b = same_as (λ p. (λ i. record { submitter = p.0 i; serial = p.1 i })) (λ e. (ap (λ (x : BioId). x.submitter) e, ap (λ (x : BioId). x.serial) e)) (both (same_number a.submitter b.submitter) (same_number a.serial b.serial))

once : (bios : List Bio) → Dec (AreOnce bios)
once bios = same_as (λ f j k b c p q. f j b p k c q) (λ f j b p k c q. f j k b c p q)
    (each_at bios (λ j b. EachAt bios (λ k c. b.id ≡ c.id → j ≡ k)) (λ j b. each_at bios (λ k c. b.id ≡ c.id → j ≡ k) (λ k c. implied (same_id b.id c.id) (same_number j k))))

same_way : (a b : Dir) → Dec (a ≡ b)
same_way dir.Read dir.Read = inl refl
same_way dir.Read dir.Write = inr (λ e. (cc e))
same_way dir.Write dir.Read = inr (λ e. (cc e))
same_way dir.Write dir.Write = inl refl

within : (limits : Limits) (bios : List Bio) → Dec (IsWithin limits bios)
within limits bios = either (same_number (length bios) 1) (both (at_most (sectors_of bios) limits.max_sectors) (at_most (length bios) limits.max_segments))

abuts : (bios newcomer : List Bio) (s : Side) → Dec (Abuts bios newcomer s)
abuts bios newcomer side.Back = same_number (first_of newcomer) (last_of bios)
abuts bios newcomer side.Front = same_number (last_of newcomer) (first_of bios)

pub fits : (limits : Limits) (bios newcomer : List Bio) (s : Side) → Dec (Fits limits bios newcomer s)
fits limits bios newcomer s = same_as (λ p. record { same_direction = p.0; abuts = p.1.0; within = p.1.1 }) (λ f. (f.same_direction, (f.abuts, f.within)))
    (both (same_way (dir_of newcomer) (dir_of bios)) (both (abuts bios newcomer s) (within limits (joined bios newcomer s))))

fits_some : (limits : Limits) (bios newcomer : List Bio) → Dec ((s : Side) × Fits limits bios newcomer s)
fits_some limits bios newcomer = same_as forth (λ h. back h.0 h.1) (either (fits limits bios newcomer side.Back) (fits limits bios newcomer side.Front))
  where
    forth : Fits limits bios newcomer side.Back ⊎ Fits limits bios newcomer side.Front → (s : Side) × Fits limits bios newcomer s
    forth (inl f) = (side.Back, f)
    forth (inr f) = (side.Front, f)

    back : (s : Side) → Fits limits bios newcomer s → Fits limits bios newcomer side.Back ⊎ Fits limits bios newcomer side.Front
    back side.Back f = inl f
    back side.Front f = inr f

-- the rules

obeys : (setup : Setup) (events : List Happened) (e : Happened) (r : TraceRule) → Dec (Obeys setup events e r)
obeys setup events e rule.ReleasedTwice = if_some (releases e) (λ p. IsReleased events p.0 → ⊥) (λ p. opposite (released events p.0))
obeys setup events e rule.Unknown = if_some (asks_for e) (λ id. IsReleased events id) (λ id. released events id)
obeys setup events e rule.AlreadyIssued =
    match_option (joins e) (IfSome (issues e) (λ p. AreRequeued events p.0)) (λ p. IsIssued events p.0 → ⊥) (if_some (issues e) (λ p. AreRequeued events p.0) (λ p. are_requeued events p.0)) (λ p. opposite (issued events p.0))
obeys setup events e rule.BioTwice = if_some (enters e) (λ p. AreOnce (entered events ++ p.1)) (λ p. once (entered events ++ p.1))
obeys setup events e rule.Fit =
    match_option (releases e) (IfSome (joins e) (λ p. (s : Side) × Fits setup.limits (request_of events p.0) p.1 s)) (λ p. IsWithin setup.limits p.1)
    (if_some (joins e) (λ p. (s : Side) × Fits setup.limits (request_of events p.0) p.1 s) (λ p. fits_some setup.limits (request_of events p.0) p.1)) (λ p. within setup.limits p.1)
obeys setup events e rule.TagRange = if_some (issues e) (λ p. p.1 < depth_now setup events) (λ p. less p.1 (depth_now setup events))
obeys setup events e rule.TagUsed = if_some (issues e) (λ p. IsUsed events p.1 → ⊥) (λ p. opposite (used events p.1))
obeys setup events e rule.NotIssued = if_some (ends e) (λ tag. IsOpen events tag) (λ tag. is_open events tag)
obeys setup events e rule.InFlight = on_true (is_tick e) (none_open events)
obeys setup events e rule.TooLong = at_most (length (events ++ e ∷ []) + open_count (events ++ e ∷ [])) MAX_EVENTS
obeys setup events e rule.DepthRange = if_some (sets_depth e) (λ depth. (0 < depth) × (depth ≤ setup.depth)) (λ depth. both (less 0 depth) (at_most depth setup.depth))

-- the rule of a rank
abbrev pub rule_at : ℕ → TraceRule
rule_at n =
    if n == 1 then rule.ReleasedTwice
    else if n == 2 then rule.Unknown
    else if n == 3 then rule.AlreadyIssued
    else if n == 4 then rule.BioTwice
    else if n == 5 then rule.Fit
    else if n == 6 then rule.TagRange
    else if n == 7 then rule.TagUsed
    else if n == 8 then rule.NotIssued
    else if n == 9 then rule.InFlight
    else if n == 10 then rule.TooLong
    else rule.DepthRange

pub rule_is : (r : TraceRule) → rule_at (rank r) ≡ r
rule_is rule.ReleasedTwice = refl
rule_is r = refl

some_rank : (r : TraceRule) → (1 ≤ rank r) × (rank r ≤ 11)
some_rank rule.ReleasedTwice = (omega arith, omega arith)
some_rank r = (omega arith, omega arith)

high_rank : (n : ℕ) → n < 11 → rank (rule_at (suc n)) ≤ suc n
high_rank (suc (suc (suc (suc (suc (suc (suc (suc (suc (suc zero)))))))))) l = omega (arith, l)
high_rank n l = omega (arith, l)

-- all rules up to a rank are obeyed, or one of them is the first that is broken
up_to : (setup : Setup) (before : List Happened) (e : Happened) (n : ℕ) → n ≤ 11 → ((r : TraceRule) → rank r ≤ n → Obeys setup before e r) ⊎ ((r : TraceRule) × IsFirstBroken setup before e r)
up_to setup before e zero h = inl (λ r l. (let some = some_rank r in absurd (omega (arith, l, some))))
up_to setup before e (suc n) h = elim (up_to setup before e n (omega (arith, h))) [
  | inr b ↦ inr b
  | inl good ↦ next good (obeys setup before e (rule_at (suc n)))
]
  where
    one_more : ((r : TraceRule) → rank r ≤ n → Obeys setup before e r) → Obeys setup before e (rule_at (suc n)) → (r : TraceRule) → rank r ≤ suc n → Dec (rank r ≡ suc n) → Obeys setup before e r
    one_more good o r l (inl is) = subst (Obeys setup before e) (sym (ap rule_at is) ∙ rule_is r) o
    one_more good o r l (inr is) = good r (below (rank r) l is)
      where
        below : (m : ℕ) → m ≤ suc n → ¬ (m ≡ suc n) → m ≤ n
        below m a b = grind (arith, a, b)

    next : ((r : TraceRule) → rank r ≤ n → Obeys setup before e r) → Dec (Obeys setup before e (rule_at (suc n)))
        → ((r : TraceRule) → rank r ≤ suc n → Obeys setup before e r) ⊎ ((r : TraceRule) × IsFirstBroken setup before e r)
    next good (inl o) = inl (λ r l. one_more good o r l (same_number (rank r) (suc n)))
    next good (inr b) = inr (rule_at (suc n), record { broken = b; first = λ r l. (let high = high_rank n (omega (arith, h)) in good r (omega (arith, l, high))) })

pub unbroken_or_first : (setup : Setup) (before : List Happened) (e : Happened) → BreaksNoRule setup before e ⊎ ((r : TraceRule) × IsFirstBroken setup before e r)
unbroken_or_first setup before e = elim (up_to setup before e 11 (omega arith)) [
  | inl all ↦ inl (λ r. all r (some_rank r).1)
  | inr b ↦ inr b
]
