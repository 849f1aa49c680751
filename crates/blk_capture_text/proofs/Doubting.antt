-- What is known of records of which none is kept.
use Rattle.std.proofs.Common.{◌≡◌, ◌+◌, ◌-◌, ◌<◌, ◌∙◌, ◌++◌, ◌∷◌, ◌==◌, not, ℕ, Bool, true, false, List, [], length, drop, get_or, Option, None, Some, refl, sym, ap, arith}
use Rattle.std.specs.List.{list_any, filter_map, cons_option}
use Rattle.std.proofs.lemmas.Bool.{ne_eqb}
use Rattle.std.proofs.lemmas.List.{drop_more}
use Rattle.std.proofs.lemmas.List.Sorted.{length_permutation}
use Rattle.std.specs.Prelude.{◌||◌, if◌then◌else◌, is_some}
use Rattle.blk_capture.specs.Summaries.{time_in, until_known, ArePercentiles}
use Rattle.blk_capture.specs.declared.record.Action.{Action}
use Rattle.blk_capture.specs.declared.record.Action.TheVariants as action
use Rattle.blk_capture.specs.declared.requests.CapturedRequest.{CapturedRequest}
use Rattle.blk_capture.specs.declared.record.Record.{Record}
use Rattle.blk_capture.specs.declared.summary.Percentiles.{Percentiles}
use Rattle.blk_capture.specs.declared.summary.Phase.TheVariants.{Device}
use Rattle.blk_capture_text.specs.Counts.{no_records, counted_with, counted_from, records_counted}
use Rattle.blk_capture_text.specs.Doubts.{still_from, count_still, tells_action, has_action, lacked_action, is_completed, has_nothing_whole}
use Rattle.blk_capture_text.specs.declared.counts.RecordCounts.{RecordCounts}

pub none_counted : records_counted [] ≡ no_records
unfolding counted_from
none_counted = refl

-- one record more, behind all
pub counted_more : (c : RecordCounts) (rs : List Record) (r : Record) → counted_from c (rs ++ r ∷ []) ≡ counted_with (counted_from c rs) r
unfolding counted_from
counted_more c [] r = refl
counted_more c (q ∷ rs) r = counted_more (counted_with c q) rs r

pub all_counted : (c : RecordCounts) (rs : List Record) → (counted_from c rs).records ≡ c.records + length rs
unfolding counted_from
all_counted c [] = omega arith
all_counted c (r ∷ rs) = let rest = all_counted (counted_with c r) rs in omega (arith, rest)

pub still_counted : (c : RecordCounts) (rs : List Record) → (counted_from c rs).still ≡ still_from c.still c.last rs
unfolding counted_from
still_counted c [] = refl
still_counted c (r ∷ rs) = still_counted (counted_with c r) rs

or_later : (a b c : Bool) → (a || b) || c ≡ a || (b || c)
or_later true b c = refl
or_later false b c = refl

or_never : (a : Bool) → a ≡ a || false
or_never true = refl
or_never false = refl

pub queues_counted : (c : RecordCounts) (rs : List Record) → (counted_from c rs).queues ≡ c.queues || has_action action.Queue rs
unfolding counted_from
queues_counted c [] = or_never c.queues
queues_counted c (r ∷ rs) = queues_counted (counted_with c r) rs ∙ or_later c.queues (tells_action action.Queue r) (has_action action.Queue rs)

pub gets_counted : (c : RecordCounts) (rs : List Record) → (counted_from c rs).gets ≡ c.gets || has_action action.Get rs
unfolding counted_from
gets_counted c [] = or_never c.gets
gets_counted c (r ∷ rs) = gets_counted (counted_with c r) rs ∙ or_later c.gets (tells_action action.Get r) (has_action action.Get rs)

pub issues_counted : (c : RecordCounts) (rs : List Record) → (counted_from c rs).issues ≡ c.issues || has_action action.Issue rs
unfolding counted_from
issues_counted c [] = or_never c.issues
issues_counted c (r ∷ rs) = issues_counted (counted_with c r) rs ∙ or_later c.issues (tells_action action.Issue r) (has_action action.Issue rs)

pub completes_counted : (c : RecordCounts) (rs : List Record) → (counted_from c rs).completes ≡ c.completes || has_action action.Complete rs
unfolding counted_from
completes_counted c [] = or_never c.completes
completes_counted c (r ∷ rs) = completes_counted (counted_with c r) rs ∙ or_later c.completes (tells_action action.Complete r) (has_action action.Complete rs)

pub none_more : (c : RecordCounts) → counted_from c [] ≡ c
unfolding counted_from
none_more c = refl

-- the next of those that are left
pub counted_next : (c : RecordCounts) (rs : List Record) (i : ℕ) (d : Record) → i < length rs → counted_from c (drop i rs) ≡ counted_from (counted_with c (get_or rs i d)) (drop (i + 1) rs)
unfolding counted_from
counted_next c rs i d l = ap (counted_from c) (drop_more rs i d l)

-- what is known of the records
pub records_known : (c : RecordCounts) (rs : List Record) → c ≡ records_counted rs → c.records ≡ length rs
records_known c rs e = ap (λ (k : RecordCounts). k.records) e ∙ all_counted no_records rs ∙ omega arith

pub still_known : (c : RecordCounts) (rs : List Record) → c ≡ records_counted rs → c.still ≡ count_still rs
still_known c rs e = ap (λ (k : RecordCounts). k.still) e ∙ still_counted no_records rs

pub queues_known : (c : RecordCounts) (rs : List Record) → c ≡ records_counted rs → c.queues ≡ has_action action.Queue rs
queues_known c rs e = ap (λ (k : RecordCounts). k.queues) e ∙ queues_counted no_records rs

pub gets_known : (c : RecordCounts) (rs : List Record) → c ≡ records_counted rs → c.gets ≡ has_action action.Get rs
gets_known c rs e = ap (λ (k : RecordCounts). k.gets) e ∙ gets_counted no_records rs

pub issues_known : (c : RecordCounts) (rs : List Record) → c ≡ records_counted rs → c.issues ≡ has_action action.Issue rs
issues_known c rs e = ap (λ (k : RecordCounts). k.issues) e ∙ issues_counted no_records rs

pub completes_known : (c : RecordCounts) (rs : List Record) → c ≡ records_counted rs → c.completes ≡ has_action action.Complete rs
completes_known c rs e = ap (λ (k : RecordCounts). k.completes) e ∙ completes_counted no_records rs

-- the first action of which there is no record
abbrev pub lacked_of : Bool → Bool → Bool → Bool → Option Action
lacked_of q g i d =
    if not q then Some action.Queue
    else (if not g then Some action.Get
    else (if not i then Some action.Issue
    else (if not d then Some action.Complete
    else None)))

pub lacked_known : (c : RecordCounts) (rs : List Record) → c ≡ records_counted rs → lacked_of c.queues c.gets c.issues c.completes ≡ lacked_action rs
lacked_known c rs e =
    ap (λ b. lacked_of b c.gets c.issues c.completes) (queues_known c rs e)
    ∙ ap (λ b. lacked_of (has_action action.Queue rs) b c.issues c.completes) (gets_known c rs e)
    ∙ ap (λ b. lacked_of (has_action action.Queue rs) (has_action action.Get rs) b c.completes) (issues_known c rs e)
    ∙ ap (λ b. lacked_of (has_action action.Queue rs) (has_action action.Get rs) (has_action action.Issue rs) b) (completes_known c rs e)

pub lacks_queue : (q g i d : Bool) → q ≡ false → Some action.Queue ≡ lacked_of q g i d
lacks_queue true g i d a = absurd (cc a)
lacks_queue false g i d a = refl

pub lacks_get : (q g i d : Bool) → q ≡ true → g ≡ false → Some action.Get ≡ lacked_of q g i d
lacks_get false g i d a b = absurd (cc a)
lacks_get true true i d a b = absurd (cc b)
lacks_get true false i d a b = refl

pub lacks_issue : (q g i d : Bool) → q ≡ true → g ≡ true → i ≡ false → Some action.Issue ≡ lacked_of q g i d
lacks_issue false g i d a b e = absurd (cc a)
lacks_issue true false i d a b e = absurd (cc b)
lacks_issue true true true d a b e = absurd (cc e)
lacks_issue true true false d a b e = refl

pub lacks_complete : (q g i d : Bool) → q ≡ true → g ≡ true → i ≡ true → d ≡ false → Some action.Complete ≡ lacked_of q g i d
lacks_complete false g i d a b e f = absurd (cc a)
lacks_complete true false i d a b e f = absurd (cc b)
lacks_complete true true false d a b e f = absurd (cc e)
lacks_complete true true true true a b e f = absurd (cc f)
lacks_complete true true true false a b e f = refl

pub lacks_none : (q g i d : Bool) → q ≡ true → g ≡ true → i ≡ true → d ≡ true → None ≡ lacked_of q g i d
lacks_none false g i d a b e f = absurd (cc a)
lacks_none true false i d a b e f = absurd (cc b)
lacks_none true true false d a b e f = absurd (cc e)
lacks_none true true true false a b e f = absurd (cc f)
lacks_none true true true true a b e f = refl

-- records, and none of the requests was completed
pub nothing_whole : (c : RecordCounts) (rs : List Record) (qs : List CapturedRequest) → c ≡ records_counted rs → has_nothing_whole rs qs ≡ (if c.records == 0 then false else not (list_any is_completed qs))
nothing_whole c rs qs e = ap (λ (n : ℕ). if n == 0 then false else not (list_any is_completed qs)) (sym (records_known c rs e))

-- some request was completed just where some was at the device for a time that is known
any_more : (c : Option ℕ) (d : ℕ) (b : Bool) (xs : List ℕ) → b ≡ not (length xs == 0) → (is_some c || b) ≡ not (length (cons_option (until_known d c) xs) == 0)
any_more None d b xs e = e
any_more (Some t) d b xs e = sym (ap not (ne_eqb (length (cons_option (until_known d (Some t)) xs)) 0 (λ none. let is : length ((t - d) ∷ xs) ≡ 0 = none in omega (arith, is))))

any_completed : (qs : List CapturedRequest) → list_any is_completed qs ≡ not (length (filter_map (time_in Device) qs) == 0)
any_completed [] = refl
any_completed (q ∷ qs) = any_more q.completed q.dispatched (list_any is_completed qs) (filter_map (time_in Device) qs) (any_completed qs)

not_twice : (b : Bool) → not (not b) ≡ b
not_twice true = refl
not_twice false = refl

pub none_completed : (qs : List CapturedRequest) (p : Percentiles) → ArePercentiles (filter_map (time_in Device) qs) p → (p.count == 0) ≡ not (list_any is_completed qs)
none_completed qs p are =
    ap (λ (n : ℕ). n == 0) (ap (λ (s : Percentiles). s.count) are.are ∙ length_permutation (filter_map (time_in Device) qs) are.sorted are.same)
    ∙ sym (ap not (any_completed qs) ∙ not_twice (length (filter_map (time_in Device) qs) == 0))
