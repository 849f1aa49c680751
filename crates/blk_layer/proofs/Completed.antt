-- The commands that are done: they are as many as the Dones, and each was issued.
use Rattle.std.proofs.Common.{◌≡◌, ◌∙◌, ◌+◌, ℕ, zero, suc, sym, ap, refl, subst, arith, Bool, true, false, cond, List, [], ◌∷◌, ◌++◌, Some, None, length, map, count_by, Contains}
use Rattle.std.specs.Prelude.{filter, slice_get}
use Rattle.std.specs.List.{cons_option, filter_map}
use Rattle.std.proofs.lemmas.List.Sums.{sum_by-cons, sum_by-append, sum_by_push, length-filter}
use Rattle.edd_commands.specs.declared.Command.{Command}
use Rattle.blk_bio.specs.declared.rule.TraceRule.TheVariants.{NotIssued}
use Rattle.blk_trace.specs.declared.event.Event.TheVariants.{Issue, Done, Back}
use Rattle.blk_trace.specs.declared.issued.Issued.{Issued}
use Rattle.blk_trace.specs.declared.issued.Outcome.{Outcome}
use Rattle.blk_trace.specs.Happened.{Happened}
use Rattle.blk_trace.specs.Setups.{Setup}
use Rattle.blk_trace.specs.Events.{IsIssued, IsOpen, round_of}
use Rattle.blk_trace.specs.Issues.{issues_of, issues_from}
use Rattle.blk_trace.specs.Legal.{IsLegalTrace}
use Rattle.blk_trace.specs.Rules.{BreaksNoRule}
use Rattle.blk_trace.specs.Meaning.{command_of}
use Rattle.blk_trace.proofs.Ids.{by_legal}
use Rattle.blk_trace.proofs.Issues.{issues_kept, issues_push, was_so, with_outcome}
use Rattle.blk_trace.proofs.More.{more_of}
use Rattle.blk_trace.proofs.Requeuing.{EndsOne, ends_one, open_by}
use Rattle.blk_layer.specs.Closing.{done_count, is_done, has_completed, command_done, done_commands}
use Rattle.blk_layer.proofs.Moving.{not_done}

-- whether an Issue has completed
abbrev completed : Issued → Bool
completed i = has_completed i.outcome

abbrev one_if : Bool → ℕ
one_if b = cond b 1 0

-- ---- as many as there are Dones

count_between : (before after : List Issued) (x : Issued) → count_by completed (before ++ x ∷ after) ≡ count_by completed before + (one_if (completed x) + count_by completed after)
count_between before after x = sum_by-append number before (x ∷ after) ∙ ap (λ n. count_by completed before + n) (sum_by-cons number x after)
  where
    number : Issued → ℕ
    number y = one_if (completed y)

-- where the one in flight comes to an end
ended : (xs ys : List Issued) (id : ℕ) (n : Outcome) → EndsOne xs ys id n → count_by completed ys ≡ count_by completed xs + one_if (has_completed n)
ended xs ys id n one =
    let was : one_if (completed one.issue) ≡ 0 = ap (λ o. one_if (has_completed o)) one.flying in
    omega (
      arith,
      was,
      ap (count_by completed) one.whole,
      ap (count_by completed) one.now,
      count_between one.before one.after one.issue,
      count_between one.before one.after (with_outcome one.issue n),
    )

one_done : (es : List Happened) (tag : ℕ) → done_count (es ++ Done tag ∷ []) ≡ done_count es + 1
unfolding done_count
one_done es tag = more_of is_done es (Done tag) ∙ omega arith

AsMany : List Happened → Type 0
AsMany es = count_by completed (issues_of es) ≡ done_count es

step : (setup : Setup) (es : List Happened) (e : Happened) → IsLegalTrace setup es → BreaksNoRule setup es e → AsMany es → AsMany (es ++ e ∷ [])
unfolding AsMany
step setup es (Issue id tag) old all h =
    let list = issues_push 0 (round_of es) es id tag (omega arith) in
    ap (count_by completed) list ∙ sum_by_push (λ (i : Issued). cond (completed i) 1 0) (issues_of es) _ ∙ omega (arith, h, not_done es (Issue id tag) refl)
step setup es (Done tag) old all h =
    let still : IsOpen es tag = all NotIssued in
    let last = ended _ _ _ _ (ends_one setup es (Done tag) tag still.id old (open_by es tag still) refl) in
    omega (arith, last, h, one_done es tag)
step setup es (Back tag) old all h =
    let still : IsOpen es tag = all NotIssued in
    let last = ended _ _ _ _ (ends_one setup es (Back tag) tag still.id old (open_by es tag still) refl) in
    omega (arith, last, h, not_done es (Back tag) refl)
step setup es e old all h = ap (count_by completed) (issues_kept 0 es e refl refl) ∙ h ∙ sym (not_done es e refl)

none : AsMany []
unfolding AsMany done_count issues_from
none = refl

as_many : (setup : Setup) (es : List Happened) → IsLegalTrace setup es → count_by completed (issues_of es) ≡ done_count es
unfolding AsMany
as_many setup es legal = by_legal setup AsMany none (λ l e new old all h. step setup l e old all h) es legal

-- ---- their commands

taken_map : (setup : Setup) (es : List Happened) (xs : List Issued) → filter_map (command_done setup es) xs ≡ map (λ (i : Issued). command_of setup es i.id) (filter completed xs)
taken_map setup es [] = refl
taken_map setup es (x ∷ xs) = ap (cons_option (command_done setup es x)) (taken_map setup es xs) ∙ one (completed x)
  where
    one : (b : Bool) → cons_option (cond b (Some (command_of setup es x.id)) None) (map (λ (i : Issued). command_of setup es i.id) (filter completed xs)) ≡ map (λ (i : Issued). command_of setup es i.id) (cond b (x ∷ filter completed xs) (filter completed xs))
    one true = refl
    one false = refl

mapped_length : {X Y : Type 0} (f : X → Y) (xs : List X) → length (map f xs) ≡ length xs
mapped_length f [] = refl
mapped_length f (x ∷ xs) = ap suc (mapped_length f xs)

pub done_length : (setup : Setup) (es : List Happened) → IsLegalTrace setup es → length (done_commands setup es) ≡ done_count es
unfolding done_commands
done_length setup es legal =
    ap length (taken_map setup es (issues_of es)) ∙ mapped_length (λ (i : Issued). command_of setup es i.id) (filter completed (issues_of es)) ∙ length-filter completed (issues_of es) ∙ as_many setup es legal

-- one of them is the command of an Issue
record IsOfIssue (setup : Setup) (es : List Happened) (xs : List Issued) (c : Command) : Type 0 where
  place : ℕ
  issue : Issued
  there : slice_get xs place ≡ Some issue
  its : c ≡ command_of setup es issue.id

found_in : (setup : Setup) (es : List Happened) (xs : List Issued) (k : ℕ) (c : Command) → slice_get (filter_map (command_done setup es) xs) k ≡ Some c → IsOfIssue setup es xs c
found_in setup es [] k c at = absurd (cc)
found_in setup es (x ∷ xs) k c at = by (λ j there. later (found_in setup es xs j c there)) (completed x) k at
  where
    later : IsOfIssue setup es xs c → IsOfIssue setup es (x ∷ xs) c
    later f = record { place = suc f.place; issue = f.issue; there = f.there; its = f.its }

    by : ((j : ℕ) → slice_get (filter_map (command_done setup es) xs) j ≡ Some c → IsOfIssue setup es (x ∷ xs) c) → (b : Bool) (k : ℕ)
        → slice_get (cons_option (cond b (Some (command_of setup es x.id)) None) (filter_map (command_done setup es) xs)) k ≡ Some c → IsOfIssue setup es (x ∷ xs) c
    by rest true zero at = record { place = 0; issue = x; there = refl; its = let same : command_of setup es x.id ≡ c = cc in sym same }
    by rest true (suc k) at = rest k at
    by rest false k at = rest k at

at_place : (xs : List Command) (c : Command) → Contains xs c → (k : ℕ) × (slice_get xs k ≡ Some c)
at_place [] c h = absurd (omega (arith, h.1))
at_place (x ∷ xs) c (zero, low, is) = (zero, ap Some is)
at_place (x ∷ xs) c (suc k, low, is) = let r = at_place xs c (k, omega (arith, low), is) in (suc r.0, r.1)

of_issue : (setup : Setup) (es : List Happened) (c : Command) → Contains (done_commands setup es) c → IsOfIssue setup es (issues_of es) c
unfolding done_commands
of_issue setup es c h = let at = at_place (filter_map (command_done setup es) (issues_of es)) c h in found_in setup es (issues_of es) at.0 c at.1

-- its id was issued, and it is the command of its id
pub done_issued : (setup : Setup) (es : List Happened) (c : Command) → Contains (done_commands setup es) c → IsIssued es c.id
done_issued setup es c h =
    let f = of_issue setup es c h in
    subst (IsIssued es) (sym (ap (λ (x : Command). x.id) f.its)) (was_so es f.place f.issue f.there)

pub done_is : (setup : Setup) (es : List Happened) (c : Command) → Contains (done_commands setup es) c → c ≡ command_of setup es c.id
done_is setup es c h =
    let f = of_issue setup es c h in
    f.its ∙ ap (command_of setup es) (sym (ap (λ (x : Command). x.id) f.its))
