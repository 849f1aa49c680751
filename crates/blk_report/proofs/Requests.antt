-- The commands of a trace with their requests.
use Rattle.std.proofs.Common.{◌≡◌, ◌<◌, ◌≤◌, ◌+◌, ◌==◌, ℕ, zero, suc, List, [], ◌∷◌, length, get_or, map, refl, sym, ◌∙◌, ap, arith, Some, None, cond, Bool, true, false, eq-eqb}
use Rattle.std.specs.Prelude.{Option, option_map, not, filter}
use Rattle.std.specs.List.Sorted.{IsNonDecreasingBy}
use Rattle.std.specs.List.{cons_option, filter_map}
use Rattle.std.proofs.lemmas.Bool.{or_left, or_right}
use Rattle.std.proofs.lemmas.List.{get_or-map, length-map}
use Rattle.std.proofs.lemmas.List.Kept.{IsNonDecreasingBy-filter}
use Rattle.std.proofs.lemmas.Option.{slice_get-get_or}
use Rattle.edd_commands.specs.declared.Command.{Command}
use Rattle.edd_commands.specs.declared.steps.Step.{Step}
use Rattle.edd_commands.specs.Schedule.{IsLegal}
use Rattle.blk_trace.specs.declared.issued.Outcome.TheVariants.{Flying}
use Rattle.blk_trace.specs.declared.issued.Issued.{Issued}
use Rattle.blk_trace.specs.Happened.{Happened}
use Rattle.blk_trace.specs.Kinds.{is_tick, issues}
use Rattle.blk_trace.specs.Setups.{Setup}
use Rattle.blk_trace.specs.Meaning.{command_of, commands_of, rounds_of}
use Rattle.blk_trace.specs.Issues.{was_requeued, issue_in, issues_from, issues_of, kept_of}
use Rattle.blk_trace.specs.Waits.{has_id}
use Rattle.blk_trace.specs.Laws.{AreBounded}
use Rattle.blk_trace.proofs.Issues.{issue_between}
use Rattle.blk_trace.proofs.Served.{kept_map, commands_are, rounds_are}
use Rattle.blk_report.specs.declared.serving.Service.{Service}
use Rattle.blk_report.specs.Inside.Services.{served_by}
use Rattle.blk_report.specs.Services.{service_of, services_of, command_in, AreWithinLimits, AreInIssueOrder}

pub id_has : (xs : List (ℕ × ℕ)) (k : ℕ) (d : ℕ × ℕ) → k < length xs → has_id (map (λ (s : ℕ × ℕ). s.1) xs) (get_or xs k d).1 ≡ true
id_has [] k d h = absurd (omega arith)
id_has (x ∷ xs) zero d h = or_left (x.1 == x.1) _ (eq-eqb x.1 x.1 refl)
id_has (x ∷ xs) (suc k) d h = or_right (x.1 == (get_or xs k d).1) _ (id_has xs k d (omega arith))

-- place by place they are the commands in their rounds
maps_map : {X Y Z : Type 0} (f : X → Y) (g : Y → Z) (h : X → Z) → ((x : X) → g (f x) ≡ h x) → (xs : List X) → map g (map f xs) ≡ map h xs
maps_map f g h is [] = refl
maps_map f g h is (x ∷ xs) =
    let one = is x in
    let rest = maps_map f g h is xs in
    cc

kept_one : {Y : Type 0} (f : Issued → Y) (i : Issued) (b : Bool) (xs : List Issued) → cond b (f i ∷ map f xs) (map f xs) ≡ map f (cond b (i ∷ xs) xs)
kept_one f i true xs = refl
kept_one f i false xs = refl

kept_services : (setup : Setup) (es : List Happened) (xs : List Issued) → filter (λ (s : Service). not s.back) (map (service_of setup es) xs) ≡ map (service_of setup es) (kept_of xs)
kept_services setup es [] = refl
kept_services setup es (x ∷ xs) =
    ap (λ l. cond (not (was_requeued x.outcome)) (service_of setup es x ∷ l) l) (kept_services setup es xs) ∙ kept_one (service_of setup es) x (not (was_requeued x.outcome)) (kept_of xs)

pub are_commands : (setup : Setup) (es : List Happened) → map command_in (services_of setup es) ≡ commands_of setup es
unfolding services_of
are_commands setup es =
    ap (map command_in) (kept_services setup es (issues_of es))
    ∙ maps_map (service_of setup es) command_in (λ (i : Issued). command_of setup es i.id) (λ i. refl) (kept_of (issues_of es))
    ∙ sym (kept_map (λ (i : Issued). command_of setup es i.id) (issues_of es))
    ∙ commands_are setup es

pub are_rounds : (setup : Setup) (es : List Happened) → map (λ s. s.issue) (services_of setup es) ≡ rounds_of es
unfolding services_of
are_rounds setup es =
    ap (map (λ (s : Service). s.issue)) (kept_services setup es (issues_of es))
    ∙ maps_map (service_of setup es) (λ (s : Service). s.issue) (λ (i : Issued). i.round) (λ i. refl) (kept_of (issues_of es))
    ∙ sym (kept_map (λ (i : Issued). i.round) (issues_of es))
    ∙ rounds_are es

pub as_many : (setup : Setup) (es : List Happened) → length (services_of setup es) ≡ length (commands_of setup es)
as_many setup es = sym (length-map (services_of setup es) command_in) ∙ ap length (are_commands setup es)

pub as_many_rounds : (setup : Setup) (es : List Happened) → length (rounds_of es) ≡ length (commands_of setup es)
as_many_rounds setup es = sym (ap length (are_rounds setup es)) ∙ length-map (services_of setup es) (λ (s : Service). s.issue) ∙ as_many setup es

abbrev none : Command
none = record { id = 0; release = 0; due = 0 }

-- what the Issues served
pub by_issue : (setup : Setup) (es : List Happened) (i : Issued) (b : Bool) → was_requeued i.outcome ≡ b → served_by setup es i ≡ cond b None (Some (service_of setup es i))
by_issue setup es i b h = ap (λ b. cond b None (Some (service_of setup es i))) h

pub all_served : (setup : Setup) (es : List Happened) → filter_map (served_by setup es) (issues_of es) ≡ services_of setup es
unfolding services_of
all_served setup es = kept_map (service_of setup es) (issues_of es) ∙ sym (kept_services setup es (issues_of es))

pub same_issue : (setup : Setup) (es : List Happened) (rounds : List ℕ) (k : ℕ) (x : Service) → rounds ≡ rounds_of es → k < length (services_of setup es) → get_or rounds k 0 ≡ (get_or (services_of setup es) k x).issue
same_issue setup es rounds k x are h =
    ap (λ l. get_or l k 0) (are ∙ sym (are_rounds setup es)) ∙ get_or-map (λ (s : Service). s.issue) (services_of setup es) k x 0 h

-- the rounds rise
rise_part : (r : ℕ) (es : List Happened) (o : Option (ℕ × ℕ)) (xs : List Issued) → ((k : ℕ) (d : Issued) → k < length xs → r ≤ (get_or xs k d).round) → IsNonDecreasingBy (λ (i : Issued). i.round) xs → IsNonDecreasingBy (λ (i : Issued). i.round) (cons_option (option_map (issue_in r es) o) xs)
rise_part r es None xs low up j k d l h = up j k d l h
rise_part r es (Some p) xs low up zero zero d l h = omega arith
rise_part r es (Some p) xs low up zero (suc k) d l h = low k d (omega arith)
rise_part r es (Some p) xs low up (suc j) zero d l h = absurd (omega arith)
rise_part r es (Some p) xs low up (suc j) (suc k) d l h = up j k d (omega arith) (omega arith)

tick_up : (b : Bool) (r : ℕ) → r ≤ cond b (r + 1) r
tick_up true r = omega arith
tick_up false r = omega arith

issues_rise : (r : ℕ) (es : List Happened) → IsNonDecreasingBy (λ (i : Issued). i.round) (issues_from r es)
unfolding issues_from
issues_rise r [] j k d l h = absurd (omega arith)
issues_rise r (x ∷ es) j k d l h =
    let next : ℕ = cond (is_tick x) (r + 1) r in
    let xs : List Issued = issues_from next es in
    rise_part r es (issues x) xs (λ i e low. let b = issue_between next es i (get_or xs i e) (slice_get-get_or xs i e low) in omega (arith, tick_up (is_tick x) r, b.0)) (issues_rise next es) j k d l h

abbrev no_issue : Issued
no_issue = record { round = 0; id = 0; tag = 0; outcome = Flying }

pub rise : (setup : Setup) (es : List Happened) → AreInIssueOrder (services_of setup es)
unfolding services_of
rise setup es = IsNonDecreasingBy-filter (λ (s : Service). s.issue) (λ (s : Service). not s.back) (map (service_of setup es) (issues_of es)) (λ j k d l h.
    let f : Issued → Service = service_of setup es in
    let xs : List Issued = issues_of es in
    let n : length (map f xs) ≡ length xs = length-map xs f in
    let up = issues_rise 0 es j k no_issue l (omega arith) in
    let first : (get_or (map f xs) j d).issue ≡ (get_or xs j no_issue).round = ap (λ (s : Service). s.issue) (get_or-map f xs j no_issue d (omega arith)) in
    let second : (get_or (map f xs) k d).issue ≡ (get_or xs k no_issue).round = ap (λ (s : Service). s.issue) (get_or-map f xs k no_issue d (omega arith)) in
    omega (arith, up, first, second))

-- and they lie within the limits
pub timed : (setup : Setup) (es : List Happened) (steps : List Step) → AreBounded (commands_of setup es) (rounds_of es) → IsLegal (commands_of setup es) (rounds_of es) steps → AreWithinLimits (services_of setup es)
timed setup es steps bounded legal =
    let command_at : (k : ℕ) (d : Service) → k < length (services_of setup es) → get_or (commands_of setup es) k none ≡ command_in (get_or (services_of setup es) k d) =
    λ k d h. ap (λ l. get_or l k none) (sym (are_commands setup es)) ∙ get_or-map command_in (services_of setup es) k d none h in
    record {
      few = omega (arith, as_many setup es, bounded.few);
      released = λ k d h.
          let at = command_at k d h in
          let issue = same_issue setup es (rounds_of es) k d refl h in
          let low : k < length (commands_of setup es) = omega (arith, as_many setup es) in
          let released = legal.released k none low in
          let there : (get_or (commands_of setup es) k none).release ≡ (get_or (services_of setup es) k d).release = ap (λ (c : Command). c.release) at in
          omega (arith, released, issue, there);
      in_time = λ k d h.
          let at = command_at k d h in
          let issue = same_issue setup es (rounds_of es) k d refl h in
          let low : k < length (commands_of setup es) = omega (arith, as_many setup es) in
          let in_range = bounded.in_range k none low in
          let in_round = bounded.in_time k 0 (omega (arith, as_many_rounds setup es)) in
          let there : (get_or (commands_of setup es) k none).due ≡ (get_or (services_of setup es) k d).due = ap (λ (c : Command). c.due) at in
          (omega (arith, in_round, issue), omega (arith, in_range.1, there));
    }
