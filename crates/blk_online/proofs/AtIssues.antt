-- A legal trace in which each command came first of what waited as it went out, and one is later than it has to be.
use Rattle.std.proofs.Common.{◌≡◌, ◌<◌, ◌≤◌, ◌+◌, ◌++◌, ◌==◌, ℕ, zero, suc, ℤ, List, [], ◌∷◌, length, get_or, take, refl, sym, ◌∙◌, ap, subst, arith, inl, inr, Some, true, false, cond, eqb-true}
use Rattle.std.specs.Prelude.{pos, ◌≤ℤ◌, ◌-ℤ◌}
use Rattle.std.proofs.lemmas.Int.{ints}
use Rattle.std.proofs.lemmas.Bool.{or_cases, or_left, both_ways, ne_eqb}
use Rattle.blk_bio.specs.Bios.{Bio, IsBio}
use Rattle.blk_bio.specs.Requests.{IsRequest}
use Rattle.blk_bio.specs.declared.bio.Dir.TheVariants.{Write}
use Rattle.edd_commands.specs.declared.Command.{Command}
use Rattle.edd_commands.specs.declared.steps.Step.{Step}
use Rattle.edd_commands.specs.Capacity.{depth_at}
use Rattle.edd_commands.specs.Schedule.{IsLegal, IsGreatestLateness, IsLeastLateness, places_at, lateness_at}
use Rattle.edd_check.specs.OnTime.{number_on_time, IsMostOnTime}
use Rattle.edd_oracle.specs.Priority.{ComesFirst}
use Rattle.blk_trace.specs.declared.trace.TheConstants.{MAX_EVENTS}
use Rattle.blk_trace.specs.Happened.{Happened}
use Rattle.blk_trace.specs.declared.event.Event.TheVariants.{Tick, Release, Issue, Done}
use Rattle.blk_trace.specs.Setups.{IsSetup}
use Rattle.blk_trace.specs.Events.{At, EntersRequest, IsReleased, round_of, entered, request_of, open_count}
use Rattle.blk_trace.specs.Depths.{changes_of, depth_in, depth_now, capacity_of}
use Rattle.blk_trace.specs.Legal.{IsLegalTrace}
use Rattle.blk_trace.specs.Issues.{outcome_of, issues_from}
use Rattle.blk_trace.specs.Meaning.{timed, served, release_of, due_of, command_of, released_ids, issued_ids, commands_of, rounds_of}
use Rattle.blk_trace.specs.Waits.{Entered, has_id, waits_at}
use Rattle.blk_trace.specs.Inside.Allowed.{IsAllowed, places_of}
use Rattle.blk_trace.specs.Inside.Seats.{seat_at, flying_of}
use Rattle.blk_trace.proofs.Pushing.{empty_legal, push_legal}
use Rattle.blk_trace.proofs.Allowed.{allowed-unbroken}
use Rattle.blk_trace.proofs.Ids.{released_has}
use Rattle.blk_trace.proofs.Newness.{once_push}
use Rattle.blk_trace.proofs.Waiting.{waiting_from}
use Rattle.blk_online.specs.Ticks.{IsRoundFull}
use Rattle.blk_online.specs.Issues.{IsEarliestAtIssues, ServesOnTimeAtIssues, one_tag, write, read, read_too_late}

-- ---- the trace is legal

pub made : IsSetup one_tag
made = record { some_tags = omega arith; few_tags = omega arith; some_queues = omega arith; few_queues = omega arith; read_in = omega arith; write_in = omega arith }

next : (es : List Happened) (e : Happened) → IsLegalTrace one_tag es → IsAllowed one_tag es e → EntersRequest e → length es + open_count es + places_of e ≤ MAX_EVENTS → IsLegalTrace one_tag (es ++ e ∷ [])
next es e old allowed request room = push_legal one_tag es e old (allowed-unbroken one_tag es e old allowed room) request

fresh : (es : List Happened) (id : ℕ) → has_id (released_ids es) id ≡ false → IsReleased es id → ⊥
fresh es id h p = both_ways (has_id (released_ids es) id) h (released_has es p.0 id p.1.0 p.1.1)

is_one : (b : Bio) → IsBio b → IsRequest (b ∷ [])
is_one b bio = record {
  not_empty = omega arith;
  each_bio = λ k d h. one_only (λ x. IsBio x) b k d h bio;
  one_direction = λ k d h. one_only (λ x. x.dir ≡ b.dir) b k d h refl;
  tiles = λ k d h. absurd (omega arith);
}
  where
    one_only : (P : Bio → Type 0) (b : Bio) (k : ℕ) (d : Bio) → k < length (b ∷ []) → P b → P (get_or (b ∷ []) k d)
    one_only P b zero d h p = p
    one_only P b (suc k) d h p = absurd (omega arith)

-- the events before each
abbrev es1 : List Happened
es1 = Release 0 (write ∷ []) ∷ []

abbrev es2 : List Happened
es2 = es1 ++ Issue 0 0 ∷ []

abbrev es3 : List Happened
es3 = es2 ++ Release 1 (read ∷ []) ∷ []

abbrev es4 : List Happened
es4 = es3 ++ Done 0 ∷ []

abbrev es5 : List Happened
es5 = es4 ++ Tick ∷ []

write_enters : IsLegalTrace one_tag es1
unfolding entered open_count released_ids
write_enters = next [] (Release 0 (write ∷ [])) (empty_legal one_tag) (fresh [] 0 refl, inl refl, once_push [] write (λ j k b c h l s. absurd (cc)) refl) (is_one write (record { not_empty = omega arith; in_range = omega arith })) (omega arith)

write_goes : IsLegalTrace one_tag es2
unfolding open_count released_ids issued_ids served issues_from waits_at depth_now depth_in depth_at changes_of timed round_of seat_at
write_goes = next es1 (Issue 0 0) write_enters (_, refl, omega arith, refl) tt (omega arith)

read_enters : IsLegalTrace one_tag es3
unfolding entered open_count released_ids
read_enters = next es2 (Release 1 (read ∷ [])) write_goes (fresh es2 1 refl, inl refl, once_push (write ∷ []) read (once_push [] write (λ j k b c h l s. absurd (cc)) refl) refl) (is_one read (record { not_empty = omega arith; in_range = omega arith })) (omega arith)

write_done : IsLegalTrace one_tag es4
unfolding open_count seat_at issues_from outcome_of round_of request_of
write_done = next es3 (Done 0) read_enters (Write, refl) tt (omega arith)

round_over : IsLegalTrace one_tag es5
unfolding open_count flying_of issues_from outcome_of request_of
round_over = next es4 Tick write_done (refl, refl) tt (omega arith)

pub legal : IsLegalTrace one_tag read_too_late
unfolding open_count released_ids issued_ids served issues_from outcome_of waits_at depth_now depth_in depth_at changes_of timed round_of seat_at
legal = next es5 (Issue 1 0) round_over (_, refl, omega arith, refl) tt (omega arith)

-- ---- each came first of what waited

-- the one Tick
ticked : (k : ℕ) → At read_too_late k Tick → k ≡ 4
ticked zero h = absurd (cc)
ticked (suc zero) h = absurd (cc)
ticked (suc (suc zero)) h = absurd (cc)
ticked (suc (suc (suc zero))) h = absurd (cc)
ticked (suc (suc (suc (suc zero)))) h = omega arith
ticked (suc (suc (suc (suc (suc zero))))) h = absurd (cc)
ticked (suc (suc (suc (suc (suc (suc k)))))) h = absurd (cc)

full_here : IsRoundFull one_tag (take 4 read_too_late)
unfolding places_at rounds_of served issues_from outcome_of round_of depth_now depth_in depth_at changes_of timed
full_here = refl

full_at : (k : ℕ) → At read_too_late k Tick → IsRoundFull one_tag (take k read_too_late)
full_at k h = subst (λ n. IsRoundFull one_tag (take n read_too_late)) (sym (ticked k h)) full_here

-- of one id, and of two of which the first went out, the last alone is left
of_one : (id i : ℕ) → has_id (i ∷ []) id ≡ true → id ≡ i
of_one id i h = elim (or_cases (i == id) false h) [ inl same ↦ sym (eqb-true i id same) | inr never ↦ absurd (cc) ]

of_two : (id : ℕ) → has_id (0 ∷ 1 ∷ []) id ≡ true → has_id (0 ∷ []) id ≡ false → id ≡ 1
of_two id h gone = elim (or_cases (0 == id) (has_id (1 ∷ []) id) h) [
  | inl first ↦ absurd (both_ways (has_id (0 ∷ []) id) gone (or_left (0 == id) false first))
  | inr second ↦ of_one id 1 second
]

-- what waits as a command goes out is that command alone
alone : (k i tag id : ℕ) (w : Entered) → At read_too_late k (Issue i tag) → waits_at one_tag (take k read_too_late) id ≡ Some w → id ≡ i
unfolding released_ids issued_ids served issues_from outcome_of
alone zero i tag id w h waits = absurd (cc)
alone (suc zero) i tag id w h waits =
    let first : 0 ≡ i = cc in
    of_one id 0 (waiting_from one_tag es1 id w waits).released ∙ first
alone (suc (suc zero)) i tag id w h waits = absurd (cc)
alone (suc (suc (suc zero))) i tag id w h waits = absurd (cc)
alone (suc (suc (suc (suc zero)))) i tag id w h waits = absurd (cc)
alone (suc (suc (suc (suc (suc zero))))) i tag id w h waits =
    let second : 1 ≡ i = cc in
    let is = waiting_from one_tag es5 id w waits in
    of_two id is.released is.unissued ∙ second
alone (suc (suc (suc (suc (suc (suc k)))))) i tag id w h waits = absurd (cc)

first_alone : (es : List Happened) (i id : ℕ) → id ≡ i → ComesFirst (command_of one_tag es i) (command_of one_tag es id)
first_alone es i id same = subst (λ n. ComesFirst (command_of one_tag es i) (command_of one_tag es n)) (sym same) (inr (refl, omega arith))

pub earliest : IsEarliestAtIssues one_tag read_too_late
earliest = record {
  full = λ k id w h waits. full_at k h;
  due_first = λ k i tag id w h waits. first_alone (take k read_too_late) i id (alone k i tag id w h waits);
}

pub on_time_first : ServesOnTimeAtIssues one_tag read_too_late
on_time_first = record {
  full = λ k id w h waits in_time. full_at k h;
  due_first = λ k i tag id w h waits in_time.
      let es : List Happened = take k read_too_late in
      let same : id ≡ i = alone k i tag id w h waits in
      let due : w.due ≡ due_of one_tag es i = (waiting_from one_tag es id w waits).due_is ∙ ap (due_of one_tag es) same in
      (omega arith, first_alone es i id same);
}

-- ---- and the read is later than it has to be

abbrev two : List Command
two = record { id = 0; release = 0; due = 9 } ∷ record { id = 1; release = 0; due = 0 } ∷ []

abbrev one_place : List Step
one_place = record { «from» = 0; depth = 1 } ∷ []

commands_are : commands_of one_tag read_too_late ≡ two
unfolding commands_of issued_ids served issues_from outcome_of release_of due_of timed
commands_are = refl

rounds_are : rounds_of read_too_late ≡ 0 ∷ 1 ∷ []
unfolding rounds_of served issues_from outcome_of
rounds_are = refl

capacity_is : capacity_of one_tag read_too_late ≡ one_place
unfolding capacity_of changes_of timed
capacity_is = refl

-- the other way round
abbrev turned : List ℕ
turned = 1 ∷ 0 ∷ []

few : (x : ℕ) → places_at turned x ≤ depth_at one_place x
unfolding places_at depth_at
few zero = omega arith
few (suc zero) = omega arith
few (suc (suc x)) =
    let first : (1 == suc (suc x)) ≡ false = ne_eqb 1 (suc (suc x)) (λ e. absurd (omega arith)) in
    let second : (0 == suc (suc x)) ≡ false = ne_eqb 0 (suc (suc x)) (λ e. absurd (omega arith)) in
    omega (arith, ap (λ b. cond {A = ℕ} b 1 0) first, ap (λ b. cond {A = ℕ} b 1 0) second)

turned_legal : IsLegal two turned one_place
turned_legal = record { one_each = refl; released = starts; within_depth = few }
  where
    starts : (k : ℕ) (d : Command) → k < length two → (get_or two k d).release ≤ get_or turned k 0
    starts zero d h = omega arith
    starts (suc zero) d h = omega arith
    starts (suc (suc k)) d h = absurd (omega arith)

turned_late : IsGreatestLateness two turned (pos 0)
turned_late = record { bound = bound; place = 1; in_list = omega arith; reached = λ d. omega (arith, ints) }
  where
    bound : (k : ℕ) (d : Command) → k < length two → lateness_at two turned k d ≤ℤ pos 0
    bound zero d h = omega (arith, ints)
    bound (suc zero) d h = omega (arith, ints)
    bound (suc (suc k)) d h = absurd (omega arith)

not_least : (late : ℤ) → IsGreatestLateness two (0 ∷ 1 ∷ []) late → IsLeastLateness two one_place late → ⊥
not_least late greatest least =
    let d : Command = record { id = 0; release = 0; due = 0 } in
    let own : (pos 1 -ℤ pos 0) ≤ℤ late = greatest.bound 1 d (omega arith) in
    let other : late ≤ℤ pos 0 = least.least turned (pos 0) turned_legal turned_late in
    omega (arith, ints, own, other)

not_most : IsMostOnTime two one_place (number_on_time two (0 ∷ 1 ∷ [])) → ⊥
unfolding number_on_time
not_most most = let both : 2 ≤ 1 = most.most turned turned_legal in omega (arith, both)

pub late : (late : ℤ) → IsGreatestLateness (commands_of one_tag read_too_late) (rounds_of read_too_late) late → IsLeastLateness (commands_of one_tag read_too_late) (capacity_of one_tag read_too_late) late → ⊥
late x = rw (commands_are, rounds_are, capacity_is) (not_least x)

pub missed : IsMostOnTime (commands_of one_tag read_too_late) (capacity_of one_tag read_too_late) (number_on_time (commands_of one_tag read_too_late) (rounds_of read_too_late)) → ⊥
missed = rw (commands_are, rounds_are, capacity_is) not_most
