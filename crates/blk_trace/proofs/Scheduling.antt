-- The commands of a legal trace, in the rounds of their Issues, are a legal schedule.
use Rattle.std.proofs.Common.{◌≡◌, ◌≤◌, ◌+◌, ◌++◌, ◌==◌, ℕ, zero, suc, List, [], ◌∷◌, length, map, get_or, refl, sym, ◌∙◌, ap, arith, inl, inr, Some, Bool, cond, true, false, ne_eqb, eq-eqb, eqb-true, ltb}
use Rattle.std.specs.Prelude.{count_by, filter, not, slice_get}
use Rattle.std.proofs.lemmas.List.{get_or_append_left, get_or_push, length_push}
use Rattle.std.proofs.lemmas.Bool.{cases_Bool, cases_lt, cases_eq, lt-ltb, le-ltb}
use Rattle.edd_commands.specs.declared.Command.{Command}
use Rattle.edd_commands.specs.Schedule.{StartsReleased, places_at}
use Rattle.blk_bio.specs.declared.rule.TraceRule.TheVariants.{Unknown, AlreadyIssued, NotIssued}
use Rattle.blk_trace.specs.Happened.{Happened, Issue, Back}
use Rattle.blk_trace.specs.Setups.{Setup}
use Rattle.blk_trace.specs.Depths.{depth_in}
use Rattle.blk_trace.specs.Legal.{IsLegalTrace}
use Rattle.blk_trace.specs.Rules.{BreaksNoRule}
use Rattle.blk_trace.specs.Events.{round_of, round_at, request_of, IsOpen}
use Rattle.blk_trace.specs.declared.issued.Issued.{Issued}
use Rattle.blk_trace.specs.Issues.{issues_from, issues_of, was_requeued, kept_of}
use Rattle.blk_trace.specs.Meaning.{served, issued_ids, release_of, due_of, command_of, commands_of, rounds_of}
use Rattle.blk_trace.specs.Waits.{Entered, waits_at}
use Rattle.blk_trace.specs.Laws.{IsScheduled}
use Rattle.blk_trace.proofs.Pushing.{shorter_legal}
use Rattle.blk_trace.proofs.Ids.{by_legal, all_back}
use Rattle.blk_trace.proofs.Changes.{capacity_depth}
use Rattle.blk_trace.proofs.Requeuing.{LosesIssue, requeued, open_by}
use Rattle.blk_trace.proofs.Requeues.{commands_were, commands_are, map_length}
use Rattle.blk_trace.proofs.Entering.{release_within}
use Rattle.blk_trace.proofs.Waiting.{waits_for}
use Rattle.blk_trace.proofs.Commands.{commands_kept, commands-issued, rounds_kept, rounds-issued}
use Rattle.blk_trace.proofs.Counting.{one_if, count-cons}
use Rattle.blk_trace.proofs.Issues.{issue_from}
use Rattle.blk_trace.proofs.Served.{round_list}
use Rattle.blk_trace.proofs.Steady.{steady}

-- one round for each command, none before its release
record StartsWell (commands : List Command) (rounds : List ℕ) : Type 0 where
  one_each : length rounds ≡ length commands
  released : StartsReleased commands rounds

starts_push : (cs : List Command) (rs : List ℕ) (c : Command) (r : ℕ) → StartsWell cs rs → c.release ≤ r → StartsWell (cs ++ c ∷ []) (rs ++ r ∷ [])
starts_push cs rs c r old h =
    let one : length rs ≡ length cs = old.one_each in
    record {
      one_each = omega (arith, length_push cs c, length_push rs r);
      released = λ k d l.
          elim (cases_lt k (length cs)) [
            | inl b ↦
                let e : get_or (cs ++ c ∷ []) k d ≡ get_or cs k d = get_or_append_left cs (c ∷ []) d k b in
                let f : get_or (rs ++ r ∷ []) k 0 ≡ get_or rs k 0 = get_or_append_left rs (r ∷ []) 0 k (omega arith) in
                rw (e, f) (old.released k d b)
            | inr b ↦
                let k_is : length cs ≡ k = omega (arith, length_push cs c) in
                let e : get_or (cs ++ c ∷ []) k d ≡ c = get_or_push cs c d k k_is in
                let f : get_or (rs ++ r ∷ []) k 0 ≡ r = get_or_push rs r 0 k (one ∙ k_is) in
                rw (e, f) h
          ];
    }

-- a first command that isn't early, before others that are not
starts_first : (b : Command) (cs ds : List Command) (q : ℕ) (rs ss : List ℕ) → b.release ≤ q → StartsReleased (cs ++ ds) (rs ++ ss) → StartsReleased (b ∷ cs ++ ds) (q ∷ rs ++ ss)
starts_first b cs ds q rs ss h rest zero d l = h
starts_first b cs ds q rs ss h rest (suc k) d l = rest k d (omega arith)

-- without a command and its round
starts_out : (cs ds : List Command) (c : Command) (rs ss : List ℕ) (r : ℕ) → length rs ≡ length cs → StartsWell (cs ++ c ∷ ds) (rs ++ r ∷ ss) → StartsWell (cs ++ ds) (rs ++ ss)
starts_out [] ds c [] ss r even old = record {
  one_each = omega (arith, old.one_each);
  released = λ k d l. old.released (suc k) d (omega arith);
}
starts_out [] ds c (q ∷ rs) ss r even old = absurd (omega arith)
starts_out (b ∷ cs) ds c [] ss r even old = absurd (omega arith)
starts_out (b ∷ cs) ds c (q ∷ rs) ss r even old =
    let rest : StartsWell (cs ++ ds) (rs ++ ss) = starts_out cs ds c rs ss r (omega arith) (record { one_each = omega (arith, old.one_each); released = λ k d l. old.released (suc k) d (omega arith) }) in
    record { one_each = omega (arith, rest.one_each); released = starts_first b cs ds q rs ss (old.released 0 b (omega arith)) rest.released }

starts_step : (setup : Setup) (es : List Happened) (e : Happened) → IsLegalTrace setup (es ++ e ∷ []) → BreaksNoRule setup es e → StartsWell (commands_of setup es) (rounds_of es) → StartsWell (commands_of setup (es ++ e ∷ [])) (rounds_of (es ++ e ∷ []))
starts_step setup es (Issue i t) new all ih =
    let w : Entered = record { release = release_of es i; due = due_of setup es i; bios = request_of es i } in
    let waits : waits_at setup es i ≡ Some w = waits_for setup es i (all Unknown) (all_back es i (all AlreadyIssued)) in
    let c : Command = record { id = i; release = w.release; due = w.due } in
    rw (commands-issued setup es i t new w waits, rounds-issued es i t) (starts_push (commands_of setup es) (rounds_of es) c (round_of es) ih (release_within es i))
starts_step setup es (Back t) new all ih =
    let old = shorter_legal setup es (Back t) new in
    let o : IsOpen es t = all NotIssued in
    let p : LosesIssue es (es ++ Back t ∷ []) o.id = requeued setup es t o.id old (open_by es t o) in
    rw (commands_are setup es t o.id p, p.rounds_are)
    (starts_out (map (command_of setup es) p.ids_before) (map (command_of setup es) p.ids_after) (command_of setup es o.id) p.rounds_before p.rounds_after p.round (p.even ∙ sym (map_length (command_of setup es) p.ids_before)) (rw (commands_were setup es (es ++ Back t ∷ []) o.id p, p.rounds_were) at ih))
starts_step setup es e new all ih = rw (commands_kept setup es e new refl refl, rounds_kept es e refl refl) ih

starts : (setup : Setup) (es : List Happened) → IsLegalTrace setup es → StartsWell (commands_of setup es) (rounds_of es)
unfolding commands_of rounds_of issued_ids served issues_from
starts setup es legal = by_legal setup (λ l. StartsWell (commands_of setup l) (rounds_of l)) (record { one_each = refl; released = λ k d l. absurd (omega arith) }) (λ l e new old all ih. starts_step setup l e new all ih) es legal

-- numbers below a bound, each at most once, are no more than the bound
split_one : (n x : ℕ) → one_if (ltb x (n + 1)) ≡ one_if (ltb x n) + one_if (n == x)
split_one n x =
    elim (cases_lt x n) [
      | inl b ↦
          let up : ltb x (n + 1) ≡ true = lt-ltb x (n + 1) (omega arith) in
          let here : ltb x n ≡ true = lt-ltb x n b in
          let other : (n == x) ≡ false = ne_eqb n x (λ e. absurd (omega arith)) in
          rw (up, here, other) refl
      | inr b ↦
          let here : ltb x n ≡ false = le-ltb x n b in
          elim (cases_eq n x) [
            | inl e ↦
                let up : ltb x (n + 1) ≡ true = lt-ltb x (n + 1) (omega arith) in
                let same : (n == x) ≡ true = eq-eqb n x e in
                rw (up, here, same) refl
            | inr e ↦
                let up : ltb x (n + 1) ≡ false = le-ltb x (n + 1) (omega arith) in
                let other : (n == x) ≡ false = ne_eqb n x e in
                rw (up, here, other) refl
          ]
    ]

split_count : (n : ℕ) (xs : List ℕ) → count_by (λ x. ltb x (n + 1)) xs ≡ count_by (λ x. ltb x n) xs + count_by (λ x. n == x) xs
split_count n [] = refl
split_count n (x ∷ xs) =
    omega (arith, count-cons (λ x. ltb x (n + 1)) x xs, count-cons (λ x. ltb x n) x xs, count-cons (λ x. n == x) x xs, split_count n xs, split_one n x)

below_zero : (xs : List ℕ) → count_by (λ x. ltb x 0) xs ≡ 0
below_zero [] = refl
below_zero (x ∷ xs) =
    let no : ltb x 0 ≡ false = le-ltb x 0 (omega arith) in
    let here : one_if (ltb x 0) ≡ 0 = rw no refl in
    omega (arith, count-cons (λ x. ltb x 0) x xs, below_zero xs)

few_below : (n : ℕ) (xs : List ℕ) → ((u : ℕ) → count_by (λ x. u == x) xs ≤ 1) → count_by (λ x. ltb x n) xs ≤ n
few_below zero xs h = omega (arith, below_zero xs)
few_below (suc n) xs h =
    let up : suc n ≡ n + 1 = omega arith in
    rw up (omega (arith, split_count n xs, few_below n xs h, h n))

all_below : (n : ℕ) (xs : List ℕ) → ((u : ℕ) → n ≤ u → count_by (λ x. u == x) xs ≡ 0) → count_by (λ x. ltb x n) xs ≡ length xs
all_below n [] h = refl
all_below n (x ∷ xs) h =
    let ih : count_by (λ y. ltb y n) xs ≡ length xs = all_below n xs (λ u l. omega (arith, count-cons (λ y. u == y) x xs, h u l)) in
    elim (cases_lt x n) [
      | inl b ↦
          let here : one_if (ltb x n) ≡ 1 = ap one_if (lt-ltb x n b) in
          omega (arith, count-cons (λ y. ltb y n) x xs)
      | inr b ↦
          let one : one_if (x == x) ≡ 1 = ap one_if (eq-eqb x x refl) in
          absurd (omega (arith, count-cons (λ y. x == y) x xs, h x b))
    ]

-- the tags of a round's Issues, in their order
pub tags_at : ℕ → List Issued → List ℕ
tags_at round xs = map (λ i. i.tag) (filter (λ i. i.round == round) xs)

first_tag : (round : ℕ) (i : Issued) (xs : List Issued) (b : Bool) → (i.round == round) ≡ b → tags_at round (i ∷ xs) ≡ cond b (i.tag ∷ tags_at round xs) (tags_at round xs)
unfolding tags_at
first_tag round i xs true h = ap (λ c. map (λ (x : Issued). x.tag) (cond c (i ∷ filter (λ (x : Issued). x.round == round) xs) (filter (λ (x : Issued). x.round == round) xs))) h
first_tag round i xs false h = ap (λ c. map (λ (x : Issued). x.tag) (cond c (i ∷ filter (λ (x : Issued). x.round == round) xs) (filter (λ (x : Issued). x.round == round) xs))) h

-- as many as Issues are in the round
pub as_many : (round : ℕ) (xs : List Issued) → places_at (map (λ (i : Issued). i.round) xs) round ≡ length (tags_at round xs)
unfolding places_at tags_at
as_many round [] = refl
as_many round (i ∷ xs) =
    elim (cases_Bool (i.round == round)) [
      | inl b ↦ omega (arith, count-cons (λ y. y == round) i.round (map (λ (x : Issued). x.round) xs), ap one_if b, ap length (first_tag round i xs true b), as_many round xs)
      | inr b ↦ omega (arith, count-cons (λ y. y == round) i.round (map (λ (x : Issued). x.round) xs), ap one_if b, ap length (first_tag round i xs false b), as_many round xs)
    ]

none_at : (round u : ℕ) (xs : List Issued) → ((k : ℕ) (i : Issued) → slice_get xs k ≡ Some i → i.round ≡ round → i.tag ≡ u → ⊥) → count_by (λ t. u == t) (tags_at round xs) ≡ 0
unfolding tags_at
none_at round u [] h = refl
none_at round u (i ∷ xs) h =
    let rest : count_by (λ t. u == t) (tags_at round xs) ≡ 0 = none_at round u xs (λ k x at. h (suc k) x at) in
    elim (cases_Bool (i.round == round)) [
      | inl b ↦
          let other : one_if (u == i.tag) ≡ 0 = ap one_if (ne_eqb u i.tag (λ e. h 0 i refl (eqb-true i.round round b) (sym e))) in
          omega (arith, ap (count_by (λ t. u == t)) (first_tag round i xs true b), count-cons (λ t. u == t) i.tag (tags_at round xs))
      | inr b ↦ ap (count_by (λ t. u == t)) (first_tag round i xs false b) ∙ rest
    ]

one_at : (round u : ℕ) (xs : List Issued) → ((j k : ℕ) (x y : Issued) → slice_get xs j ≡ Some x → slice_get xs k ≡ Some y → x.round ≡ y.round → x.tag ≡ y.tag → j ≡ k) → count_by (λ t. u == t) (tags_at round xs) ≤ 1
unfolding tags_at
one_at round u [] once = omega arith
one_at round u (i ∷ xs) once =
    let rest : count_by (λ t. u == t) (tags_at round xs) ≤ 1 = one_at round u xs (λ j k x y at there a b. omega (arith, once (suc j) (suc k) x y at there a b)) in
    elim (cases_Bool (i.round == round)) [
      | inl b ↦
          let first : count_by (λ t. u == t) (tags_at round (i ∷ xs)) ≡ one_if (u == i.tag) + count_by (λ t. u == t) (tags_at round xs) = ap (count_by (λ t. u == t)) (first_tag round i xs true b) ∙ count-cons (λ t. u == t) i.tag (tags_at round xs) in
          elim (cases_Bool (u == i.tag)) [
            | inl c ↦
                let none : count_by (λ t. u == t) (tags_at round xs) ≡ 0 = none_at round u xs (λ k x at r t. absurd (omega (arith, once 0 (suc k) i x refl at (eqb-true i.round round b ∙ sym r) (sym (eqb-true u i.tag c) ∙ sym t)))) in
                omega (arith, first, none, ap one_if c)
            | inr c ↦ omega (arith, first, rest, ap one_if c)
          ]
      | inr b ↦ omega (arith, rest, ap (count_by (λ t. u == t)) (first_tag round i xs false b))
    ]

-- no more than the round's depth
pub few_tags : (setup : Setup) (es : List Happened) (round : ℕ) → IsLegalTrace setup es → length (tags_at round (issues_of es)) ≤ depth_in setup es round
few_tags setup es round legal =
    let ts : List ℕ = tags_at round (issues_of es) in
    let once : (u : ℕ) → count_by (λ x. u == x) ts ≤ 1 = λ u. one_at round u (issues_of es) (steady setup es legal).once in
    let none : (u : ℕ) → depth_in setup es round ≤ u → count_by (λ x. u == x) ts ≡ 0 = λ u l. none_at round u (issues_of es) (λ k i at r t.
    let f = issue_from 0 es k i at in
    let there : round_at es f.place ≡ round = omega (arith, f.now, r) in
    absurd (omega (arith, l, t, ap (depth_in setup es) there, legal.tag_range f.place i.id i.tag f.issued))) in
    omega (arith, few_below (depth_in setup es round) ts once, all_below (depth_in setup es round) ts none)

-- nor has it more commands
fewer : (round : ℕ) (xs : List Issued) → places_at (map (λ (i : Issued). i.round) (kept_of xs)) round ≤ places_at (map (λ (i : Issued). i.round) xs) round
unfolding places_at
fewer round [] = omega arith
fewer round (i ∷ xs) = by (was_requeued i.outcome) refl (fewer round xs)
  where
    by : (b : Bool) → was_requeued i.outcome ≡ b → count_by (λ y. y == round) (map (λ (x : Issued). x.round) (kept_of xs)) ≤ count_by (λ y. y == round) (map (λ (x : Issued). x.round) xs) → count_by (λ y. y == round) (map (λ (x : Issued). x.round) (cond (not (was_requeued i.outcome)) (i ∷ kept_of xs) (kept_of xs))) ≤ count_by (λ y. y == round) (i.round ∷ map (λ (x : Issued). x.round) xs)
    by true h rest = rw h (omega (arith, rest, count-cons (λ y. y == round) i.round (map (λ (x : Issued). x.round) xs)))
    by false h rest = rw h (omega (arith, rest, count-cons (λ y. y == round) i.round (map (λ (x : Issued). x.round) xs), count-cons (λ y. y == round) i.round (map (λ (x : Issued). x.round) (kept_of xs))))

pub legal-schedule : (setup : Setup) (events : List Happened) → IsLegalTrace setup events → IsScheduled setup events
legal-schedule setup events legal =
    let s : StartsWell (commands_of setup events) (rounds_of events) = starts setup events legal in
    let within : (x : ℕ) → places_at (rounds_of events) x ≤ depth_in setup events x = λ x.
    omega (arith, ap (λ l. places_at l x) (round_list events), fewer x (issues_of events), as_many x (issues_of events), few_tags setup events x legal) in
    record { one_each = s.one_each; released = s.released; within_depth = λ x. omega (arith, within x, capacity_depth setup events x) }
