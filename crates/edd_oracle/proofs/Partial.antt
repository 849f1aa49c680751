use Rattle.std.proofs.Common.{◌≡◌, ◌<◌, ◌≤◌, ◌^◌, ℕ, ◌+◌, ◌==◌, Bool, true, false, cond, Option, Some, None, List, length, get_or, map, ◌⊎◌, inl, inr, arith, refl, ap, sym, ◌∙◌, subst}
use Rattle.std.proofs.Math.ListN.{set}
use Rattle.std.proofs.lemmas.List.{get_or-set_same, get_or-set_other, length-set, get_or_default, get_or-map, length-map, get_or_past}
use Rattle.std.proofs.lemmas.List.Sums.{sum_by-set, count_by-le-length}
use Rattle.std.proofs.lemmas.Bool.{cases_eq, cases_Bool, cases_lt, cond-true, cond-false, eq-eqb, ne_eqb, eqb-true}
use Rattle.edd_commands.specs.declared.Command.{Command}
use Rattle.edd_commands.specs.declared.steps.Step.{Step}
use Rattle.edd_commands.specs.Capacity.{depth_at}
use Rattle.edd_commands.specs.Schedule.{IsLegal, RoundsInRange, places_at}
use Rattle.std.specs.List.{All}
use Rattle.std.specs.Bool.{IsTrue}
use Rattle.edd_oracle.specs.Input.{IsSolvable}
use Rattle.edd_oracle.specs.Inside.Queue.{IsWaiting}
use Rattle.edd_oracle.specs.Priority.{IsEarliestDueFirst, ComesFirst}
use Rattle.edd_oracle.specs.Inside.Leave.{IsFirstReleased, IsEarliestDue, has_round, placed_at, has_none, unplaced_count, IsInTime, CouldRun, IsBegun, IsKept, HaveLeft}
use Rattle.edd_oracle.proofs.Counting.{count_none, count_map, count_some}

-- the rounds from `start` up to `round` are as earliest due date first has them, late commands passed over or not, and
-- `round` has `used` commands so far
pub record IsPartial (passes : Bool) (commands : List Command) (begun rounds : List (Option ℕ)) (steps : List Step) (start round used : ℕ) : Type 0 where
  pub one_each : length rounds ≡ length commands
  pub kept : IsKept passes commands begun rounds start
  pub after : start ≤ round
  pub timely : (k x : ℕ) (d : Command) → get_or rounds k None ≡ Some x → ((get_or commands k d).release ≤ x) × (x ≤ round)
  pub within : (x : ℕ) → placed_at rounds x ≤ depth_at steps x
  pub filled : placed_at rounds round ≡ used
  pub full : (x k : ℕ) (d : Command) → start ≤ x → x < round → CouldRun passes commands rounds x k d → placed_at rounds x ≡ depth_at steps x
  pub due_first : (x k p : ℕ) (d : Command) → start ≤ x → x < round → CouldRun passes commands rounds x k d → get_or rounds p None ≡ Some x → ComesFirst (get_or commands p d) (get_or commands k d)
  pub due_now : (k p : ℕ) (d : Command) → IsWaiting rounds k → (get_or commands k d).release ≤ round → IsInTime passes (get_or commands k d) round → get_or rounds p None ≡ Some round → ComesFirst (get_or commands p d) (get_or commands k d)
  pub room : round + used + unplaced_count rounds ≤ 2 ^ 40 + length commands

pub has_round_true : (x : ℕ) (o : Option ℕ) → has_round x o ≡ true → o ≡ Some x
has_round_true x None e = absurd (cc)
has_round_true x (Some y) e = ap (λ n. Some n) (eqb-true y x e)

some_or_none : (o : Option ℕ) → (o ≡ None) ⊎ ((y : ℕ) × (o ≡ Some y))
some_or_none None = inl refl
some_or_none (Some y) = inr (y, refl)

pub waiting_or_placed : (rounds : List (Option ℕ)) (k : ℕ) → k < length rounds → IsWaiting rounds k ⊎ ((y : ℕ) × (get_or rounds k None ≡ Some y))
waiting_or_placed rounds k within =
    elim (some_or_none (get_or rounds k None)) [
      | inl none ↦ inl record { in_list = within; none = none }
      | inr placed ↦ inr placed
    ]

-- a round that no command has
pub none_placed : (rounds : List (Option ℕ)) (x : ℕ) → ((k : ℕ) → get_or rounds k None ≡ Some x → ⊥) → placed_at rounds x ≡ 0
unfolding placed_at
none_placed rounds x never =
    count_none (has_round x) rounds
    (λ k d h.
    elim (cases_Bool (has_round x (get_or rounds k d))) [
      | inl there ↦ absurd (never k (get_or_default rounds k None d h ∙ has_round_true x (get_or rounds k d) there))
      | inr other ↦ other
    ])

-- a round that a command has
some_placed : (rounds : List (Option ℕ)) (k x : ℕ) → get_or rounds k None ≡ Some x → 0 < placed_at rounds x
unfolding placed_at
some_placed rounds k x there =
    let within : k < length rounds =
    elim (cases_lt k (length rounds)) [
      | inl low ↦ low
      | inr past ↦ let none : get_or rounds k None ≡ None = get_or_past rounds k None past in absurd (cc)
    ] in
    count_some (has_round x) rounds k None within (ap (has_round x) there ∙ eq-eqb x x refl)

-- one command more has the round
placed_here : (rounds : List (Option ℕ)) (k x : ℕ) → IsWaiting rounds k → placed_at (set rounds k (Some x)) x ≡ placed_at rounds x + 1
unfolding placed_at
placed_here rounds k x waits =
    let f : Option ℕ → ℕ = λ o. cond (has_round x o) 1 0 in
    let was : f (get_or rounds k None) ≡ 0 = ap f waits.none in
    let now : f (Some x) ≡ 1 = cond-true (x == x) 1 0 (eq-eqb x x refl) in
    omega (arith, was, now, sum_by-set f rounds k (Some x) None waits.in_list)

placed_elsewhere : (rounds : List (Option ℕ)) (k x y : ℕ) → IsWaiting rounds k → (y ≡ x → ⊥) → placed_at (set rounds k (Some x)) y ≡ placed_at rounds y
unfolding placed_at
placed_elsewhere rounds k x y waits other =
    let f : Option ℕ → ℕ = λ o. cond (has_round y o) 1 0 in
    let was : f (get_or rounds k None) ≡ 0 = ap f waits.none in
    let now : f (Some x) ≡ 0 = cond-false (x == y) 1 0 (ne_eqb x y (λ e. other (sym e))) in
    omega (arith, was, now, sum_by-set f rounds k (Some x) None waits.in_list)

-- one command less waits
pub one_less_waits : (rounds : List (Option ℕ)) (k x : ℕ) → IsWaiting rounds k → unplaced_count (set rounds k (Some x)) + 1 ≡ unplaced_count rounds
unfolding unplaced_count
one_less_waits rounds k x waits =
    let f : Option ℕ → ℕ = λ o. cond (has_none o) 1 0 in
    let was : f (get_or rounds k None) ≡ 1 = ap f waits.none in
    omega (arith, was, sum_by-set f rounds k (Some x) None waits.in_list)

pub unplaced_count-le : (rounds : List (Option ℕ)) → unplaced_count rounds ≤ length rounds
unfolding unplaced_count
unplaced_count-le rounds = count_by-le-length has_none rounds

-- before the first command
pub start_partial : (passes : Bool) (commands : List Command) (begun : List (Option ℕ)) (steps : List Step) (start : ℕ) → IsBegun commands begun steps start → IsPartial passes commands begun begun steps start start 0
start_partial passes commands begun steps start is =
    record {
      one_each = is.one_each;
      kept = (λ k x there. there, λ k x d there. inl there);
      after = omega arith;
      timely = λ k x d there. let known = is.before k x d there in (known.0, omega (arith, known.1));
      within = is.within;
      filled = none_placed begun start (λ k there. absurd (omega (arith, (is.before k start record { id = 0; release = 0; due = 0 } there).1)));
      full = λ x k d low lt runs. absurd (omega arith);
      due_first = λ x k p d low lt runs there. absurd (omega arith);
      due_now = λ k p d waits released in_time there. absurd (omega (arith, (is.before p start d there).1));
      room = omega (arith, is.room);
    }

-- a command that could run in a later round may have this one
in_time_before : (passes : Bool) (c : Command) (round x : ℕ) → round ≤ x → IsInTime passes c x → IsInTime passes c round
in_time_before passes c round x le in_time = λ late. let by_then : x ≤ c.due = in_time late in omega arith

-- where nothing that waits and may still run is released yet the next round is that of the least release
pub jump_partial : (passes : Bool) (commands : List Command) (begun rounds : List (Option ℕ)) (steps : List Step) (start round used next : ℕ) → IsPartial passes commands begun rounds steps start round used → round < next → next < 2 ^ 40 → ((j : ℕ) (d : Command) → IsWaiting rounds j → IsInTime passes (get_or commands j d) round → next ≤ (get_or commands j d).release) → IsPartial passes commands begun rounds steps start next 0
jump_partial passes commands begun rounds steps start round used next so_far up small least =
    let idle : (x k : ℕ) (d : Command) → round ≤ x → x < next → CouldRun passes commands rounds x k d → ⊥ =
    λ x k d after lt runs.
    elim (waiting_or_placed rounds k (omega (arith, so_far.one_each, runs.in_list))) [
      | inl waits ↦
          let up_to : next ≤ (get_or commands k d).release = least k d waits (in_time_before passes (get_or commands k d) round x after runs.in_time) in
          absurd (omega (arith, runs.released))
      | inr placed ↦ absurd (omega (arith, (so_far.timely k placed.0 d placed.1).1, runs.later placed.0 placed.1))
    ] in
    record {
      one_each = so_far.one_each;
      kept = so_far.kept;
      after = omega (arith, so_far.after);
      timely = λ k x d there. let known = so_far.timely k x d there in (known.0, omega (arith, known.1));
      within = so_far.within;
      filled = none_placed rounds next (λ k there. absurd (omega (arith, (so_far.timely k next record { id = 0; release = 0; due = 0 } there).1)));
      full = λ x k d low lt runs.
          elim (cases_lt x round) [
            | inl before ↦ so_far.full x k d low before runs
            | inr after ↦ absurd (idle x k d after lt runs)
          ];
      due_first = λ x k p d low lt runs there.
          elim (cases_lt x round) [
            | inl before ↦ so_far.due_first x k p d low before runs there
            | inr after ↦ absurd (idle x k d after lt runs)
          ];
      due_now = λ k p d waits released in_time there. absurd (omega (arith, (so_far.timely p next d there).1));
      room = omega (arith, unplaced_count-le rounds, so_far.one_each);
    }

-- after a full round comes the next one
pub next_partial : (passes : Bool) (commands : List Command) (begun rounds : List (Option ℕ)) (steps : List Step) (start round used : ℕ) → IsPartial passes commands begun rounds steps start round used → used ≡ depth_at steps round → ((x : ℕ) → 0 < depth_at steps x) → IsPartial passes commands begun rounds steps start (round + 1) 0
next_partial passes commands begun rounds steps start round used so_far done some =
    record {
      one_each = so_far.one_each;
      kept = so_far.kept;
      after = omega (arith, so_far.after);
      timely = λ k x d there. let known = so_far.timely k x d there in (known.0, omega (arith, known.1));
      within = so_far.within;
      filled = none_placed rounds (round + 1) (λ k there. absurd (omega (arith, (so_far.timely k (round + 1) record { id = 0; release = 0; due = 0 } there).1)));
      full = λ x k d low lt runs.
          elim (cases_lt x round) [
            | inl before ↦ so_far.full x k d low before runs
            | inr after ↦
                let last : x ≡ round = omega arith in
                ap (λ y. placed_at rounds y) last ∙ so_far.filled ∙ done ∙ ap (λ y. depth_at steps y) (sym last)
          ];
      due_first = λ x k p d low lt runs there.
          elim (cases_lt x round) [
            | inl before ↦ so_far.due_first x k p d low before runs there
            | inr after ↦
                let last : x ≡ round = omega arith in
                elim (waiting_or_placed rounds k (omega (arith, so_far.one_each, runs.in_list))) [
                  | inl waits ↦ so_far.due_now k p d waits (omega (arith, runs.released)) (in_time_before passes (get_or commands k d) round x after runs.in_time) (there ∙ ap (λ n. Some n) last)
                  | inr placed ↦ absurd (omega (arith, (so_far.timely k placed.0 d placed.1).1, runs.later placed.0 placed.1))
                ]
          ];
      due_now = λ k p d waits released in_time there. absurd (omega (arith, (so_far.timely p (round + 1) d there).1));
      room = omega (arith, so_far.room, some round);
    }

-- the command that is due first gets the round
pub put_partial : (passes : Bool) (commands : List Command) (begun rounds : List (Option ℕ)) (steps : List Step) (start round used place : ℕ) → IsPartial passes commands begun rounds steps start round used → used < depth_at steps round → IsEarliestDue passes commands rounds round place → ((d : Command) → IsInTime passes (get_or commands place d) round) → IsPartial passes commands begun (set rounds place (Some round)) steps start round (used + 1)
put_partial passes commands begun rounds steps start round used place so_far fits pick timely =
    let rounds' : List (Option ℕ) = set rounds place (Some round) in
    let at_place : get_or rounds' place None ≡ Some round =
    get_or-set_same rounds place (Some round) None pick.waiting.in_list in
    let kept : (k : ℕ) → (k ≡ place → ⊥) → get_or rounds' k None ≡ get_or rounds k None =
    λ k other. get_or-set_other rounds place k (Some round) None other in
    let same_length : length rounds' ≡ length rounds = length-set rounds place (Some round) in
    let could : (x k : ℕ) (d : Command) → CouldRun passes commands rounds' x k d → CouldRun passes commands rounds x k d =
    λ x k d runs.
    record {
      in_list = runs.in_list;
      released = runs.released;
      in_time = runs.in_time;
      later = λ y there.
          elim (cases_eq k place) [
            | inl here ↦
                let was : get_or rounds k None ≡ None = ap (λ i. get_or rounds i None) here ∙ pick.waiting.none in
                absurd (cc)
            | inr other ↦ runs.later y (kept k other ∙ there)
          ];
    } in
    record {
      one_each = same_length ∙ so_far.one_each;
      kept = (
        λ k x there.
            elim (cases_eq k place) [
              | inl here ↦
                  let was : get_or rounds k None ≡ None = ap (λ i. get_or rounds i None) here ∙ pick.waiting.none in
                  let is : get_or rounds k None ≡ Some x = so_far.kept.0 k x there in
                  absurd (cc)
              | inr other ↦ kept k other ∙ so_far.kept.0 k x there
            ],
        λ k x d there.
            elim (cases_eq k place) [
              | inl here ↦
                  let is_x : Some round ≡ Some x = sym at_place ∙ ap (λ i. get_or rounds' i None) (sym here) ∙ there in
                  let same : round ≡ x = (cc) in
                  inr (omega (arith, so_far.after), subst (λ y. IsInTime passes (get_or commands k d) y) same (subst (λ i. IsInTime passes (get_or commands i d) round) (sym here) (timely d)))
              | inr other ↦ so_far.kept.1 k x d (sym (kept k other) ∙ there)
            ],
      );
      after = so_far.after;
      timely = λ k x d there.
          elim (cases_eq k place) [
            | inl here ↦
                let is_x : Some round ≡ Some x = sym at_place ∙ ap (λ i. get_or rounds' i None) (sym here) ∙ there in
                let same : round ≡ x = (cc) in
                let released : (get_or commands k d).release ≤ round =
                subst (λ i. (get_or commands i d).release ≤ round) (sym here) (pick.released d) in
                (omega arith, omega arith)
            | inr other ↦ so_far.timely k x d (sym (kept k other) ∙ there)
          ];
      within = λ x.
          elim (cases_eq x round) [
            | inl here ↦
                let more : placed_at rounds' round ≡ placed_at rounds round + 1 = placed_here rounds place round pick.waiting in
                subst (λ y. placed_at rounds' y ≤ depth_at steps y) (sym here) (omega (arith, more, so_far.filled))
            | inr other ↦ omega (arith, placed_elsewhere rounds place round x pick.waiting other, so_far.within x)
          ];
      filled = omega (arith, placed_here rounds place round pick.waiting, so_far.filled);
      full = λ x k d low lt runs.
          placed_elsewhere rounds place round x pick.waiting (λ e. absurd (omega arith)) ∙ so_far.full x k d low lt (could x k d runs);
      due_first = λ x k p d low lt runs there.
          elim (cases_eq p place) [
            | inl here ↦
                let is_x : Some round ≡ Some x = sym at_place ∙ ap (λ i. get_or rounds' i None) (sym here) ∙ there in
                let same : round ≡ x = (cc) in
                absurd (omega arith)
            | inr other ↦ so_far.due_first x k p d low lt (could x k d runs) (sym (kept p other) ∙ there)
          ];
      due_now = λ k p d waits released in_time there.
          elim (cases_eq k place) [
            | inl here ↦
                let clash : Some round ≡ None = sym at_place ∙ ap (λ i. get_or rounds' i None) (sym here) ∙ waits.none in
                absurd (cc)
            | inr apart ↦
                let waited : IsWaiting rounds k =
                record { in_list = omega (arith, same_length, waits.in_list); none = sym (kept k apart) ∙ waits.none } in
                elim (cases_eq p place) [
                  | inl here ↦
                      subst (λ i. ComesFirst (get_or commands i d) (get_or commands k d)) (sym here) (pick.least k d waited released in_time)
                  | inr other ↦ so_far.due_now k p d waited released in_time (sym (kept p other) ∙ there)
                ]
          ];
      room = omega (arith, so_far.room, one_less_waits rounds place round pick.waiting);
    }

-- once all have left
pub left_partial : (passes : Bool) (commands : List Command) (begun rounds : List (Option ℕ)) (steps : List Step) (start round used : ℕ) → IsPartial passes commands begun rounds steps start round used → ((k : ℕ) (d : Command) → IsWaiting rounds k → IsTrue passes × ((get_or commands k d).due < round)) → ((x : ℕ) → 0 < depth_at steps x) → HaveLeft passes commands begun rounds steps start
left_partial passes commands begun rounds steps start round used so_far gone some =
    let before : (x k : ℕ) (d : Command) → CouldRun passes commands rounds x k d → x < round =
    λ x k d runs.
    elim (waiting_or_placed rounds k (omega (arith, so_far.one_each, runs.in_list))) [
      | inl waits ↦
          let out = gone k d waits in
          let by_then : x ≤ (get_or commands k d).due = runs.in_time out.0 in
          omega (arith, out.1)
      | inr placed ↦ omega (arith, (so_far.timely k placed.0 d placed.1).1, runs.later placed.0 placed.1)
    ] in
    record {
      one_each = so_far.one_each;
      kept = so_far.kept;
      released = λ k x d there. (so_far.timely k x d there).0;
      within = so_far.within;
      full = λ x k d low runs. so_far.full x k d low (before x k d runs) runs;
      due_first = λ x k p d low runs there. so_far.due_first x k p d low (before x k d runs) runs there;
      all = λ k waits. (gone k record { id = 0; release = 0; due = 0 } waits).0;
      some = some;
      room = λ k x there.
          elim (cases_lt x round) [
            | inl sooner ↦ omega (arith, so_far.room)
            | inr last ↦
                let at : x ≡ round = omega (arith, (so_far.timely k x record { id = 0; release = 0; due = 0 } there).1) in
                let here : 0 < placed_at rounds round = some_placed rounds k round (there ∙ ap (λ n. Some n) at) in
                omega (arith, so_far.room, so_far.filled)
          ];
    }

-- the rounds once each command has one
pub record IsFinished (commands : List Command) (rounds : List ℕ) (steps : List Step) : Type 0 where
  pub legal : IsLegal commands rounds steps
  pub in_range : RoundsInRange rounds
  pub earliest : IsEarliestDueFirst commands rounds steps

-- the rounds that all have, by place and by count
pub record IsSettled (rounds : List (Option ℕ)) (all : List ℕ) : Type 0 where
  pub same : length all ≡ length rounds
  pub at : (k : ℕ) → k < length rounds → get_or rounds k None ≡ Some (get_or all k 0)
  pub count : (x : ℕ) → placed_at rounds x ≡ places_at all x

pub settled_all : (rounds : List (Option ℕ)) (all : List ℕ) → map (λ x. Some x) all ≡ rounds → IsSettled rounds all
unfolding placed_at places_at
settled_all rounds all settled =
    let same : length all ≡ length rounds = sym (length-map all (λ x. Some x)) ∙ ap (λ xs. length xs) settled in
    record {
      same = same;
      at = λ k h. sym (ap (λ xs. get_or xs k None) settled) ∙ get_or-map (λ x. Some x) all k 0 None (omega arith);
      count = λ x. sym (ap (λ xs. placed_at xs x) settled) ∙ count_map (λ y. Some y) (has_round x) all;
    }

-- a command that has a later round could run
pub could_run : (passes : Bool) (commands : List Command) (rounds : List (Option ℕ)) (all : List ℕ) (x k : ℕ) (d : Command) → length rounds ≡ length commands → IsSettled rounds all → k < length commands → (get_or commands k d).release ≤ x → IsInTime passes (get_or commands k d) x → x < get_or all k 0 → CouldRun passes commands rounds x k d
could_run passes commands rounds all x k d same settled h released in_time lt =
    record {
      in_list = h;
      released = released;
      in_time = in_time;
      later = λ y there.
          let is_y : Some (get_or all k 0) ≡ Some y = sym (settled.at k (omega arith)) ∙ there in
          let value : get_or all k 0 ≡ y = (cc) in
          omega arith;
    }

-- whatever leaves with a round of its own is legal
pub legal_left : (passes : Bool) (commands : List Command) (begun rounds : List (Option ℕ)) (steps : List Step) (start : ℕ) (all : List ℕ) → HaveLeft passes commands begun rounds steps start → IsSettled rounds all → IsLegal commands all steps
legal_left passes commands begun rounds steps start all left settled =
    record {
      one_each = settled.same ∙ left.one_each;
      released = λ k d h. left.released k (get_or all k 0) d (settled.at k (omega (arith, left.one_each)));
      within_depth = λ x. omega (arith, settled.count x, left.within x);
    }

pub in_range_left : (passes : Bool) (commands : List Command) (begun rounds : List (Option ℕ)) (steps : List Step) (start : ℕ) (all : List ℕ) → HaveLeft passes commands begun rounds steps start → length commands ≤ 1000000 → IsSettled rounds all → RoundsInRange all
in_range_left passes commands begun rounds steps start all left few settled =
    λ k d h.
    let value : get_or all k d ≡ get_or all k 0 = get_or_default all k d 0 h in
    let low = left.room k (get_or all k 0) (settled.at k (omega (arith, settled.same))) in
    omega arith

pub finish_left : (commands : List Command) (begun rounds : List (Option ℕ)) (steps : List Step) (all : List ℕ) → HaveLeft false commands begun rounds steps 0 → length commands ≤ 1000000 → map (λ x. Some x) all ≡ rounds → IsFinished commands all steps
finish_left commands begun rounds steps all left few is_all =
    let settled : IsSettled rounds all = settled_all rounds all is_all in
    let could : (x k : ℕ) (d : Command) → k < length commands → (get_or commands k d).release ≤ x → x < get_or all k 0 → CouldRun false commands rounds x k d =
    λ x k d h released lt. could_run false commands rounds all x k d left.one_each settled h released (λ (late : IsTrue false). absurd (cc)) lt in
    record {
      legal = legal_left false commands begun rounds steps 0 all left settled;
      in_range = in_range_left false commands begun rounds steps 0 all left few settled;
      earliest = record {
        full = λ x k d h released lt. sym (settled.count x) ∙ left.full x k d (omega arith) (could x k d h released lt);
        due_first = λ x k p d h released lt in_list there.
            left.due_first x k p d (omega arith) (could x k d h released lt) (settled.at p (omega (arith, left.one_each)) ∙ ap (λ n. Some n) there);
      };
    }

-- there is a place left in the round
pub record IsReady (passes : Bool) (commands : List Command) (begun rounds : List (Option ℕ)) (steps : List Step) (start round used : ℕ) : Type 0 where
  pub so_far : IsPartial passes commands begun rounds steps start round used
  pub fits : used < depth_at steps round

ready_at : (passes : Bool) (commands : List Command) (begun rounds : List (Option ℕ)) (steps : List Step) (start round used round' used' : ℕ) → IsPartial passes commands begun rounds steps start round used → used < depth_at steps round → round' ≡ round → used' ≡ used → IsReady passes commands begun rounds steps start round' used'
ready_at passes commands begun rounds steps start round used round' used' so_far fits same_round same_used =
    record {
      so_far = subst (λ r. IsPartial passes commands begun rounds steps start r used') (sym same_round) (subst (λ u. IsPartial passes commands begun rounds steps start round u) (sym same_used) so_far);
      fits = let same : depth_at steps round' ≡ depth_at steps round = ap (λ x. depth_at steps x) same_round in omega arith;
    }

pub ready_jumped : (passes : Bool) (commands : List Command) (begun rounds : List (Option ℕ)) (steps : List Step) (start round used first round' used' : ℕ) (d : Command) → IsPartial passes commands begun rounds steps start round used → ((x : ℕ) → 0 < depth_at steps x) → All IsSolvable commands → IsFirstReleased passes commands rounds round first → round < (get_or commands first d).release → round' ≡ (get_or commands first d).release → used' ≡ 0 → IsReady passes commands begun rounds steps start round' used'
ready_jumped passes commands begun rounds steps start round used first round' used' d so_far some solvable is_first up is_round is_used =
    let in_list : first < length commands = omega (arith, so_far.one_each, is_first.waiting.in_list) in
    ready_at passes commands begun rounds steps start (get_or commands first d).release 0 round' used'
    (jump_partial passes commands begun rounds steps start round used (get_or commands first d).release so_far up (solvable first d in_list).0
    (λ j e waits in_time.
    let same : (get_or commands first d).release ≡ (get_or commands first e).release = ap (λ (c : Command). c.release) (get_or_default commands first d e in_list) in
    omega (arith, is_first.least j e waits in_time)))
    (some (get_or commands first d).release) is_round is_used

pub ready_next : (passes : Bool) (commands : List Command) (begun rounds : List (Option ℕ)) (steps : List Step) (start round used round' used' : ℕ) → IsPartial passes commands begun rounds steps start round used → ((x : ℕ) → 0 < depth_at steps x) → used ≡ depth_at steps round → round' ≡ round + 1 → used' ≡ 0 → IsReady passes commands begun rounds steps start round' used'
ready_next passes commands begun rounds steps start round used round' used' so_far some done is_round is_used =
    ready_at passes commands begun rounds steps start (round + 1) 0 round' used' (next_partial passes commands begun rounds steps start round used so_far done some) (some (round + 1)) is_round is_used

pub ready_still : (passes : Bool) (commands : List Command) (begun rounds : List (Option ℕ)) (steps : List Step) (start round used round' used' : ℕ) → IsPartial passes commands begun rounds steps start round used → (used ≡ depth_at steps round → ⊥) → round' ≡ round → used' ≡ used → IsReady passes commands begun rounds steps start round' used'
ready_still passes commands begun rounds steps start round used round' used' so_far more is_round is_used =
    let most = so_far.within round in
    let here = so_far.filled in
    ready_at passes commands begun rounds steps start round used round' used' so_far (omega arith) is_round is_used
