-- What is on time first, and then the rest: the two together.
use Rattle.std.proofs.Common.{◌≡◌, ◌<◌, ◌≤◌, ◌^◌, ℕ, ◌-◌, Bool, true, false, Option, Some, None, List, length, get_or, replicate, map, inl, inr, arith, refl, ap, sym, ◌∙◌}
use Rattle.std.specs.Bool.{IsTrue}
use Rattle.std.proofs.lemmas.Bool.{cases_lt, eq-eqb}
use Rattle.std.proofs.lemmas.List.{get_or_past, get_or_default, get_or-replicate, length-replicate}
use Rattle.edd_commands.specs.declared.Command.{Command}
use Rattle.edd_commands.specs.declared.steps.Step.{Step}
use Rattle.edd_commands.specs.Capacity.{depth_at}
use Rattle.edd_commands.specs.Schedule.{IsLegal, RoundsInRange}
use Rattle.edd_oracle.specs.OnTime.{IsOnTimeFirst, IsOnTimeUntil, IsDelayed, IsLeftOver}
use Rattle.edd_oracle.specs.Inside.Leave.{has_round, placed_at, CouldRun, IsBegun, HaveLeft, IsAfter}
use Rattle.edd_oracle.proofs.Counting.{count_along}
use Rattle.edd_oracle.proofs.Partial.{IsSettled, settled_all, could_run, legal_left, in_range_left, none_placed, has_round_true, unplaced_count-le}

abbrev no_command : Command
no_command = record { id = 0; release = 0; due = 0 }

-- where none has a round yet
pub no_round : (commands : List Command) (rounds : List (Option ℕ)) → rounds ≡ replicate (length commands) None → (k : ℕ) → get_or rounds k None ≡ None
no_round commands rounds is k =
    ap (λ xs. get_or xs k None) is ∙ elim (cases_lt k (length commands)) [
      | inl within ↦ get_or-replicate (length commands) k None None within
      | inr past ↦ get_or_past (replicate (length commands) None) k None (omega (arith, length-replicate {A = Option ℕ} (length commands) None))
    ]

pub none_begun : (commands : List Command) (rounds : List (Option ℕ)) (steps : List Step) → length rounds ≡ length commands → ((k : ℕ) → get_or rounds k None ≡ None) → IsBegun commands rounds steps 0
none_begun commands rounds steps same none =
    let never : (x k : ℕ) → get_or rounds k None ≡ Some x → ⊥ = λ x k there. let n = none k in absurd (cc) in
    record {
      one_each = same;
      before = λ k x d there. absurd (never x k there);
      within = λ x. omega (arith, none_placed rounds x (never x));
      room = omega (arith, unplaced_count-le rounds);
    }

pub nones_begun : (commands : List Command) (rounds : List (Option ℕ)) (steps : List Step) → rounds ≡ replicate (length commands) None → IsBegun commands rounds steps 0
nones_begun commands rounds steps is =
    none_begun commands rounds steps (ap (λ xs. length xs) is ∙ length-replicate (length commands) None) (no_round commands rounds is)

-- the rounds that are given lie far below the numbers' end
pub left_small : (passes : Bool) (commands : List Command) (begun rounds : List (Option ℕ)) (steps : List Step) (start : ℕ) → HaveLeft passes commands begun rounds steps start → length commands ≤ 1000000 → (k x : ℕ) → get_or rounds k None ≡ Some x → x < 2 ^ 63
left_small passes commands begun rounds steps start left few k x there = omega (arith, left.room k x there)

-- the rest begins after the last one that is on time
pub rest_begun : (passes : Bool) (commands : List Command) (begun rounds : List (Option ℕ)) (steps : List Step) (start end : ℕ) → HaveLeft passes commands begun rounds steps start → IsAfter rounds end → IsBegun commands rounds steps end
rest_begun passes commands begun rounds steps start end left after =
    record {
      one_each = left.one_each;
      before = λ k x d there. (left.released k x d there, after.before k x there);
      within = left.within;
      room = elim after.last [
        | inl none ↦ omega (arith, none, unplaced_count-le rounds, left.one_each)
        | inr there ↦ omega (arith, left.room there.0 (end - 1) there.1, after.before there.0 (end - 1) there.1)
      ];
    }

-- what leaves first keeps its round
kept_places : (passes : Bool) (commands : List Command) (begun rounds : List (Option ℕ)) (steps : List Step) (start x : ℕ) → HaveLeft passes commands begun rounds steps start → length begun ≡ length commands → placed_at begun x ≤ placed_at rounds x
unfolding placed_at
kept_places passes commands begun rounds steps start x left same =
    count_along (has_round x) (has_round x) begun rounds (left.one_each ∙ sym same)
    (λ k d e h yes.
    let there : get_or begun k None ≡ Some x = get_or_default begun k None d h ∙ has_round_true x (get_or begun k d) yes in
    let now : get_or rounds k e ≡ Some x = get_or_default rounds k e None (omega (arith, left.one_each)) ∙ left.kept.0 k x there in
    ap (has_round x) now ∙ eq-eqb x x refl)

-- what leaves first, passing over what is late, and then what was passed over
pub record IsBoth (commands : List Command) (none on_time rounds : List (Option ℕ)) (steps : List Step) (end : ℕ) (all : List ℕ) : Type 0 where
  pub nothing : (k : ℕ) → get_or none k None ≡ None
  pub first : HaveLeft true commands none on_time steps 0
  pub after : IsAfter on_time end
  pub then : HaveLeft false commands on_time rounds steps end
  pub settled : IsSettled rounds all

-- a command that is on time has its round, by its due round
on_time_round : (commands : List Command) (none on_time rounds : List (Option ℕ)) (steps : List Step) (end : ℕ) (all : List ℕ) (k x : ℕ) → IsBoth commands none on_time rounds steps end all → get_or on_time k None ≡ Some x → (k < length commands) × (get_or all k 0 ≡ x) × (x < end)
on_time_round commands none on_time rounds steps end all k x both there =
    let within : k < length commands =
    elim (cases_lt k (length on_time)) [
      | inl low ↦ omega (arith, both.first.one_each)
      | inr past ↦ let no_round : get_or on_time k None ≡ None = get_or_past on_time k None past in absurd (cc)
    ] in
    let kept : get_or rounds k None ≡ Some x = both.then.kept.0 k x there in
    let at : get_or rounds k None ≡ Some (get_or all k 0) = both.settled.at k (omega (arith, both.then.one_each)) in
    let same : get_or all k 0 ≡ x = (cc) in
    (within, same, both.after.before k x there)

on_time_due : (commands : List Command) (none on_time rounds : List (Option ℕ)) (steps : List Step) (end : ℕ) (all : List ℕ) (k x : ℕ) (d : Command) → IsBoth commands none on_time rounds steps end all → get_or on_time k None ≡ Some x → x ≤ (get_or commands k d).due
on_time_due commands none on_time rounds steps end all k x d both there =
    elim (both.first.kept.1 k x d there) [
      | inl before ↦ let nothing : get_or none k None ≡ None = both.nothing k in absurd (cc)
      | inr new ↦ new.1 refl
    ]

-- what runs before the end is on time
early_on_time : (commands : List Command) (none on_time rounds : List (Option ℕ)) (steps : List Step) (end : ℕ) (all : List ℕ) (k : ℕ) → IsBoth commands none on_time rounds steps end all → k < length commands → get_or all k 0 < end → get_or on_time k None ≡ Some (get_or all k 0)
early_on_time commands none on_time rounds steps end all k both within early =
    elim (both.then.kept.1 k (get_or all k 0) no_command (both.settled.at k (omega (arith, both.then.one_each)))) [
      | inl before ↦ before
      | inr new ↦ absurd (omega (arith, new.0))
    ]

-- a command that could still be on time and runs later could run
delayed_could : (commands : List Command) (none on_time rounds : List (Option ℕ)) (steps : List Step) (end : ℕ) (all : List ℕ) (x k : ℕ) (d : Command) → IsBoth commands none on_time rounds steps end all → k < length commands → (get_or commands k d).release ≤ x → x ≤ (get_or commands k d).due → ((y : ℕ) → get_or on_time k None ≡ Some y → x < y) → placed_at on_time x ≡ depth_at steps x
delayed_could commands none on_time rounds steps end all x k d both within released in_time later =
    both.first.full x k d (omega arith) record { in_list = within; released = released; in_time = λ late. in_time; later = later }

-- so its round lies before the end
full_early : (commands : List Command) (none on_time rounds : List (Option ℕ)) (steps : List Step) (end : ℕ) (all : List ℕ) (x : ℕ) → IsBoth commands none on_time rounds steps end all → placed_at on_time x ≡ depth_at steps x → x < end
full_early commands none on_time rounds steps end all x both full =
    elim (cases_lt x end) [
      | inl low ↦ low
      | inr past ↦
          let empty : placed_at on_time x ≡ 0 = none_placed on_time x (λ p there. absurd (omega (arith, both.after.before p x there))) in
          absurd (omega (arith, full, both.first.some x))
    ]

on_time_until : (commands : List Command) (none on_time rounds : List (Option ℕ)) (steps : List Step) (end : ℕ) (all : List ℕ) → IsBoth commands none on_time rounds steps end all → IsOnTimeUntil commands all end
on_time_until commands none on_time rounds steps end all both =
    record {
      on_time = λ k d within early. on_time_due commands none on_time rounds steps end all k (get_or all k 0) d both (early_on_time commands none on_time rounds steps end all k both within early);
      late = λ k d within past.
          elim (cases_lt (get_or commands k d).due (get_or all k 0)) [
            | inl over ↦ over
            | inr by_then ↦
                let x : ℕ = get_or all k 0 in
                let released : (get_or commands k d).release ≤ x = both.then.released k x d (both.settled.at k (omega (arith, both.then.one_each))) in
                let full : placed_at on_time x ≡ depth_at steps x =
                delayed_could commands none on_time rounds steps end all x k d both within released by_then
                (λ y there.
                let known = on_time_round commands none on_time rounds steps end all k y both there in
                absurd (omega (arith, known.1, known.2))) in
                absurd (omega (arith, full_early commands none on_time rounds steps end all x both full))
          ];
      last = elim both.after.last [
        | inl nothing ↦ inl nothing
        | inr there ↦
            let known = on_time_round commands none on_time rounds steps end all there.0 (end - 1) both there.1 in
            inr (there.0, known.0, omega (arith, known.1, known.2))
      ];
    }

delayed_later : (commands : List Command) (none on_time rounds : List (Option ℕ)) (steps : List Step) (end : ℕ) (all : List ℕ) (x k : ℕ) → IsBoth commands none on_time rounds steps end all → x < get_or all k 0 → (y : ℕ) → get_or on_time k None ≡ Some y → x < y
delayed_later commands none on_time rounds steps end all x k both later y there =
    omega (arith, (on_time_round commands none on_time rounds steps end all k y both there).1)

pub on_time_first : (commands : List Command) (none on_time rounds : List (Option ℕ)) (steps : List Step) (end : ℕ) (all : List ℕ) → IsBoth commands none on_time rounds steps end all → IsOnTimeFirst commands all steps
on_time_first commands none on_time rounds steps end all both =
    let rest_could : (x k : ℕ) (d : Command) → IsLeftOver commands all end x k d → CouldRun false commands rounds x k d =
    λ x k d over.
    could_run false commands rounds all x k d both.then.one_each both.settled over.in_list over.released (λ (late : IsTrue false). absurd (cc)) over.later in
    let full : (x k : ℕ) (d : Command) → IsDelayed commands all x k d → placed_at on_time x ≡ depth_at steps x =
    λ x k d delayed.
    delayed_could commands none on_time rounds steps end all x k d both delayed.in_list delayed.released delayed.in_time (delayed_later commands none on_time rounds steps end all x k both delayed.later) in
    record {
      end = end;
      until = on_time_until commands none on_time rounds steps end all both;
      full = λ x k d delayed.
          omega (
            arith,
            full x k d delayed,
            kept_places false commands on_time rounds steps end x both.then both.first.one_each,
            both.then.within x,
            both.settled.count x,
          );
      due_first = λ x k p d delayed within at.
          let early : x < end = full_early commands none on_time rounds steps end all x both (full x k d delayed) in
          let there : get_or on_time p None ≡ Some x = early_on_time commands none on_time rounds steps end all p both within (omega arith) ∙ ap (λ n. Some n) at in (
            on_time_due commands none on_time rounds steps end all p x d both there,
            both.first.due_first x k p d (omega arith) record {
              in_list = delayed.in_list;
              released = delayed.released;
              in_time = λ late. delayed.in_time;
              later = delayed_later commands none on_time rounds steps end all x k both delayed.later;
            } there,
          );
      rest_full = λ x k d over. sym (both.settled.count x) ∙ both.then.full x k d over.past (rest_could x k d over);
      rest_first = λ x k p d over within at.
          both.then.due_first x k p d over.past (rest_could x k d over) (both.settled.at p (omega (arith, both.then.one_each)) ∙ ap (λ n. Some n) at);
    }

-- the rounds once each command has one
pub record IsOnTimeFinished (commands : List Command) (rounds : List ℕ) (steps : List Step) : Type 0 where
  pub legal : IsLegal commands rounds steps
  pub in_range : RoundsInRange rounds
  pub first : IsOnTimeFirst commands rounds steps

pub on_time_finished : (commands : List Command) (none on_time rounds : List (Option ℕ)) (steps : List Step) (end : ℕ) (all : List ℕ) → none ≡ replicate (length commands) None → HaveLeft true commands none on_time steps 0 → IsAfter on_time end → HaveLeft false commands on_time rounds steps end → length commands ≤ 1000000 → map (λ x. Some x) all ≡ rounds → IsOnTimeFinished commands all steps
on_time_finished commands none on_time rounds steps end all nones first after rest few is_all =
    let settled : IsSettled rounds all = settled_all rounds all is_all in
    record {
      legal = legal_left false commands on_time rounds steps end all rest settled;
      in_range = in_range_left false commands on_time rounds steps end all rest few settled;
      first = on_time_first commands none on_time rounds steps end all
          record { nothing = no_round commands none nones; first = first; after = after; then = rest; settled = settled };
    }
