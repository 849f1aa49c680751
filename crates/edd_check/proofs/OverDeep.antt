-- A list in order, of which the first run of equal rounds that is too long is looked for.
use Rattle.std.proofs.Common.{◌≡◌, ◌<◌, ◌≤◌, ℕ, ◌+◌, cond, List, length, get_or, ◌==◌, inl, inr, arith, refl, ap, sym, ◌∙◌, ◌≢◌}
use Rattle.std.specs.List.Sorted.{IsPermutation}
use Rattle.std.proofs.lemmas.List.Sorted.{sum_by-IsPermutation}
use Rattle.std.proofs.lemmas.Bool.{cases_lt}
use Rattle.edd_commands.specs.Schedule.{places_at}
use Rattle.edd_check.specs.Rules.{IsLeastOverDeep}
use Rattle.edd_commands.specs.declared.steps.Step.{Step}
use Rattle.edd_commands.specs.Capacity.{depth_at}
use Rattle.edd_commands.proofs.Counting.{Rises, run_count, run_of}

-- a copy in order whose ends of a run are equal has a round of more than m places, and the first such run gives the least
pub over_deep_here : (rounds copy sorted : List ℕ) (steps : List Step) (first last : ℕ) → copy ≡ rounds → IsPermutation copy sorted → Rises sorted → ((j e : ℕ) → e < last → e ≡ j + depth_at steps (get_or sorted e 0) → get_or sorted j 0 ≢ get_or sorted e 0) → last < length sorted → last ≡ first + depth_at steps (get_or sorted last 0) → get_or sorted first 0 ≡ get_or sorted last 0 → IsLeastOverDeep rounds steps (get_or sorted last 0)
unfolding places_at
over_deep_here rounds copy sorted steps first last copied moved rises before within apart same =
    let count : (x : ℕ) → places_at sorted x ≡ places_at rounds x =
    λ x. sum_by-IsPermutation (λ y. cond (y == x) 1 0) copy sorted moved ∙ ap (λ xs. places_at xs x) copied in
    record {
      over = omega (arith, count (get_or sorted last 0), run_count (get_or sorted last 0) sorted rises first last (omega arith) within same refl);
      least = λ y low.
          elim (cases_lt (depth_at steps y) (places_at rounds y)) [
            | inl more ↦
                let run = run_of y sorted rises (depth_at steps y) (omega (arith, count y)) in
                elim (cases_lt run.1 last) [
                  | inl sooner ↦ absurd (before run.0 run.1 sooner (run.2 ∙ ap (λ r. run.0 + depth_at steps r) (sym run.5)) (run.4 ∙ sym run.5))
                  | inr later ↦ absurd (omega (arith, rises last run.1 later run.3, run.5))
                ]
            | inr most ↦ most
          ];
    }

pub none_over_deep : (rounds copy sorted : List ℕ) (steps : List Step) (last : ℕ) → copy ≡ rounds → IsPermutation copy sorted → Rises sorted → ((j e : ℕ) → e < last → e ≡ j + depth_at steps (get_or sorted e 0) → get_or sorted j 0 ≢ get_or sorted e 0) → length sorted ≤ last → (x : ℕ) → places_at rounds x ≤ depth_at steps x
unfolding places_at
none_over_deep rounds copy sorted steps last copied moved rises before past x =
    let count : places_at sorted x ≡ places_at rounds x =
    sum_by-IsPermutation (λ y. cond (y == x) 1 0) copy sorted moved ∙ ap (λ xs. places_at xs x) copied in
    elim (cases_lt (depth_at steps x) (places_at rounds x)) [
      | inl more ↦
          let run = run_of x sorted rises (depth_at steps x) (omega (arith, count)) in
          absurd (before run.0 run.1 (omega (arith, run.3)) (run.2 ∙ ap (λ r. run.0 + depth_at steps r) (sym run.5)) (run.4 ∙ sym run.5))
      | inr most ↦ most
    ]
