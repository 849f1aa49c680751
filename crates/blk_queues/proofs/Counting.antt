-- How many hardware queues entries name.
use Rattle.std.proofs.Common.{◌≡◌, ℕ, ◌<◌, ◌≤◌, inl, inr, List, length, get_or, arith, subst}
use Rattle.std.specs.Prelude.{All, Any, Contains}
use Rattle.std.proofs.lemmas.Bool.{cases_lt}
use Rattle.std.proofs.lemmas.List.Elements.{All-contains, Contains-get_or}
use Rattle.blk_bio.specs.declared.limits.TheConstants.{MAX_SOFT_QUEUES}
use Rattle.blk_queues.specs.Maps.{IsLeastUnserved}
use Rattle.blk_queues.specs.Inside.{IsCountedMap}

-- where no entry is above the least number that is none, an entry is below that number
below_count : (entries : List ℕ) (count : ℕ) → count ≤ 16 → All (λ hw. hw ≤ 15) entries → (count < 16 → ¬ Contains entries count) → All (λ hw. hw ≤ count) entries → (hw : ℕ) → Contains entries hw → hw < count
below_count entries count few in_range unnamed most hw named =
    let at_most : hw ≤ count = All-contains (λ h. h ≤ count) entries hw most named in
    let small : hw ≤ 15 = All-contains (λ h. h ≤ 15) entries hw in_range named in
    elim (cases_lt hw count) [
      | inl less ↦ less
      | inr above ↦
          let same : hw ≡ count = omega arith in
          let short : count < 16 = omega arith in
          absurd (unnamed short (subst (Contains entries) same named))
    ]

-- the least number that is no entry is the count, where no entry is above it
pub counted : (entries : List ℕ) (count : ℕ) → 0 < length entries → length entries ≤ MAX_SOFT_QUEUES → count ≤ 16 → All (λ hw. hw ≤ 15) entries → ((hw : ℕ) → hw < count → Contains entries hw) → (count < 16 → ¬ Contains entries count) → All (λ hw. hw ≤ count) entries → IsCountedMap entries count
counted entries count some few_entries few in_range named unnamed most =
    let below : (hw : ℕ) → Contains entries hw → hw < count = below_count entries count few in_range unnamed most in
    let first : get_or entries 0 0 < count = below (get_or entries 0 0) (Contains-get_or entries 0 0 some) in
    record {
      is_map = record {
        some_entry = some;
        few_entries = few_entries;
        in_range = in_range;
        served = λ greater hw is less. let top : greater < count = below greater is in named hw (omega arith);
      };
      is_count = λ hw. (below hw, named hw);
      some = omega arith;
      few = few;
    }

-- the same, of entries that were read three times
pub made : (entries first second third : List ℕ) (count : ℕ) → first ≡ entries → second ≡ entries → third ≡ entries → 0 < length entries → length entries ≤ MAX_SOFT_QUEUES → count ≤ 16 → All (λ hw. hw ≤ 15) first → ((hw : ℕ) → hw < count → Contains second hw) → (count < 16 → ¬ Contains second count) → All (λ hw. hw ≤ count) third → IsCountedMap entries count
made entries first second third count e f h some few_entries few in_range named unnamed most =
    counted entries count some few_entries few
    (subst (λ xs. All (λ hw. hw ≤ 15) xs) e in_range)
    (subst (λ xs. (hw : ℕ) → hw < count → Contains xs hw) f named)
    (subst (λ xs. count < 16 → ¬ Contains xs count) f unnamed)
    (subst (λ xs. All (λ hw. hw ≤ count) xs) h most)

-- where an entry is above the least number that is none, that number is unserved
least_unserved : (entries : List ℕ) (count : ℕ) → All (λ hw. hw ≤ 15) entries → ((hw : ℕ) → hw < count → Contains entries hw) → (count < 16 → ¬ Contains entries count) → Any (λ hw. count < hw) entries → IsLeastUnserved entries count
least_unserved entries count in_range named unnamed above =
    let small : above.1 ≤ 15 = subst (λ hw. hw ≤ 15) above.3 (in_range above.0 above.1 above.2) in
    let less : count < above.1 = above.4 in
    let short : count < 16 = omega arith in
    record { below = above; unserved = unnamed short; least = named }

-- the same, of entries that were read three times
pub unserved : (entries first second third : List ℕ) (count : ℕ) → first ≡ entries → second ≡ entries → third ≡ entries → All (λ hw. hw ≤ 15) first → ((hw : ℕ) → hw < count → Contains second hw) → (count < 16 → ¬ Contains second count) → Any (λ hw. count < hw) third → IsLeastUnserved entries count
unserved entries first second third count e f h in_range named unnamed above =
    least_unserved entries count
    (subst (λ xs. All (λ hw. hw ≤ 15) xs) e in_range)
    (subst (λ xs. (hw : ℕ) → hw < count → Contains xs hw) f named)
    (subst (λ xs. count < 16 → ¬ Contains xs count) f unnamed)
    (subst (λ xs. Any (λ hw. count < hw) xs) h above)
