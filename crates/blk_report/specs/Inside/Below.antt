-- Numbers of a list that are below a bound, by halves.
use Rattle.std.specs.Prelude.{ℕ, ◌≡◌, ◌≤◌, ◌+◌, ◌-◌, ◌++◌, List, length, map, filter, take, count_by, nat_le, nat_lt, cond, slice_index}
use Rattle.blk_report.specs.declared.below.CountAsk.{CountAsk}

-- of the first n numbers how many are below the bound
unfoldable pub number_below : List ℕ → ℕ → ℕ → ℕ
number_below numbers bound n = count_by (λ x. nat_lt x bound) (take n numbers)

-- a count for each place and one for the end: how many numbers before it are below the pivot
pub record AreBelow (numbers : List ℕ) (pivot : ℕ) (counts : List ℕ) : Type 0 where
  pub each : length counts ≡ length numbers + 1
  pub at : (i : ℕ) → i ≤ length numbers → slice_index counts i ≡ number_below numbers pivot i

-- the numbers below the pivot, and behind them the others less the pivot
unfoldable pub halves : ℕ → List ℕ → List ℕ
halves pivot numbers = filter (λ x. nat_lt x pivot) numbers ++ map (λ x. x - pivot) (filter (λ x. nat_le pivot x) numbers)

-- what is left to ask of the halves: below the pivot where the bound is, else among the others, with those below the pivot counted
unfoldable pub half_of : List ℕ → ℕ → CountAsk → CountAsk
half_of numbers pivot a =
    cond (nat_lt a.bound pivot)
    (record { start = number_below numbers pivot a.start; end = number_below numbers pivot a.end; bound = a.bound; count = a.count })
    (record {
      start = number_below numbers pivot (length numbers) + (a.start - number_below numbers pivot a.start);
      end = number_below numbers pivot (length numbers) + (a.end - number_below numbers pivot a.end);
      bound = a.bound - pivot;
      count = a.count + (number_below numbers pivot a.end - number_below numbers pivot a.start);
    })

-- what was counted, and how many of the numbers at the asked places are below the bound
unfoldable pub answer_of : List ℕ → CountAsk → ℕ
answer_of numbers a = a.count + (number_below numbers a.bound a.end - number_below numbers a.bound a.start)

-- it asks of places of the list, for a bound within the limit, and its answer is no more than there are numbers
pub record IsAskWithin (numbers : List ℕ) (limit : ℕ) (a : CountAsk) : Type 0 where
  pub forward : a.start ≤ a.end
  pub within : a.end ≤ length numbers
  pub bounded : a.bound ≤ limit
  pub small : answer_of numbers a ≤ length numbers
