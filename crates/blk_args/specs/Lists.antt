-- Lists of numbers and of times as texts, with commas between.
use Rattle.std.specs.Prelude.{ℕ, Bool, true, not, ◌&&◌, ◌==◌, ◌∷◌, List, [], length, nat_le, Option, Some, None, option_and_then, option_map, if◌then◌else◌}
use Rattle.std.specs.List.{list_any}
use Rattle.clap.specs.Words.{Text}
use Rattle.blk_schedulers.specs.Lists.{parts}
use Rattle.blk_schedulers.specs.declared.given.TheConstants.{MAX_LISTED}
use Rattle.blk_args.specs.Times.{plain_number_in, time_of}
use Rattle.blk_args.specs.declared.lists.ListItems.{ListItems}
use Rattle.blk_args.specs.declared.lists.ListItems.TheVariants as part

-- a part of a list: a number up to the most, or a time
abbrev pub part_in : ListItems → Text → Option ℕ
part_in (part.UpTo most) text = plain_number_in most text
part_in part.Times text = time_of text

-- the numbers of these texts, where each has one
abbrev pub numbers_in : (Text → Option ℕ) → List Text → Option (List ℕ)
numbers_in read [] = Some []
numbers_in read (text ∷ texts) = option_and_then (λ n. option_map (λ ns. n ∷ ns) (numbers_in read texts)) (read text)

-- each number stands once
abbrev pub are_distinct : List ℕ → Bool
are_distinct [] = true
are_distinct (n ∷ ns) = not (list_any (λ k. k == n) ns) && are_distinct ns

-- a list has at most 64 numbers, each once
abbrev pub is_listed : List ℕ → Bool
is_listed ns = nat_le (length ns) MAX_LISTED && are_distinct ns

abbrev pub if_listed : List ℕ → Option (List ℕ)
if_listed ns = if is_listed ns then Some ns else None

-- the numbers of a list; it has one at least, since a text has a part at least
abbrev pub list_by : (Text → Option ℕ) → Text → Option (List ℕ)
list_by read text = option_and_then if_listed (numbers_in read (parts text))

-- of numbers up to the most, and of times
abbrev pub list_of : ℕ → Text → Option (List ℕ)
list_of most text = list_by (part_in (part.UpTo most)) text

abbrev pub times_listed : Text → Option (List ℕ)
times_listed text = list_by (part_in part.Times) text
