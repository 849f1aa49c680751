-- Numbers and times as texts.
use Rattle.std.specs.Prelude.{◌-◌, ◌*◌, ◌^◌, ◌==◌, ◌&&◌, ◌∷◌, ℕ, Bool, true, false, not, length, take, drop, nat_lt, Option, Some, None, codes, option_and_then, if◌then◌else◌}
use Rattle.std.specs.Option.{option_or}
use Rattle.std.specs.Str.{bytes_eq}
use Rattle.std.specs.Str.Parse.{digits_value, without_leading_plus}
use Rattle.clap.specs.ValueTests.{accepts}
use Rattle.clap.specs.declared.builder.value_parser.ValueParser.TheVariants as vp
use Rattle.clap.specs.Words.{Text}

-- the greatest number of 64 bits
abbrev pub MAX_NUMBER : ℕ
MAX_NUMBER = 2 ^ 64 - 1

-- a number in decimal digits, up to the most
abbrev pub number_in : ℕ → Text → Option ℕ
number_in most text = if accepts false (vp.Unsigned 0 most) text then Some (digits_value 10 (without_leading_plus text)) else None

-- whether a text begins with no sign, and with no zero that more follows; such a number in a time or a list
abbrev pub is_plain : Text → Bool
is_plain (first ∷ next ∷ rest) = not (first == 43) && not (first == 48)
is_plain text = true

abbrev pub plain_number_in : ℕ → Text → Option ℕ
plain_number_in most text = if is_plain text then number_in most text else None

-- whether a text ends with a unit, and what stands before that
abbrev pub ends_with : Text → Text → Bool
ends_with unit text = bytes_eq (drop (length text - length unit) text) unit

abbrev pub before_unit : Text → Text → Text
before_unit unit text = take (length text - length unit) text

-- `n` times these nanoseconds, where they fit 64 bits
abbrev pub scaled : ℕ → ℕ → Option ℕ
scaled nanoseconds n = if nat_lt (n * nanoseconds) (2 ^ 64) then Some (n * nanoseconds) else None

-- the nanoseconds of a number with a unit that has `nanoseconds`
abbrev pub in_unit : Text → ℕ → Text → Option ℕ
in_unit unit nanoseconds text =
    if ends_with unit text then option_and_then (scaled nanoseconds) (plain_number_in MAX_NUMBER (before_unit unit text)) else None

-- a time: a number and its unit
abbrev pub time_of : Text → Option ℕ
time_of text =
    option_or (option_or (option_or (in_unit (codes "ns") 1 text) (in_unit (codes "us") 1_000 text)) (in_unit (codes "ms") 1_000_000 text)) (in_unit (codes "s") 1_000_000_000 text)
