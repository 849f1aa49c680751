-- The words of a line that a recorder prints.
use Rattle.std.specs.Prelude.{ℕ, ◌≡◌, ◌≤◌, ◌<◌, true, get_or, ◌+◌, ◌-◌, ◌*◌, ◌^◌, ◌==◌, ◌&&◌, ◌||◌, not, if◌then◌else◌, nat_lt, nat_le, Bool, false, List, [], ◌∷◌, length, map, take, drop, Option, None, Some, option_map}
use Rattle.std.specs.List.{slice_split, filter, position}
use denote.Ref.{Bor}

-- bytes, and the bytes that references to them point to
abbrev pub Word : Type 0
Word = List ℕ

abbrev pub word_texts : List (Bor Word) → List Word
word_texts ws = map (λ w. w.now) ws

-- space, tab, carriage return
abbrev pub is_blank : ℕ → Bool
is_blank c = (c == 32) || (c == 9) || (c == 13)

-- those that aren't empty; what stands between blanks; and what stands between commas
abbrev pub not_empty : List Word → List Word
not_empty ws = filter (λ w. not (length w == 0)) ws

abbrev pub words : List ℕ → List Word
words line = not_empty (slice_split is_blank line)

-- the line of a text from a place up to its end, which is its line feed or the end of the text
abbrev pub line_between : List ℕ → ℕ → ℕ → List ℕ
line_between text from end = drop from (take end text)

pub record IsLineEnd (text : List ℕ) (from end : ℕ) : Type 0 where
  pub behind : from ≤ end
  pub within : end ≤ length text
  pub plain : (k : ℕ) → from ≤ k → k < end → (get_or text k 0 == 10) ≡ false
  pub fed : end < length text → (get_or text end 0 == 10) ≡ true

abbrev pub fields : Word → List Word
fields row = slice_split (λ c. c == 44) row

abbrev pub begins_with : ℕ → Word → Bool
begins_with c [] = false
begins_with c (x ∷ xs) = x == c

-- what stands before the first such byte, or all; and behind it, or nothing
abbrev pub until : Option ℕ → Word → Word
until None w = w
until (Some k) w = take k w

abbrev pub past : Option ℕ → Word → Word
past None w = []
past (Some k) w = drop (k + 1) w

abbrev pub before_byte : ℕ → Word → Word
before_byte c w = until (position (λ x. x == c) w) w

abbrev pub behind_byte : ℕ → Word → Word
behind_byte c w = past (position (λ x. x == c) w) w

-- what stands behind the last such byte, or all
abbrev pub behind_last_of : ℕ → Word → Word → Word
behind_last_of c best [] = best
behind_last_of c best (x ∷ xs) = behind_last_of c (if x == c then xs else best) xs

abbrev pub behind_last : ℕ → Word → Word
behind_last c w = behind_last_of c w w

-- a number in decimal digits that fits 64 bits, as Horner has it
abbrev pub is_digit : ℕ → Bool
is_digit c = nat_le 48 c && nat_le c 57

abbrev pub number_from : ℕ → Word → Option ℕ
number_from n [] = Some n
number_from n (c ∷ cs) = if is_digit c && nat_lt (n * 10 + (c - 48)) (2 ^ 64) then number_from (n * 10 + (c - 48)) cs else None

abbrev pub number : Word → Option ℕ
number [] = None
number (c ∷ cs) = number_from 0 (c ∷ cs)

-- the nanoseconds of a second: nine digits, or six of microseconds
abbrev pub nanoseconds : Word → Option ℕ
nanoseconds f = if length f == 9 then number f else (if length f == 6 then option_map (λ n. n * 1000) (number f) else None)
