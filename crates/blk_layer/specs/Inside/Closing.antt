-- How many times an element stands in a list, and what is gathered from a trace.
use Rattle.std.specs.Prelude.{ℕ, ◌≡◌, ◌<◌, ◌≤◌, ◌+◌, Bool, List, drop, count_by, slice_get, Some, ◌≢◌, Contains, true}
use Rattle.edd_commands.specs.declared.Command.{Command}
use Rattle.blk_bio.specs.Bios.{Bio}
use Rattle.blk_layer.specs.Closing.{is_bio_of, is_command}
use Rattle.std.specs.List.{flat_map}
use Rattle.blk_bio.specs.declared.bio.BioId.{BioId}
use Rattle.blk_layer.specs.Seats.{SubmitterSeat, AreOwn}
use Rattle.blk_trace.specs.Events.{AreOnce}

-- the test holds just of one and the same
pub record IsExact {X : Type 0} (same : X → X → Bool) : Type 0 where
  pub only : (x y : X) → same x y ≡ true → x ≡ y
  pub self : (x : X) → same x x ≡ true

-- how many times an element stands in a list
unfoldable pub times : {X : Type 0} → (X → X → Bool) → X → List X → ℕ
times same x xs = count_by (same x) xs

-- up to these places no element stands more times in the list than in the other one, and each that is still to come as many times
abbrev pub AreAbreast : {X : Type 0} → (X → X → Bool) → List X → List X → ℕ → ℕ → Type 0
AreAbreast {X} same xs other i k = (x : X) → (times same x xs + times same x (drop k other) ≤ times same x other + times same x (drop i xs))
    × (0 < times same x (drop i xs) → times same x other + times same x (drop i xs) ≤ times same x xs + times same x (drop k other))

-- each element of the list stands in the other one at least as many times
abbrev pub HasEach : {X : Type 0} → (X → X → Bool) → List X → List X → Type 0
HasEach {X} same other xs = (x : X) → times same x xs ≤ times same x other

-- the element stands more times in the one list than in the other
abbrev pub IsExtra : {X : Type 0} → (X → X → Bool) → List X → List X → X → Type 0
IsExtra same xs other x = Contains xs x × (times same x other < times same x xs)

-- what a submitter accepted is its own, and no two of one id
abbrev pub IsAccountOf : SubmitterSeat → Type 0
IsAccountOf s = AreOwn s.number s.accepted × AreOnce s.accepted

-- no two of the submitters have one number
abbrev pub AllDiffer : List SubmitterSeat → Type 0
AllDiffer submitters = (j k : ℕ) (s t : SubmitterSeat) → slice_get submitters j ≡ Some s → slice_get submitters k ≡ Some t → s.number ≡ t.number → j ≡ k

-- a bio of this id stands another number of times in the one list than in the other
abbrev pub DiffersIn : List Bio → List Bio → BioId → Type 0
DiffersIn accepted stored id = (bio : Bio) × (bio.id ≡ id) × (count_by (is_bio_of bio) accepted ≢ count_by (is_bio_of bio) stored)

-- the same of a command, of those that are done
abbrev pub DiffersInCommand : List Command → List Command → Command → Type 0
DiffersInCommand done ran c = Contains done c × (count_by (is_command c) ran ≢ count_by (is_command c) done)

-- all that is left of some lists
abbrev pub all_left : {X : Type 0} → List (List X) → List X
all_left lists = flat_map (λ l. l) lists
