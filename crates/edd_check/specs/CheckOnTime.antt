use Rattle.std.specs.Prelude.{take, ◌≡◌, ◌≢◌, ◌<◌, ℕ, List, length, Result, Ok, Err, IsOkUnless, [], ◌∷◌}
use Rattle.edd_commands.specs.declared.Command.{Command}
use Rattle.edd_check.specs.declared.Window.{Window}
use Rattle.edd_check.specs.declared.on_time.Bound.{Bound}
use Rattle.edd_check.specs.declared.on_time.OnTimeFault.{OnTimeFault}
use Rattle.edd_check.specs.declared.on_time.OnTimeFault.TheVariants.{Length, BeforeRelease, Memory, OverDepth, WrongMet, Windows, Loose}
use Rattle.edd_commands.specs.declared.steps.Step.{Step}
use Rattle.edd_check.specs.Rules.{round_rules, IsLeastOverDeep, IsFirstEarly}
use Rattle.edd_commands.specs.Schedule.{IsLegal}
use Rattle.edd_check.specs.OnTime.{number_on_time, carried_by, outside_of, bound_of, IsCover, IsFirstAstray}
use Rattle.edd_commands.specs.Order.{BreaksFirst, AreKept}

-- the rules of a claim of a greatest number, in the order in which they are looked at; the rounds are legal by rules of their own
abbrev pub on_time_rules : List Command → List Step → List ℕ → ℕ → List Window → List (Type 0)
on_time_rules commands steps rounds on_time cover =
    IsLegal commands rounds steps
    ∷ (number_on_time commands rounds ≡ on_time)
    ∷ IsCover cover
    ∷ (bound_of commands steps cover ≡ on_time) ∷ []

-- the two parts of the cover's bound
abbrev pub IsCoverBound : List Command → List Step → List Window → Bound → Type 0
IsCoverBound commands steps cover b = (b.carries ≡ carried_by steps cover) × (b.outside ≡ outside_of commands cover)

-- what each answer of the check of a greatest number says of the claim; all faults but Memory exclude one another
abbrev pub IsOnTimeAnswer : List Command → List Step → List ℕ → ℕ → List Window → Result Bound OnTimeFault → Type 0
IsOnTimeAnswer commands steps rounds on_time cover (Ok b) =
    IsLegal commands rounds steps × (number_on_time commands rounds ≡ on_time) × IsCover cover × (bound_of commands steps cover ≡ on_time) × IsCoverBound commands steps cover b
IsOnTimeAnswer commands steps rounds on_time cover (Err Length) = BreaksFirst (round_rules commands steps rounds) 0 (length rounds ≢ length commands)
IsOnTimeAnswer commands steps rounds on_time cover (Err (BeforeRelease id)) = BreaksFirst (round_rules commands steps rounds) 1 (IsFirstEarly commands rounds id)
IsOnTimeAnswer commands steps rounds on_time cover (Err Memory) = AreKept (take 2 (round_rules commands steps rounds))
IsOnTimeAnswer commands steps rounds on_time cover (Err (OverDepth x)) = BreaksFirst (round_rules commands steps rounds) 2 (IsLeastOverDeep rounds steps x)
IsOnTimeAnswer commands steps rounds on_time cover (Err (WrongMet own)) =
    BreaksFirst (on_time_rules commands steps rounds on_time cover) 1 ((number_on_time commands rounds ≡ own) × (own ≢ on_time))
IsOnTimeAnswer commands steps rounds on_time cover (Err (Windows p)) =
    BreaksFirst (on_time_rules commands steps rounds on_time cover) 2 (IsFirstAstray cover p)
IsOnTimeAnswer commands steps rounds on_time cover (Err (Loose bound)) =
    BreaksFirst (on_time_rules commands steps rounds on_time cover) 3 ((bound_of commands steps cover ≡ bound) × (on_time < bound))

-- a claim that is good is accepted, unless memory ran out
abbrev pub AcceptsOnTimeClaim : List Command → List Step → List ℕ → ℕ → List Window → Result Bound OnTimeFault → Type 0
AcceptsOnTimeClaim commands steps rounds on_time cover told =
    IsLegal commands rounds steps → number_on_time commands rounds ≡ on_time → IsCover cover → bound_of commands steps cover ≡ on_time
    → IsOkUnless told Memory

-- the claim passes the check: whatever it answers is Ok, unless memory ran out
abbrev pub PassesOnTimeCheck : List Command → List Step → List ℕ → ℕ → List Window → Type 0
PassesOnTimeCheck commands steps rounds on_time cover =
    (told : Result Bound OnTimeFault) → IsOnTimeAnswer commands steps rounds on_time cover told → IsOkUnless told Memory
