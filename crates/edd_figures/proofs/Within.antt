-- The latenesses of commands within the limits.
use Rattle.std.proofs.Common.{◌≡◌, ◌<◌, ◌^◌, ◌≤ℤ◌, ℕ, ℤ, List, pos, ◌-ℤ◌, get_or, length, sym, subst, arith, FitsSigned, w64}
use Rattle.std.proofs.lemmas.Int.{ints}
use Rattle.edd_commands.specs.declared.Command.{Command}
use Rattle.edd_commands.specs.Schedule.{IsGreatestLateness, CommandsInRange, RoundsInRange}
use Rattle.edd_oracle.specs.Input.{IsTaken}

-- commands that the oracle takes are within the limits of the check
pub commands_in : (commands : List Command) → IsTaken commands → CommandsInRange commands
commands_in commands t = λ k d lt. (let h = (t.in_range k d lt).0 in omega (arith, h), (t.in_range k d lt).1)

-- the greatest lateness of commands and rounds within the limits
pub late_within : (commands : List Command) (rounds : List ℕ) (late : ℤ) → CommandsInRange commands → RoundsInRange rounds → length rounds ≡ length commands → IsGreatestLateness commands rounds late → ((pos 0 -ℤ pos (2 ^ 41)) ≤ℤ late) × (late ≤ℤ pos (2 ^ 41))
late_within commands rounds late cs rs eq g =
    let e : Command = record { id = 0; release = 0; due = 0 } in
    let due : ℕ = (get_or commands g.place e).due in
    let round : ℕ = get_or rounds g.place 0 in
    let due_in : due < 2 ^ 41 = (cs g.place e g.in_list).1 in
    let round_in : round < 2 ^ 41 = rs g.place 0 (subst (λ n. g.place < n) (sym eq) g.in_list) in
    let is : pos round -ℤ pos due ≡ late = g.reached e in
    subst (λ z. ((pos 0 -ℤ pos (2 ^ 41)) ≤ℤ z) × (z ≤ℤ pos (2 ^ 41))) is (omega (arith, ints), omega (arith, ints))

-- the difference of two of them is a number of 64 bits
pub lost_fits : (commands : List Command) (rounds rounds' : List ℕ) (late late' : ℤ) → CommandsInRange commands → RoundsInRange rounds → RoundsInRange rounds' → length rounds ≡ length commands → length rounds' ≡ length commands → IsGreatestLateness commands rounds late → IsGreatestLateness commands rounds' late' → FitsSigned w64 (late -ℤ late')
lost_fits commands rounds rounds' late late' cs rs rs' eq eq' g g' =
    let one = late_within commands rounds late cs rs eq g in
    let other = late_within commands rounds' late' cs rs' eq' g' in
    omega (arith, ints, one, other)
