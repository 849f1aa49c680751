-- Certificates of what is on time, from what the oracle and the check answer.
use Rattle.std.proofs.Common.{ℕ, suc, ◌≡◌, Ok, ◌≤◌, ◌+◌, ◌-◌, ◌*◌, List, [], ◌∷◌, length, arith, subst, sum_by}
use Rattle.std.specs.Prelude.{All, Err, zip}
use Rattle.std.proofs.Math.Nat.{le-mul_of_pos_right}
use Rattle.std.proofs.lemmas.List.Sums.{count_by-le-length, sum_by-cons}
use Rattle.edd_commands.specs.declared.Command.{Command}
use Rattle.edd_check.specs.declared.Window.{Window}
use Rattle.edd_commands.specs.declared.steps.Step.{Step}
use Rattle.edd_check.specs.declared.on_time.OnTimeFault.{OnTimeFault}
use Rattle.edd_commands.specs.Capacity.{fixed}
use Rattle.edd_commands.specs.Schedule.{IsLegal}
use Rattle.edd_check.specs.OnTime.{number_on_time, is_on_time, carried_in, carried_by, bound_of, IsCover, IsMostOnTime}
use Rattle.edd_check.specs.CheckOnTime.{IsOnTimeAnswer}
use Rattle.edd_check.proofs.Covers.{length_pairs}
use Rattle.edd_commands.proofs.InForce.{carried_fixed}
use Rattle.edd_oracle.specs.OnTime.{IsMostAnswer}
use Rattle.blk_records.specs.Commands.{AreCommands}
use Rattle.blk_records.specs.OnTime.{OnTimeClaim, IsOnTimeClaim}
use Rattle.blk_cli.specs.Certificates.{IsOnTimeProved, IsRefusedOnTime}

number_most : (commands : List Command) (rounds : List ℕ) → length rounds ≡ length commands → number_on_time commands rounds ≤ length commands
unfolding number_on_time
number_most commands rounds same =
    omega (arith, count_by-le-length (λ (p : Command × ℕ). is_on_time p.0 p.1) (zip commands rounds), length_pairs commands rounds same)

product : (a b : ℕ) → 1 ≤ a → 1 ≤ b → 1 ≤ a * b
product a b h k = let more : a ≤ a * b = le-mul_of_pos_right {m = b} a k in omega (arith, more, h)

-- the rounds of a window carry some command
window_carries : (depth : ℕ) (w : Window) → 1 ≤ depth → w.from ≤ w.due → 1 ≤ carried_in (fixed depth) w
unfolding carried_in
window_carries depth w some fits =
    let e = carried_fixed depth w.from (w.due + 1 - w.from) in
    omega (arith, e, product depth (w.due + 1 - w.from) some (omega (arith, fits)))

sum_most : (depth : ℕ) (cover : List Window) → 1 ≤ depth → All (λ (w : Window). w.from ≤ w.due) cover → length cover ≤ sum_by (λ w. carried_in (fixed depth) w) cover
sum_most depth [] some fits = omega arith
sum_most depth (w ∷ cover) some fits =
    let e = sum_by-cons (λ (v : Window). carried_in (fixed depth) v) w cover in
    omega (arith, e, window_carries depth w some (fits 0 w (omega arith)), sum_most depth cover some (λ k d h. fits (suc k) d (omega (arith, h))))

-- disjoint windows are no more than what they carry
cover_most : (depth : ℕ) (cover : List Window) → 1 ≤ depth → IsCover cover → length cover ≤ carried_by (fixed depth) cover
unfolding carried_by
cover_most depth cover some is =
    sum_most depth cover some (λ k d h. (is k h).some d)

-- what the oracle answers is the claim of a certificate
pub on_time_claim_in : (depth : ℕ) (steps : List Step) (commands : List Command) (rounds : List ℕ) (on_time : ℕ) (cover : List Window) → AreCommands depth commands → steps ≡ fixed depth → IsMostAnswer commands steps rounds on_time cover
    → IsOnTimeClaim (record { depth = depth; commands = commands; rounds = rounds; on_time = on_time; cover = cover })
on_time_claim_in depth steps commands rounds on_time cover are under answer =
    let bound : bound_of commands (fixed depth) cover ≡ on_time = subst (λ s. bound_of commands s cover ≡ on_time) under answer.bound in
    let most = number_most commands rounds answer.legal.one_each in
    let few = cover_most depth cover are.0 answer.disjoint in
    record {
      depth = (are.0, are.1);
      few = are.2;
      one_each = answer.legal.one_each;
      numbers = (omega (arith, most, answer.number, are.2), omega (arith, few, bound, most, answer.number, are.2));
      cover = answer.cover_in;
      commands = are.3;
      rounds = answer.rounds_in;
    }

-- a certificate of which the check said Ok
pub on_time_proved : (claim : OnTimeClaim) (commands : List Command) (rounds : List ℕ) (cover : List Window) (steps : List Step) → commands ≡ claim.commands → rounds ≡ claim.rounds → cover ≡ claim.cover → steps ≡ fixed claim.depth
    → IsOnTimeClaim claim → IsLegal commands rounds steps × (number_on_time commands rounds ≡ claim.on_time) × IsCover cover × (bound_of commands steps cover ≡ claim.on_time) → IsMostOnTime commands steps claim.on_time → IsOnTimeProved claim
on_time_proved claim commands rounds cover steps same_commands same_rounds same_cover under is h most =
    let seen : IsMostAnswer commands steps claim.rounds claim.on_time claim.cover = record {
      legal = subst (λ r. IsLegal commands r steps) same_rounds h.0;
      number = subst (λ r. number_on_time commands r ≡ claim.on_time) same_rounds h.1;
      disjoint = subst IsCover same_cover h.2;
      bound = subst (λ v. bound_of commands steps v ≡ claim.on_time) same_cover h.3;
      most = most;
      rounds_in = is.rounds;
      cover_in = is.cover;
    } in
    subst (λ cs. IsMostAnswer cs (fixed claim.depth) claim.rounds claim.on_time claim.cover) same_commands (subst (λ s. IsMostAnswer commands s claim.rounds claim.on_time claim.cover) under seen)

-- one that it refused
pub on_time_refused : (claim : OnTimeClaim) (commands : List Command) (rounds : List ℕ) (cover : List Window) (steps : List Step) (f : OnTimeFault) → commands ≡ claim.commands → rounds ≡ claim.rounds → cover ≡ claim.cover → steps ≡ fixed claim.depth
    → IsOnTimeAnswer commands steps rounds claim.on_time cover (Err f) → IsRefusedOnTime claim f
on_time_refused claim commands rounds cover steps f same_commands same_rounds same_cover under h =
    let C : List Command → Type 0 = λ xs. IsOnTimeAnswer xs steps rounds claim.on_time cover (Err f) in
    let R : List ℕ → Type 0 = λ ys. IsOnTimeAnswer claim.commands steps ys claim.on_time cover (Err f) in
    let V : List Window → Type 0 = λ vs. IsOnTimeAnswer claim.commands steps claim.rounds claim.on_time vs (Err f) in
    let P : List Step → Type 0 = λ s. IsOnTimeAnswer claim.commands s claim.rounds claim.on_time claim.cover (Err f) in
    subst P under (subst V same_cover (subst R same_rounds (subst C same_commands h)))
