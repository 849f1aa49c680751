-- What had to be late is what came late, what stalled, and what windows have more than they carry.
use Rattle.std.proofs.Common.{◌≡◌, ◌<◌, ◌≤◌, ℕ, ◌+◌, Bool, true, false, not, cond, ◌&&◌, ◌||◌, nat_le, nat_lt, List, [], ◌∷◌, length, get_or, map, count_by, sum_by, inl, inr, arith, refl, ap, sym, ◌∙◌, suc, subst}
use Rattle.std.specs.List.{zip, list_any}
use Rattle.std.proofs.lemmas.List.Folds.{list_any_none}
use Rattle.std.proofs.lemmas.List.Sums.{sum_by-cons}
use Rattle.std.proofs.lemmas.Bool.{cases_lt, leb-true, ltb-true, le-leb, lt-leb, lt-ltb, le-ltb, and_parts, and_left, and_right}
use Rattle.edd_commands.specs.declared.Command.{Command}
use Rattle.edd_check.specs.declared.Window.{Window}
use Rattle.edd_commands.specs.declared.steps.Step.{Step}
use Rattle.edd_check.specs.OnTime.{can_be_on_time, lies_in, holds, inside_of, outside_of, carried_in, carried_by, bound_of, IsCover}
use Rattle.edd_check.proofs.Covers.{cover_rises_to, length_pairs, pair_at}
use Rattle.edd_oracle.proofs.Counting.{count_along, count_none}
use Rattle.edd_figures.specs.Misses.{crowd_of, number_late, IsLeastLate}
use Rattle.edd_figures.specs.declared.missing.Crowd.{Crowd}
use Rattle.edd_blame.proofs.Clocks.{count_parts}

-- all of a list
pub count_all : {X : Type 0} (xs : List X) → count_by (λ _. true) xs ≡ length xs
count_all [] = refl
count_all (x ∷ xs) = omega (arith, count_all xs, sum_by-cons (λ _. cond true 1 0) x xs)

can_or_not : (r d : ℕ) → cond (nat_le r d) 1 0 + cond (nat_lt d r) 1 0 ≡ 1
can_or_not r d =
    elim (cases_lt d r) [
      | inl late ↦ rw (lt-leb r d late, lt-ltb d r late) refl
      | inr timely ↦ rw (le-leb r d timely, le-ltb d r timely) refl
    ]

-- a command that can be on time is inside or outside
both_parts : (a b : Bool) → cond (a && b) 1 0 + cond (a && not b) 1 0 ≡ cond a 1 0
both_parts true true = refl
both_parts true false = refl
both_parts false b = refl

-- of two tests that exclude each other either
either_part : (a b x : Bool) → (b ≡ true → x ≡ false) → cond (a && b) 1 0 + cond (a && x) 1 0 ≡ cond (a && (b || x)) 1 0
either_part false b x apart = refl
either_part true true true apart = absurd (let clash : true ≡ false = apart refl in cc)
either_part true true false apart = refl
either_part true false true apart = refl
either_part true false false apart = refl

-- each later window begins after an earlier one ends
abbrev AreApart : List Window → Type 0
AreApart cover = (i j : ℕ) (d : Window) → i < j → j < length cover → (get_or cover i d).due < (get_or cover j d).from

lies_later : (c : Command) (w v : Window) → lies_in c w ≡ true → w.due < v.from → lies_in c v ≡ false
lies_later c w v here later =
    let both = and_parts (holds w c.release) (holds w c.due) here in
    let high : c.release ≤ w.due = leb-true c.release w.due (and_parts (nat_le w.from c.release) (nat_le c.release w.due) both.0).1 in
    and_left (holds v c.release) (holds v c.due) (and_left (nat_le v.from c.release) (nat_le c.release v.due) (lt-leb v.from c.release (omega arith)))

-- the counts inside disjoint windows
inside_sum : (commands : List Command) (cover : List Window) → AreApart cover → sum_by (λ w. inside_of commands w) cover ≡ count_by (λ c. can_be_on_time c && list_any (λ w. lies_in c w) cover) commands
unfolding inside_of
inside_sum commands [] apart =
    sym (count_none (λ c. can_be_on_time c && false) commands (λ k d h. and_right (can_be_on_time (get_or commands k d)) false refl))
inside_sum commands (w ∷ cover) apart =
    let rest = inside_sum commands cover (λ i j d low h. apart (suc i) (suc j) d (omega arith) (omega (arith, h))) in
    let more = sum_by-cons (λ v. count_by (λ (c : Command). can_be_on_time c && lies_in c v) commands) w cover in
    let parts =
    count_parts (λ (c : Command). can_be_on_time c && lies_in c w) (λ c. can_be_on_time c && list_any (λ v. lies_in c v) cover) (λ c. can_be_on_time c && list_any (λ v. lies_in c v) (w ∷ cover))
    (λ c. either_part (can_be_on_time c) (lies_in c w) (list_any (λ v. lies_in c v) cover)
    (λ here. list_any_none (λ v. lies_in c v) cover (λ k d h. lies_later c w (get_or cover k d) here (apart 0 (suc k) d (omega arith) (omega (arith, h)))))) commands in
    omega (arith, rest, more, parts)

-- every command is released after its due round, inside a window or outside of all
pub all_parts : (commands : List Command) (cover : List Window) → IsCover cover → count_by (λ (c : Command). nat_lt c.due c.release) commands + sum_by (λ w. inside_of commands w) cover + outside_of commands cover ≡ length commands
unfolding outside_of
all_parts commands cover disjoint =
    let inside = inside_sum commands cover (λ i j d low h. cover_rises_to cover i j d disjoint low h) in
    let can = count_parts (λ c. can_be_on_time c && list_any (λ w. lies_in c w) cover) (λ c. can_be_on_time c && not (list_any (λ w. lies_in c w) cover)) can_be_on_time (λ c. both_parts (can_be_on_time c) (list_any (λ w. lies_in c w) cover)) commands in
    let all = count_parts can_be_on_time (λ (c : Command). nat_lt c.due c.release) (λ _. true) (λ c. can_or_not c.release c.due) commands in
    omega (arith, inside, can, all, count_all commands)

-- a command that is released after its due round is late in every schedule
pub late_on_release : (commands : List Command) (steps : List Step) (n : ℕ) → IsLeastLate commands steps n → count_by (λ (c : Command). nat_lt c.due c.release) commands ≤ n
unfolding number_late
late_on_release commands steps n least =
    let long : length (zip commands least.schedule) ≡ length commands = length_pairs commands least.schedule least.legal.one_each in
    let late =
    count_along (λ (c : Command). nat_lt c.due c.release) (λ (p : Command × ℕ). nat_lt p.0.due p.1) commands (zip commands least.schedule) long
    (λ k d e h yes.
    let released : (get_or commands k d).release ≤ get_or least.schedule k 0 = least.legal.released k d h in
    let low : (get_or commands k d).due < (get_or commands k d).release = ltb-true (get_or commands k d).due (get_or commands k d).release yes in
    subst (λ (p : Command × ℕ). nat_lt p.0.due p.1 ≡ true) (sym (pair_at commands least.schedule k e d 0 least.legal.one_each h))
    (lt-ltb (get_or commands k d).due (get_or least.schedule k 0) (omega arith))) in
    omega (arith, late, least.reached)

-- a sum over what a function gives
pub sum_map : {X Y : Type 0} (f : Y → ℕ) (g : X → Y) (xs : List X) → sum_by f (map g xs) ≡ sum_by (λ x. f (g x)) xs
sum_map f g [] = refl
sum_map f g (x ∷ xs) = omega (arith, sum_map f g xs, sum_by-cons f (g x) (map g xs), sum_by-cons (λ y. f (g y)) x xs)

-- what the windows of a cover have and carry
pub crowded_is : (commands : List Command) (steps : List Step) (cover : List Window) (windows : List Crowd) (unavoidable : ℕ) → IsCover cover → windows ≡ map (crowd_of commands steps) cover → bound_of commands steps cover + unavoidable ≡ length commands
    → unavoidable + sum_by (λ (w : Crowd). w.carries) windows ≡ count_by (λ (c : Command). nat_lt c.due c.release) commands + sum_by (λ (w : Crowd). w.commands) windows
unfolding carried_by
crowded_is commands steps cover windows unavoidable disjoint are bound =
    let carries : sum_by (λ (w : Crowd). w.carries) windows ≡ sum_by (λ w. carried_in steps w) cover =
    ap (λ l. sum_by (λ (w : Crowd). w.carries) l) are ∙ sum_map (λ (w : Crowd). w.carries) (crowd_of commands steps) cover in
    let asked : sum_by (λ (w : Crowd). w.commands) windows ≡ sum_by (λ w. inside_of commands w) cover =
    ap (λ l. sum_by (λ (w : Crowd). w.commands) l) are ∙ sum_map (λ (w : Crowd). w.commands) (crowd_of commands steps) cover in
    omega (arith, carries, asked, bound, all_parts commands cover disjoint)
