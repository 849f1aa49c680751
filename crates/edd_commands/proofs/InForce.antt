-- The capacity of a round, from the step in force.
use Rattle.std.proofs.Common.{◌≡◌, ◌<◌, ◌≤◌, ℕ, ◌+◌, ◌-◌, ◌*◌, ◌^◌, ◌⊎◌, zero, suc, cond, nat_le, List, [], ◌∷◌, length, get_or, inl, inr, arith, refl, ap, ◌∙◌, subst}
use Rattle.std.proofs.lemmas.List.{get_or_default}
use Rattle.std.proofs.Math.Nat.{mul-le-mul_right}
use Rattle.std.proofs.lemmas.Bool.{cond-true, cond-false, le-leb, lt-leb, cases_lt}
use Rattle.edd_commands.specs.declared.steps.Step.{Step}
use Rattle.edd_commands.specs.Capacity.{depth_at, carried, depth_after, fixed, IsCapacity, IsStepAt}
use Rattle.edd_commands.specs.Inside.InForce.{IsInForce}

-- steps that begin later change nothing
depth_after_none : (n : ℕ) (steps : List Step) (x : ℕ) → ((k : ℕ) (d : Step) → k < length steps → x < (get_or steps k d).from) → depth_after n steps x ≡ n
depth_after_none n [] x later = refl
depth_after_none n (s ∷ steps) x later =
    depth_after_none (cond (nat_le s.from x) s.depth n) steps x (λ k d h. later (suc k) d (omega arith))
    ∙ cond-false (nat_le s.from x) s.depth n (lt-leb s.from x (later 0 s (omega arith)))

-- the last step that begins by then is in force
depth_after_here : (n : ℕ) (steps : List Step) (i x : ℕ) (d : Step) → i < length steps → (get_or steps i d).from ≤ x → ((k : ℕ) (e : Step) → i < k → k < length steps → x < (get_or steps k e).from) → depth_after n steps x ≡ (get_or steps i d).depth
depth_after_here n [] i x d within begun later = absurd (omega arith)
depth_after_here n (s ∷ steps) zero x d within begun later =
    depth_after_none (cond (nat_le s.from x) s.depth n) steps x (λ k e h. later (suc k) e (omega arith) (omega arith))
    ∙ cond-true (nat_le s.from x) s.depth n (le-leb s.from x begun)
depth_after_here n (s ∷ steps) (suc i) x d within begun later =
    depth_after_here (cond (nat_le s.from x) s.depth n) steps i x d (omega arith) begun (λ k e above h. later (suc k) e (omega arith) (omega arith))

pub depth_here : (steps : List Step) (i x : ℕ) (d : Step) → IsInForce steps i x → depth_at steps x ≡ (get_or steps i d).depth
unfolding depth_at
depth_here steps i x d force = depth_after_here 0 steps i x d force.in_list (force.begun d) force.later

-- where each depth and the one before the first step are 1 to 256, so is each capacity
depth_after_bounds : (n : ℕ) (steps : List Step) (x : ℕ) → 0 < n → n ≤ 256 → ((k : ℕ) (d : Step) → k < length steps → (0 < (get_or steps k d).depth) × ((get_or steps k d).depth ≤ 256)) → (0 < depth_after n steps x) × (depth_after n steps x ≤ 256)
depth_after_bounds n [] x some most each = (some, most)
depth_after_bounds n (s ∷ steps) x some most each =
    let rest : (k : ℕ) (d : Step) → k < length steps → (0 < (get_or steps k d).depth) × ((get_or steps k d).depth ≤ 256) =
    λ k d h. each (suc k) d (omega arith) in
    let here = each 0 s (omega arith) in
    elim (cases_lt x s.from) [
      | inl later ↦
          let now : cond (nat_le s.from x) s.depth n ≡ n = cond-false (nat_le s.from x) s.depth n (lt-leb s.from x later) in
          depth_after_bounds (cond (nat_le s.from x) s.depth n) steps x (omega arith) (omega arith) rest
      | inr begun ↦
          let now : cond (nat_le s.from x) s.depth n ≡ s.depth = cond-true (nat_le s.from x) s.depth n (le-leb s.from x begun) in
          depth_after_bounds (cond (nat_le s.from x) s.depth n) steps x (omega arith) (omega arith) rest
    ]

depth_bounds_of : (steps : List Step) (x : ℕ) → 0 < length steps → ((d : Step) → (get_or steps 0 d).from ≡ 0) → ((k : ℕ) (d : Step) → k < length steps → (0 < (get_or steps k d).depth) × ((get_or steps k d).depth ≤ 256)) → (0 < depth_at steps x) × (depth_at steps x ≤ 256)
unfolding depth_at
depth_bounds_of [] x some start each = absurd (omega arith)
depth_bounds_of (s ∷ steps) x some start each =
    let here = each 0 s (omega arith) in
    let first = start s in
    let now : cond (nat_le s.from x) s.depth 0 ≡ s.depth = cond-true (nat_le s.from x) s.depth 0 (le-leb s.from x (omega arith)) in
    depth_after_bounds (cond (nat_le s.from x) s.depth 0) steps x (omega arith) (omega arith) (λ k d h. each (suc k) d (omega arith))

-- each round carries 1 to 256 commands
pub depth_bounds : (steps : List Step) (x : ℕ) → IsCapacity steps → (0 < depth_at steps x) × (depth_at steps x ≤ 256)
depth_bounds steps x capacity =
    depth_bounds_of steps x capacity.some capacity.start (λ k d h. (capacity.each k h).some_depth d)

-- later steps begin later
pub rises_far : (steps : List Step) (i k : ℕ) (d : Step) → IsCapacity steps → i + k < length steps → (get_or steps i d).from ≤ (get_or steps (i + k) d).from
rises_far steps i zero d capacity h = subst (λ n. (get_or steps i d).from ≤ (get_or steps n d).from) (let e : i ≡ i + 0 = omega arith in e) (omega arith)
rises_far steps i (suc k) d capacity h =
    let rest : (get_or steps i d).from ≤ (get_or steps (i + k) d).from = rises_far steps i k d capacity (omega arith) in
    let up = (capacity.each (i + suc k) h).rising d (omega arith) in
    let same : i + suc k - 1 ≡ i + k = omega arith in
    let up' : (get_or steps (i + k) d).from < (get_or steps (i + suc k) d).from = subst (λ n. (get_or steps n d).from < (get_or steps (i + suc k) d).from) same up in
    omega arith

-- where the step after the one at place i begins later, so do all after it
pub in_force : (steps : List Step) (i x : ℕ) → IsCapacity steps → i < length steps → ((d : Step) → (get_or steps i d).from ≤ x) → ((d : Step) → i + 1 < length steps → x < (get_or steps (i + 1) d).from) → IsInForce steps i x
in_force steps i x capacity within begun later =
    record {
      in_list = within;
      begun = begun;
      later = λ k d above h.
          let far : (get_or steps (i + 1) d).from ≤ (get_or steps (i + 1 + (k - (i + 1))) d).from = rises_far steps (i + 1) (k - (i + 1)) d capacity (omega arith) in
          let same : i + 1 + (k - (i + 1)) ≡ k = omega arith in
          let there : (get_or steps (i + 1) d).from ≤ (get_or steps k d).from = subst (λ n. (get_or steps (i + 1) d).from ≤ (get_or steps n d).from) same far in
          omega (arith, later d (omega arith));
    }

pub carried_suc : (steps : List Step) (start n : ℕ) → carried steps start (suc n) ≡ carried steps start n + depth_at steps (start + n)
unfolding carried
carried_suc steps start n = refl

pub carried_none : (steps : List Step) (start : ℕ) → carried steps start 0 ≡ 0
unfolding carried
carried_none steps start = refl

-- m rounds more of the same capacity
pub carried_along : (steps : List Step) (start n m depth : ℕ) → ((x : ℕ) → start + n ≤ x → x < start + n + m → depth_at steps x ≡ depth) → carried steps start (n + m) ≡ carried steps start n + depth * m
carried_along steps start n zero depth same =
    let e : n + 0 ≡ n = omega arith in ap (λ k. carried steps start k) e ∙ omega arith
carried_along steps start n (suc m) depth same =
    let e : n + suc m ≡ suc (n + m) = omega arith in
    let rest : carried steps start (n + m) ≡ carried steps start n + depth * m =
    carried_along steps start n m depth (λ x low high. same x low (omega arith)) in
    let here : depth_at steps (start + (n + m)) ≡ depth = same (start + (n + m)) (omega arith) (omega arith) in
    ap (λ k. carried steps start k) e ∙ omega (arith, rest, here, carried_suc steps start (n + m))

-- the rounds up to where a step ends, or to the last
pub record IsEnd (steps : List Step) (place start until end : ℕ) (d : Step) : Type 0 where
  pub up : start < end
  pub most : end ≤ until
  pub cut : place + 1 < length steps → end ≤ (get_or steps (place + 1) d).from
  pub next : end < until → (place + 1 < length steps) × (end ≡ (get_or steps (place + 1) d).from)

pub end_at_step : (steps : List Step) (place start until end : ℕ) (d : Step) → IsInForce steps place start → start < until → place + 1 < length steps → end ≤ until → end ≤ (get_or steps (place + 1) d).from → ((end ≡ until) ⊎ (end ≡ (get_or steps (place + 1) d).from)) → IsEnd steps place start until end d
end_at_step steps place start until end d force low within most cut is_end =
    let above = force.later (place + 1) d (omega arith) within in
    elim is_end [
      | inl last ↦ record { up = omega arith; most = most; cut = λ h. cut; next = λ h. absurd (omega arith) }
      | inr step ↦ record { up = omega arith; most = most; cut = λ h. cut; next = λ h. (within, step) }
    ]

pub end_at_last : (steps : List Step) (place start until end : ℕ) (d : Step) → start < until → length steps ≤ place + 1 → end ≡ until → IsEnd steps place start until end d
end_at_last steps place start until end d low past is_end =
    record {
      up = omega arith;
      most = omega arith;
      cut = λ h. absurd (omega arith);
      next = λ h. absurd (omega arith);
    }

-- a step stays in force up to where it ends
still_in_force : (steps : List Step) (at until end place x : ℕ) (d : Step) → IsCapacity steps → IsInForce steps place at → IsEnd steps place at until end d → at ≤ x → x < end → IsInForce steps place x
still_in_force steps at until end place x d capacity force is_end low high =
    in_force steps place x capacity force.in_list (λ f. omega (arith, force.begun f))
    (λ f h.
    let same : (get_or steps (place + 1) d).from ≡ (get_or steps (place + 1) f).from = ap (λ (s : Step). s.from) (get_or_default steps (place + 1) d f h) in
    omega (arith, is_end.cut h))

-- there the next one begins
pub next_in_force : (steps : List Step) (at until end place : ℕ) (d : Step) → IsCapacity steps → IsEnd steps place at until end d → end < until → IsInForce steps (place + 1) end
next_in_force steps at until end place d capacity is_end more =
    let there = is_end.next more in
    in_force steps (place + 1) end capacity there.0
    (λ f.
    let same : (get_or steps (place + 1) d).from ≡ (get_or steps (place + 1) f).from = ap (λ (s : Step). s.from) (get_or_default steps (place + 1) d f there.0) in
    omega (arith, there.1))
    (λ f h.
    let same : (get_or steps (place + 1) d).from ≡ (get_or steps (place + 1) f).from = ap (λ (s : Step). s.from) (get_or_default steps (place + 1) d f there.0) in
    let up = (capacity.each (place + 1 + 1) h).rising f (omega arith) in
    let is : place + 1 + 1 - 1 ≡ place + 1 = omega arith in
    let up' : (get_or steps (place + 1) f).from < (get_or steps (place + 1 + 1) f).from = subst (λ n. (get_or steps n f).from < (get_or steps (place + 1 + 1) f).from) is up in
    omega (arith, there.1))

-- the sum up to where the step in force ends
pub sum_more : (steps : List Step) (start at until end place : ℕ) (d : Step) → IsCapacity steps → IsInForce steps place at → IsEnd steps place at until end d → start ≤ at → carried steps start (end - start) ≡ carried steps start (at - start) + (get_or steps place d).depth * (end - at)
sum_more steps start at until end place d capacity force is_end after =
    let e : end - start ≡ (at - start) + (end - at) = omega (arith, is_end.up) in
    ap (λ n. carried steps start n) e
    ∙ carried_along steps start (at - start) (end - at) (get_or steps place d).depth
    (λ x low high. depth_here steps place x d (still_in_force steps at until end place x d capacity force is_end (omega arith) (omega (arith, is_end.up))))

-- a depth is at most 256
pub product_small : (steps : List Step) (place n : ℕ) (d : Step) → IsCapacity steps → place < length steps → (get_or steps place d).depth * n ≤ 256 * n
product_small steps place n d capacity within =
    mul-le-mul_right n ((capacity.each place within).some_depth d).1

-- a step without fault
pub step_here : (steps : List Step) (i : ℕ) (d : Step) → i < length steps → (0 < i → (get_or steps (i - 1) d).from < (get_or steps i d).from) → 0 < (get_or steps i d).depth → (get_or steps i d).depth ≤ 256 → (get_or steps i d).from < 2 ^ 41 → IsStepAt steps i
step_here steps i d within up some most low =
    let same : (e : Step) → get_or steps i d ≡ get_or steps i e = λ e. get_or_default steps i d e within in
    record {
      rising = λ e h.
          let at : (get_or steps i d).from ≡ (get_or steps i e).from = ap (λ (s : Step). s.from) (same e) in
          let before : (get_or steps (i - 1) d).from ≡ (get_or steps (i - 1) e).from = ap (λ (s : Step). s.from) (get_or_default steps (i - 1) d e (omega arith)) in
          omega (arith, up h);
      some_depth = λ e. let at : (get_or steps i d).depth ≡ (get_or steps i e).depth = ap (λ (s : Step). s.depth) (same e) in (omega arith, omega arith);
      round = λ e. let at : (get_or steps i d).from ≡ (get_or steps i e).from = ap (λ (s : Step). s.from) (same e) in omega arith;
    }

-- the step before the first that begins later
pub in_force_at : (steps : List Step) (low high x : ℕ) → IsCapacity steps → high ≡ low + 1 → low < length steps → ((d : Step) → (get_or steps low d).from ≤ x) → ((d : Step) → high < length steps → x < (get_or steps high d).from) → IsInForce steps low x
in_force_at steps low high x capacity is_high within begun later =
    in_force steps low x capacity within begun
    (λ d h. subst (λ n. x < (get_or steps n d).from) is_high (later d (omega arith)))

pub carried_from : (steps : List Step) (start n : ℕ) → n ≡ 0 → carried steps start n ≡ 0
carried_from steps start n none = ap (λ k. carried steps start k) none ∙ carried_none steps start

-- of one step each round carries its depth, and n rounds n times as much
pub depth_fixed : (depth x : ℕ) → depth_at (fixed depth) x ≡ depth
unfolding depth_at
depth_fixed depth x = cond-true (nat_le 0 x) depth 0 (le-leb 0 x (omega arith))

pub carried_fixed : (depth start n : ℕ) → carried (fixed depth) start n ≡ depth * n
unfolding carried
carried_fixed depth start zero = omega arith
carried_fixed depth start (suc n) = omega (arith, carried_fixed depth start n, depth_fixed depth (start + n))
