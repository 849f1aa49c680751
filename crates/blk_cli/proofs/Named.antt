-- What stands under names that are a scheduler's each.
use Rattle.std.proofs.Common.{◌≡◌, ◌∙◌, ℕ, Bor, List, Result, IfOk, ap, sym, subst, length, map}
use Rattle.std.proofs.lemmas.List.{length-map}
use Rattle.blk_schedulers.specs.declared.sched.Sched.{Sched}
use Rattle.blk_schedulers.specs.Scheds.{name_of}

-- there are as many as schedulers
pub as_long : (names : List (Bor (List ℕ))) (scheds : List Sched) → map (λ (name : Bor (List ℕ)). name.now) names ≡ map name_of scheds → length names ≡ length scheds
as_long names scheds e = sym (length-map names (λ (name : Bor (List ℕ)). name.now)) ∙ ap length e ∙ length-map scheds name_of

-- what holds of an answer under names holds of it under names that are equal
pub named_as : {X E : Type 0} (r : Result X E) (names own : List (List ℕ)) (Is : List (List ℕ) → X → Type 0) → names ≡ own → IfOk r (Is names) → IfOk r (Is own)
named_as r names own Is e h = subst (λ (ns : List (List ℕ)). IfOk r (Is ns)) e h
