-- One event more.
use Rattle.std.proofs.Common.{◌≡◌, refl, subst, sym, List, [], ◌∷◌, ◌++◌}
use Rattle.blk_trace.specs.Happened.{Happened}
use Rattle.blk_core.specs.State.{CoreState}
use Rattle.blk_sched.specs.Policies.{Policy}
use Rattle.blk_core.specs.Runs.{MakesCall, MakesCalls}

-- no event leads to where it began
pub none_run : (policy : Policy) (start c : CoreState) → c ≡ start → c.events ≡ []
    → MakesCalls policy start c.events c
unfolding MakesCalls
none_run policy start c same none = subst (λ (es : List Happened). MakesCalls policy start es c) (sym none) same

-- one event more leads on
pub run_on : (policy : Policy) (start : CoreState) (es : List Happened) (e : Happened) (middle end : CoreState)
    → MakesCalls policy start es middle → MakesCall policy middle e end → MakesCalls policy start (es ++ e ∷ []) end
unfolding MakesCalls
run_on policy start [] e middle end is step = (end, subst (λ (c : CoreState). MakesCall policy c e end) is step, refl)
run_on policy start (x ∷ es) e middle end (next, first, rest) step =
    (next, first, run_on policy next es e middle end rest step)
