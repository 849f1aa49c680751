-- Rounds in a walk over the events.
use Rattle.std.proofs.Common.{◌≡◌, ◌≤◌, ◌+◌, ◌++◌, ◌∙◌, ℕ, List, [], ◌∷◌, refl, sym, ap, arith, cond, Bool, true, false}
use Rattle.blk_trace.specs.Happened.{Happened}
use Rattle.blk_trace.specs.declared.event.Event.TheVariants.{Tick, Release, Join, Issue, Done, Back, Depth}
use Rattle.blk_trace.specs.Kinds.{is_tick}
use Rattle.blk_trace.specs.Events.{round_of}
use Rattle.blk_trace.proofs.More.{round_more}

-- the round after some events, and one more
pub round_none : 0 ≡ round_of []
unfolding round_of
round_none = refl

pub round_step : (e : Happened) (r : ℕ) → cond (is_tick e) (r + 1) r ≤ r + 1
round_step Tick r = omega arith
round_step (Release j q) r = omega arith
round_step (Join j q) r = omega arith
round_step (Issue j k) r = omega arith
round_step (Done k) r = omega arith
round_step (Back k) r = omega arith
round_step (Depth k) r = omega arith

-- the round after one more event
after_one : (b : Bool) (r : ℕ) → cond b (r + 1) r ≡ r + cond b 1 0
after_one true r = refl
after_one false r = omega arith

pub round_next : (es : List Happened) (e : Happened) (r s : ℕ) (all : List Happened) → r ≡ round_of es → s ≡ cond (is_tick e) (r + 1) r → all ≡ es ++ e ∷ [] → s ≡ round_of all
round_next es e r s all h n is =
    n ∙ after_one (is_tick e) r ∙ ap (λ m. m + cond (is_tick e) 1 0) h ∙ sym (round_more es e) ∙ ap round_of (sym is)
