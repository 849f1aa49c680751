-- Events with their rounds, by their places.
use Rattle.std.proofs.Common.{◌≡◌, ◌+◌, ◌∙◌, sym, ap, refl, ℕ, zero, suc, Bool, true, false, cond, List, [], ◌∷◌, Option, Some, None, arith}
use Rattle.std.proofs.lemmas.List.Sums.{sum_by-cons}
use Rattle.std.specs.Prelude.{◌↔◌, slice_get, take}
use Rattle.std.specs.Option.{option_map}
use Rattle.blk_trace.specs.Happened.{Happened}
use Rattle.blk_trace.specs.Events.{At, is_tick, round_of, round_at}
use Rattle.blk_trace.specs.Meaning.{timed}

-- an event with its round
abbrev at_round : ℕ → Happened → ℕ × Happened
at_round round e = (round, e)

one_more : (b : Bool) (r n : ℕ) → cond b (r + 1) r + n ≡ r + (cond b 1 0 + n)
one_more true r n = omega arith
one_more false r n = omega arith

timed_at : (es : List Happened) (r k : ℕ) → slice_get (timed r es) k ≡ option_map (at_round (r + round_of (take k es))) (slice_get es k)
unfolding timed round_of
timed_at [] r k = refl
timed_at (e ∷ es) r zero = ap (λ (n : ℕ). Some (n, e)) (omega arith)
timed_at (e ∷ es) r (suc k) =
    timed_at es (cond (is_tick e) (r + 1) r) k
    ∙ ap (λ (n : ℕ). option_map (at_round n) (slice_get es k))
    (one_more (is_tick e) r (round_of (take k es)) ∙ ap (λ (n : ℕ). r + n) (sym (sum_by-cons (λ (x : Happened). cond (is_tick x) 1 0) e (take k es))))

from_timed : (o : Option Happened) (r round : ℕ) (e : Happened) → option_map (at_round r) o ≡ Some (round, e) → (o ≡ Some e) × (round ≡ r)
from_timed None r round e h = absurd (cc)
from_timed (Some x) r round e h =
    let same : ◌≡◌ {A = ℕ × Happened} (r, x) (round, e) = cc in
    (ap (λ (p : ℕ × Happened). Some p.1) same, sym (ap (λ (p : ℕ × Happened). p.0) same))

from_start : (events : List Happened) (k : ℕ) → slice_get (timed 0 events) k ≡ option_map (at_round (round_at events k)) (slice_get events k)
from_start events k = timed_at events 0 k ∙ ap (λ (n : ℕ). option_map (at_round n) (slice_get events k)) (omega arith)

pub timed_is : (events : List Happened) (k round : ℕ) (e : Happened) → (slice_get (timed 0 events) k ≡ Some (round, e)) ↔ (At events k e × (round ≡ round_at events k))
timed_is events k round e = (
  λ h. from_timed (slice_get events k) (round_at events k) round e (sym (from_start events k) ∙ h),
  λ p. from_start events k ∙ ap (option_map (at_round (round_at events k))) p.0 ∙ ap (λ (n : ℕ). Some (n, e)) (sym p.1),
)
