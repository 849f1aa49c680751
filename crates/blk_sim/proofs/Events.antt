-- What the core's events say of bios and rounds.
use Rattle.std.proofs.Common.{arith, ◌≡◌, ◌+◌, ◌∙◌, ℕ, List, [], ◌∷◌, ◌++◌, Bool, false, cond, refl, sym, ap, append_assoc}
use Rattle.std.specs.List.{flat_map, count_by}
use Rattle.std.proofs.lemmas.List.{append-nil}
use Rattle.std.proofs.lemmas.List.Concat.{flat_map-append}
use Rattle.std.proofs.lemmas.List.Sums.{sum_by_push}
use Rattle.blk_bio.specs.Bios.{Bio}
use Rattle.blk_trace.specs.Happened.{Happened}
use Rattle.blk_trace.specs.Events.{entered, round_of, bios_of, is_tick}
use Rattle.blk_core.specs.State.{CoreState}
use Rattle.blk_core.specs.Calls.{AddsEvent, Places}
use Rattle.blk_core.specs.declared.calls.Placed.{Placed}
use Rattle.blk_core.specs.declared.calls.Placed.TheVariants.{New, Joined}
use Rattle.blk_sim.specs.Moves.{EntersCore, EnterInTurn, bios_in}
use Rattle.blk_sched.specs.Policies.{Policy}
use Rattle.blk_sim.specs.Inside.Places.{RoundsPassed, TookIn}

-- how many of a list with one more pass a test
count_more : (t : Happened → Bool) (es : List Happened) (e : Happened) → count_by t (es ++ e ∷ []) ≡ count_by t es + cond (t e) 1 0
count_more t es e = sum_by_push (λ x. cond (t x) 1 0) es e

pub entered_more : (es es' : List Happened) (e : Happened) → es' ≡ es ++ e ∷ [] → entered es' ≡ entered es ++ bios_of e
unfolding entered
entered_more es es' e h = ap (flat_map bios_of) h ∙ flat_map-append bios_of es (e ∷ []) ∙ ap (λ r. flat_map bios_of es ++ r) (append-nil (bios_of e))

pub rounds_more : (es es' : List Happened) (e : Happened) → es' ≡ es ++ e ∷ [] → round_of es' ≡ round_of es + cond (is_tick e) 1 0
unfolding round_of
rounds_more es es' e h = ap (count_by is_tick) h ∙ count_more is_tick es e

-- an event by which nothing enters
pub adds_passed : (old new : CoreState) (e : Happened) (n : ℕ) → AddsEvent old e new → bios_of e ≡ [] → cond (is_tick e) 1 0 ≡ n → RoundsPassed n old new
adds_passed old new e n a none ticks = record {
  setup = a.0;
  entered_same = entered_more old.events new.events e a.1 ∙ ap (λ r. entered old.events ++ r) none ∙ append-nil (entered old.events);
  ticks = rounds_more old.events new.events e a.1 ∙ ap (λ k. round_of old.events + k) ticks;
}

-- an event by which bios enter
pub adds_took : (old new : CoreState) (e : Happened) (bios : List Bio) → AddsEvent old e new → bios_of e ≡ bios → is_tick e ≡ false → TookIn bios old new
adds_took old new e bios a these no_tick = record {
  setup = a.0;
  took = entered_more old.events new.events e a.1 ∙ ap (λ r. entered old.events ++ r) these;
  ticks = rounds_more old.events new.events e a.1 ∙ ap (λ b. round_of old.events + cond b 1 0) no_tick ∙ omega arith;
}

pub passed_same : (old new : CoreState) → new ≡ old → RoundsPassed 0 old new
passed_same old new e = record { setup = ap (λ (c : CoreState). c.setup) e; entered_same = ap (λ (c : CoreState). entered c.events) e; ticks = ap (λ (c : CoreState). round_of c.events) e ∙ omega arith }

pub passed_trans : (m n : ℕ) (a b c : CoreState) → RoundsPassed m a b → RoundsPassed n b c → RoundsPassed (m + n) a c
passed_trans m n a b c p q = record { setup = q.setup ∙ p.setup; entered_same = q.entered_same ∙ p.entered_same; ticks = let x = p.ticks in let y = q.ticks in omega arith }

pub took_trans : (xs ys : List Bio) (a b c : CoreState) → TookIn xs a b → TookIn ys b c → TookIn (xs ++ ys) a c
took_trans xs ys a b c p q = record { setup = q.setup ∙ p.setup; took = q.took ∙ ap (λ r. r ++ ys) p.took ∙ append_assoc (entered a.events) xs ys; ticks = q.ticks ∙ p.ticks }

-- a request that entered, and requests that entered one after the other
placed_took : (policy : Policy) (old new : CoreState) (bios : List Bio) (hw : ℕ) (p : Placed) → Places policy.serves old bios hw p new → TookIn bios old new
placed_took policy old new bios hw (New id) a = adds_took _ _ _ bios a.2 refl refl
placed_took policy old new bios hw (Joined id side) a = adds_took _ _ _ bios a.1 refl refl

pub enters_took : (policy : Policy) (hw : ℕ) (bios : List Bio) (old new : CoreState) → EntersCore policy hw bios old new → TookIn bios old new
enters_took policy hw bios old new h = placed_took policy old new bios hw h.0 h.2

took_none : (a b : CoreState) → b ≡ a → TookIn [] a b
took_none a b e = record { setup = ap (λ (c : CoreState). c.setup) e; took = ap (λ (c : CoreState). entered c.events) e ∙ sym (append-nil (entered a.events)); ticks = ap (λ (c : CoreState). round_of c.events) e }

pub chain_took : (policy : Policy) (hw : ℕ) (requests : List (List Bio)) (a b : CoreState) → EnterInTurn policy hw requests a b → TookIn (bios_in requests) a b
unfolding EnterInTurn
chain_took policy hw [] a b e = took_none a b e
chain_took policy hw (x ∷ xs) a b e = took_trans x (bios_in xs) a e.0 b (enters_took policy hw x a e.0 e.1) (chain_took policy hw xs e.0 b e.2)
