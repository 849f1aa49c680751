-- What a hardware queue serves, and a scheduler whose picks take that alone.
use Rattle.std.proofs.Common.{◌≡◌, ◌==◌, ℕ, true, false, sym, ap, ◌∙◌, refl, Some, None, Option}
use Rattle.std.specs.Prelude.{if◌then◌else◌, IfNone}
use Rattle.std.proofs.lemmas.Bool.{eqb-true, eq-eqb}
use Rattle.std.specs.FinMap as map
use Rattle.blk_bio.specs.declared.request.Side.{Side}
use Rattle.blk_bio.specs.declared.request.Side.TheVariants.{Back}
use Rattle.blk_bio.specs.Extents.{Extent}
use Rattle.blk_bio.specs.Limits.{Limits}
use Rattle.blk_sched.specs.Meaning.{Waiting, Pending, Meaning, OpenPicks, HasCandidate, HasNoCandidate}
use Rattle.blk_sched.specs.Fits.{IsNewestFit, FitsNone}
use Rattle.blk_index.specs.Queues.{serves_own, if_served, served_of}

-- a request that a hardware queue serves
pub serves_it : (hw : ℕ) (o : Option Waiting) (w : Waiting) → if_served hw o ≡ Some w → (o ≡ Some w) × (w.hw ≡ hw)
serves_it hw None w h = absurd (cc)
serves_it hw (Some v) w h =
    elim (v.hw == hw) as (λ b. (v.hw == hw) ≡ b → (if b then Some v else None) ≡ Some w → (Some v ≡ Some w) × (w.hw ≡ hw)) [
      | true ↦ λ e g. let one : v ≡ w = cc in (g, ap (λ (u : Waiting). u.hw) (sym one) ∙ eqb-true v.hw hw e)
      | false ↦ λ _ g. absurd (cc)
    ] refl h

-- one that waits is served for the hardware queue at which it entered
pub served_there : (hw : ℕ) (o : Option Waiting) (w : Waiting) → o ≡ Some w → serves_own hw w ≡ true → if_served hw o ≡ Some w
served_there hw o w is own = ap (if_served hw) is ∙ ap (λ b. if b then Some w else None) own

-- ---- answers of nothing

pub none_then : {X : Type 0} (r : Option X) (P Q : Type 0) → IfNone r P → (P → Q) → IfNone r Q
none_then None P Q h f = f h
none_then (Some x) P Q h f = tt

-- ---- joins

abbrev pub meaning_with : Pending → OpenPicks → Meaning
meaning_with pending picks = record { pending = pending; open_picks = picks; front = true }

module _ (m : Pending) (picks : OpenPicks) (hw : ℕ) (limits : Limits) (newcomer : Extent) where
  pub candidate_of : (id : ℕ) (side : Side) → IsNewestFit limits true (served_of hw m) newcomer id side → HasCandidate serves_own hw limits newcomer (meaning_with m picks) id side
  candidate_of id side best =
      let f = serves_it hw (map.get m id) best.waiting best.is_found in (
        best.waiting,
        record {
          pending = f.0;
          served = eq-eqb best.waiting.hw hw f.1;
          tried = best.fits.tried;
          fits = best.fits.fits;
          back_first = λ is_front back. let e : Back ≡ side = best.fits.only Back back in cc;
          newest = λ other w s later there own tried fits. best.newest other w later (served_there hw (map.get m other) w there own) s tried fits;
        },
      )

  pub no_candidate_of : FitsNone limits true (served_of hw m) newcomer → HasNoCandidate serves_own hw limits newcomer (meaning_with m picks)
  no_candidate_of none id w s there own tried fits = none id w (served_there hw (map.get m id) w there own) s tried fits
