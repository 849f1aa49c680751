-- What an index says is said of a scheduler that serves every request for every hardware queue.
use Rattle.std.proofs.Common.{◌≡◌, ℕ, Bool, sym, ap, ◌∙◌, refl, Some}
use Rattle.std.specs.FinMap as map
use Rattle.blk_bio.specs.declared.request.Side.{Side}
use Rattle.blk_bio.specs.declared.request.Side.TheVariants.{Back}
use Rattle.blk_bio.specs.Extents.{Extent}
use Rattle.blk_bio.specs.Limits.{Limits}
use Rattle.blk_sched.specs.Meaning.{Waiting, Pending, Meaning, OpenPicks, HasCandidate, Picks, opened}
use Rattle.blk_sched.specs.Fits.{IsNewestFit}
use Rattle.blk_sched.specs.Policies.{serves_all}

-- a meaning of these parts
abbrev pub meaning_of_parts : Pending → OpenPicks → Bool → Meaning
meaning_of_parts pending open_picks front = record { pending = pending; open_picks = open_picks; front = front }

pub candidate_of : (m : Meaning) (hw : ℕ) (limits : Limits) (newcomer : Extent) (id : ℕ) (side : Side) → IsNewestFit limits m.front (map.get m.pending) newcomer id side → HasCandidate serves_all hw limits newcomer m id side
candidate_of m hw limits newcomer id side best = (
  best.waiting,
  record {
    pending = best.is_found;
    served = refl;
    tried = best.fits.tried;
    fits = best.fits.fits;
    back_first = λ is_front back. let e : Back ≡ side = best.fits.only Back back in cc;
    newest = λ other v s after there own tried fits. best.newest other v after there s tried fits;
  },
)

pub picks : (m new : Pending) (front : Bool) (hw id : ℕ) (p q : OpenPicks) (w : Waiting) → ((k : ℕ) (v : Waiting) → map.get m k ≡ Some v → v.id ≡ k) → map.get m id ≡ Some w → new ≡ map.remove m id → q ≡ opened w.extent.dir p → Picks serves_all hw (meaning_of_parts m p front) w (meaning_of_parts new q front)
picks m new front hw id p q w named there removed opens =
    let own : w.id ≡ id = named id w there in (
      ap (map.get m) own ∙ there,
      refl,
      ap (λ (x : Pending). meaning_of_parts x q front) (removed ∙ ap (map.remove m) (sym own))
          ∙ ap (λ (y : OpenPicks). let n : Meaning = record { pending = map.remove m w.id; open_picks = y; front = front } in n) opens,
    )
