-- How a simulation stands between two steps.
use Rattle.std.specs.Prelude.{◌≡◌, ◌<◌, ◌≤◌, ◌+◌, ◌==◌, ◌++◌, ◌&&◌, ◌||◌, not, cond, ℕ, Bool, false, List, [], ◌∷◌, Some, length, map, slice_get, All, IsPermutation}
use Rattle.blk_bio.specs.Bios.{Bio}
use Rattle.blk_trace.specs.Happened.{Happened}
use Rattle.blk_trace.specs.Events.{entered}
use Rattle.blk_queues.specs.Plugs.{Plug}
use Rattle.blk_queues.specs.Queues.{Queue}
use Rattle.blk_text.specs.declared.script.Line.{Line}
use Rattle.blk_sim.specs.Simulation.{Where, Plugged, Staged, Released, moved, place_after, is_where, effect_of, added_by}
use Rattle.blk_sim.specs.State.{SimState}
use Rattle.blk_sim.specs.Moves.{bios_in}

-- a bio, and where it is
pub record Placing : Type 0 where
  pub bio : Bio
  pub place : Where

-- a bio where these steps leave it, from its plug on
abbrev pub placing_of : ℕ → List Line → Bio → Placing
placing_of hw after b = record { bio = b; place = place_after hw b.id.submitter Plugged after }

-- a `bio` line's bio, where the steps after it leave it
abbrev pub placed_by : ℕ → Line → List Line → List Placing
placed_by hw l after = map (placing_of hw after) (added_by (effect_of l))

-- a bio after one more step
abbrev pub moved_by : ℕ → Line → Placing → Placing
moved_by hw l p = record { bio = p.bio; place = moved hw p.bio.id.submitter p.place l }

-- all bios after one more step
abbrev pub stepped : ℕ → Line → List Placing → List Placing
stepped hw l book = map (moved_by hw l) book ++ placed_by hw l []

-- the bios whose placing passes a test
unfoldable pub picked : (Placing → Bool) → List Placing → List Bio
picked test [] = []
picked test (p ∷ ps) = cond (test p) (p.bio ∷ picked test ps) (picked test ps)

-- whether a bio is at a place
abbrev pub is_in : Where → Placing → Bool
is_in w p = is_where w p.place

-- whether a bio of the submitter is at a place
abbrev pub is_bio_at : Where → ℕ → Placing → Bool
is_bio_at w s p = is_where w p.place && (p.bio.id.submitter == s)

-- each plug has its submitter's plugged bios
abbrev pub ArePlugged : List Placing → List Plug → Type 0
ArePlugged book plugs = (s : ℕ) (plug : Plug) → slice_get plugs s ≡ Some plug → IsPermutation (bios_in plug.requests) (picked (is_bio_at Plugged s) book)

-- the software queues of the submitters that pass the test are empty, and each other one has its submitter's staged bios
abbrev pub AreStaged : (ℕ → Bool) → List Placing → List Queue → Type 0
AreStaged test book queues = (s : ℕ) (queue : Queue) → slice_get queues s ≡ Some queue
    → IsPermutation (bios_in queue.requests) (picked (λ p. is_bio_at Staged s p && not (test s)) book)

-- the core has the released bios, and the staged ones of the submitters that pass the test
abbrev pub AreReleased : (ℕ → Bool) → List Placing → List Happened → Type 0
AreReleased test book events = IsPermutation (entered events) (picked (λ p. is_in Released p || (is_in Staged p && test p.bio.id.submitter)) book)

-- the software queues of the submitters that pass the test were emptied into the core
pub record AreDrained (test : ℕ → Bool) (book : List Placing) (queues : List Queue) (events : List Happened) : Type 0 where
  pub staged : AreStaged test book queues
  pub released : AreReleased test book events

-- the test that nothing passes
abbrev pub nobody : ℕ → Bool
nobody s = false

-- each bio is where the book says
pub record Stands (book : List Placing) (plugs : List Plug) (queues : List Queue) (events : List Happened) : Type 0 where
  pub known : All (λ p. p.bio.id.submitter < length plugs) book
  pub plugged : ArePlugged book plugs
  pub drained : AreDrained nobody book queues events

-- each submitter sent at most n bios: those that came into its software queue, and those in its plug
abbrev pub HaveCome : ℕ → List Plug → List Queue → Type 0
HaveCome n plugs queues = (s : ℕ) (plug : Plug) (queue : Queue) → slice_get plugs s ≡ Some plug → slice_get queues s ≡ Some queue
    → queue.bios_in + length (bios_in plug.requests) ≤ n

-- as many software queues as plugs, all of the core's limits, and no submitter sent more bios than these
pub record IsReady (n : ℕ) (state : SimState) : Type 0 where
  pub counts : length state.queues ≡ length state.plugs
  pub plug_limits : (s : ℕ) (plug : Plug) → slice_get state.plugs s ≡ Some plug → plug.limits ≡ state.core.setup.limits
  pub queue_limits : (s : ℕ) (queue : Queue) → slice_get state.queues s ≡ Some queue → queue.limits ≡ state.core.setup.limits
  pub come : HaveCome n state.plugs state.queues
