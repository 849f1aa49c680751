-- Legal traces.
use Rattle.std.specs.Prelude.{ℕ, ◌≡◌, ◌<◌, ◌≤◌, ◌+◌, List, length, take}
use Rattle.blk_bio.specs.Bios.{Bio}
use Rattle.blk_bio.specs.declared.request.Side.{Side}
use Rattle.blk_bio.specs.Requests.{IsWithin, Fits}
use Rattle.blk_trace.specs.declared.trace.TheConstants.{MAX_EVENTS}
use Rattle.blk_trace.specs.Happened.{Happened, Tick, Release, Join, Issue, Depth}
use Rattle.blk_trace.specs.Setups.{Setup}
use Rattle.blk_trace.specs.Events.{At, EntersRequest, EndsAt, IsRequeued, round_at, entered, request_of, IsReleased, IsOpen, open_count, AreOnce}
use Rattle.blk_trace.specs.Depths.{depth_in}

-- a list of events is legal: conditions on its places
pub record IsLegalTrace (setup : Setup) (events : List Happened) : Type 0 where
  -- each id has one Release at most
  pub released_once : (j k id : ℕ) (q r : List Bio) → At events j (Release id q) → At events k (Release id r) → j ≡ k
  -- each Join stands after its id's Release and before its Issues
  pub join_released : (k id : ℕ) (n : List Bio) → At events k (Join id n) → IsReleased (take k events) id
  pub join_unissued : (j k id tag : ℕ) (n : List Bio) → At events j (Join id n) → At events k (Issue id tag) → j < k
  -- each Issue names an id that was released, and that was requeued where it was issued before, and a tag below the depth
  -- of its round
  pub issue_released : (k id tag : ℕ) → At events k (Issue id tag) → IsReleased (take k events) id
  pub reissued : (j k id t u : ℕ) → At events j (Issue id t) → At events k (Issue id u) → j < k → IsRequeued (take k events) j t
  pub tag_range : (k id tag : ℕ) → At events k (Issue id tag) → tag < depth_in setup events (round_at events k)
  -- no tag has two Issues in one round
  pub tag_once : (j k i l tag : ℕ) → At events j (Issue i tag) → At events k (Issue l tag) → round_at events j ≡ round_at events k → j ≡ k
  -- what ends an Issue names a tag with an open one
  pub done_open : (k tag : ℕ) → EndsAt events k tag → IsOpen (take k events) tag
  -- no Issue before a Tick is open at it
  pub tick_closed : (k tag : ℕ) → At events k Tick → IsOpen (take k events) tag → ⊥
  -- no bio's id stands twice in the Releases and Joins
  pub bios_once : AreOnce (entered events)
  -- the bios of each Release and Join are a request
  pub are_requests : (k : ℕ) (e : Happened) → At events k e → EntersRequest e
  -- each Release is within the limits, and each Join fits the request that it joins
  pub release_within : (k id : ℕ) (q : List Bio) → At events k (Release id q) → IsWithin setup.limits q
  pub join_fits : (k id : ℕ) (n : List Bio) → At events k (Join id n) → (s : Side) × Fits setup.limits (request_of (take k events) id) n s
  -- each Depth is at least 1, and no more than the setup's
  pub depth_range : (k depth : ℕ) → At events k (Depth depth) → (0 < depth) × (depth ≤ setup.depth)
  -- the events, with a place for the end of each open Issue, are at most MAX_EVENTS
  pub not_too_long : length events + open_count events ≤ MAX_EVENTS
