-- Why a core refuses a call.
use Rattle.std.specs.Prelude.{ℕ, ◌+◌, ◌≡◌, ◌≤◌, ◌<◌, ◌⊎◌, ◌++◌, List, length, [], ◌∷◌}
use Rattle.blk_bio.specs.Bios.{Bio}
use Rattle.blk_trace.specs.declared.trace.TheConstants.{MAX_EVENTS}
use Rattle.blk_trace.specs.Events.{entered, open_count, AreOnce, IsFirstRepeatedBio, IsOpen, IsUsed}
use Rattle.blk_trace.specs.Depths.{depth_now}
use Rattle.blk_core.specs.State.{CoreState}
use Rattle.blk_core.specs.declared.refusals.CoreFault.{CoreFault}
use Rattle.blk_core.specs.declared.refusals.CoreFault.TheVariants.{NoQueue, Repeated, TraceFull, Memory}
use Rattle.blk_core.specs.declared.refusals.IssueFault.{IssueFault}
use Rattle.blk_core.specs.declared.refusals.IssueFault.TheVariants as issue
use Rattle.blk_core.specs.declared.refusals.BackFault.{BackFault}
use Rattle.blk_core.specs.declared.refusals.BackFault.TheVariants as back
use Rattle.blk_core.specs.declared.refusals.TickFault.{TickFault}
use Rattle.blk_core.specs.declared.refusals.TickFault.TheVariants as tick
use Rattle.blk_core.specs.declared.refusals.DepthFault.{DepthFault}
use Rattle.blk_core.specs.declared.refusals.DepthFault.TheVariants as depth
use Rattle.edd_commands.specs.Order.{BreaksFirst, AreKept}

-- how many events there are, with a Done counted for each open Issue
abbrev pub places_taken : CoreState → ℕ
places_taken c = length c.events + open_count c.events

-- a request that is released: its hardware queue is there, none of its bios' ids stands anywhere else, and there is a place for the event
pub record CanRelease (c : CoreState) (bios : List Bio) (hw : ℕ) : Type 0 where
  pub queue : hw < c.setup.hw
  pub once : AreOnce (entered c.events ++ bios)
  pub room : places_taken c < MAX_EVENTS

-- the rules of a release, in the order in which they are looked at
abbrev pub release_rules : CoreState → List Bio → ℕ → List (Type 0)
release_rules c bios hw = (hw < c.setup.hw) ∷ AreOnce (entered c.events ++ bios) ∷ (places_taken c < MAX_EVENTS) ∷ []

-- what each fault of a release says
abbrev pub IsReleaseFault : CoreState → List Bio → ℕ → CoreFault → Type 0
IsReleaseFault c bios hw NoQueue = BreaksFirst (release_rules c bios hw) 0 (c.setup.hw ≤ hw)
IsReleaseFault c bios hw (Repeated id) = BreaksFirst (release_rules c bios hw) 1 (IsFirstRepeatedBio (entered c.events) bios id)
IsReleaseFault c bios hw TraceFull = BreaksFirst (release_rules c bios hw) 2 (MAX_EVENTS ≤ places_taken c)
IsReleaseFault c bios hw Memory = CanRelease c bios hw

-- an issue that may be tried: its hardware queue is there, its tag is below the depth of this round and was not issued in it, and
-- there are places for the Issue and its end
pub record CanIssue (c : CoreState) (hw tag : ℕ) : Type 0 where
  pub queue : hw < c.setup.hw
  pub range : tag < depth_now c.setup c.events
  pub free : IsUsed c.events tag → ⊥
  pub room : places_taken c + 2 ≤ MAX_EVENTS

-- the rules of an issue, in the order in which they are looked at
abbrev pub issue_rules : CoreState → ℕ → ℕ → List (Type 0)
issue_rules c hw tag =
    (hw < c.setup.hw) ∷ (tag < depth_now c.setup c.events) ∷ (IsUsed c.events tag → ⊥) ∷ (places_taken c + 2 ≤ MAX_EVENTS) ∷ []

-- what each fault of an issue says
abbrev pub IsIssueFault : CoreState → ℕ → ℕ → IssueFault → Type 0
IsIssueFault c hw tag issue.NoQueue = BreaksFirst (issue_rules c hw tag) 0 (c.setup.hw ≤ hw)
IsIssueFault c hw tag issue.TagRange = BreaksFirst (issue_rules c hw tag) 1 (depth_now c.setup c.events ≤ tag)
IsIssueFault c hw tag issue.SlotUsed = BreaksFirst (issue_rules c hw tag) 2 (IsUsed c.events tag)
IsIssueFault c hw tag issue.TraceFull = BreaksFirst (issue_rules c hw tag) 3 (MAX_EVENTS < places_taken c + 2)
IsIssueFault c hw tag issue.Memory = CanIssue c hw tag

-- a round that ends: no command is in flight, and there is a place for the Tick
pub record CanTick (c : CoreState) : Type 0 where
  pub closed : open_count c.events ≡ 0
  pub room : places_taken c < MAX_EVENTS

-- the rules of a tick, in the order in which they are looked at
abbrev pub tick_rules : CoreState → List (Type 0)
tick_rules c = (open_count c.events ≡ 0) ∷ (places_taken c < MAX_EVENTS) ∷ []

-- what each fault of a tick says
abbrev pub IsTickFault : CoreState → TickFault → Type 0
IsTickFault c (tick.InFlight n) = BreaksFirst (tick_rules c) 0 ((n ≡ open_count c.events) × (0 < n))
IsTickFault c tick.TraceFull = BreaksFirst (tick_rules c) 1 (MAX_EVENTS ≤ places_taken c)
IsTickFault c tick.Memory = CanTick c

-- a depth that may be set: it is at least 1 and no more than the setup's, and there is a place for the Depth
pub record CanSetDepth (c : CoreState) (depth : ℕ) : Type 0 where
  pub room : places_taken c < MAX_EVENTS
  pub some : 0 < depth
  pub few : depth ≤ c.setup.depth

-- the rules of a Depth, in the order in which they are looked at
abbrev pub depth_rules : CoreState → ℕ → List (Type 0)
depth_rules c n = (places_taken c < MAX_EVENTS) ∷ ((0 < n) × (n ≤ c.setup.depth)) ∷ []

-- what each fault of a Depth says
abbrev pub IsDepthFault : CoreState → ℕ → DepthFault → Type 0
IsDepthFault c n depth.TraceFull = BreaksFirst (depth_rules c n) 0 (MAX_EVENTS ≤ places_taken c)
IsDepthFault c n depth.DepthRange = BreaksFirst (depth_rules c n) 1 ((n ≡ 0) ⊎ (c.setup.depth < n))
IsDepthFault c n depth.Memory = CanSetDepth c n

-- a command is in flight under the tag: the tag has an Issue with no Done and no Back after it
abbrev pub IsInFlight : CoreState → ℕ → Type 0
IsInFlight c tag = IsOpen c.events tag

-- the rule of a Back
abbrev pub back_rules : CoreState → ℕ → List (Type 0)
back_rules c tag = IsInFlight c tag ∷ []

-- what each fault of a Back says
abbrev pub IsBackFault : CoreState → ℕ → BackFault → Type 0
IsBackFault c tag back.NotIssued = BreaksFirst (back_rules c tag) 0 (IsInFlight c tag → ⊥)
IsBackFault c tag back.Memory = AreKept (back_rules c tag)
