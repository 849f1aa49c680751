-- What the calls on plugs answer.
use Rattle.std.specs.Prelude.{ℕ, ◌≡◌, ◌<◌, ◌⊎◌, ◌++◌, [], ◌∷◌, true, length, Result, Ok, Err, List}
use Rattle.blk_bio.specs.Bios.{Bio}
use Rattle.blk_bio.specs.Requests.{IsJoinCandidate}
use Rattle.blk_queues.specs.declared.plug.Added.{Added}
use Rattle.blk_queues.specs.declared.plug.Added.TheVariants.{New, Joined}
use Rattle.blk_queues.specs.declared.plug.PlugFault.{PlugFault}
use Rattle.blk_queues.specs.declared.plug.PlugFault.TheVariants.{Full, Memory}
use Rattle.blk_queues.specs.Plugs.{Plug, HasPlugCandidate, HasNoPlugCandidate, IsJoinedAt}
use Rattle.blk_queues.specs.declared.plug.TheConstants.{MAX_STAGED}
use Rattle.edd_commands.specs.Order.{BreaksFirst, AreKept}

-- the rule of an addition: the bio joins a request, or there is a place for one more
abbrev pub add_rules : Plug → Bio → List (Type 0)
add_rules plug bio =
    (HasPlugCandidate plug.limits plug.requests (bio ∷ [])
    ⊎ (HasNoPlugCandidate plug.limits plug.requests (bio ∷ []) × (length plug.requests < MAX_STAGED))) ∷ []

-- what each fault says of the plug and the bio
abbrev pub IsPlugFault : Plug → Bio → PlugFault → Type 0
IsPlugFault plug bio Full = BreaksFirst (add_rules plug bio) 0 (HasNoPlugCandidate plug.limits plug.requests (bio ∷ []) × (length plug.requests ≡ MAX_STAGED))
IsPlugFault plug bio Memory = AreKept (add_rules plug bio)

-- what each answer of an addition says of the plug before and after it
abbrev pub IsAddAnswer : Plug → Bio → Plug → Result Added (Bio × PlugFault) → Type 0
IsAddAnswer old bio new (Ok New) =
    HasNoPlugCandidate old.limits old.requests (bio ∷ []) × (length old.requests < MAX_STAGED)
    × (new ≡ record { limits = old.limits; requests = old.requests ++ (bio ∷ []) ∷ [] })
IsAddAnswer old bio new (Ok (Joined side)) =
    (place : ℕ) × IsJoinCandidate old.limits true old.requests (bio ∷ []) place side
    × (new.limits ≡ old.limits) × IsJoinedAt old.requests bio place side new.requests
IsAddAnswer old bio new (Err e) = (new ≡ old) × (e.0 ≡ bio) × IsPlugFault old bio e.1
