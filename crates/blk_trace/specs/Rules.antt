-- The rules that an event has to obey after a list of events, one by one.
use Rattle.std.specs.Prelude.{ℕ, ◌<◌, ◌≤◌, ◌+◌, ◌++◌, List, [], ◌∷◌, length, Option, option_map, IfSome}
use Rattle.std.specs.Bool.{OnTrue}
use Rattle.std.specs.Option.{MatchOption, option_or}
use Rattle.blk_bio.specs.declared.request.Side.{Side}
use Rattle.blk_bio.specs.Requests.{IsWithin, Fits}
use Rattle.blk_trace.specs.declared.trace.TheConstants.{MAX_EVENTS}
use Rattle.blk_trace.specs.Happened.{Happened}
use Rattle.blk_trace.specs.Kinds.{releases, joins, issues, ends, is_tick, sets_depth, enters}
use Rattle.blk_bio.specs.declared.rule.TraceRule.{TraceRule}
use Rattle.blk_bio.specs.declared.rule.TraceRule.TheVariants.{ReleasedTwice, Unknown, AlreadyIssued, BioTwice, Fit, TagRange, TagUsed, NotIssued, InFlight, TooLong, DepthRange}
use Rattle.blk_trace.specs.Setups.{Setup}
use Rattle.blk_trace.specs.Events.{entered, request_of, IsReleased, IsIssued, AreRequeued, IsOpen, IsUsed, open_count, AreOnce}
use Rattle.blk_trace.specs.Depths.{depth_now}

-- the id of a request that has to wait: one that is joined or issued
abbrev pub asks_for : Happened → Option ℕ
asks_for e = option_or (option_map (λ p. p.0) (joins e)) (option_map (λ p. p.0) (issues e))

-- the event, after these events, obeys the rule
abbrev pub Obeys : Setup → List Happened → Happened → TraceRule → Type 0
Obeys setup events e ReleasedTwice = IfSome (releases e) (λ p. IsReleased events p.0 → ⊥)
Obeys setup events e Unknown = IfSome (asks_for e) (λ id. IsReleased events id)
Obeys setup events e AlreadyIssued =
    MatchOption (joins e)
    (IfSome (issues e) (λ p. AreRequeued events p.0))
    (λ p. IsIssued events p.0 → ⊥)
Obeys setup events e BioTwice = IfSome (enters e) (λ p. AreOnce (entered events ++ p.1))
Obeys setup events e Fit =
    MatchOption (releases e)
    (IfSome (joins e) (λ p. (s : Side) × Fits setup.limits (request_of events p.0) p.1 s))
    (λ p. IsWithin setup.limits p.1)
Obeys setup events e TagRange = IfSome (issues e) (λ p. p.1 < depth_now setup events)
Obeys setup events e TagUsed = IfSome (issues e) (λ p. IsUsed events p.1 → ⊥)
Obeys setup events e NotIssued = IfSome (ends e) (λ tag. IsOpen events tag)
Obeys setup events e InFlight = OnTrue (is_tick e) ((tag : ℕ) → IsOpen events tag → ⊥)
Obeys setup events e TooLong = length (events ++ e ∷ []) + open_count (events ++ e ∷ []) ≤ MAX_EVENTS
Obeys setup events e DepthRange = IfSome (sets_depth e) (λ depth. (0 < depth) × (depth ≤ setup.depth))

-- the order in which the rules are looked for
abbrev pub rank : TraceRule → ℕ
rank ReleasedTwice = 1
rank Unknown = 2
rank AlreadyIssued = 3
rank BioTwice = 4
rank Fit = 5
rank TagRange = 6
rank TagUsed = 7
rank NotIssued = 8
rank InFlight = 9
rank TooLong = 10
rank DepthRange = 11

-- the first rule that the event breaks
pub record IsFirstBroken (setup : Setup) (events : List Happened) (e : Happened) (rule : TraceRule) : Type 0 where
  pub broken : Obeys setup events e rule → ⊥
  pub first : (r : TraceRule) → rank r < rank rule → Obeys setup events e r

-- it breaks none
abbrev pub BreaksNoRule : Setup → List Happened → Happened → Type 0
BreaksNoRule setup events e = (r : TraceRule) → Obeys setup events e r
