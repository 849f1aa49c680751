-- A list of events replayed from the start on: the state that it leaves, or the first event that breaks a rule.
use Rattle.std.specs.Prelude.{ℕ, ◌+◌, ◌==◌, ◌&&◌, ◌||◌, Bool, true, not, List, [], ◌∷◌, length, find, nat_lt, nat_le, Option, Result, Ok, Err}
use Rattle.std.specs.Option.{option_map_or}
use Rattle.std.specs.List.{list_any}
use Rattle.blk_bio.specs.declared.bio.BioId.{BioId}
use Rattle.blk_bio.specs.declared.request.Side.TheVariants.{Back as AtBack, Front as AtFront}
use Rattle.blk_bio.specs.declared.rule.TraceRule.{TraceRule}
use Rattle.blk_bio.specs.declared.rule.TraceRule.TheVariants.{ReleasedTwice, Unknown, AlreadyIssued, BioTwice, Fit, TagRange, TagUsed, NotIssued, InFlight, TooLong, DepthRange}
use Rattle.blk_bio.specs.Bios.{Bio}
use Rattle.blk_bio.specs.Limits.{Limits}
use Rattle.blk_bio.specs.Requests.{dir_of, first_of, last_of, sectors_of, joined}
use Rattle.blk_trace.specs.declared.trace.TheConstants.{MAX_EVENTS}
use Rattle.blk_trace.specs.declared.event.Event.TheVariants.{Tick, Release, Join, Issue, Done, Back, Depth}
use Rattle.blk_trace.specs.Happened.{Happened}
use Rattle.blk_trace.specs.Setups.{Setup, same_dir}
use Rattle.blk_trace_state.specs.State.{LayerState, start_state, next_state, request_now, has_entry, has_issue, is_out, is_open, is_used, flying_now}

-- whether one of the bios has the id
abbrev pub has_bio : BioId → List Bio → Bool
has_bio id bios = list_any (λ b. (b.id.submitter == id.submitter) && (b.id.serial == id.serial)) bios

-- whether the bios have an id each, which no bio has that entered
abbrev pub are_new : LayerState → List Bio → Bool
are_new s [] = true
are_new s (b ∷ bios) = (not (has_bio b.id bios) && not (list_any (λ r. has_bio b.id r.bios) s.entries)) && are_new s bios

-- whether the bios are one, or within the limits
abbrev pub is_within : Limits → List Bio → Bool
is_within limits bios = (length bios == 1) || (nat_le (sectors_of bios) limits.max_sectors && nat_le (length bios) limits.max_segments)

-- whether the newcomer can join the request at the back, or at the front
abbrev pub can_join : Limits → List Bio → List Bio → Bool
can_join limits bios newcomer =
    same_dir (dir_of newcomer) (dir_of bios)
    && (((first_of newcomer == last_of bios) && is_within limits (joined bios newcomer AtBack)) || ((last_of newcomer == first_of bios) && is_within limits (joined bios newcomer AtFront)))

-- how many events there are, with an end counted for each command in flight
abbrev pub places_now : LayerState → ℕ
places_now s = s.events + flying_now s

-- whether the event, in this state, obeys the rule
unfoldable pub obeys : Setup → LayerState → Happened → TraceRule → Bool
obeys setup s (Release id bios) ReleasedTwice = not (has_entry s id)
obeys setup s (Join id bios) Unknown = has_entry s id
obeys setup s (Issue id tag) Unknown = has_entry s id
obeys setup s (Join id bios) AlreadyIssued = not (has_issue s id)
obeys setup s (Issue id tag) AlreadyIssued = not (is_out s id)
obeys setup s (Release id bios) BioTwice = are_new s bios
obeys setup s (Join id bios) BioTwice = are_new s bios
obeys setup s (Release id bios) Fit = is_within setup.limits bios
obeys setup s (Join id bios) Fit = can_join setup.limits (request_now s id) bios
obeys setup s (Issue id tag) TagRange = nat_lt tag s.depth
obeys setup s (Issue id tag) TagUsed = not (is_used s tag)
obeys setup s (Done tag) NotIssued = is_open s tag
obeys setup s (Back tag) NotIssued = is_open s tag
obeys setup s Tick InFlight = flying_now s == 0
obeys setup s (Depth depth) DepthRange = nat_lt 0 depth && nat_le depth setup.depth
obeys setup s e TooLong = nat_le (places_now (next_state setup s e)) MAX_EVENTS
obeys setup s e rule = true

-- the rules in the order in which they are looked for
abbrev pub rules : List TraceRule
rules = ReleasedTwice ∷ Unknown ∷ AlreadyIssued ∷ BioTwice ∷ Fit ∷ TagRange ∷ TagUsed ∷ NotIssued ∷ InFlight ∷ TooLong ∷ DepthRange ∷ []

-- the first that the event breaks
unfoldable pub first_broken : Setup → LayerState → Happened → Option TraceRule
first_broken setup s e = find (λ rule. not (obeys setup s e rule)) rules

-- what these events leave of a state; or the place of the first that breaks a rule, with the first rule that it breaks
unfoldable pub replay_from : Setup → LayerState → List Happened → Result LayerState (ℕ × TraceRule)
replay_from setup s [] = Ok s
replay_from setup s (e ∷ events) = option_map_or (λ rule. Err (s.events, rule)) (first_broken setup s e) (replay_from setup (next_state setup s e) events)

unfoldable pub replay : Setup → List Happened → Result LayerState (ℕ × TraceRule)
replay setup events = replay_from setup (start_state setup) events
