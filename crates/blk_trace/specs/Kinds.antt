-- What an event does. The first nine words read its kind, as the methods of an event do in code, and all others are composed of them.
use Rattle.std.specs.Prelude.{ℕ, Bool, true, false, List, [], Option, None, Some, is_some, cond, ◌==◌}
use Rattle.std.specs.Option.{option_or, option_map_or, option_and_then}
use Rattle.blk_bio.specs.Bios.{Bio}
use Rattle.blk_trace.specs.declared.event.Event.{Event}
use Rattle.blk_trace.specs.Happened.{Happened, Tick, Release, Join, Issue, Done, Back, Depth}

-- the id under which a request enters as a new one, with the request
abbrev pub releases : {R : Type 0} → Event R → Option (ℕ × R)
releases (Release id request) = Some (id, request)
releases _ = None

-- the id of the request that another joins, with that other
abbrev pub joins : {R : Type 0} → Event R → Option (ℕ × R)
joins (Join id request) = Some (id, request)
joins _ = None

-- the id of the request that goes to the device, with its tag
abbrev pub issues : {R : Type 0} → Event R → Option (ℕ × ℕ)
issues (Issue id tag) = Some (id, tag)
issues _ = None

-- the tag whose Issue ends
abbrev pub ends : {R : Type 0} → Event R → Option ℕ
ends (Done tag) = Some tag
ends (Back tag) = Some tag
ends _ = None

-- the tag whose command has completed
abbrev pub completes : {R : Type 0} → Event R → Option ℕ
completes (Done tag) = Some tag
completes _ = None

-- the tag whose request is requeued
abbrev pub requeues : {R : Type 0} → Event R → Option ℕ
requeues (Back tag) = Some tag
requeues _ = None

-- the depth that it sets, for the rounds after its own
abbrev pub sets_depth : {R : Type 0} → Event R → Option ℕ
sets_depth (Depth depth) = Some depth
sets_depth _ = None

-- whether it is a Tick
abbrev pub is_tick : {R : Type 0} → Event R → Bool
is_tick Tick = true
is_tick _ = false

-- the same event, where no request enters by it
abbrev pub bare : {R Q : Type 0} → Event R → Option (Event Q)
bare Tick = Some Tick
bare (Release id request) = None
bare (Join id request) = None
bare (Issue id tag) = Some (Issue id tag)
bare (Done tag) = Some (Done tag)
bare (Back tag) = Some (Back tag)
bare (Depth depth) = Some (Depth depth)

-- the id under which a request enters, new or joined, with that request
abbrev pub enters : {R : Type 0} → Event R → Option (ℕ × R)
enters e = option_or (releases e) (joins e)

-- whether it is an Issue
abbrev pub is_issue : {R : Type 0} → Event R → Bool
is_issue e = is_some (issues e)

-- whether it ends an Issue
abbrev pub is_end : {R : Type 0} → Event R → Bool
is_end e = is_some (ends e)

-- whether it ends the Issue of the tag
abbrev pub is_done_of : {R : Type 0} → ℕ → Event R → Bool
is_done_of tag e = option_map_or (λ t. t == tag) (ends e) false

-- the bios that enter
abbrev pub bios_of : Happened → List Bio
bios_of e = option_map_or (λ p. p.1) (enters e) []

-- the bios that enter under the id
abbrev pub enters_under : ℕ → Happened → Option (List Bio)
enters_under id e = option_and_then (λ p. cond (p.0 == id) (Some p.1) None) (enters e)
