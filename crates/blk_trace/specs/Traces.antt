-- What contracts see of a trace, and what its calls answer.
use Rattle.std.specs.Prelude.{◌≡◌, ◌++◌, List, [], ◌∷◌, Option, Some, None, length, take, slice_get, Result, Ok, Err, IfErr, ⊤}
use Rattle.std.specs.Option.{option_map_or}
use Rattle.blk_bio.specs.Bios.{Bio}
use Rattle.blk_bio.specs.declared.bio.BioId.{BioId}
use Rattle.blk_trace.specs.Happened.{Happened}
use Rattle.blk_trace.specs.Kinds.{enters, ends}
use Rattle.blk_trace.specs.declared.rule.PushFault.{PushFault}
use Rattle.blk_trace.specs.declared.rule.PushFault.TheVariants as push_fault
use Rattle.blk_trace.specs.declared.rule.TraceFault.{TraceFault}
use Rattle.blk_trace.specs.declared.rule.TraceFault.TheVariants as trace_fault
use Rattle.blk_trace.specs.declared.trace.Prepared.{Prepared}
use Rattle.blk_trace.specs.declared.trace.Prepared.TheVariants.{Nothing, AnIssue, Bios}
use Rattle.blk_trace.specs.Setups.{Setup}
use Rattle.blk_trace.specs.Events.{entered, HasId}
use Rattle.blk_trace.specs.Legal.{IsLegalTrace}
use Rattle.blk_trace.specs.Rules.{IsFirstBroken, BreaksNoRule}

-- a trace: what it is made for, its events, and what it is prepared for
pub record Traced : Type 0 where
  pub setup : Setup
  pub events : List Happened
  pub prepared : Prepared

-- the trace with one event more, and nothing prepared
abbrev pub extended : Traced → Happened → Traced
extended t e = record { setup = t.setup; events = t.events ++ e ∷ []; prepared = Nothing }

-- the trace with one event more, which is legal
abbrev pub IsLegallyExtended : Traced → Happened → Traced → Type 0
IsLegallyExtended old e new = (new ≡ extended old e) × IsLegalTrace old.setup (old.events ++ e ∷ [])

-- the same trace, prepared for this
abbrev pub prepared_for : Traced → Prepared → Traced
prepared_for t p = record { setup = t.setup; events = t.events; prepared = p }

-- what has to be prepared for the event: nothing for what ends an Issue, and as many bios as enter
abbrev pub needs : Happened → Prepared
needs e = option_map_or (λ _. Nothing) (ends e) (option_map_or (λ p. Bios (length p.1)) (enters e) AnIssue)

-- what was prepared serves for what is needed
abbrev pub Serves : Prepared → Prepared → Type 0
Serves _ Nothing = ⊤
Serves AnIssue AnIssue = ⊤
Serves (Bios n) (Bios m) = m ≡ n
Serves _ _ = ⊥

-- room for the event was made: always for a Done, else for an Issue (and then for a Tick too) or for as many bios
abbrev pub IsPreparedFor : Prepared → Happened → Type 0
IsPreparedFor p e = Serves p (needs e)

-- what is asked of `prepare`
abbrev pub wanted : Option (List Bio) → Prepared
wanted None = AnIssue
wanted (Some bios) = Bios (length bios)

-- what is refused breaks no rule: it is refused only when out of memory
abbrev pub LacksOnlyMemory : {X : Type 0} → Result (Unit {0}) (X × PushFault) → Type 0
LacksOnlyMemory result = IfErr result (λ e. e.1 ≡ push_fault.Memory)

-- what each answer of `push` says of the trace before and after it, whatever comes back with a fault
abbrev pub IsPushAnswer : {X : Type 0} → Traced → Happened → Traced → Result (Unit {0}) (X × PushFault) → Type 0
IsPushAnswer old e new (Ok _) =
    (new ≡ extended old e) × BreaksNoRule old.setup old.events e
IsPushAnswer old e new (Err (_, push_fault.Rule rule)) =
    (new ≡ old) × IsFirstBroken old.setup old.events e rule
IsPushAnswer old e new (Err (_, push_fault.Memory)) =
    (new ≡ old) × BreaksNoRule old.setup old.events e × (IsPreparedFor old.prepared e → ⊥)

-- what each answer of `from_events` says of the list
abbrev pub IsFromEventsAnswer : Setup → List Happened → Result Traced TraceFault → Type 0
IsFromEventsAnswer setup events (Ok t) = (t.setup ≡ setup) × (t.events ≡ events) × (t.prepared ≡ Nothing) × IsLegalTrace setup events
IsFromEventsAnswer setup events (Err (trace_fault.Rule at rule)) =
    IsLegalTrace setup (take at events) × ((e : Happened) × (slice_get events at ≡ Some e) × IsFirstBroken setup (take at events) e rule)
IsFromEventsAnswer setup events (Err trace_fault.Memory) = ⊤

-- a bio of the id entered
abbrev pub HasBio : List Happened → BioId → Type 0
HasBio events id = HasId (entered events) id
