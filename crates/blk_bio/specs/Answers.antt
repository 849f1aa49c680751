-- What the calls on requests answer.
use Rattle.std.specs.Prelude.{◌≡◌, ◌≢◌, ◌<◌, ◌≤◌, ◌++◌, List, length, Result, Ok, Err, [], ◌∷◌}
use Rattle.blk_bio.specs.declared.request.Side.{Side}
use Rattle.blk_bio.specs.declared.request.Side.TheVariants.{Back}
use Rattle.blk_bio.specs.declared.request.JoinFault.{JoinFault}
use Rattle.blk_bio.specs.declared.request.JoinFault.TheVariants.{Direction, Apart, Sectors, Segments, Memory}
use Rattle.blk_bio.specs.Bios.{Bio}
use Rattle.blk_bio.specs.Limits.{Limits}
use Rattle.blk_bio.specs.Requests.{dir_of, last_of, sectors_of, Abuts, joined, Fits}
use Rattle.edd_commands.specs.Order.{BreaksFirst}

-- the rules of a join, in the order in which they are looked at
abbrev pub join_rules : Limits → List Bio → List Bio → List (Type 0)
join_rules limits bios newcomer =
    (dir_of newcomer ≡ dir_of bios)
    ∷ ((s : Side) × Abuts bios newcomer s)
    ∷ ((s : Side) × Abuts bios newcomer s × (sectors_of (joined bios newcomer s) ≤ limits.max_sectors))
    ∷ ((s : Side) × Fits limits bios newcomer s) ∷ []

-- what each fault of a join says
abbrev pub IsJoinFault : Limits → List Bio → List Bio → JoinFault → Type 0
IsJoinFault limits bios newcomer Direction = BreaksFirst (join_rules limits bios newcomer) 0 (dir_of newcomer ≢ dir_of bios)
IsJoinFault limits bios newcomer Apart =
    BreaksFirst (join_rules limits bios newcomer) 1 ((s : Side) → Abuts bios newcomer s → ⊥)
IsJoinFault limits bios newcomer Sectors =
    BreaksFirst (join_rules limits bios newcomer) 2 ((s : Side) × Abuts bios newcomer s × (limits.max_sectors < sectors_of (joined bios newcomer s)))
IsJoinFault limits bios newcomer Segments =
    BreaksFirst (join_rules limits bios newcomer) 3 ((s : Side) × Abuts bios newcomer s × (limits.max_segments < length (joined bios newcomer s)))
IsJoinFault limits bios newcomer Memory = (s : Side) × Fits limits bios newcomer s

-- what each answer of a join says of the request before and after it
abbrev pub IsJoinAnswer : Limits → List Bio → List Bio → List Bio → Result Side (List Bio × JoinFault) → Type 0
IsJoinAnswer limits old newcomer new (Ok side) = Fits limits old newcomer side × (new ≡ joined old newcomer side)
IsJoinAnswer limits old newcomer new (Err e) = (new ≡ old) × (e.0 ≡ newcomer) × IsJoinFault limits old newcomer e.1

-- the rules of a bio that is to join at the back, in the order in which they are looked at
abbrev pub push_rules : Limits → List Bio → Bio → List (Type 0)
push_rules limits bios bio =
    (bio.dir ≡ dir_of bios)
    ∷ (bio.first ≡ last_of bios)
    ∷ (sectors_of (bios ++ bio ∷ []) ≤ limits.max_sectors)
    ∷ Fits limits bios (bio ∷ []) Back ∷ []

-- what each fault of such a join says
abbrev pub IsPushFault : Limits → List Bio → Bio → JoinFault → Type 0
IsPushFault limits bios bio Direction = BreaksFirst (push_rules limits bios bio) 0 (bio.dir ≢ dir_of bios)
IsPushFault limits bios bio Apart = BreaksFirst (push_rules limits bios bio) 1 (bio.first ≢ last_of bios)
IsPushFault limits bios bio Sectors = BreaksFirst (push_rules limits bios bio) 2 (limits.max_sectors < sectors_of (bios ++ bio ∷ []))
IsPushFault limits bios bio Segments = BreaksFirst (push_rules limits bios bio) 3 (limits.max_segments < length (bios ++ bio ∷ []))
IsPushFault limits bios bio Memory = Fits limits bios (bio ∷ []) Back

-- what each answer of such a join says of the request before and after it
abbrev pub IsBioPushAnswer : Limits → List Bio → Bio → List Bio → Result (Unit {0}) JoinFault → Type 0
IsBioPushAnswer limits old bio new (Ok _) = Fits limits old (bio ∷ []) Back × (new ≡ old ++ bio ∷ [])
IsBioPushAnswer limits old bio new (Err why) = (new ≡ old) × IsPushFault limits old bio why
