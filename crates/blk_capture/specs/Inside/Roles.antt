-- What the records of a capture are of, while they are matched.
use Rattle.std.specs.Prelude.{ℕ, ◌≡◌, ◌+◌, Bool, true, false, List, length, Option, Some, None, cond}
use Rattle.blk_capture.specs.Fates.{opened_by, made_by}
use Rattle.blk_capture.specs.declared.matching.Role.{Role}
use Rattle.blk_capture.specs.declared.matching.Role.TheVariants as role
use Rattle.blk_capture.specs.declared.record.Action.{Action}
use Rattle.blk_capture.specs.declared.record.PassReason.{PassReason}

abbrev pub adds : Bool → ℕ
adds b = cond b 1 0

-- a list grew by one where something was added, and else is as long as before
abbrev pub GrowsIf : {X : Type 0} → Bool → List X → List X → Type 0
GrowsIf b old new = length new ≡ length old + adds b

-- whether a record is of a bio or a request that is known
abbrev pub is_known : Role → Bool
is_known (role.Bio b) = true
is_known (role.Request r) = true
is_known role.Unmatched = false
is_known (role.PassedOver kind) = false

-- whether a record opened a request, or made a bio
abbrev pub opens_role : Action → Role → Bool
opens_role a p = opened_by a (is_known p)

abbrev pub makes_role : Action → Role → Bool
makes_role a p = made_by a (is_known p)

-- why it is passed over, if it is
abbrev pub passed_role : Role → Option PassReason
passed_role (role.PassedOver kind) = Some kind
passed_role _ = None
