-- What became of the records of a capture.
use Rattle.std.specs.Prelude.{ℕ, ◌≡◌, ◌+◌, ◌<◌, ◌==◌, ◌&&◌, ⊤, suc, cond, Bool, true, false, List, [], ◌∷◌, map, Option, None, Some, All}
use Rattle.blk_capture.specs.Passing.{place_of, kind_place, passed_over}
use Rattle.blk_capture.specs.declared.fates.Fate.{Fate}
use Rattle.blk_capture.specs.declared.fates.Fate.TheVariants as fate
use Rattle.blk_capture.specs.declared.fates.ActionTally.{ActionTally}
use Rattle.blk_capture.specs.declared.record.Action.{Action}
use Rattle.blk_capture.specs.declared.record.Action.TheVariants as action
use Rattle.blk_capture.specs.declared.record.PassReason.{PassReason}
use Rattle.blk_capture.specs.declared.record.Record.{Record}

abbrev pub is_taken : Fate → Bool
is_taken (fate.Taken k) = true
is_taken _ = false

abbrev pub is_left_out : Fate → Bool
is_left_out fate.LeftOut = true
is_left_out _ = false

abbrev pub is_unmatched : Fate → Bool
is_unmatched fate.Unmatched = true
is_unmatched _ = false

-- why a record was passed over, if it was
abbrev pub passed_by : Fate → Option PassReason
passed_by (fate.PassedOver kind) = Some kind
passed_by _ = None

abbrev pub is_passed : Fate → Bool
is_passed (fate.PassedOver kind) = true
is_passed _ = false

abbrev pub is_of_kind : PassReason → Fate → Bool
is_of_kind kind (fate.PassedOver found) = kind_place found == kind_place kind
is_of_kind kind _ = false

-- whether a record was matched
abbrev pub is_matched : Fate → Bool
is_matched (fate.Taken k) = true
is_matched fate.LeftOut = true
is_matched fate.Unmatched = false
is_matched (fate.PassedOver kind) = false

-- whether a record opened a request, or made a bio, if it was matched
abbrev pub opened_by : Action → Bool → Bool
opened_by action.Get matched = matched
opened_by _ matched = false

abbrev pub made_by : Action → Bool → Bool
made_by action.Queue matched = matched
made_by action.Split matched = matched
made_by _ matched = false

abbrev pub opens : Action → Fate → Bool
opens a f = opened_by a (is_matched f)

abbrev pub makes : Action → Fate → Bool
makes a f = made_by a (is_matched f)

-- how many of the records, each with what became of it, pass a test
unfoldable pub told : {F : Type 0} → (Action → F → Bool) → List Record → List F → ℕ
told p [] fates = 0
told p (r ∷ records) [] = 0
told p (r ∷ records) (f ∷ fates) = cond (p r.action f) (suc (told p records fates)) (told p records fates)

-- of an action, those of which something is known
abbrev pub is_of_action : Action → (Fate → Bool) → Action → Fate → Bool
is_of_action a p b f = (place_of b == place_of a) && p f

-- how many records of an action there are, and what became of them
abbrev pub tally_of : Action → List Record → List Fate → ActionTally
tally_of a records fates = record {
  records = told (is_of_action a (λ f. true)) records fates;
  taken = told (is_of_action a is_taken) records fates;
  left_out = told (is_of_action a is_left_out) records fates;
  unmatched = told (is_of_action a is_unmatched) records fates;
  passed_over = told (is_of_action a is_passed) records fates;
}

abbrev pub AddsUp : ActionTally → Type 0
AddsUp t = t.taken + t.left_out + t.unmatched + t.passed_over ≡ t.records

-- a record is passed over just where it has a reason, and for that one
abbrev pub ArePassed : List Record → List Fate → Type 0
ArePassed records fates = map passed_by fates ≡ map passed_over records

-- the requests that records are said to be of are among the first n
abbrev pub IsTakenBelow : ℕ → Fate → Type 0
IsTakenBelow n (fate.Taken k) = k < n
IsTakenBelow n _ = ⊤

abbrev pub AreOfTaken : ℕ → List Fate → Type 0
AreOfTaken n fates = All (IsTakenBelow n) fates
