-- Which records of a capture are bios that come in, in which round, and from whom.
use Rattle.std.specs.Prelude.{ℕ, ◌≤◌, ◌==◌, ◌-◌, ◌/◌, ◌++◌, List, [], ◌∷◌, length, Option, None, Some, IfSome, cond, nat_le, All}
use Rattle.std.specs.List.{list_any}
use Rattle.blk_bio.specs.declared.bio.Dir.{Dir}
use Rattle.blk_bio.specs.declared.limits.TheConstants.{MAX_SOFT_QUEUES}
use Rattle.blk_capture.specs.Passing.{dir_of_op, passed_over}
use Rattle.blk_capture.specs.declared.record.Action.{Action}
use Rattle.blk_capture.specs.declared.record.Action.TheVariants as action
use Rattle.blk_capture.specs.declared.record.PassReason.{PassReason}
use Rattle.blk_capture.specs.declared.record.Record.{Record}
use Rattle.blk_text.specs.declared.script.TheConstants.{MAX_RUN}
use Rattle.blk_arrivals.specs.declared.coming.ToldBy.{ToldBy}
use Rattle.blk_arrivals.specs.declared.coming.ToldBy.TheVariants as by

-- only where it is not passed over
abbrev pub unless_passed : Option PassReason → Option Dir → Option Dir
unless_passed None way = way
unless_passed (Some kind) way = None

-- only where it is queued
abbrev pub if_queued : Action → Option Dir → Option Dir
if_queued action.Queue way = way
if_queued _ way = None

-- which way the data of a bio goes that comes in by a record, if one does: it is queued, and not passed over
abbrev pub way_of : Record → Option Dir
way_of r = if_queued r.action (unless_passed (passed_over r) (dir_of_op r.op))

-- when a capture begins: the time of its first record, 0 where there is none
abbrev pub begin_of : List Record → ℕ
begin_of [] = 0
begin_of (r ∷ records) = r.time

-- the round of a time, of rounds of a length from a beginning on
abbrev pub round_of_time : ℕ → ℕ → ℕ → ℕ
round_of_time begin span time = (time - begin) / span

-- no bio comes in after the last round of which a script can tell
abbrev pub ComeInTime : ℕ → ℕ → List Record → Type 0
ComeInTime begin span records = All (λ r. IfSome (way_of r) (λ _. round_of_time begin span r.time ≤ MAX_RUN)) records

-- by what submitters are told apart: by their processes, or by the processors on which they ran
abbrev pub key_of : ToldBy → Record → ℕ
key_of by.Process r = r.pid
key_of by.Processor r = r.cpu

-- keys, with that of one more bio, unless it is among them
abbrev pub with_key : Option Dir → ℕ → List ℕ → List ℕ
with_key None key keys = keys
with_key (Some way) key keys = cond (list_any (λ k. k == key) keys) keys (keys ++ key ∷ [])

unfoldable pub keys_after : ToldBy → List ℕ → List Record → List ℕ
keys_after told keys [] = keys
keys_after told keys (r ∷ records) = keys_after told (with_key (way_of r) (key_of told r) keys) records

-- the keys of all bios that come in, each once, in the order in which they first come in
abbrev pub keys_of : ToldBy → List Record → List ℕ
keys_of told records = keys_after told [] records

-- no more than there may be submitters
abbrev pub AreFewSubmitters : List ℕ → Type 0
AreFewSubmitters keys = length keys ≤ MAX_SOFT_QUEUES

-- by their processes, where these are few enough, else by the processors
abbrev pub told_by : List Record → ToldBy
told_by records = cond (nat_le (length (keys_of by.Process records)) MAX_SOFT_QUEUES) by.Process by.Processor

-- the keys of the submitters, who are numbered from 0 on by their places here
abbrev pub submitters_of : List Record → List ℕ
submitters_of records = keys_of (told_by records) records
