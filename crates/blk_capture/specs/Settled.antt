-- What is told of what is known after the last record.
use Rattle.std.specs.Prelude.{ℕ, ◌≡◌, ◌-◌, ◌==◌, cond, nat_le, true, false, Bool, List, [], ◌∷◌, length, map, count_by, take, slice_get, slice_index, option_and_then, Option, None, Some}
use Rattle.std.specs.List.{filter_map, enumerate_from}
use Rattle.blk_capture.specs.Parting.{fate_at}
use Rattle.blk_capture.specs.Requests.{entry_by, released_by, deadline_of}
use Rattle.blk_capture.specs.Rules.{Known, AreTold, goes_out_by}
use Rattle.blk_capture.specs.Inside.Members.{request_into}
use Rattle.blk_capture.specs.declared.clock.Dispatch.{Dispatch}
use Rattle.blk_capture.specs.declared.fates.Fate.{Fate}
use Rattle.blk_capture.specs.declared.fates.Fate.TheVariants as fate
use Rattle.blk_capture.specs.declared.matching.Role.{Role}
use Rattle.blk_capture.specs.declared.matching.Role.TheVariants as role
use Rattle.blk_capture.specs.declared.members.QueuedBio.{QueuedBio}
use Rattle.blk_capture.specs.declared.opened.Absorption.{Absorption}
use Rattle.blk_capture.specs.declared.opened.Opened.{Opened}
use Rattle.blk_capture.specs.declared.opened.Stage.{Stage}
use Rattle.blk_capture.specs.declared.opened.Stage.TheVariants as stage
use Rattle.blk_capture.specs.declared.record.Record.{Record}
use Rattle.blk_capture.specs.declared.requests.CapturedBio.{CapturedBio}
use Rattle.blk_capture.specs.declared.requests.CapturedRequest.{CapturedRequest}
use Rattle.blk_capture.specs.declared.requests.Options.{Options}

-- when it was completed, no sooner than it went out
abbrev pub completed_after : ℕ → Option ℕ → Option ℕ
completed_after time None = None
completed_after time (Some t) = cond (nat_le time t) (Some t) None

abbrev pub entry_at : Options → Opened → ℕ
entry_at o q = entry_by o.entry q.queued q.inserted

-- a request that went out at a time, opened for a bio; the number of its bios is told apart
abbrev pub captured : Options → ℕ → ℕ → Opened → CapturedRequest
captured o opener time q = record {
  dir = q.range.dir;
  first = q.range.first;
  sectors = q.range.end - q.range.first;
  bios = 0;
  bio = opener;
  pid = q.pid;
  cpu = q.cpu;
  queued = q.queued;
  got = q.got;
  inserted = q.inserted;
  merged = q.merged;
  entry = entry_at o q;
  released = released_by (entry_at o q) q.merged;
  earlier = q.earlier;
  deadline = deadline_of o q.range.dir (entry_at o q) q.earlier;
  dispatched = time;
  completed = completed_after time q.completed;
}

abbrev pub uncounted : CapturedRequest → CapturedRequest
uncounted q = record q { bios = 0 }

-- the request of the dispatch of a number, where that is its last one: it wasn't requeued since
abbrev pub taken_if : Options → ℕ → ℕ → ℕ → Opened → Option CapturedRequest
taken_if o opener n time q = cond (goes_out_by n q.stage) (Some (captured o opener time q)) None

abbrev pub taken_last : Options → Known → ℕ × Dispatch → Option CapturedRequest
taken_last o m p = option_and_then (taken_if o (slice_index m.openers p.1.request) p.0 p.1.time) (slice_get m.requests p.1.request)

-- those of the first dispatches, and all that are taken
abbrev pub taken_from : Options → Known → List Dispatch → List CapturedRequest
taken_from o m sent = filter_map (taken_last o m) (enumerate_from 0 sent)

abbrev pub all_taken : Options → Known → List CapturedRequest
all_taken o m = taken_from o m m.dispatches

-- the request that one went into in the end: by each merge of two, in the order of the records
unfoldable pub ends_in : List Absorption → ℕ → ℕ
ends_in [] k = k
ends_in (a ∷ more) k = ends_in more (cond (k == a.request) a.into k)

-- its place among those that are taken: as many are taken by the dispatches before its last one
abbrev pub place_by : Options → Known → Stage → Option ℕ
place_by o m (stage.InFlight n) = Some (length (taken_from o m (take n m.dispatches)))
place_by o m (stage.Completed n) = Some (length (taken_from o m (take n m.dispatches)))
place_by o m _ = None

abbrev pub place_in_end : Options → Known → ℕ → Option ℕ
place_in_end o m k = option_and_then (λ q. place_by o m q.stage) (slice_get m.requests (ends_in m.absorptions k))

abbrev pub place_with : Options → Known → QueuedBio → Option ℕ
place_with o m b = option_and_then (place_in_end o m) (request_into b.stage)

-- a bio, with the request that it went out with
abbrev pub captured_bio : Options → Known → QueuedBio → CapturedBio
captured_bio o m b = record { dir = b.range.dir; first = b.range.first; sectors = b.range.end - b.range.first; pid = b.pid; queued = b.time; request = place_with o m b }

abbrev pub all_bios : Options → Known → List CapturedBio
all_bios o m = map (captured_bio o m) m.bios

-- what became of a record that is of a bio or a request
abbrev pub fate_by : Options → Known → Role → Fate
fate_by o m (role.Bio b) = fate_at (option_and_then (place_with o m) (slice_get m.bios b))
fate_by o m (role.Request k) = fate_at (place_in_end o m k)
fate_by o m role.Unmatched = fate.Unmatched
fate_by o m (role.PassedOver kind) = fate.PassedOver kind

abbrev pub is_absorbed : Stage → Bool
is_absorbed stage.Absorbed = true
is_absorbed _ = false

-- by the rules, from the first record to the last: the requests that are taken are all that went out, weren't requeued since and went into no
-- other; a bio and a record are of the request that they went into in the end
pub record IsMatching (o : Options) (records : List Record) (requests : List CapturedRequest) (bios : List CapturedBio) (fates : List Fate) (absorbed : ℕ) : Type 0 where
  pub known : Known
  pub roles : List Role
  pub by_rules : AreTold o records roles (length records) known
  pub requests_are : map uncounted requests ≡ all_taken o known
  pub bios_are : bios ≡ all_bios o known
  pub fates_are : fates ≡ map (fate_by o known) roles
  pub absorbed_are : absorbed ≡ count_by (λ q. is_absorbed q.stage) known.requests
