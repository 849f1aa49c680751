-- The Issues that are open.
use Rattle.std.specs.Prelude.{ℕ, ◌≡◌, List, Some, map, count_by, slice_get}
use Rattle.blk_bio.specs.declared.bio.Dir.{Dir}
use Rattle.blk_bio.specs.Requests.{dir_of}
use Rattle.blk_trace.specs.Happened.{Happened}
use Rattle.blk_trace.specs.Issues.{issues_of, flying}
use Rattle.blk_trace.specs.Events.{request_of}
use Rattle.blk_trace.specs.Setups.{Setup, same_dir}
use Rattle.blk_trace.specs.Legal.{IsLegalTrace}

-- the id and the tag of each Issue whose command is in flight, in their order
unfoldable pub open_issues : List Happened → List (ℕ × ℕ)
open_issues events = map (λ i. (i.id, i.tag)) (flying (issues_of events))

-- how many of them are of requests of the direction
abbrev pub open_issues_of : List Happened → Dir → ℕ
open_issues_of events dir = count_by (λ issue. same_dir dir (dir_of (request_of events issue.0))) (open_issues events)

-- an id and a tag are among them
abbrev pub IsListed : List Happened → ℕ → ℕ → Type 0
IsListed events id tag = (k : ℕ) × (slice_get (open_issues events) k ≡ Some (id, tag))

-- it is so in each legal trace
abbrev pub InEachLegalTrace : (Setup → List Happened → Type 0) → Type 0
InEachLegalTrace P = (setup : Setup) → (events : List Happened) → IsLegalTrace setup events → P setup events
