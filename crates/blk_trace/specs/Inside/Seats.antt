-- How the tags of the round that is on stand, by its Issues.
use Rattle.std.specs.Prelude.{ℕ, ◌==◌, ◌&&◌, Bool, List, Option, count_by, find, option_map}
use Rattle.blk_bio.specs.declared.bio.Dir.{Dir}
use Rattle.blk_bio.specs.Requests.{dir_of}
use Rattle.blk_trace.specs.Happened.{Happened}
use Rattle.blk_trace.specs.Events.{round_of, request_of}
use Rattle.blk_trace.specs.Setups.{same_dir}
use Rattle.blk_trace.specs.declared.issued.Issued.{Issued}
use Rattle.blk_trace.specs.Issues.{issues_of, flies, flying}

-- a tag of the round: the direction of its command, and whether the command is in flight
pub record RoundSeat : Type 0 where
  pub dir : Dir
  pub in_flight : Bool

abbrev pub seat_by : List Happened → Issued → RoundSeat
seat_by events i = record { dir = dir_of (request_of events i.id); in_flight = flies i.outcome }

-- whether the Issue was made in the round under the tag
abbrev pub is_under : ℕ → ℕ → Issued → Bool
is_under round tag i = (i.round == round) && (tag == i.tag)

-- how the tag is taken in the round that is on, if it is
unfoldable pub seat_at : List Happened → ℕ → Option RoundSeat
seat_at events tag = option_map (seat_by events) (find (is_under (round_of events) tag) (issues_of events))

-- how many commands of the direction are in flight
unfoldable pub flying_of : List Happened → Dir → ℕ
flying_of events dir = count_by (λ i. same_dir dir (dir_of (request_of events i.id))) (flying (issues_of events))
