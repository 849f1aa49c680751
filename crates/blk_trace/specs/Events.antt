-- Lists of events.
use Rattle.std.specs.Prelude.{ℕ, suc, ◌≡◌, ◌<◌, ◌-◌, ◌==◌, ◌++◌, cond, IsTrue, List, [], ◌∷◌, Some, take, drop, slice_get, count_by, fold, IfSome}
use Rattle.std.specs.List.{flat_map, filter_map}
use Rattle.blk_bio.specs.declared.bio.BioId.{BioId}
use Rattle.blk_bio.specs.Bios.{Bio}
use Rattle.blk_bio.specs.Requests.{IsRequest, first_of, last_of}
use Rattle.blk_trace.specs.Happened.{Happened, Release, Issue}
use Rattle.blk_trace.specs.Kinds.{ends, is_issue, is_end, enters, enters_under}
use Rattle.blk_trace.specs.Issues.{outcome_of, was_requeued}
pub use Rattle.blk_trace.specs.Kinds.{is_tick, bios_of}

-- the event stands at the place
abbrev pub At : List Happened → ℕ → Happened → Type 0
At events k e = slice_get events k ≡ Some e

-- the round after all these events: how many Ticks there are
unfoldable pub round_of : List Happened → ℕ
round_of events = count_by is_tick events

-- the round of the event at the place: how many Ticks stand before it
abbrev pub round_at : List Happened → ℕ → ℕ
round_at events k = round_of (take k events)

-- the bios that entered, in the order of their events and in tile order
unfoldable pub entered : List Happened → List Bio
entered events = flat_map bios_of events

-- a newcomer joined to a request at the back where it begins at the request's end, else at the front;
-- the first newcomer of all is itself the request
abbrev pub join_up : List Bio → List Bio → List Bio
join_up [] newcomer = newcomer
join_up (b ∷ bs) newcomer = cond (first_of newcomer == last_of (b ∷ bs)) ((b ∷ bs) ++ newcomer) (newcomer ++ (b ∷ bs))

-- the request that the id's Release and Joins make up
unfoldable pub request_of : List Happened → ℕ → List Bio
request_of events id = fold join_up [] (filter_map (enters_under id) events)

-- the bios that enter by the event, if some do, are a request
abbrev pub EntersRequest : Happened → Type 0
EntersRequest e = IfSome (enters e) (λ p. IsRequest p.1)

-- the id has a Release
abbrev pub IsReleased : List Happened → ℕ → Type 0
IsReleased events id = (k : ℕ) × ((bios : List Bio) × At events k (Release id bios))

-- the id has an Issue
abbrev pub IsIssued : List Happened → ℕ → Type 0
IsIssued events id = (k : ℕ) × ((tag : ℕ) × At events k (Issue id tag))

-- at the place the Issue of the tag ends
abbrev pub EndsAt : List Happened → ℕ → ℕ → Type 0
EndsAt events k tag = (e : Happened) × At events k e × (ends e ≡ Some tag)

-- the request of the tag's Issue at the place was requeued
abbrev pub IsRequeued : List Happened → ℕ → ℕ → Type 0
IsRequeued events k tag = IsTrue (was_requeued (outcome_of tag (drop (suc k) events)))

-- whenever the id was issued, it was requeued
abbrev pub AreRequeued : List Happened → ℕ → Type 0
AreRequeued events id = (k tag : ℕ) → At events k (Issue id tag) → IsRequeued events k tag

-- the tag has an Issue that no event after it ends
pub record IsOpen (events : List Happened) (tag : ℕ) : Type 0 where
  pub place : ℕ
  pub id : ℕ
  pub issued : At events place (Issue id tag)
  pub not_done : (j : ℕ) → place < j → EndsAt events j tag → ⊥

-- the id has an Issue under the tag that no event after it ends
pub record IsOpenBy (events : List Happened) (tag id : ℕ) : Type 0 where
  pub place : ℕ
  pub issued : At events place (Issue id tag)
  pub not_done : (j : ℕ) → place < j → EndsAt events j tag → ⊥

-- the tag has an Issue in the round that is still on
pub record IsUsed (events : List Happened) (tag : ℕ) : Type 0 where
  pub place : ℕ
  pub id : ℕ
  pub issued : At events place (Issue id tag)
  pub now : round_at events place ≡ round_of events

-- how many Issues have not ended yet
unfoldable pub open_count : List Happened → ℕ
open_count events = count_by is_issue events - count_by is_end events

-- no two places of the list have bios of one id
abbrev pub AreOnce : List Bio → Type 0
AreOnce bios = (j k : ℕ) (b c : Bio) → slice_get bios j ≡ Some b → slice_get bios k ≡ Some c → b.id ≡ c.id → j ≡ k

-- a bio of the list has the id
abbrev pub HasId : List Bio → BioId → Type 0
HasId bios id = (k : ℕ) × ((b : Bio) × (slice_get bios k ≡ Some b) × (b.id ≡ id))

-- of the bios, the first whose id stands before it has this id
pub record IsFirstRepeatedBio (before bios : List Bio) (id : BioId) : Type 0 where
  pub place : ℕ
  pub bio : Bio
  pub stands : slice_get bios place ≡ Some bio
  pub named : bio.id ≡ id
  pub again : HasId (before ++ take place bios) id
  pub first : AreOnce (before ++ take place bios)
