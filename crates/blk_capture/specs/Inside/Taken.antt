-- How the requests of a capture that are taken are found among all that were opened.
use Rattle.std.specs.Prelude.{ℕ, All, ◌≡◌, ◌≤◌, ◌<◌, ◌++◌, List, [], ◌∷◌, length, Option, Some, None, IfSome, slice_index, slice_index_or, slice_set}
use Rattle.blk_capture.specs.declared.clock.Dispatch.{Dispatch}
use Rattle.blk_capture.specs.Inside.Members.{request_into}
use Rattle.blk_capture.specs.declared.members.QueuedBio.{QueuedBio}
use Rattle.blk_capture.specs.declared.requests.CapturedBio.{CapturedBio}
use Rattle.blk_capture.specs.declared.requests.MergeRoot.{MergeRoot}
use Rattle.blk_capture.specs.declared.requests.CapturedRequest.{CapturedRequest}
use Rattle.blk_capture.specs.declared.requests.Taken.{Taken}
use Rattle.blk_capture.specs.Requests.{AreTallied}

-- the request r was merged into no other
pub record IsOwn (lives : List MergeRoot) (r : ℕ) : Type 0 where
  pub in_list : r < length lives
  pub root : (d : MergeRoot) → (slice_index_or lives r d).root ≡ r

-- the request of a dispatch
pub record IsRequestOf (openers : List ℕ) (x : Dispatch) (q : CapturedRequest) : Type 0 where
  pub opened : x.request < length openers
  pub opener : q.bio ≡ slice_index openers x.request
  pub timed : q.dispatched ≡ x.time
  pub came_in : q.released ≤ x.time
  pub came_back : IfSome q.completed (λ t. x.time ≤ t)
  pub none : q.bios ≡ 0

-- the request r stands at place k
pub record IsPlaced (lives : List MergeRoot) (openers : List ℕ) (places : List (Option ℕ)) (requests : List CapturedRequest) (k r : ℕ) : Type 0 where
  pub own : IsOwn lives r
  pub opened : r < length openers
  pub opener : (d : CapturedRequest) → (slice_index_or requests k d).bio ≡ slice_index openers r
  pub place : slice_index_or places r None ≡ Some k

-- places among the first n
abbrev pub AreWithin : ℕ → List (Option ℕ) → Type 0
AreWithin n places = All (λ p. IfSome p (λ k. k < n)) places

-- each request that is taken is one of them
abbrev pub ArePlaced : List MergeRoot → List ℕ → List (Option ℕ) → List CapturedRequest → Type 0
ArePlaced lives openers places requests = (k : ℕ) → k < length requests → (r : ℕ) × IsPlaced lives openers places requests k r

abbrev pub ArePlacedIn : {A : Type 0} → List MergeRoot → List ℕ → Taken A → Type 0
ArePlacedIn lives openers t = ArePlaced lives openers t.places.items t.requests.items

-- a request that was merged into no other stands at its own place
abbrev pub IsPlaceOfOwn : List MergeRoot → List (Option ℕ) → Option ℕ → Option ℕ → Type 0
IsPlaceOfOwn lives places request place =
    (r : ℕ) → request ≡ Some r → IsOwn lives r → r < length places → place ≡ slice_index_or places r None

-- the request of a number is put in last
pub record Puts {A : Type 0} (number : ℕ) (q : CapturedRequest) (old new : Taken A) : Type 0 where
  pub places : new.places.items ≡ slice_set old.places.items number (Some (length old.requests.items))
  pub requests : new.requests.items ≡ old.requests.items ++ q ∷ []

-- the first n bios, with the places of the requests that they went out with: where they went into one that was merged into no other, its own
pub record ArePlacedBios (lives : List MergeRoot) (places : List (Option ℕ)) (queued : List QueuedBio) (n : ℕ) (bios : List CapturedBio) : Type 0 where
  pub each : length bios ≡ n
  pub place : (b r : ℕ) (d : QueuedBio) (e : CapturedBio) → b < n → request_into (slice_index_or queued b d).stage ≡ Some r → IsOwn lives r → r < length places → (slice_index_or bios b e).request ≡ slice_index_or places r None

-- the same requests, each with the number of its bios
pub record IsTalliedFrom (old new : List CapturedRequest) (bios : List CapturedBio) : Type 0 where
  pub each : length new ≡ length old
  pub tallied : AreTallied new bios
  pub rest : (k : ℕ) (d : CapturedRequest) → slice_index_or new k d ≡ record (slice_index_or old k d) { bios = (slice_index_or new k d).bios }
