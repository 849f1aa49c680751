-- What holds of all that is known, whatever the records were.
use Rattle.std.specs.Prelude.{ℕ, ◌≡◌, ◌≤◌, ◌<◌, List, length, map, slice_get, slice_index_or, Option, None, Some, IfSome, false, true}
use Rattle.blk_capture.specs.Requests.{released_by}
use Rattle.blk_capture.specs.Rules.{Known, goes_out_by}
use Rattle.blk_capture.specs.Settled.{entry_at, ends_in, is_absorbed, place_by, captured_bio, all_bios, fate_by}
use Rattle.blk_capture.specs.declared.clock.Dispatch.{Dispatch}
use Rattle.blk_capture.specs.declared.members.QueuedBio.{QueuedBio}
use Rattle.blk_capture.specs.declared.opened.Absorption.{Absorption}
use Rattle.blk_capture.specs.declared.opened.Opened.{Opened}
use Rattle.blk_capture.specs.declared.fates.Fate.{Fate}
use Rattle.blk_capture.specs.declared.matching.Role.{Role}
use Rattle.blk_capture.specs.declared.requests.CapturedBio.{CapturedBio}
use Rattle.blk_capture.specs.declared.requests.MergeRoot.{MergeRoot}
use Rattle.blk_capture.specs.declared.requests.Options.{Options}

-- what is known of a request happened by a time
pub record HappenedBy (t : ℕ) (q : Opened) : Type 0 where
  pub queued : q.queued ≤ t
  pub inserted : IfSome q.inserted (λ s. s ≤ t)
  pub merged : IfSome q.merged (λ s. s ≤ t)

-- the dispatch of a number is the request's, which was released by then
pub record IsSentBy (o : Options) (sent : List Dispatch) (n k : ℕ) (q : Opened) : Type 0 where
  pub dispatch : Dispatch
  pub there : slice_get sent n ≡ Some dispatch
  pub of : dispatch.request ≡ k
  pub released : released_by (entry_at o q) q.merged ≤ dispatch.time

-- both of a merge of two are requests
abbrev pub AreMerges : ℕ → List Absorption → Type 0
AreMerges n merges = (j : ℕ) (a : Absorption) → slice_get merges j ≡ Some a → (a.request < n) × (a.into < n)

-- nothing is later than a time; a request that is out went out by its dispatch; one that wasn't merged into another ends in itself
pub record IsCoherent (o : Options) (t : ℕ) (m : Known) : Type 0 where
  pub bios_past : (k : ℕ) (b : QueuedBio) → slice_get m.bios k ≡ Some b → b.time ≤ t
  pub past : (k : ℕ) (q : Opened) → slice_get m.requests k ≡ Some q → HappenedBy t q
  pub sent : (k n : ℕ) (q : Opened) → slice_get m.requests k ≡ Some q → goes_out_by n q.stage ≡ true → IsSentBy o m.dispatches n k q
  pub own : (k : ℕ) (q : Opened) → slice_get m.requests k ≡ Some q → is_absorbed q.stage ≡ false → ends_in m.absorptions k ≡ k
  pub merges : AreMerges (length m.requests) m.absorptions

-- the dispatch of a number is the last one of its request
pub record IsLast (m : Known) (n : ℕ) (x : Dispatch) : Type 0 where
  pub opened : Opened
  pub there : slice_get m.requests x.request ≡ Some opened
  pub last : goes_out_by n opened.stage ≡ true

-- each request's life goes where its merges lead
abbrev pub AreRoots : List Absorption → List MergeRoot → Type 0
AreRoots merges lives = (k : ℕ) (d : MergeRoot) → k < length lives → (slice_index_or lives k d).root ≡ ends_in merges k

-- lives and places of all requests
pub record AreLaidOut (o : Options) (m : Known) (lives : List MergeRoot) (places : List (Option ℕ)) : Type 0 where
  pub each_life : length lives ≡ length m.requests
  pub each_place : length places ≡ length m.requests
  pub roots : AreRoots m.absorptions lives
  pub merges : AreMerges (length m.requests) m.absorptions
  pub placed : (k : ℕ) (q : Opened) → slice_get m.requests k ≡ Some q → slice_index_or places k None ≡ place_by o m q.stage

-- what was merged into another has no place
abbrev pub HaveNoPlace : List Opened → List (Option ℕ) → Type 0
HaveNoPlace requests places = (k : ℕ) (q : Opened) → slice_get requests k ≡ Some q → is_absorbed q.stage ≡ true → slice_index_or places k None ≡ None

-- by these lives and places, bios and what became of records are those that the definition has
abbrev pub AreToldBios : List MergeRoot → List (Option ℕ) → List QueuedBio → List CapturedBio → Type 0
AreToldBios lives places queued bios = (o : Options) (m : Known) → AreLaidOut o m lives places → bios ≡ map (captured_bio o m) queued

abbrev pub IsToldFate : List MergeRoot → List (Option ℕ) → List CapturedBio → Role → Fate → Type 0
IsToldFate lives places bios r f = (o : Options) (m : Known) → AreLaidOut o m lives places → bios ≡ all_bios o m → f ≡ fate_by o m r

abbrev pub AreToldFates : List MergeRoot → List (Option ℕ) → List CapturedBio → List Role → List Fate → Type 0
AreToldFates lives places bios roles fates = (o : Options) (m : Known) → AreLaidOut o m lives places → bios ≡ all_bios o m → fates ≡ map (fate_by o m) roles
