-- What a record adds to what is matched.
use Rattle.std.specs.Prelude.{ℕ, ◌≡◌, ◌<◌, ◌^◌, Bool, length, slice_get, Some}
use Rattle.blk_capture.specs.Rules.{Known, Outcome, Found, IsBy, IsMerged, IsAbsorbed, FindsWaitingBio, FindsLongerBio, FindsOldestOf, FindsWaiting, FindsEntering, FindsEnding, is_waiting, is_in_flight, cut, got, comes, inserted_at, issued, completed, requeued, merged, absorbed}
use Rattle.blk_capture.specs.Inside.Indexes.{AreSeated, AreIndexed}
use Rattle.blk_capture.specs.Inside.LookupKeys.{has, whole_key}
use Rattle.blk_capture.specs.Inside.Roles.{GrowsIf}
use Rattle.blk_capture.specs.declared.matching.Matching.{Matching}
use Rattle.blk_capture.specs.declared.matching.Role.{Role}
use Rattle.blk_bio.specs.declared.request.Side.{Side}
use Rattle.blk_capture.specs.declared.members.QueuedBio.{QueuedBio}
use Rattle.blk_capture.specs.declared.opened.Opened.{Opened}
use Rattle.blk_capture.specs.declared.record.Range.{Range}

-- what is known, without the indexes
abbrev pub all_known : {A : Type 0} → Matching A → Known
all_known m = record {
  bios = m.members.bios.items;
  openers = m.members.openers.items;
  requests = m.requests.items;
  dispatches = m.clock.dispatches.items;
  absorptions = m.absorptions.items;
}

abbrev pub told_of : {A : Type 0} → Matching A → Role → Outcome
told_of m r = (all_known m, r)

-- the indexes hold just what stands in the lists; each request has its opener, and an age that is the number of a record
pub record IsSound {A : Type 0} (m : Matching A) : Type 0 where
  pub indexed : AreIndexed m.requests.items m.index
  pub waiting : AreSeated (λ b. is_waiting b.stage) (λ b. whole_key b.range) (λ b. b.age) m.members.bios.items (has m.waiting)
  pub paired : length m.members.openers.items ≡ length m.requests.items
  pub aged : (k : ℕ) (q : Opened) → slice_get m.requests.items k ≡ Some q → q.age < 2 ^ 63

-- the options and the time stay
pub record KeepsRest {A : Type 0} (old new : Matching A) : Type 0 where
  pub options : new.options ≡ old.options
  pub now : new.clock.now ≡ old.clock.now

-- the rules of the letters, of what is known before a record and after it
abbrev pub IsCutIn : {A : Type 0} → Range → Matching A → Matching A → Role → Type 0
IsCutIn s old new r = IsBy (FindsLongerBio s old.members.bios.items) (cut s (all_known old)) (told_of new r)

abbrev pub IsGotIn : {A : Type 0} → ℕ → ℕ → ℕ → Range → Matching A → Matching A → Role → Type 0
IsGotIn n pid cpu s old new r = IsBy (FindsWaitingBio s old.members.bios.items) (got n pid cpu s old.clock.now (all_known old)) (told_of new r)

abbrev pub IsMergedIn : {A : Type 0} → Side → ℕ → Range → Matching A → Matching A → Role → Type 0
IsMergedIn side pid s old new r = IsMerged old.options side pid s old.clock.now (all_known old) (told_of new r)

abbrev pub IsBioMergedIn : {A : Type 0} → Side → Range → ℕ × QueuedBio → Found Opened → Matching A → Matching A → Role → Type 0
IsBioMergedIn side s b p old new r = told_of new r ≡ merged side s old.clock.now (all_known old) b p

abbrev pub IsAbsorbedIn : {A : Type 0} → Side → Range → Found Opened → Matching A → Matching A → Role → Type 0
IsAbsorbedIn side s p old new r = IsAbsorbed old.options side s old.clock.now (all_known old) p (told_of new r)

abbrev pub TakesIn : {A : Type 0} → Range → ℕ × Opened → Matching A → Matching A → Role → Type 0
TakesIn s p old new r = IsBy (FindsWaiting s old.requests.items) (absorbed old.options s old.clock.now (all_known old) p) (told_of new r)

abbrev pub IsInsertedIn : {A : Type 0} → ℕ → Range → Matching A → Matching A → Role → Type 0
IsInsertedIn n s old new r = IsBy (FindsEntering s old.requests.items) (comes (inserted_at n old.clock.now) (all_known old)) (told_of new r)

abbrev pub IsIssuedIn : {A : Type 0} → Range → Matching A → Matching A → Role → Type 0
IsIssuedIn s old new r = IsBy (FindsWaiting s old.requests.items) (issued old.clock.now (all_known old)) (told_of new r)

abbrev pub IsCompletedIn : {A : Type 0} → Range → Matching A → Matching A → Role → Type 0
IsCompletedIn s old new r = IsBy (FindsEnding s old.requests.items) (comes (completed s old.clock.now) (all_known old)) (told_of new r)

abbrev pub IsRequeuedIn : {A : Type 0} → Range → Matching A → Matching A → Role → Type 0
IsRequeuedIn s old new r = IsBy (FindsOldestOf is_in_flight s old.requests.items) (comes requeued (all_known old)) (told_of new r)

-- one request more where this holds, and else none
abbrev pub OpensIf : {A : Type 0} → Bool → Matching A → Matching A → Type 0
OpensIf b old new = GrowsIf b old.requests.items new.requests.items

-- one bio more where this holds, and else none
abbrev pub MakesIf : {A : Type 0} → Bool → Matching A → Matching A → Type 0
MakesIf b old new = GrowsIf b old.members.bios.items new.members.bios.items
