-- A part of what was matched: the requests from a time on, and of these the first ones.
use Rattle.std.specs.Prelude.{ℕ, ◌-◌, ◌&&◌, cond, nat_lt, nat_le, count_by, map, List, take, drop, Option, None, Some}
use Rattle.blk_capture.specs.declared.fates.Fate.{Fate}
use Rattle.blk_capture.specs.declared.fates.Fate.TheVariants as fate
use Rattle.blk_capture.specs.declared.requests.CapturedBio.{CapturedBio}
use Rattle.blk_capture.specs.declared.requests.Matched.{Matched}
use Rattle.blk_capture.specs.declared.requests.CapturedRequest.{CapturedRequest}

-- how many went out before a time
abbrev pub gone_before : ℕ → List CapturedRequest → ℕ
gone_before begin requests = count_by (λ q. nat_lt q.dispatched begin) requests

-- those that are taken
abbrev pub part : ℕ → ℕ → List CapturedRequest → List CapturedRequest
part begin first requests = take first (drop (gone_before begin requests) requests)

-- the place among n that stand from place `from` on
abbrev pub place_in : ℕ → ℕ → Option ℕ → Option ℕ
place_in from n None = None
place_in from n (Some k) = cond (nat_le from k && nat_lt (k - from) n) (Some (k - from)) None

abbrev pub bio_in : ℕ → ℕ → CapturedBio → CapturedBio
bio_in from n b = record b { request = place_in from n b.request }

abbrev pub fate_at : Option ℕ → Fate
fate_at None = fate.LeftOut
fate_at (Some k) = fate.Taken k

abbrev pub fate_in : ℕ → ℕ → Fate → Fate
fate_in from n (fate.Taken k) = fate_at (place_in from n (Some k))
fate_in from n f = f

-- the bios and the fates when only the first n requests dispatched from a time on are kept
abbrev pub part_bios : {A : Type 0} → ℕ → ℕ → Matched A → List CapturedBio
part_bios begin n m = map (bio_in (gone_before begin m.requests.items) n) m.bios.items

abbrev pub part_fates : {A : Type 0} → ℕ → ℕ → Matched A → List Fate
part_fates begin n m = map (fate_in (gone_before begin m.requests.items) n) m.fates.items
