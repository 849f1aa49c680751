-- Which rule is the first that an event breaks, event by event.
use Rattle.std.proofs.Common.{◌≡◌, ◌<◌, ◌+◌, ℕ, List, Some, sym, subst, arith}
use Rattle.std.specs.Prelude.{IfSome}
use Rattle.blk_bio.specs.Bios.{Bio}
use Rattle.blk_trace.specs.Happened.{Happened, Tick, Release, Join, Issue, Done, Back, Depth}
use Rattle.blk_bio.specs.declared.rule.TraceRule.{TraceRule}
use Rattle.blk_bio.specs.declared.rule.TraceRule.TheVariants.{ReleasedTwice, Unknown, AlreadyIssued, BioTwice, Fit, TagRange, TagUsed, NotIssued, InFlight, TooLong, DepthRange}
use Rattle.blk_trace.specs.Kinds.{ends}
use Rattle.blk_trace.specs.Events.{IsOpen}
use Rattle.blk_trace.specs.Setups.{Setup}
use Rattle.blk_trace.specs.Rules.{Obeys, rank, IsFirstBroken, BreaksNoRule}

-- no rule comes after the last one
abbrev beyond : ℕ
beyond = rank DepthRange + 1

all_before : (r : TraceRule) → rank r < beyond
all_before ReleasedTwice = omega arith
all_before Unknown = omega arith
all_before AlreadyIssued = omega arith
all_before BioTwice = omega arith
all_before Fit = omega arith
all_before TagRange = omega arith
all_before TagUsed = omega arith
all_before NotIssued = omega arith
all_before InFlight = omega arith
all_before TooLong = omega arith
all_before DepthRange = omega arith

-- the rules that concern a Tick, each where it comes before the n-th; it obeys all others
tick_rules : (setup : Setup) (es : List Happened) (n : ℕ) → (rank InFlight < n → Obeys setup es Tick InFlight) → (rank TooLong < n → Obeys setup es Tick TooLong) → (r : TraceRule) → rank r < n → Obeys setup es Tick r
tick_rules setup es n a0 a1 InFlight h = a0 h
tick_rules setup es n a0 a1 TooLong h = a1 h
tick_rules setup es n a0 a1 rule h = tt

pub tick_in_flight : (setup : Setup) (es : List Happened) → (Obeys setup es Tick InFlight → ⊥) → IsFirstBroken setup es Tick InFlight
tick_in_flight setup es fails = record { broken = fails; first = tick_rules setup es (rank InFlight) (λ h. absurd (omega (arith, h))) (λ h. absurd (omega (arith, h))) }

pub tick_too_long : (setup : Setup) (es : List Happened) → Obeys setup es Tick InFlight → (Obeys setup es Tick TooLong → ⊥) → IsFirstBroken setup es Tick TooLong
tick_too_long setup es a0 fails = record { broken = fails; first = tick_rules setup es (rank TooLong) (λ _. a0) (λ h. absurd (omega (arith, h))) }

pub tick_unbroken : (setup : Setup) (es : List Happened) → Obeys setup es Tick InFlight → Obeys setup es Tick TooLong → BreaksNoRule setup es Tick
tick_unbroken setup es a0 a1 = λ r. tick_rules setup es beyond (λ _. a0) (λ _. a1) r (all_before r)

-- the rules that concern a Release, each where it comes before the n-th; it obeys all others
release_rules : (setup : Setup) (es : List Happened) (id : ℕ) (q : List Bio) (n : ℕ) → (rank ReleasedTwice < n → Obeys setup es (Release id q) ReleasedTwice) → (rank BioTwice < n → Obeys setup es (Release id q) BioTwice) → (rank Fit < n → Obeys setup es (Release id q) Fit) → (rank TooLong < n → Obeys setup es (Release id q) TooLong) → (r : TraceRule) → rank r < n → Obeys setup es (Release id q) r
release_rules setup es id q n a0 a1 a2 a3 ReleasedTwice h = a0 h
release_rules setup es id q n a0 a1 a2 a3 BioTwice h = a1 h
release_rules setup es id q n a0 a1 a2 a3 Fit h = a2 h
release_rules setup es id q n a0 a1 a2 a3 TooLong h = a3 h
release_rules setup es id q n a0 a1 a2 a3 rule h = tt

pub release_released_twice : (setup : Setup) (es : List Happened) (id : ℕ) (q : List Bio) → (Obeys setup es (Release id q) ReleasedTwice → ⊥) → IsFirstBroken setup es (Release id q) ReleasedTwice
release_released_twice setup es id q fails = record { broken = fails; first = release_rules setup es id q (rank ReleasedTwice) (λ h. absurd (omega (arith, h))) (λ h. absurd (omega (arith, h))) (λ h. absurd (omega (arith, h))) (λ h. absurd (omega (arith, h))) }

pub release_bio_twice : (setup : Setup) (es : List Happened) (id : ℕ) (q : List Bio) → Obeys setup es (Release id q) ReleasedTwice → (Obeys setup es (Release id q) BioTwice → ⊥) → IsFirstBroken setup es (Release id q) BioTwice
release_bio_twice setup es id q a0 fails = record { broken = fails; first = release_rules setup es id q (rank BioTwice) (λ _. a0) (λ h. absurd (omega (arith, h))) (λ h. absurd (omega (arith, h))) (λ h. absurd (omega (arith, h))) }

pub release_fit : (setup : Setup) (es : List Happened) (id : ℕ) (q : List Bio) → Obeys setup es (Release id q) ReleasedTwice → Obeys setup es (Release id q) BioTwice → (Obeys setup es (Release id q) Fit → ⊥) → IsFirstBroken setup es (Release id q) Fit
release_fit setup es id q a0 a1 fails = record { broken = fails; first = release_rules setup es id q (rank Fit) (λ _. a0) (λ _. a1) (λ h. absurd (omega (arith, h))) (λ h. absurd (omega (arith, h))) }

pub release_too_long : (setup : Setup) (es : List Happened) (id : ℕ) (q : List Bio) → Obeys setup es (Release id q) ReleasedTwice → Obeys setup es (Release id q) BioTwice → Obeys setup es (Release id q) Fit → (Obeys setup es (Release id q) TooLong → ⊥) → IsFirstBroken setup es (Release id q) TooLong
release_too_long setup es id q a0 a1 a2 fails = record { broken = fails; first = release_rules setup es id q (rank TooLong) (λ _. a0) (λ _. a1) (λ _. a2) (λ h. absurd (omega (arith, h))) }

pub release_unbroken : (setup : Setup) (es : List Happened) (id : ℕ) (q : List Bio) → Obeys setup es (Release id q) ReleasedTwice → Obeys setup es (Release id q) BioTwice → Obeys setup es (Release id q) Fit → Obeys setup es (Release id q) TooLong → BreaksNoRule setup es (Release id q)
release_unbroken setup es id q a0 a1 a2 a3 = λ r. release_rules setup es id q beyond (λ _. a0) (λ _. a1) (λ _. a2) (λ _. a3) r (all_before r)

-- the rules that concern a Join, each where it comes before the n-th; it obeys all others
join_rules : (setup : Setup) (es : List Happened) (id : ℕ) (q : List Bio) (n : ℕ) → (rank Unknown < n → Obeys setup es (Join id q) Unknown) → (rank AlreadyIssued < n → Obeys setup es (Join id q) AlreadyIssued) → (rank BioTwice < n → Obeys setup es (Join id q) BioTwice) → (rank Fit < n → Obeys setup es (Join id q) Fit) → (rank TooLong < n → Obeys setup es (Join id q) TooLong) → (r : TraceRule) → rank r < n → Obeys setup es (Join id q) r
join_rules setup es id q n a0 a1 a2 a3 a4 Unknown h = a0 h
join_rules setup es id q n a0 a1 a2 a3 a4 AlreadyIssued h = a1 h
join_rules setup es id q n a0 a1 a2 a3 a4 BioTwice h = a2 h
join_rules setup es id q n a0 a1 a2 a3 a4 Fit h = a3 h
join_rules setup es id q n a0 a1 a2 a3 a4 TooLong h = a4 h
join_rules setup es id q n a0 a1 a2 a3 a4 rule h = tt

pub join_unknown : (setup : Setup) (es : List Happened) (id : ℕ) (q : List Bio) → (Obeys setup es (Join id q) Unknown → ⊥) → IsFirstBroken setup es (Join id q) Unknown
join_unknown setup es id q fails = record { broken = fails; first = join_rules setup es id q (rank Unknown) (λ h. absurd (omega (arith, h))) (λ h. absurd (omega (arith, h))) (λ h. absurd (omega (arith, h))) (λ h. absurd (omega (arith, h))) (λ h. absurd (omega (arith, h))) }

pub join_already_issued : (setup : Setup) (es : List Happened) (id : ℕ) (q : List Bio) → Obeys setup es (Join id q) Unknown → (Obeys setup es (Join id q) AlreadyIssued → ⊥) → IsFirstBroken setup es (Join id q) AlreadyIssued
join_already_issued setup es id q a0 fails = record { broken = fails; first = join_rules setup es id q (rank AlreadyIssued) (λ _. a0) (λ h. absurd (omega (arith, h))) (λ h. absurd (omega (arith, h))) (λ h. absurd (omega (arith, h))) (λ h. absurd (omega (arith, h))) }

pub join_bio_twice : (setup : Setup) (es : List Happened) (id : ℕ) (q : List Bio) → Obeys setup es (Join id q) Unknown → Obeys setup es (Join id q) AlreadyIssued → (Obeys setup es (Join id q) BioTwice → ⊥) → IsFirstBroken setup es (Join id q) BioTwice
join_bio_twice setup es id q a0 a1 fails = record { broken = fails; first = join_rules setup es id q (rank BioTwice) (λ _. a0) (λ _. a1) (λ h. absurd (omega (arith, h))) (λ h. absurd (omega (arith, h))) (λ h. absurd (omega (arith, h))) }

pub join_fit : (setup : Setup) (es : List Happened) (id : ℕ) (q : List Bio) → Obeys setup es (Join id q) Unknown → Obeys setup es (Join id q) AlreadyIssued → Obeys setup es (Join id q) BioTwice → (Obeys setup es (Join id q) Fit → ⊥) → IsFirstBroken setup es (Join id q) Fit
join_fit setup es id q a0 a1 a2 fails = record { broken = fails; first = join_rules setup es id q (rank Fit) (λ _. a0) (λ _. a1) (λ _. a2) (λ h. absurd (omega (arith, h))) (λ h. absurd (omega (arith, h))) }

pub join_too_long : (setup : Setup) (es : List Happened) (id : ℕ) (q : List Bio) → Obeys setup es (Join id q) Unknown → Obeys setup es (Join id q) AlreadyIssued → Obeys setup es (Join id q) BioTwice → Obeys setup es (Join id q) Fit → (Obeys setup es (Join id q) TooLong → ⊥) → IsFirstBroken setup es (Join id q) TooLong
join_too_long setup es id q a0 a1 a2 a3 fails = record { broken = fails; first = join_rules setup es id q (rank TooLong) (λ _. a0) (λ _. a1) (λ _. a2) (λ _. a3) (λ h. absurd (omega (arith, h))) }

pub join_unbroken : (setup : Setup) (es : List Happened) (id : ℕ) (q : List Bio) → Obeys setup es (Join id q) Unknown → Obeys setup es (Join id q) AlreadyIssued → Obeys setup es (Join id q) BioTwice → Obeys setup es (Join id q) Fit → Obeys setup es (Join id q) TooLong → BreaksNoRule setup es (Join id q)
join_unbroken setup es id q a0 a1 a2 a3 a4 = λ r. join_rules setup es id q beyond (λ _. a0) (λ _. a1) (λ _. a2) (λ _. a3) (λ _. a4) r (all_before r)

-- the rules that concern an Issue, each where it comes before the n-th; it obeys all others
issue_rules : (setup : Setup) (es : List Happened) (id tag : ℕ) (n : ℕ) → (rank Unknown < n → Obeys setup es (Issue id tag) Unknown) → (rank AlreadyIssued < n → Obeys setup es (Issue id tag) AlreadyIssued) → (rank TagRange < n → Obeys setup es (Issue id tag) TagRange) → (rank TagUsed < n → Obeys setup es (Issue id tag) TagUsed) → (rank TooLong < n → Obeys setup es (Issue id tag) TooLong) → (r : TraceRule) → rank r < n → Obeys setup es (Issue id tag) r
issue_rules setup es id tag n a0 a1 a2 a3 a4 Unknown h = a0 h
issue_rules setup es id tag n a0 a1 a2 a3 a4 AlreadyIssued h = a1 h
issue_rules setup es id tag n a0 a1 a2 a3 a4 TagRange h = a2 h
issue_rules setup es id tag n a0 a1 a2 a3 a4 TagUsed h = a3 h
issue_rules setup es id tag n a0 a1 a2 a3 a4 TooLong h = a4 h
issue_rules setup es id tag n a0 a1 a2 a3 a4 rule h = tt

pub issue_unknown : (setup : Setup) (es : List Happened) (id tag : ℕ) → (Obeys setup es (Issue id tag) Unknown → ⊥) → IsFirstBroken setup es (Issue id tag) Unknown
issue_unknown setup es id tag fails = record { broken = fails; first = issue_rules setup es id tag (rank Unknown) (λ h. absurd (omega (arith, h))) (λ h. absurd (omega (arith, h))) (λ h. absurd (omega (arith, h))) (λ h. absurd (omega (arith, h))) (λ h. absurd (omega (arith, h))) }

pub issue_already_issued : (setup : Setup) (es : List Happened) (id tag : ℕ) → Obeys setup es (Issue id tag) Unknown → (Obeys setup es (Issue id tag) AlreadyIssued → ⊥) → IsFirstBroken setup es (Issue id tag) AlreadyIssued
issue_already_issued setup es id tag a0 fails = record { broken = fails; first = issue_rules setup es id tag (rank AlreadyIssued) (λ _. a0) (λ h. absurd (omega (arith, h))) (λ h. absurd (omega (arith, h))) (λ h. absurd (omega (arith, h))) (λ h. absurd (omega (arith, h))) }

pub issue_tag_range : (setup : Setup) (es : List Happened) (id tag : ℕ) → Obeys setup es (Issue id tag) Unknown → Obeys setup es (Issue id tag) AlreadyIssued → (Obeys setup es (Issue id tag) TagRange → ⊥) → IsFirstBroken setup es (Issue id tag) TagRange
issue_tag_range setup es id tag a0 a1 fails = record { broken = fails; first = issue_rules setup es id tag (rank TagRange) (λ _. a0) (λ _. a1) (λ h. absurd (omega (arith, h))) (λ h. absurd (omega (arith, h))) (λ h. absurd (omega (arith, h))) }

pub issue_tag_used : (setup : Setup) (es : List Happened) (id tag : ℕ) → Obeys setup es (Issue id tag) Unknown → Obeys setup es (Issue id tag) AlreadyIssued → Obeys setup es (Issue id tag) TagRange → (Obeys setup es (Issue id tag) TagUsed → ⊥) → IsFirstBroken setup es (Issue id tag) TagUsed
issue_tag_used setup es id tag a0 a1 a2 fails = record { broken = fails; first = issue_rules setup es id tag (rank TagUsed) (λ _. a0) (λ _. a1) (λ _. a2) (λ h. absurd (omega (arith, h))) (λ h. absurd (omega (arith, h))) }

pub issue_too_long : (setup : Setup) (es : List Happened) (id tag : ℕ) → Obeys setup es (Issue id tag) Unknown → Obeys setup es (Issue id tag) AlreadyIssued → Obeys setup es (Issue id tag) TagRange → Obeys setup es (Issue id tag) TagUsed → (Obeys setup es (Issue id tag) TooLong → ⊥) → IsFirstBroken setup es (Issue id tag) TooLong
issue_too_long setup es id tag a0 a1 a2 a3 fails = record { broken = fails; first = issue_rules setup es id tag (rank TooLong) (λ _. a0) (λ _. a1) (λ _. a2) (λ _. a3) (λ h. absurd (omega (arith, h))) }

pub issue_unbroken : (setup : Setup) (es : List Happened) (id tag : ℕ) → Obeys setup es (Issue id tag) Unknown → Obeys setup es (Issue id tag) AlreadyIssued → Obeys setup es (Issue id tag) TagRange → Obeys setup es (Issue id tag) TagUsed → Obeys setup es (Issue id tag) TooLong → BreaksNoRule setup es (Issue id tag)
issue_unbroken setup es id tag a0 a1 a2 a3 a4 = λ r. issue_rules setup es id tag beyond (λ _. a0) (λ _. a1) (λ _. a2) (λ _. a3) (λ _. a4) r (all_before r)

-- the rules that concern what ends an Issue, each where it comes before the n-th; it obeys all others
end_rules : (setup : Setup) (es : List Happened) (e : Happened) (tag : ℕ) (n : ℕ) → ends e ≡ Some tag → (rank NotIssued < n → Obeys setup es e NotIssued) → (rank TooLong < n → Obeys setup es e TooLong) → (r : TraceRule) → rank r < n → Obeys setup es e r
end_rules setup es e tag n is a0 a1 NotIssued h = a0 h
end_rules setup es e tag n is a0 a1 TooLong h = a1 h
end_rules setup es (Done t) tag n is a0 a1 rule h = tt
end_rules setup es (Back t) tag n is a0 a1 rule h = tt
end_rules setup es e tag n is a0 a1 rule h = absurd (cc)

pub end_not_issued : (setup : Setup) (es : List Happened) (e : Happened) (tag : ℕ) → ends e ≡ Some tag → (IsOpen es tag → ⊥) → IsFirstBroken setup es e NotIssued
end_not_issued setup es e tag is fails = record {
  broken = λ o. fails (subst (λ x. IfSome x (λ t. IsOpen es t)) is o);
  first = end_rules setup es e tag (rank NotIssued) is (λ h. absurd (omega (arith, h))) (λ h. absurd (omega (arith, h)));
}

pub end_unbroken : (setup : Setup) (es : List Happened) (e : Happened) (tag : ℕ) → ends e ≡ Some tag → IsOpen es tag → Obeys setup es e TooLong → BreaksNoRule setup es e
end_unbroken setup es e tag is o room = λ r. end_rules setup es e tag beyond is (λ _. subst (λ x. IfSome x (λ t. IsOpen es t)) (sym is) o) (λ _. room) r (all_before r)

-- the rules that concern a Depth, each where it comes before the n-th; it obeys all others
depth_rules : (setup : Setup) (es : List Happened) (depth : ℕ) (n : ℕ) → (rank TooLong < n → Obeys setup es (Depth depth) TooLong) → (rank DepthRange < n → Obeys setup es (Depth depth) DepthRange) → (r : TraceRule) → rank r < n → Obeys setup es (Depth depth) r
depth_rules setup es depth n a0 a1 TooLong h = a0 h
depth_rules setup es depth n a0 a1 DepthRange h = a1 h
depth_rules setup es depth n a0 a1 rule h = tt

pub depth_too_long : (setup : Setup) (es : List Happened) (depth : ℕ) → (Obeys setup es (Depth depth) TooLong → ⊥) → IsFirstBroken setup es (Depth depth) TooLong
depth_too_long setup es depth fails = record { broken = fails; first = depth_rules setup es depth (rank TooLong) (λ h. absurd (omega (arith, h))) (λ h. absurd (omega (arith, h))) }

pub depth_range : (setup : Setup) (es : List Happened) (depth : ℕ) → Obeys setup es (Depth depth) TooLong → (Obeys setup es (Depth depth) DepthRange → ⊥) → IsFirstBroken setup es (Depth depth) DepthRange
depth_range setup es depth a0 fails = record { broken = fails; first = depth_rules setup es depth (rank DepthRange) (λ _. a0) (λ h. absurd (omega (arith, h))) }

pub depth_unbroken : (setup : Setup) (es : List Happened) (depth : ℕ) → Obeys setup es (Depth depth) TooLong → Obeys setup es (Depth depth) DepthRange → BreaksNoRule setup es (Depth depth)
depth_unbroken setup es depth a0 a1 = λ r. depth_rules setup es depth beyond (λ _. a0) (λ _. a1) r (all_before r)
