-- What the lines and the limits say is said of the scheduler.
use Rattle.std.proofs.Common.{◌≡◌, ◌<◌, ◌&&◌, inl, inr, ℕ, Bool, true, false, ap, ◌∙◌, refl, arith, Some, None, Option}
use Rattle.std.specs.Prelude.{◌⊎◌, nat_lt, if◌then◌else◌}
use Rattle.std.proofs.lemmas.Bool.{ltb-false, eq-eqb}
use Rattle.std.specs.FinMap as map
use Rattle.blk_bio.specs.declared.bio.Dir.{Dir}
use Rattle.blk_bio.specs.declared.bio.Dir.TheVariants.{Read, Write}
use Rattle.blk_sched.specs.Meaning.{Waiting, Pending, Meaning, OpenPicks, ServesNothing, unfinished}
use Rattle.blk_sched.proofs.Maps.{first_found, none_found}
use Rattle.blk_index.specs.Index.{IsOldest, NoneOf}
use Rattle.blk_kyber.specs.Limits.{DirLimits, KyberReport, limit_of}
use Rattle.blk_kyber.specs.Choice.{serves_own, is_same, other_of, oldest_for, in_flight, head_of, chosen}
use Rattle.blk_kyber.specs.State.{KyberState, choice_for, after_pick, kept_told, numbers_of, Chooses, IsReported}
use Rattle.blk_index.specs.Queues.{served_of}
use Rattle.blk_index.proofs.Served.{meaning_with, serves_it, served_there}

-- ---- the head of a direction

pub lt_holds : (a b : ℕ) → a < b → nat_lt a b ≡ true
lt_holds a b h = elim (nat_lt a b) as (λ t. nat_lt a b ≡ t → t ≡ true) [
  | true ↦ λ _. refl
  | false ↦ λ e. let more = ltb-false a b e in absurd (omega arith)
] refl

same_is : (d e : Dir) → d ≡ e → is_same d e ≡ true
same_is Read Read h = refl
same_is Read Write h = cc
same_is Write Read h = cc
same_is Write Write h = refl

is_same_dir : (d e : Dir) → is_same d e ≡ true → d ≡ e
is_same_dir Read Read h = refl
is_same_dir Read Write h = cc
is_same_dir Write Read h = cc
is_same_dir Write Write h = refl

abbrev test_of : ℕ → Dir → Waiting → Bool
test_of hw dir w = serves_own hw w && is_same w.extent.dir dir

-- one that passes the test is served, and of the direction
fails : (hw : ℕ) (dir : Dir) (w : Waiting) → (serves_own hw w ≡ true → w.extent.dir ≡ dir → ⊥) → test_of hw dir w ≡ false
fails hw dir w none = elim (serves_own hw w) as (λ b. serves_own hw w ≡ b → (b && is_same w.extent.dir dir) ≡ false) [
  | true ↦ λ own. elim (is_same w.extent.dir dir) as (λ b. is_same w.extent.dir dir ≡ b → b ≡ false) [
    | true ↦ λ e. absurd (none own (is_same_dir w.extent.dir dir e))
    | false ↦ λ _. refl
  ] refl
  | false ↦ λ _. refl
] refl

module _ (m : Pending) (hw : ℕ) (limits : DirLimits) (picks : OpenPicks) (dir : Dir) (low : in_flight dir picks < limit_of dir limits) where
  room : (o : Option Waiting) → oldest_for hw dir (map.values m) ≡ o → head_of hw limits picks (map.values m) dir ≡ o
  room o is = ap (λ b. if b then oldest_for hw dir (map.values m) else None) (lt_holds (in_flight dir picks) (limit_of dir limits) low) ∙ is

  pub head_is : (id : ℕ) → IsOldest dir (served_of hw m) id → (w : Waiting) × (served_of hw m id ≡ Some w) × (head_of hw limits picks (map.values m) dir ≡ Some w)
  head_is id best =
      let w = best.waiting in
      let f = serves_it hw (map.get m id) w best.is_found in (
        w,
        best.is_found,
        room (Some w) (first_found (test_of hw dir) m id w f.0
            (ap (λ b. b && is_same w.extent.dir dir) (eq-eqb w.hw hw f.1) ∙ same_is w.extent.dir dir best.same_dir)
            (λ k v before there. fails hw dir v (λ own same. best.least k v before (served_there hw (map.get m k) v there own) same))),
      )

  pub no_head : NoneOf dir (served_of hw m) → head_of hw limits picks (map.values m) dir ≡ None
  no_head none = room None (none_found (test_of hw dir) m (λ k v there. fails hw dir v (λ own same. none k v (served_there hw (map.get m k) v there own) same)))

-- ---- nothing is picked

abbrev pub IsIdle : Pending → ℕ → OpenPicks → Dir → Type 0
IsIdle m hw picks dir = (0 < in_flight dir picks) ⊎ NoneOf dir (served_of hw m)

flying : (picks : OpenPicks) (dir : Dir) → 0 < in_flight dir picks → 0 < unfinished picks
flying picks Read h = omega (arith, h)
flying picks Write h = omega (arith, h)

both_idle : (m : Pending) (picks : OpenPicks) (hw : ℕ) → IsIdle m hw picks Read → IsIdle m hw picks Write → (0 < unfinished picks) ⊎ ServesNothing serves_own hw (meaning_with m picks)
both_idle m picks hw (inl h) writes = inl (flying picks Read h)
both_idle m picks hw (inr reads) (inl h) = inl (flying picks Write h)
both_idle m picks hw (inr reads) (inr writes) = inr (λ id w there.
    elim (serves_own hw w) as (λ b. serves_own hw w ≡ b → b ≡ false) [
      | true ↦ λ own.
          let waits = served_there hw (map.get m id) w there own in
          elim w.extent.dir as (λ d. w.extent.dir ≡ d → true ≡ false) [
            | Read ↦ λ e. absurd (reads id w waits e)
            | Write ↦ λ e. absurd (writes id w waits e)
          ] refl
      | false ↦ λ _. refl
    ] refl)

pub idle : (m : Pending) (picks : OpenPicks) (hw : ℕ) (dir rest : Dir) → rest ≡ other_of dir → IsIdle m hw picks dir → IsIdle m hw picks rest → (0 < unfinished picks) ⊎ ServesNothing serves_own hw (meaning_with m picks)
idle m picks hw Read Write e own other = both_idle m picks hw own other
idle m picks hw Write Read e own other = both_idle m picks hw other own
idle m picks hw Read Read e own other = absurd (cc)
idle m picks hw Write Write e own other = absurd (cc)

-- ---- what is kept, as numbers

pub chooses : (old new : KyberState) (m : Meaning) (hw now : ℕ) (result : Option Waiting) → result ≡ chosen (choice_for hw old m) → new ≡ after_pick hw old (choice_for hw old m) → Chooses (numbers_of old) m hw now result (numbers_of new)
chooses old new m hw now result choice after = (old, refl, choice, ap numbers_of after)

pub tells : (old new : KyberState) (report : KyberReport) → new ≡ kept_told report old → IsReported report (numbers_of old) (numbers_of new)
tells old new report is = (old, refl, ap numbers_of is)
