-- What the index says is said of the scheduler.
use Rattle.std.proofs.Common.{◌≡◌, ℕ, true, false, sym, ◌∙◌, refl, Some, None, Option}
use Rattle.std.specs.Prelude.{IfNone}
use Rattle.std.specs.FinMap as map
use Rattle.blk_bio.specs.declared.bio.Dir.{Dir}
use Rattle.blk_bio.specs.declared.bio.Dir.TheVariants.{Read, Write}
use Rattle.blk_sched.specs.Meaning.{Waiting, Pending}
use Rattle.blk_sched.proofs.Maps.{first_found, none_found}
use Rattle.blk_index.specs.Index.{IsOldest, NoneOf}
use Rattle.blk_deadline.specs.Choice.{is_same, has_dir, oldest_of}

pub same_is : (d e : Dir) → d ≡ e → is_same d e ≡ true
same_is Read Read h = refl
same_is Read Write h = cc
same_is Write Read h = cc
same_is Write Write h = refl

pub is_same_dir : (d e : Dir) → is_same d e ≡ true → d ≡ e
is_same_dir Read Read h = refl
is_same_dir Read Write h = cc
is_same_dir Write Read h = cc
is_same_dir Write Write h = refl

differ_is : (d e : Dir) → (d ≡ e → ⊥) → is_same d e ≡ false
differ_is Read Read h = absurd (h refl)
differ_is Read Write h = refl
differ_is Write Read h = refl
differ_is Write Write h = absurd (h refl)

pub oldest_is : (m : Pending) (dir : Dir) (id : ℕ) (o : Option Waiting) → o ≡ map.get m id → IsOldest dir (map.get m) id → o ≡ oldest_of dir (map.values m)
oldest_is m dir id o read best =
    read ∙ best.is_found ∙ sym (first_found (has_dir dir) m id best.waiting best.is_found (same_is best.waiting.extent.dir dir best.same_dir)
    (λ k v lt there. differ_is v.extent.dir dir (λ same. best.least k v lt there same)))

pub none_oldest : (m : Pending) (dir : Dir) → NoneOf dir (map.get m) → None ≡ oldest_of dir (map.values m)
none_oldest m dir none = sym (none_found (has_dir dir) m (λ k v there. differ_is v.extent.dir dir (λ same. none k v there same)))

pub none_waits : (found : ℕ → Option Waiting) → NoneOf Read found → NoneOf Write found → (k : ℕ) (w : Waiting) → found k ≡ Some w → ⊥
none_waits found reads writes k w there = elim w.extent.dir as (λ d. w.extent.dir ≡ d → ⊥) [
  | Read ↦ λ e. reads k w there e
  | Write ↦ λ e. writes k w there e
] refl

-- ---- the next one

pub if_none : {X : Type 0} (r : Option X) {P Q : Type 0} → IfNone r P → (P → Q) → IfNone r Q
if_none None h f = f h
if_none (Some x) h f = tt
