-- The least id of all, by those of both directions.
use Rattle.std.proofs.Common.{◌≡◌, ◌<◌, ◌≤◌, ℕ, Bool, true, false, refl, arith, Some, None, Option}
use Rattle.std.specs.Prelude.{IfSome, IfNone, if◌then◌else◌, nat_lt}
use borrow.Author.Tests.{ltb-true, ltb-false}
use Rattle.blk_bio.specs.declared.bio.Dir.TheVariants.{Read, Write}
use Rattle.blk_sched.specs.Meaning.{Waiting}
use Rattle.blk_index.specs.Index.{IsOldest, IsFirst, NoneOf, FindsNothing}
use Rattle.blk_index.specs.Inside.Search.{lesser_of}
use Rattle.blk_index.proofs.Indexed.{Found}

-- a request that is of neither direction
either : (v : Waiting) → (v.extent.dir ≡ Read → ⊥) → (v.extent.dir ≡ Write → ⊥) → ⊥
either v read write = elim v.extent.dir as (λ d. v.extent.dir ≡ d → ⊥) [ Read ↦ read | Write ↦ write ] refl

module _ (found : Found) where
  the_lesser : (a b : ℕ) (less : Bool) → nat_lt b a ≡ less → IsOldest Read found a → IsOldest Write found b → IsFirst found (if less then b else a)
  the_lesser a b true e read write =
      let lt : b < a = ltb-true b a e in
      record {
        waiting = write.waiting;
        is_found = write.is_found;
        least = λ k v under there. either v (λ d. read.least k v (omega (arith, lt, under)) there d) (λ d. write.least k v under there d);
      }
  the_lesser a b false e read write =
      let le : a ≤ b = ltb-false b a e in
      record {
        waiting = read.waiting;
        is_found = read.is_found;
        least = λ k v under there. either v (λ d. read.least k v under there d) (λ d. write.least k v (omega (arith, le, under)) there d);
      }

  pub first_of_both : (read write : Option ℕ) → IfSome read (IsOldest Read found) → IfNone read (NoneOf Read found) → IfSome write (IsOldest Write found) → IfNone write (NoneOf Write found) → IfSome (lesser_of read write) (IsFirst found) × IfNone (lesser_of read write) (FindsNothing found)
  first_of_both None None r nr w nw = (tt, λ k v there. either v (nr k v there) (nw k v there))
  first_of_both None (Some b) r nr w nw = (record { waiting = w.waiting; is_found = w.is_found; least = λ k v under there. either v (nr k v there) (w.least k v under there) }, tt)
  first_of_both (Some a) None r nr w nw = (record { waiting = r.waiting; is_found = r.is_found; least = λ k v under there. either v (r.least k v under there) (nw k v there) }, tt)
  first_of_both (Some a) (Some b) r nr w nw = (the_lesser a b (nat_lt b a) refl r w, tt)
