-- Which records are bios that come in, from whom, and what records do.
use Rattle.std.proofs.Common.{◌≡◌, ◌+◌, ◌<◌, ◌≤◌, ◌∙◌, ◌==◌, ℕ, Bool, true, false, List, length, get_or, cond, Option, Some, None, refl, sym, ap, subst, inl, inr, ne_eqb, le-ltb, eqb-true, ltb-false, le-leb, arith}
use Rattle.std.specs.Prelude.{IfSome, nat_lt, nat_le}
use Rattle.std.specs.List.{position}
use Rattle.std.proofs.lemmas.Bool.{cases_Bool, lt-leb}
use Rattle.std.proofs.lemmas.List.Quantifiers.{position-Some}
use Rattle.blk_bio.specs.declared.bio.TheConstants.{MAX_END}
use Rattle.blk_bio.specs.declared.bio.Dir.{Dir}
use Rattle.blk_bio.specs.declared.limits.TheConstants.{MAX_SOFT_QUEUES}
use Rattle.blk_capture.specs.Passing.{dir_of_op, passed_action, passed_op, passed_range, or_else}
use Rattle.blk_capture.specs.declared.record.Action.{Action}
use Rattle.blk_capture.specs.declared.record.Action.TheVariants as action
use Rattle.blk_capture.specs.declared.record.Op.{Op}
use Rattle.blk_capture.specs.declared.record.Op.TheVariants as op
use Rattle.blk_capture.specs.declared.record.PassReason.{PassReason}
use Rattle.blk_capture.specs.declared.record.PassReason.TheVariants as passed
use Rattle.blk_capture.specs.declared.record.Record.{Record}
use Rattle.blk_arrivals.specs.Coming.{way_of, if_queued, unless_passed, key_of, keys_of, AreFewSubmitters, told_by, submitters_of}
use Rattle.blk_arrivals.specs.Effects.{submitter_number, record_effect, effect_by, effect_of}
use Rattle.blk_arrivals.specs.declared.coming.ToldBy.{ToldBy}
use Rattle.blk_arrivals.specs.declared.coming.ToldBy.TheVariants as by
use Rattle.blk_arrivals.specs.declared.effects.RecordEffect.{RecordEffect}

-- a range of sectors, none of them past the last one
abbrev pub HasRange : ℕ → ℕ → Type 0
HasRange first sectors = (0 < sectors) × (first + sectors ≤ MAX_END)

good_range : (first sectors : ℕ) → HasRange first sectors → passed_range first sectors ≡ None
good_range first sectors h =
    let some : (sectors == 0) ≡ false = ne_eqb sectors 0 (λ e. (let is : sectors ≡ 0 = e in omega (arith, h.0, is))) in
    let within : nat_lt MAX_END (first + sectors) ≡ false = le-ltb MAX_END (first + sectors) (omega (arith, h.1)) in
    rw (some, within) refl

bad_range : (first sectors : ℕ) → ¬ HasRange first sectors → (k : PassReason) × (passed_range first sectors ≡ Some k)
bad_range first sectors h = elim (cases_Bool (sectors == 0)) [
  | inl t ↦ (passed.Empty, rw t refl)
  | inr f ↦ elim (cases_Bool (nat_lt MAX_END (first + sectors))) [
    | inl t ↦ (passed.PastEnd, rw (f, t) refl)
    | inr g ↦ absurd (h (some sectors f, ltb-false MAX_END (first + sectors) g))
  ]
]
  where
    some : (n : ℕ) → (n == 0) ≡ false → 0 < n
    some n e = grind (arith, e)

good_way : (o : Op) → unless_passed (or_else (passed_op o) None) (dir_of_op o) ≡ dir_of_op o
good_way op.Read = refl
good_way op.Write = refl
good_way op.Discard = refl
good_way op.Erase = refl
good_way op.Flush = refl
good_way op.Nothing = refl

bad_way : (o : Op) (k : PassReason) → unless_passed (or_else (passed_op o) (Some k)) (dir_of_op o) ≡ None
bad_way op.Read k = refl
bad_way op.Write k = refl
bad_way op.Discard k = refl
bad_way op.Erase k = refl
bad_way op.Flush k = refl
bad_way op.Nothing k = refl

came_by : (a : Action) (o : Op) (first sectors : ℕ) → a ≡ action.Queue → HasRange first sectors
    → if_queued a (unless_passed (or_else (passed_action a) (or_else (passed_op o) (passed_range first sectors))) (dir_of_op o)) ≡ dir_of_op o
came_by a o first sectors is h = rw (is, good_range first sectors h) (good_way o)

gone_by : (a : Action) (o : Op) (first sectors : ℕ) → a ≡ action.Queue → ¬ HasRange first sectors
    → if_queued a (unless_passed (or_else (passed_action a) (or_else (passed_op o) (passed_range first sectors))) (dir_of_op o)) ≡ None
gone_by a o first sectors is h = (let bad = bad_range first sectors h in rw (is, bad.1) (bad_way o bad.0))

pub came : (r : Record) → r.action ≡ action.Queue → HasRange r.first r.sectors → way_of r ≡ dir_of_op r.op
came r is h = came_by r.action r.op r.first r.sectors is h

pub gone : (r : Record) → r.action ≡ action.Queue → ¬ HasRange r.first r.sectors → way_of r ≡ None
gone r is h = gone_by r.action r.op r.first r.sectors is h

-- submitters

-- deeds

pub place_below : (keys : List ℕ) (key s : ℕ) → submitter_number keys key ≡ Some s → s < length keys
place_below keys key s h = (position-Some (λ k. k == key) keys s 0 h).0
