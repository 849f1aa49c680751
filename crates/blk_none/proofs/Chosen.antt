-- What the first of a hardware queue is, is said of the scheduler.
use Rattle.std.proofs.Common.{◌≡◌, ℕ, true, false, sym, ap, subst, ◌∙◌, refl, Some, None}
use Rattle.std.proofs.lemmas.Bool.{eq-eqb}
use Rattle.std.specs.FinMap as map
use Rattle.blk_sched.specs.Meaning.{Waiting, Pending, Meaning, OpenPicks, ServesNothing, Picks, opened}
use Rattle.blk_sched.proofs.Maps.{first_found, none_found}
use Rattle.blk_index.specs.Index.{IsFirst, FindsNothing}
use Rattle.blk_index.specs.Queues.{served_of}
use Rattle.blk_index.proofs.Served.{meaning_with, serves_it, served_there}
use Rattle.blk_none.specs.Choice.{serves_own, none_choice}

-- one that would be found where it is served is not served
not_served : (m : Pending) (hw k : ℕ) (v : Waiting) → map.get m k ≡ Some v → ((w : Waiting) → served_of hw m k ≡ Some w → ⊥) → serves_own hw v ≡ false
not_served m hw k v there none = elim (serves_own hw v) as (λ b. serves_own hw v ≡ b → b ≡ false) [
  | true ↦ λ own. absurd (none v (served_there hw (map.get m k) v there own))
  | false ↦ λ _. refl
] refl

chosen : (m : Pending) (hw id : ℕ) (w : Waiting) → IsFirst (served_of hw m) id → served_of hw m id ≡ Some w → none_choice hw m ≡ Some w
chosen m hw id w best there =
    let f = serves_it hw (map.get m id) w there in
    first_found (serves_own hw) m id w f.0 (eq-eqb w.hw hw f.1) (λ k v before waits. not_served m hw k v waits (λ u is. best.least k u before is))

nothing_served : (m : Meaning) (hw : ℕ) → FindsNothing (served_of hw m.pending) → ServesNothing serves_own hw m
nothing_served m hw none k v waits = not_served m.pending hw k v waits (none k)

module _ (queues : Pending) (picks : OpenPicks) (hw : ℕ) (self : Meaning) (v : meaning_with queues picks ≡ self) where
  pub none_served : FindsNothing (served_of hw queues) → ServesNothing serves_own hw self
  none_served none = nothing_served self hw (subst (λ (m : Meaning). FindsNothing (served_of hw m.pending)) v none)

  pub none_chosen : FindsNothing (served_of hw queues) → None ≡ none_choice hw self.pending
  none_chosen none = sym (none_found (serves_own hw) self.pending (none_served none))

  pub one_chosen : (id : ℕ) (w : Waiting) → IsFirst (served_of hw queues) id → Some w ≡ served_of hw queues id → Some w ≡ none_choice hw self.pending
  one_chosen id w best there = sym (chosen self.pending hw id w
      (subst (λ (m : Meaning). IsFirst (served_of hw m.pending) id) v best)
      (sym (there ∙ ap (λ (m : Meaning). served_of hw m.pending id) v)))

  pub picked : (left : Pending) (then : OpenPicks) (id : ℕ) (w : Waiting) → Some w ≡ served_of hw queues id → w.id ≡ id → left ≡ map.remove queues id → then ≡ opened w.extent.dir picks → Picks serves_own hw self w (meaning_with left then)
  picked left then id w there named removed opens =
      let f = serves_it hw (map.get queues id) w (sym there) in (
        ap (λ (m : Meaning). map.get m.pending w.id) (sym v) ∙ ap (map.get queues) named ∙ f.0,
        eq-eqb w.hw hw f.1,
        ap (λ (x : Pending). meaning_with x then) (removed ∙ ap (map.remove queues) (sym named))
            ∙ ap (λ (p : OpenPicks). meaning_with (map.remove queues w.id) p) opens
            ∙ ap (λ (m : Meaning). let n : Meaning = record { pending = map.remove m.pending w.id; open_picks = opened w.extent.dir m.open_picks; front = m.front } in n) v,
      )
