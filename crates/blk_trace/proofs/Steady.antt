-- In a legal list the Issues in flight are of the round that is on, and no two of one round have one tag.
use Rattle.std.proofs.Common.{◌≡◌, ◌≤◌, ◌++◌, ℕ, List, [], ◌∷◌, map, refl, sym, ◌∙◌, ap, subst, arith, inl, inr, Some, drop, suc}
use Rattle.std.specs.Prelude.{slice_get}
use Rattle.std.proofs.lemmas.Option.{slice_get_within}
use Rattle.blk_bio.specs.declared.rule.TraceRule.TheVariants.{TagUsed, InFlight}
use Rattle.blk_trace.specs.declared.issued.Outcome.{Outcome}
use Rattle.blk_trace.specs.declared.issued.Outcome.TheVariants as outcome
use Rattle.blk_trace.specs.declared.issued.Outcome.TheVariants.{Flying}
use Rattle.blk_trace.specs.declared.issued.Issued.{Issued}
use Rattle.blk_trace.specs.Happened.{Happened, Tick, Issue, Done, Back}
use Rattle.blk_trace.specs.Setups.{Setup}
use Rattle.blk_trace.specs.Events.{round_of, IsUsed}
use Rattle.blk_trace.specs.Issues.{outcome_of, issues_from, issues_of}
use Rattle.blk_trace.specs.Legal.{IsLegalTrace}
use Rattle.blk_trace.specs.Rules.{BreaksNoRule}
use Rattle.blk_trace.specs.Inside.Issues.{ended_by}
use Rattle.blk_trace.proofs.Places.{split}
use Rattle.blk_trace.proofs.More.{round_still}
use Rattle.blk_trace.proofs.Issues.{issues_kept, issues_push, issues_ended, issue_at, issue_from, issue_low, flying_by, get_map, ended_round, ended_tag, flew}
use Rattle.blk_trace.proofs.Ids.{by_legal}
use Rattle.blk_trace.proofs.TagUses.{by_open}

-- the Issue stands in the round that is on, under the tag
pub record IsNow (es : List Happened) (tag : ℕ) (i : Issued) : Type 0 where
  pub place : ℕ
  pub there : slice_get (issues_of es) place ≡ Some i
  pub now : i.round ≡ round_of es
  pub under : i.tag ≡ tag

-- a tag is used exactly where one does
pub now_used : (es : List Happened) (tag : ℕ) (i : Issued) → IsNow es tag i → IsUsed es tag
now_used es tag i n =
    let f = issue_from 0 es n.place i n.there in
    subst (IsUsed es) n.under record { place = f.place; id = i.id; issued = f.issued; now = omega (arith, f.now, n.now) }

pub used_now : (es : List Happened) (tag : ℕ) → IsUsed es tag → (i : Issued) × IsNow es tag i
used_now es tag u =
    let p = issue_at 0 es u.place u.id tag u.issued in
    let i : Issued = record { round = p.1.0; id = u.id; tag = tag; outcome = outcome_of tag (drop (suc u.place) es) } in
    let now : p.1.0 ≡ round_of es = omega (arith, p.1.2, u.now) in
    (i, record { place = p.0; there = p.1.1; now = now; under = refl })

pub record AreSteady (xs : List Issued) (now : ℕ) : Type 0 where
  pub flies : (k : ℕ) (x : Issued) → slice_get xs k ≡ Some x → x.outcome ≡ Flying → x.round ≡ now
  pub once : (j k : ℕ) (x y : Issued) → slice_get xs j ≡ Some x → slice_get xs k ≡ Some y → x.round ≡ y.round → x.tag ≡ y.tag → j ≡ k
  pub rise : (j k : ℕ) (x y : Issued) → slice_get xs j ≡ Some x → slice_get xs k ≡ Some y → j ≤ k → x.round ≤ y.round

steady_ended : (t now : ℕ) (n : Outcome) (xs : List Issued) → (n ≡ Flying → ⊥) → AreSteady xs now → AreSteady (map (ended_by t n) xs) now
steady_ended t now n xs lands old =
    let f : Issued → Issued = ended_by t n in
    let round : (i x : Issued) → f i ≡ x → i.round ≡ x.round = λ i x is. sym (ended_round t n i) ∙ ap (λ (y : Issued). y.round) is in
    let tag : (i x : Issued) → f i ≡ x → i.tag ≡ x.tag = λ i x is. sym (ended_tag t n i) ∙ ap (λ (y : Issued). y.tag) is in
    record {
      flies = λ k x at is.
          let p = get_map f xs k x at in
          let same : p.0 ≡ x = sym (flew t n p.0 lands (ap (λ (y : Issued). y.outcome) p.2 ∙ is)) ∙ p.2 in
          old.flies k x (p.1 ∙ ap Some same) is;
      once = λ j k x y at there a b.
          let p = get_map f xs j x at in
          let q = get_map f xs k y there in
          old.once j k p.0 q.0 p.1 q.1 (round p.0 x p.2 ∙ a ∙ sym (round q.0 y q.2)) (tag p.0 x p.2 ∙ b ∙ sym (tag q.0 y q.2));
      rise = λ j k x y at there le.
          let p = get_map f xs j x at in
          let q = get_map f xs k y there in
          omega (arith, old.rise j k p.0 q.0 p.1 q.1 le, round p.0 x p.2, round q.0 y q.2);
    }

steady_issued : (xs : List Issued) (i : Issued) → ((k : ℕ) (x : Issued) → slice_get xs k ≡ Some x → (x.round ≤ i.round) × (x.round ≡ i.round → x.tag ≡ i.tag → ⊥)) → AreSteady xs i.round → AreSteady (xs ++ i ∷ []) i.round
steady_issued xs i new old =
    let round : (x : Issued) → i ≡ x → x.round ≡ i.round = λ x is. ap (λ (y : Issued). y.round) (sym is) in
    let tag : (x : Issued) → i ≡ x → x.tag ≡ i.tag = λ x is. ap (λ (y : Issued). y.tag) (sym is) in
    record {
      flies = λ k x at is. elim (split xs i k x at) [ inl p ↦ old.flies k x p is | inr p ↦ round x p.1 ];
      once = λ j k x y at there a b.
          elim (split xs i j x at) [
            | inl p ↦ elim (split xs i k y there) [
              | inl q ↦ old.once j k x y p q a b
              | inr q ↦ absurd ((new j x p).1 (a ∙ round y q.1) (b ∙ tag y q.1))
            ]
            | inr p ↦ elim (split xs i k y there) [
              | inl q ↦ absurd ((new k y q).1 (sym a ∙ round x p.1) (sym b ∙ tag x p.1))
              | inr q ↦ p.0 ∙ sym q.0
            ]
          ];
      rise = λ j k x y at there le.
          elim (split xs i j x at) [
            | inl p ↦ elim (split xs i k y there) [
              | inl q ↦ old.rise j k x y p q le
              | inr q ↦ omega (arith, (new j x p).0, round y q.1)
            ]
            | inr p ↦ elim (split xs i k y there) [
              | inl q ↦ absurd (omega (arith, p.0, le, slice_get_within xs k y q))
              | inr q ↦ omega (arith, round x p.1, round y q.1)
            ]
          ];
    }

IsSteady : List Happened → Type 0
IsSteady es = AreSteady (issues_of es) (round_of es)

by_list : (es : List Happened) (e : Happened) (xs : List Issued) (now : ℕ) → issues_of (es ++ e ∷ []) ≡ xs → round_of (es ++ e ∷ []) ≡ now → AreSteady xs now → IsSteady (es ++ e ∷ [])
unfolding IsSteady
by_list es e xs now are is h = subst (λ (l : List Issued). AreSteady l (round_of (es ++ e ∷ []))) (sym are) (subst (AreSteady xs) (sym is) h)

steady_step : (setup : Setup) (es : List Happened) (e : Happened) → BreaksNoRule setup es e → IsSteady es → IsSteady (es ++ e ∷ [])
unfolding IsSteady
steady_step setup es Tick all old =
    by_list es Tick (issues_of es) (round_of (es ++ Tick ∷ [])) (issues_kept 0 es Tick refl refl) refl record {
      flies = λ k x at is. absurd (all InFlight x.tag (by_open es x.tag x.id (flying_by es k x at is)));
      once = old.once;
      rise = old.rise;
    }
steady_step setup es (Issue id tag) all old =
    let i : Issued = record { round = round_of es; id = id; tag = tag; outcome = Flying } in
    let new : (k : ℕ) (x : Issued) → slice_get (issues_of es) k ≡ Some x → (x.round ≤ round_of es) × (x.round ≡ round_of es → x.tag ≡ tag → ⊥) = λ k x at.
    (omega (arith, issue_low 0 es k x at), λ now under. all TagUsed (now_used es tag x record { place = k; there = at; now = now; under = under })) in
    by_list es (Issue id tag) (issues_of es ++ i ∷ []) (round_of es) (issues_push 0 (round_of es) es id tag (omega arith)) (round_still es (Issue id tag) refl) (steady_issued (issues_of es) i new old)
steady_step setup es (Done t) all old =
    by_list es (Done t) (map (ended_by t outcome.Done) (issues_of es)) (round_of es) (issues_ended 0 t es (Done t) refl refl) (round_still es (Done t) refl) (steady_ended t (round_of es) outcome.Done (issues_of es) (λ h. absurd (cc)) old)
steady_step setup es (Back t) all old =
    by_list es (Back t) (map (ended_by t outcome.Back) (issues_of es)) (round_of es) (issues_ended 0 t es (Back t) refl refl) (round_still es (Back t) refl) (steady_ended t (round_of es) outcome.Back (issues_of es) (λ h. absurd (cc)) old)
steady_step setup es e all old = by_list es e (issues_of es) (round_of es) (issues_kept 0 es e refl refl) (round_still es e refl) old

pub steady : (setup : Setup) (es : List Happened) → IsLegalTrace setup es → AreSteady (issues_of es) (round_of es)
unfolding IsSteady issues_from
steady setup es legal =
    by_legal setup IsSteady (record { flies = λ k x at. absurd (cc); once = λ j k x y at. absurd (cc); rise = λ j k x y at. absurd (cc) }) (λ l e new old all ih. steady_step setup l e all ih) es legal
