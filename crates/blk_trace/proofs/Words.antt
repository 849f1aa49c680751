-- Laws of the few words that read an event's kind.
use Rattle.std.proofs.Common.{◌≡◌, ◌++◌, ◌==◌, ℕ, List, [], ◌∷◌, length, refl, ◌∙◌, ap, subst, Option, Some, None, option_map, false, inl, inr, true}
use Rattle.std.specs.Prelude.{◌⊎◌, IfSome}
use Rattle.std.specs.Option.{option_map_or}
use Rattle.blk_bio.specs.Bios.{Bio}
use Rattle.blk_trace.specs.Happened.{Happened, Tick, Release, Issue, Done, Back, Depth}
use Rattle.blk_trace.specs.Kinds.{releases, joins, issues, ends, sets_depth, is_tick}
use Rattle.blk_trace.specs.Events.{EndsAt}
use Rattle.blk_trace.specs.Kinds.{is_done_of}
use Rattle.blk_trace.proofs.Places.{split, keep}

-- what ends an Issue does nothing else
pub record OnlyEnds (e : Happened) : Type 0 where
  pub no_tick : is_tick e ≡ false
  pub no_release : releases e ≡ None
  pub no_join : joins e ≡ None
  pub no_issue : issues e ≡ None

pub only_ends : (e : Happened) (tag : ℕ) → ends e ≡ Some tag → OnlyEnds e
only_ends (Done t) tag h = record { no_tick = refl; no_release = refl; no_join = refl; no_issue = refl }
only_ends (Back t) tag h = record { no_tick = refl; no_release = refl; no_join = refl; no_issue = refl }
only_ends e tag h = absurd (cc)

pub release_of_id : (e : Happened) (id : ℕ) → option_map (λ p. p.0) (releases e) ≡ Some id → (bios : List Bio) × (e ≡ Release id bios)
release_of_id (Release i bios) id h = (bios, let same : i ≡ id = cc in ap (λ n. Release n bios) same)
release_of_id e id h = absurd (cc)

pub issue_is : (e : Happened) (p : ℕ × ℕ) → issues e ≡ Some p → e ≡ Issue p.0 p.1
issue_is (Issue i tag) p h = let same : ◌≡◌ {A = ℕ × ℕ} (i, tag) p = cc in ap (λ (x : ℕ × ℕ). Issue x.0 x.1) same
issue_is e p h = absurd (cc)

-- only a Tick is one, and only a Depth sets one
pub tick_is : (e : Happened) → is_tick e ≡ true → e ≡ Tick
tick_is Tick h = refl
tick_is e h = absurd (cc)

pub depth_is : (e : Happened) (depth : ℕ) → sets_depth e ≡ Some depth → e ≡ Depth depth
depth_is (Depth d) depth h = let same : d ≡ depth = cc in ap (λ n. Depth n) same
depth_is e depth h = absurd (cc)

-- what an event that issues or ends nothing does to a tag
pub done_by_none : (t : ℕ) (e : Happened) → ends e ≡ None → is_done_of t e ≡ false
done_by_none t e h = ap (λ x. option_map_or (λ u. u == t) x false) h

pub done_by : (t : ℕ) (e : Happened) (u : ℕ) → ends e ≡ Some u → is_done_of t e ≡ (u == t)
done_by t e u h = ap (λ x. option_map_or (λ v. v == t) x false) h

pub issues_not : (e : Happened) → issues e ≡ None → (i t : ℕ) → e ≡ Issue i t → ⊥
issues_not e none i t h = let some : issues e ≡ Some (i, t) = ap issues h in absurd (cc)

-- of a value what holds of each that it may be
pub if_some : {X : Type 0} (o : Option X) (P : X → Type 0) → ((x : X) → o ≡ Some x → P x) → IfSome o P
if_some None P h = tt
if_some (Some x) P h = h x refl

pub some_of : {X : Type 0} (o : Option X) (P : X → Type 0) (x : X) → o ≡ Some x → IfSome o P → P x
some_of None P x e h = absurd (cc)
some_of {X} (Some y) P x e h = let same : y ≡ x = cc in subst P same h

-- the ends of Issues with more events
pub keep_end : (es fs : List Happened) (k tag : ℕ) → EndsAt es k tag → EndsAt (es ++ fs) k tag
keep_end es fs k tag d = (d.0, keep es fs k d.0 d.1, d.2)

pub split_end : (es : List Happened) (e : Happened) (k tag : ℕ) → EndsAt (es ++ e ∷ []) k tag → EndsAt es k tag ⊎ ((k ≡ length es) × (ends e ≡ Some tag))
split_end es e k tag d =
    elim (split es e k d.0 d.1) [
      | inl p ↦ inl (d.0, p, d.2)
      | inr p ↦ inr (p.0, ap ends p.1 ∙ d.2)
    ]
