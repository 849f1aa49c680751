-- The Ticks of a list of events with one more, and rounds in which nothing went out yet.
use Rattle.std.proofs.Common.{◌≡◌, ◌<◌, ◌≤◌, ◌+◌, ◌++◌, ◌==◌, ℕ, List, [], ◌∷◌, take, Some, None, false, true, refl, sym, ◌∙◌, ap, subst, arith, inl, inr, append-nil, ne_eqb, get_or}
use Rattle.std.specs.Prelude.{slice_get, option_map, cond}
use Rattle.std.specs.List.{cons_option}
use Rattle.edd_commands.specs.Schedule.{places_at}
use Rattle.edd_oracle.proofs.Counting.{count_map, count_none}
use Rattle.blk_trace.specs.Happened.{Happened}
use Rattle.blk_trace.specs.declared.event.Event.TheVariants.{Tick, Issue}
use Rattle.blk_trace.specs.Kinds.{issues, requeues}
use Rattle.blk_trace.specs.Events.{At, is_tick, round_of, round_at, IsUsed}
use Rattle.blk_trace.specs.Issues.{issues_from}
use Rattle.blk_trace.specs.Meaning.{served, rounds_of}
use Rattle.blk_trace.proofs.Places.{split, before, before_last}
use Rattle.blk_trace.proofs.Words.{issues_not}
use Rattle.blk_trace.proofs.More.{round_more, round_within}
use Rattle.blk_trace.proofs.Served.{served_push}
use Rattle.blk_trace.proofs.Newness.{get_at}
use Rattle.blk_trace.proofs.Commands.{rounds_kept}
use Rattle.blk_online.specs.Ticks.{AtTicks, WentOut}
use Rattle.blk_online.proofs.Splitting.{rounds_between}

-- ---- Ticks

ticks_old : (P : List Happened → Type 0) (es : List Happened) (e : Happened) (k : ℕ) → AtTicks P es → At es k Tick → P (take k (es ++ e ∷ []))
ticks_old P es e k each at = subst P (sym (before es (e ∷ []) k Tick at)) (each k at)

pub ticks_kept : (P : List Happened → Type 0) (es : List Happened) (e : Happened) → is_tick e ≡ false → AtTicks P es → AtTicks P (es ++ e ∷ [])
ticks_kept P es e none each k at =
    elim (split es e k Tick at) [
      | inl old ↦ ticks_old P es e k each old
      | inr last ↦ absurd (let clash : true ≡ false = ap is_tick (sym last.1) ∙ none in cc)
    ]

pub ticks_more : (P : List Happened → Type 0) (es : List Happened) → P es → AtTicks P es → AtTicks P (es ++ Tick ∷ [])
ticks_more P es now each k at =
    elim (split es Tick k Tick at) [
      | inl old ↦ ticks_old P es Tick k each old
      | inr last ↦ subst P (sym (before_last es Tick k last.0)) now
    ]

-- ---- tags used in the round that is on

round_old : (es : List Happened) (e x : Happened) (k : ℕ) → At es k x → round_at (es ++ e ∷ []) k ≡ round_at es k
round_old es e x k at = ap round_of (before es (e ∷ []) k x at)

same_round : (es : List Happened) (e : Happened) → is_tick e ≡ false → round_of (es ++ e ∷ []) ≡ round_of es
same_round es e none = round_more es e ∙ ap (λ b. round_of es + cond b 1 0) none ∙ (let z : round_of es + 0 ≡ round_of es = omega arith in z)

-- of an event that issues nothing
pub used_before : (es : List Happened) (e : Happened) (tag : ℕ) → is_tick e ≡ false → issues e ≡ None → IsUsed (es ++ e ∷ []) tag → IsUsed es tag
used_before es e tag none quiet used =
    elim (split es e used.place (Issue used.id tag) used.issued) [
      | inl old ↦ record { place = used.place; id = used.id; issued = old; now = sym (round_old es e (Issue used.id tag) used.place old) ∙ used.now ∙ same_round es e none }
      | inr last ↦ absurd (issues_not e quiet used.id tag last.1)
    ]

pub used_or : (es : List Happened) (id tag t n : ℕ) → ((u : ℕ) → IsUsed es u → u < n) → tag < n → IsUsed (es ++ Issue id tag ∷ []) t → t < n
used_or es id tag t n below low used =
    elim (split es (Issue id tag) used.place (Issue used.id t) used.issued) [
      | inl old ↦ below t (record { place = used.place; id = used.id; issued = old; now = sym (round_old es (Issue id tag) (Issue used.id t) used.place old) ∙ used.now ∙ same_round es (Issue id tag) refl })
      | inr last ↦ let is : ◌≡◌ {A = Happened} (Issue id tag) (Issue used.id t) = last.1 in let same : tag ≡ t = cc in omega arith
    ]

-- ---- services

pub served_same : (es : List Happened) (e : Happened) → issues e ≡ None → requeues e ≡ None → served 0 (es ++ e ∷ []) ≡ served 0 es
served_same es e quiet keeps =
    served_push es e keeps ∙ ap (λ o. served 0 es ++ cons_option (option_map (λ (p : ℕ × ℕ). (round_of es, p.0)) o) []) quiet ∙ append-nil (served 0 es)

-- ---- rounds in which nothing went out

pub record IsFresh (es : List Happened) : Type 0 where
  pub unused : (tag : ℕ) → IsUsed es tag → ⊥
  pub none_out : (id : ℕ) → WentOut es (round_of es) id → ⊥
  pub empty : places_at (rounds_of es) (round_of es) ≡ 0

pub fresh_start : (es : List Happened) → es ≡ [] → IsFresh es
unfolding served issues_from rounds_of places_at
fresh_start es none = subst IsFresh (sym none) (record {
  unused = λ tag used. let e : None ≡ Some (Issue used.id tag) = used.issued in cc;
  none_out = λ id out. let e : None ≡ Some (round_of [], id) = out.1 in cc;
  empty = refl;
})

pub fresh_kept : (es : List Happened) (e : Happened) → is_tick e ≡ false → issues e ≡ None → requeues e ≡ None → IsFresh es → IsFresh (es ++ e ∷ [])
fresh_kept es e none quiet keeps fresh =
    let same : round_of (es ++ e ∷ []) ≡ round_of es = same_round es e none in
    record {
      unused = λ tag used. fresh.unused tag (used_before es e tag none quiet used);
      none_out = λ id out. fresh.none_out id (out.0, sym (ap (λ l. slice_get l out.0) (served_same es e quiet keeps)) ∙ out.1 ∙ ap (λ n. Some (n, id)) same);
      empty = ap (λ l. places_at l (round_of (es ++ e ∷ []))) (rounds_kept es e quiet keeps) ∙ ap (places_at (rounds_of es)) same ∙ fresh.empty;
    }

-- what went out did so in a round that began
none_past : (es : List Happened) (x : ℕ) → round_of es < x → places_at (rounds_of es) x ≡ 0
unfolding rounds_of places_at
none_past es x past =
    count_map (λ (s : ℕ × ℕ). s.0) (λ y. y == x) (served 0 es)
    ∙ count_none (λ (s : ℕ × ℕ). s.0 == x) (served 0 es)
    (λ k d h.
    let at = rounds_between 0 es k (get_or (served 0 es) k d) (get_at (served 0 es) k d h) in
    ne_eqb (get_or (served 0 es) k d).0 x (λ same. absurd (omega (arith, at.1))))

pub fresh_ticked : (es : List Happened) → IsFresh (es ++ Tick ∷ [])
fresh_ticked es =
    let up : round_of (es ++ Tick ∷ []) ≡ round_of es + 1 = round_more es Tick in
    let kept : served 0 (es ++ Tick ∷ []) ≡ served 0 es = served_same es Tick refl refl in
    record {
      unused = λ tag used. elim (split es Tick used.place (Issue used.id tag) used.issued) [
        | inl old ↦ let early : round_at es used.place ≤ round_of es = round_within used.place es in omega (arith, up, used.now, round_old es Tick (Issue used.id tag) used.place old)
        | inr last ↦ let clash : ◌≡◌ {A = Happened} Tick (Issue used.id tag) = last.1 in cc
      ];
      none_out = λ id out.
          let at = rounds_between 0 es out.0 (round_of (es ++ Tick ∷ []), id) (sym (ap (λ l. slice_get l out.0) kept) ∙ out.1) in
          omega (arith, at.1, up);
      empty = ap (λ l. places_at l (round_of (es ++ Tick ∷ []))) (rounds_kept es Tick refl refl) ∙ none_past es (round_of (es ++ Tick ∷ [])) (omega arith);
    }
