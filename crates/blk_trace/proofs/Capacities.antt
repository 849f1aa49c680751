-- The depths of a legal list, and how those that are kept stand with one more event.
use Rattle.std.proofs.Common.{◌≡◌, ◌≤◌, ◌<◌, ◌+◌, ◌++◌, ℕ, List, [], ◌∷◌, length, refl, sym, ◌∙◌, ap, subst, arith, cond, nat_le, inl, inr, false, Some, None}
use Rattle.std.specs.Prelude.{Option}
use Rattle.std.proofs.lemmas.Bool.{cond-true, le-leb, cases_lt}
use Rattle.edd_commands.specs.Capacity.{depth_at}
use Rattle.blk_bio.specs.declared.rule.TraceRule.TheVariants.{DepthRange}
use Rattle.blk_trace.specs.Happened.{Happened, Tick, Issue, Depth}
use Rattle.blk_trace.specs.Kinds.{sets_depth, is_tick}
use Rattle.blk_trace.specs.Setups.{Setup}
use Rattle.blk_trace.specs.Events.{At, round_of, round_at}
use Rattle.blk_trace.specs.Meaning.{timed}
use Rattle.blk_trace.specs.Depths.{changes_of, depth_in, depth_now, IsLastBefore, HasNoneBefore}
use Rattle.blk_trace.specs.Legal.{IsLegalTrace}
use Rattle.blk_trace.specs.Rules.{BreaksNoRule}
use Rattle.blk_trace.specs.Inside.Kept.{HasDepths}
use Rattle.std.proofs.lemmas.Option.{slice_get_within}
use Rattle.blk_trace.proofs.Places.{split, keep, last, before, before_last}
use Rattle.blk_trace.proofs.Words.{some_of}
use Rattle.blk_trace.proofs.More.{round_more}
use Rattle.blk_trace.proofs.Depths.{depth_kept, depth_set, depth_past, depth_now_is}
use Rattle.blk_trace.proofs.Ids.{by_events, by_legal}

-- without events each round has the setup's depth
depth_start : (setup : Setup) (x : ℕ) → depth_in setup [] x ≡ setup.depth
unfolding depth_in depth_at changes_of timed
depth_start setup x = cond-true (nat_le 0 x) setup.depth 0 (le-leb 0 x (omega arith))

-- the depth of a later round is the one that was set
set_later : (setup : Setup) (es : List Happened) (e : Happened) (d x : ℕ) → sets_depth e ≡ Some d → round_of es < x → depth_in setup (es ++ e ∷ []) x ≡ d
set_later setup es e d x h late = depth_set setup es e d x h ∙ cond-true (nat_le (round_of es + 1) x) d (depth_in setup es x) (le-leb (round_of es + 1) x (omega arith))

-- what holds of the setup's depth, and of each that may be set, holds of each round's
depth_all : (setup : Setup) (P : ℕ → Type 0) → P setup.depth → ((d : ℕ) → 0 < d → d ≤ setup.depth → P d) → (es : List Happened) → IsLegalTrace setup es → (x : ℕ) → P (depth_in setup es x)
depth_all setup P first each es legal x =
    by_legal setup (λ l. P (depth_in setup l x)) (subst P (sym (depth_start setup x)) first) (λ l e new old all ih. more l e all ih) es legal
  where
    by_set : (l : List Happened) (e : Happened) (o : Option ℕ) → sets_depth e ≡ o → BreaksNoRule setup l e → P (depth_in setup l x) → P (depth_in setup (l ++ e ∷ []) x)
    by_set l e None h all ih = subst P (sym (depth_kept setup l e x h)) ih
    by_set l e (Some d) h all ih =
        let range = some_of (sets_depth e) (λ (n : ℕ). (0 < n) × (n ≤ setup.depth)) d h (all DepthRange) in
        elim (cases_lt (round_of l) x) [
          | inl b ↦ subst P (sym (set_later setup l e d x h b)) (each d range.0 range.1)
          | inr b ↦ subst P (sym (depth_past setup l e x b)) ih
        ]

    more : (l : List Happened) (e : Happened) → BreaksNoRule setup l e → P (depth_in setup l x) → P (depth_in setup (l ++ e ∷ []) x)
    more l e all ih = by_set l e (sets_depth e) refl all ih

-- no round carries more than there are tags, and each carries some
pub depth_few : (setup : Setup) (es : List Happened) (x : ℕ) → IsLegalTrace setup es → depth_in setup es x ≤ setup.depth
depth_few setup es x legal = depth_all setup (λ n. n ≤ setup.depth) (omega arith) (λ d some few. few) es legal x

pub depth_some : (setup : Setup) (es : List Happened) (x : ℕ) → 0 < setup.depth → IsLegalTrace setup es → 0 < depth_in setup es x
depth_some setup es x some legal = depth_all setup (λ n. 0 < n) some (λ d more few. more) es legal x

-- an issued tag is one of the setup's
pub tag_below : (setup : Setup) (es : List Happened) (k id tag : ℕ) → IsLegalTrace setup es → At es k (Issue id tag) → tag < setup.depth
tag_below setup es k id tag legal at = omega (arith, legal.tag_range k id tag at, depth_few setup es (round_at es k) legal)

-- all rounds that have not begun have the depth of the next
depth_later : (setup : Setup) (es : List Happened) (x : ℕ) → round_of es < x → depth_in setup es x ≡ depth_in setup es (round_of es + 1)
depth_later setup es x late = by_events (λ l. (y : ℕ) → round_of l < y → depth_in setup l y ≡ depth_in setup l (round_of l + 1)) (λ y h. depth_start setup y ∙ sym (depth_start setup (round_of [] + 1))) more es x late
  where
    by_set : (l : List Happened) (e : Happened) (y : ℕ) (o : Option ℕ) → sets_depth e ≡ o → ((z : ℕ) → round_of l < z → depth_in setup l z ≡ depth_in setup l (round_of l + 1)) → round_of (l ++ e ∷ []) < y → depth_in setup (l ++ e ∷ []) y ≡ depth_in setup (l ++ e ∷ []) (round_of (l ++ e ∷ []) + 1)
    by_set l e y None n ih h =
        depth_kept setup l e y n
        ∙ ih y (omega (arith, h, round_more l e))
        ∙ sym (ih (round_of (l ++ e ∷ []) + 1) (omega (arith, round_more l e)))
        ∙ sym (depth_kept setup l e (round_of (l ++ e ∷ []) + 1) n)
    by_set l e y (Some d) s ih h =
        set_later setup l e d y s (omega (arith, h, round_more l e)) ∙ sym (set_later setup l e d (round_of (l ++ e ∷ []) + 1) s (omega (arith, round_more l e)))

    more : (l : List Happened) (e : Happened) → ((z : ℕ) → round_of l < z → depth_in setup l z ≡ depth_in setup l (round_of l + 1)) → (y : ℕ) → round_of (l ++ e ∷ []) < y → depth_in setup (l ++ e ∷ []) y ≡ depth_in setup (l ++ e ∷ []) (round_of (l ++ e ∷ []) + 1)
    more l e ih y h = by_set l e y (sets_depth e) refl ih h

-- the depths that are kept
pub depths_empty : (setup : Setup) (n m : ℕ) → n ≡ setup.depth → m ≡ setup.depth → HasDepths setup [] n m
depths_empty setup n m h i = record {
  now_is = h ∙ sym (depth_now_is setup [] ∙ depth_start setup (round_of []));
  next_is = i ∙ sym (depth_start setup (round_of [] + 1));
}

same_round : (es : List Happened) (e : Happened) → is_tick e ≡ false → round_of (es ++ e ∷ []) ≡ round_of es
same_round es e h = round_more es e ∙ ap (λ b. round_of es + cond b 1 0) h ∙ (let z : round_of es + 0 ≡ round_of es = omega arith in z)

-- in the same round the depth stays
now_kept : (setup : Setup) (es : List Happened) (e : Happened) → is_tick e ≡ false → depth_now setup (es ++ e ∷ []) ≡ depth_now setup es
now_kept setup es e h =
    depth_now_is setup (es ++ e ∷ [])
    ∙ ap (depth_in setup (es ++ e ∷ [])) (same_round es e h)
    ∙ depth_past setup es e (round_of es) (omega arith)
    ∙ sym (depth_now_is setup es)

pub depths_kept : (setup : Setup) (es zs : List Happened) (e : Happened) (n m : ℕ) → HasDepths setup es n m → is_tick e ≡ false → sets_depth e ≡ None → zs ≡ es ++ e ∷ [] → HasDepths setup zs n m
depths_kept setup es zs e n m old h s hz = subst (λ l. HasDepths setup l n m) (sym hz) record {
  now_is = old.now_is ∙ sym (now_kept setup es e h);
  next_is = old.next_is ∙ sym (ap (λ r. depth_in setup (es ++ e ∷ []) (r + 1)) (same_round es e h) ∙ depth_kept setup es e (round_of es + 1) s);
}

pub depths_ticked : (setup : Setup) (es zs : List Happened) (n m : ℕ) → HasDepths setup es n m → zs ≡ es ++ Tick ∷ [] → HasDepths setup zs m m
depths_ticked setup es zs n m old hz =
    let fs : List Happened = es ++ Tick ∷ [] in
    let up : round_of fs ≡ round_of es + 1 = round_more es Tick in
    let same : (x : ℕ) → depth_in setup fs x ≡ depth_in setup es x = λ x. depth_kept setup es Tick x refl in
    subst (λ l. HasDepths setup l m m) (sym hz) record {
      now_is = old.next_is ∙ sym (depth_now_is setup fs ∙ same (round_of fs) ∙ ap (depth_in setup es) up);
      next_is = old.next_is ∙ sym (same (round_of fs + 1) ∙ depth_later setup es (round_of fs + 1) (omega (arith, up)));
    }

pub depths_set : (setup : Setup) (es zs : List Happened) (n m d : ℕ) → HasDepths setup es n m → zs ≡ es ++ Depth d ∷ [] → HasDepths setup zs n d
depths_set setup es zs n m d old hz =
    let fs : List Happened = es ++ Depth d ∷ [] in
    subst (λ l. HasDepths setup l n d) (sym hz) record {
      now_is = old.now_is ∙ sym (now_kept setup es (Depth d) refl);
      next_is = sym (set_later setup es (Depth d) d (round_of fs + 1) refl (omega (arith, round_more es (Depth d))));
    }

pub depths_same : (setup : Setup) (es zs : List Happened) (n m : ℕ) → HasDepths setup es n m → zs ≡ es → HasDepths setup zs n m
depths_same setup es zs n m old hz = subst (λ l. HasDepths setup l n m) (sym hz) old

-- only a Depth sets a depth
depth_event : (e : Happened) (n : ℕ) → sets_depth e ≡ Some n → e ≡ Depth n
depth_event (Depth m) n h = let same : m ≡ n = cc in ap Depth same
depth_event e n h = absurd (cc)

-- a round's depth, by places
last_step : (setup : Setup) (l : List Happened) (e : Happened) → ((k d x : ℕ) → IsLastBefore l k d x → depth_in setup l x ≡ d) → (k d x : ℕ) → IsLastBefore (l ++ e ∷ []) k d x → depth_in setup (l ++ e ∷ []) x ≡ d
last_step setup l e ih k d x is = by_set (sets_depth e) refl
  where
    here : (n : ℕ) → sets_depth e ≡ Some n → At (l ++ e ∷ []) (length l) (Depth n)
    here n s = last l e ∙ ap Some (depth_event e n s)

    there : round_at (l ++ e ∷ []) (length l) ≡ round_of l
    there = ap round_of (before_last l e (length l) refl)

    was : At l k (Depth d) → IsLastBefore l k d x
    was at = record {
      stands = at;
      sooner = omega (arith, is.sooner, ap round_of (before l (e ∷ []) k _ at));
      last = λ j n h p. omega (arith, is.last j n h (keep l (e ∷ []) j _ p), ap round_of (before l (e ∷ []) j _ p));
    }

    by_set : (o : Option ℕ) → sets_depth e ≡ o → depth_in setup (l ++ e ∷ []) x ≡ d
    by_set None s = elim (split l e k _ is.stands) [
      | inl p ↦ depth_kept setup l e x s ∙ ih k d x (was p)
      | inr p ↦ absurd (let q : sets_depth e ≡ Some d = ap sets_depth p.1 in cc)
    ]
    by_set (Some n) s = elim (cases_lt (round_of l) x) [
      | inl b ↦ elim (split l e k _ is.stands) [
        | inl p ↦ absurd (omega (arith, b, there, is.last (length l) n (slice_get_within l k _ p) (here n s)))
        | inr p ↦ set_later setup l e d x (ap sets_depth p.1) b
      ]
      | inr b ↦ elim (split l e k _ is.stands) [
        | inl p ↦ depth_past setup l e x b ∙ ih k d x (was p)
        | inr p ↦ absurd (omega (arith, b, there, is.sooner, ap (round_at (l ++ e ∷ [])) p.0))
      ]
    ]

pub depth_last : (setup : Setup) (es : List Happened) (k d x : ℕ) → IsLastBefore es k d x → depth_in setup es x ≡ d
depth_last setup es = by_events (λ l. (k d x : ℕ) → IsLastBefore l k d x → depth_in setup l x ≡ d) (λ k d x is. absurd (let h = is.stands in cc)) (λ l e ih. last_step setup l e ih) es

none_step : (setup : Setup) (l : List Happened) (e : Happened) → ((x : ℕ) → HasNoneBefore l x → depth_in setup l x ≡ setup.depth) → (x : ℕ) → HasNoneBefore (l ++ e ∷ []) x → depth_in setup (l ++ e ∷ []) x ≡ setup.depth
none_step setup l e ih x none = by_set (sets_depth e) refl
  where
    was : HasNoneBefore l x
    was j n p = omega (arith, none j n (keep l (e ∷ []) j _ p), ap round_of (before l (e ∷ []) j _ p))

    by_set : (o : Option ℕ) → sets_depth e ≡ o → depth_in setup (l ++ e ∷ []) x ≡ setup.depth
    by_set None s = depth_kept setup l e x s ∙ ih x was
    by_set (Some n) s = elim (cases_lt (round_of l) x) [
      | inl b ↦ absurd (omega (arith, b, none (length l) n (last l e ∙ ap Some (depth_event e n s)), ap round_of (before_last l e (length l) refl)))
      | inr b ↦ depth_past setup l e x b ∙ ih x was
    ]

pub depth_none : (setup : Setup) (es : List Happened) (x : ℕ) → HasNoneBefore es x → depth_in setup es x ≡ setup.depth
depth_none setup es = by_events (λ l. (x : ℕ) → HasNoneBefore l x → depth_in setup l x ≡ setup.depth) (λ x none. depth_start setup x) (λ l e ih. none_step setup l e ih) es
