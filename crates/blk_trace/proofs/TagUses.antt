-- Which tags are used in the round that is on, and whose Issue is open, with one more event.
use Rattle.std.proofs.Common.{◌≡◌, ◌≢◌, ◌<◌, ◌≤◌, ◌+◌, ◌++◌, ℕ, List, [], ◌∷◌, length, take, refl, sym, ◌∙◌, ap, subst, arith, inl, inr, Some, None, false}
use Rattle.std.proofs.lemmas.Option.{slice_get_within}
use Rattle.std.proofs.lemmas.Bool.{cases_lt, cases_eq}
use Rattle.blk_trace.specs.Happened.{Happened, Tick, Issue}
use Rattle.blk_trace.specs.Kinds.{issues, ends}
use Rattle.blk_trace.specs.Events.{is_tick, round_of, IsOpen, IsUsed, IsOpenBy}
use Rattle.blk_trace.specs.Inside.Kept.{IsUnusedFrom}
use Rattle.blk_trace.proofs.Places.{split, keep, last, before, before_last}
use Rattle.blk_trace.proofs.Words.{issues_not, split_end}
use Rattle.blk_trace.proofs.More.{round_more, round_still, round_within}

used_keep : (es : List Happened) (e : Happened) (tag : ℕ) → is_tick e ≡ false → IsUsed es tag → IsUsed (es ++ e ∷ []) tag
used_keep es e tag h u = record {
  place = u.place;
  id = u.id;
  issued = keep es (e ∷ []) u.place _ u.issued;
  now = ap round_of (before es (e ∷ []) u.place _ u.issued) ∙ u.now ∙ sym (round_still es e h);
}

used_back : (es : List Happened) (e : Happened) (tag : ℕ) → is_tick e ≡ false → ((id : ℕ) → e ≡ Issue id tag → ⊥) → IsUsed (es ++ e ∷ []) tag → IsUsed es tag
used_back es e tag h other u =
    elim (split es e u.place _ u.issued) [
      | inl p ↦ record { place = u.place; id = u.id; issued = p; now = ap round_of (sym (before es (e ∷ []) u.place _ p)) ∙ u.now ∙ round_still es e h }
      | inr p ↦ absurd (other u.id p.1)
    ]

used_tick : (es : List Happened) (tag : ℕ) → IsUsed (es ++ Tick ∷ []) tag → ⊥
used_tick es tag u =
    elim (split es Tick u.place _ u.issued) [
      | inl p ↦
          let here : round_of (take u.place es) ≡ round_of (es ++ Tick ∷ []) = ap round_of (sym (before es (Tick ∷ []) u.place _ p)) ∙ u.now in
          absurd (omega (arith, here, round_within u.place es, round_more es Tick))
      | inr p ↦ absurd (let q = p.1 in cc)
    ]

used_here : (es : List Happened) (id tag : ℕ) → IsUsed (es ++ Issue id tag ∷ []) tag
used_here es id tag = record {
  place = length es;
  id = id;
  issued = last es (Issue id tag);
  now = ap round_of (before_last es (Issue id tag) (length es) refl) ∙ sym (round_still es (Issue id tag) refl);
}

-- the bound from which on none is
pub unused_empty : (depth : ℕ) → IsUnusedFrom [] depth 0
unused_empty depth = record { within = omega arith; unused = λ tag from u. absurd (let p = u.issued in cc); used = λ tag e. absurd (omega (arith, e)) }

pub unused_kept : (es zs : List Happened) (e : Happened) (depth bound : ℕ) → is_tick e ≡ false → issues e ≡ None → zs ≡ es ++ e ∷ [] → IsUnusedFrom es depth bound → IsUnusedFrom zs depth bound
unused_kept es zs e depth bound h none hz old =
    subst (λ (l : List Happened). IsUnusedFrom l depth bound) (sym hz) record {
      within = old.within;
      unused = λ tag from u. old.unused tag from (used_back es e tag h (λ id x. issues_not e none id tag x) u);
      used = λ tag is. used_keep es e tag h (old.used tag is);
    }

pub unused_ticked : (es zs : List Happened) (depth : ℕ) → zs ≡ es ++ Tick ∷ [] → IsUnusedFrom zs depth 0
unused_ticked es zs depth hz =
    subst (λ (l : List Happened). IsUnusedFrom l depth 0) (sym hz) record { within = omega arith; unused = λ tag from u. used_tick es tag u; used = λ tag e. absurd (omega (arith, e)) }

another_tag : (i id tag t : ℕ) → ◌≡◌ {A = Happened} (Issue i tag) (Issue id t) → tag ≡ t
another_tag i id tag t h = cc

pub unused_issued : (es zs : List Happened) (id tag depth bound above : ℕ) → bound ≤ above → tag < above → ((n : ℕ) → bound ≤ n → tag < n → above ≤ n)
    → tag < depth → zs ≡ es ++ Issue id tag ∷ [] → IsUnusedFrom es depth bound → IsUnusedFrom zs depth above
unused_issued es zs id tag depth bound above low past least below hz old =
    subst (λ (l : List Happened). IsUnusedFrom l depth above) (sym hz) record {
      within = least depth old.within below;
      unused = λ t from u. old.unused t (omega (arith, low, from)) (used_back es (Issue id tag) t refl (λ i x. absurd (omega (arith, another_tag id i tag t x, past, from))) u);
      used = λ t is. elim (cases_eq tag t) [
        | inl same ↦ subst (IsUsed (es ++ Issue id tag ∷ [])) same (used_here es id tag)
        | inr apart ↦ used_keep es (Issue id tag) t refl (old.used t (at_bound t is apart))
      ];
    }
  where
    at_bound : (t : ℕ) → above ≡ t + 1 → tag ≢ t → bound ≡ t + 1
    at_bound t is apart = elim (cases_lt t bound) [
      | inl less ↦ omega (arith, less, low, is)
      | inr le ↦
          let under : tag < t = elim (cases_lt tag t) [ inl less ↦ less | inr ge ↦ absurd (apart (omega (arith, ge, past, is))) ] in
          absurd (omega (arith, least t le under, is))
    ]

-- the Issue of an open tag
pub still_by : (es : List Happened) (e : Happened) (t id : ℕ) → (ends e ≡ Some t → ⊥) → IsOpenBy es t id → IsOpenBy (es ++ e ∷ []) t id
still_by es e t id other o = record {
  place = o.place;
  issued = keep es (e ∷ []) o.place _ o.issued;
  not_done = λ j h d. elim (split_end es e j t d) [ inl p ↦ o.not_done j h p | inr p ↦ other p.1 ];
}

pub now_by : (es : List Happened) (id t : ℕ) → IsOpenBy (es ++ Issue id t ∷ []) t id
now_by es id t = record {
  place = length es;
  issued = last es (Issue id t);
  not_done = λ j h d. elim (split_end es (Issue id t) j t d) [ inl p ↦ omega (arith, slice_get_within es j _ p.1) | inr p ↦ absurd (let q = p.1 in cc) ];
}

pub by_open : (es : List Happened) (t id : ℕ) → IsOpenBy es t id → IsOpen es t
by_open es t id o = record { place = o.place; id = id; issued = o.issued; not_done = o.not_done }

pub open_by : (es : List Happened) (t : ℕ) (o : IsOpen es t) → IsOpenBy es t o.id
open_by es t o = record { place = o.place; issued = o.issued; not_done = o.not_done }
