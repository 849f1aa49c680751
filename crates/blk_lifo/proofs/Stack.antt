-- What the calls do to the list, as what waits.
use Rattle.std.proofs.Common.{◌≡◌, ◌<◌, ◌+◌, ◌++◌, ◌∙◌, ◌==◌, sym, ap, subst, refl, suc, true, false, Bool, cond, ℕ, Some, None, Option, List, [], ◌∷◌, length, arith}
use Rattle.std.specs.Prelude.{slice_get, slice_set, map as each, is_some, IfSome, IfNone}
use Rattle.std.specs.Ordering.{nat_cmp}
use Rattle.std.specs.Cmp.{nat_cmp_total}
use Rattle.std.specs.FinMap as map
use Rattle.std.proofs.lemmas.Bool.{lt-ltb}
use Rattle.blk_bio.specs.declared.request.Side.{Side}
use Rattle.blk_bio.specs.declared.request.Side.TheVariants.{Back, Front}
use Rattle.blk_bio.specs.Extents.{Extent}
use Rattle.blk_bio.specs.Limits.{Limits}
use Rattle.blk_bio.specs.Requests.{IsTried}
use Rattle.blk_sched.specs.Meaning.{Waiting, Meaning, Pending, OpenPicks, Picks, ServesNothing, HasCandidate, HasNoCandidate, StandsAt, JoinsAt, joined_waiting, opened}
use Rattle.blk_sched.proofs.Maps.{get_waiting, one_given, one_taken}
use Rattle.blk_lifo.specs.Stacks.{named, by_id}
use Rattle.blk_lifo.specs.Inside.Stacks.{found, HaveDistinctIds, FitsNoneOf, IsNewest, IsNewestOf}
use Rattle.blk_sched.specs.Policies.{serves_all}
use Rattle.std.specs.BTreeMap.{is_at}
use Rattle.std.specs.List.{position, position_or_len}
use mathlib.Core.Bool.{not}
use Rattle.blk_sched.proofs.Maps.{same_number, one_test}
use Rattle.blk_lifo.proofs.Lists.{itself, found_pushed, distinct_popped, found_at, place_of, found_changed}

abbrev pub view : List Waiting → OpenPicks → Meaning
view ws p = record { pending = by_id ws; open_picks = p; front = true }

-- what waits is what is found
got : (ws : List Waiting) (p : OpenPicks) (self : Meaning) → view ws p ≡ self → (k : ℕ) → found ws k ≡ map.get self.pending k
got ws p self v k = sym (get_waiting (each named ws) k) ∙ ap (λ (m : Meaning). map.get m.pending k) v

-- ---- entering

pub new_id : (ws : List Waiting) (p : OpenPicks) (self : Meaning) (w : Waiting) → view ws p ≡ self → map.get self.pending w.id ≡ None → found ws w.id ≡ None
new_id ws p self w v new = got ws p self v w.id ∙ new

pub entered : (ws : List Waiting) (p : OpenPicks) (self : Meaning) (w : Waiting) → view ws p ≡ self → map.get self.pending w.id ≡ None → view (ws ++ w ∷ []) p ≡ record self { pending = map.insert self.pending w.id w }
entered ws p self w v new =
    ap (λ (x : Pending). let m : Meaning = record { pending = x; open_picks = p; front = true } in m) (one_given (each named ws) (each named (ws ++ w ∷ [])) w.id w (λ k. found_pushed ws w k (new_id ws p self w v new)))
    ∙ ap (λ (m : Meaning). let n : Meaning = record m { pending = map.insert m.pending w.id w } in n) v

-- ---- counting

len_is : (ws : List Waiting) → HaveDistinctIds ws → map.len (by_id ws) ≡ length ws
unfolding HaveDistinctIds
len_is [] d = map.len-empty nat_cmp Waiting
len_is (w ∷ ws) d =
    map.len-insert nat_cmp_total (by_id ws) w.id w
    ∙ ap (λ o. cond (is_some o) (map.len (by_id ws)) (map.len (by_id ws) + 1)) (get_waiting (each named ws) w.id ∙ d.0)
    ∙ (let rest : map.len (by_id ws) ≡ length ws = len_is ws d.1 in omega arith)

pub count_is : (ws : List Waiting) (p : OpenPicks) (self : Meaning) → view ws p ≡ self → HaveDistinctIds ws → length ws ≡ map.len self.pending
count_is ws p self v d = sym (len_is ws d) ∙ ap (λ (m : Meaning). map.len m.pending) v

-- ---- picking

taken : (b : Bool) (w : Waiting) (old : Option Waiting) → (b ≡ true → old ≡ None) → old ≡ cond b None (cond b (Some w) old)
taken true w old none = none refl
taken false w old none = refl

pub picked : (ws rest : List Waiting) (p : OpenPicks) (self new : Meaning) (hw : ℕ) (w : Waiting) → view ws p ≡ self → HaveDistinctIds ws → ws ≡ rest ++ w ∷ [] → new ≡ view rest (opened (w.extent.dir) p) → Picks serves_all hw self w new
picked ws rest p self new hw w v d is after =
    let last = distinct_popped rest w (subst HaveDistinctIds is d) in
    let there : (k : ℕ) → found ws k ≡ cond (is_at (nat_cmp w.id) k) (Some w) (found rest k) = λ k. ap (λ l. found l k) is ∙ found_pushed rest w k last.1 in
    subst (λ (m : Meaning). Picks serves_all hw m w new) v (
      get_waiting (each named ws) w.id ∙ there w.id ∙ ap (λ b. cond b (Some w) (found rest w.id)) (itself w.id),
      refl,
      after ∙ ap (λ x. let m : Meaning = record { pending = x; open_picks = opened (w.extent.dir) p; front = true } in m)
          (one_taken (each named ws) (each named rest) w.id (λ k.
          taken (is_at (nat_cmp w.id) k) w (found rest k) (λ e. ap (found rest) (same_number w.id k e) ∙ last.1)
          ∙ ap (cond (is_at (nat_cmp w.id) k) None) (sym (there k)))),
    )

pub none_left : (ws : List Waiting) (p : OpenPicks) (self : Meaning) (hw : ℕ) → view ws p ≡ self → length ws ≡ 0 → ServesNothing serves_all hw self
none_left [] p self hw v e id w there = let a : None ≡ Some w = got [] p self v id ∙ there in cc
none_left (x ∷ ws) p self hw v e id w there = absurd (omega arith)

-- ---- joining

-- both sides may be tried
tried : (side : Side) → IsTried true side
tried Back = tt
tried Front = refl

-- the newest of the list is the candidate
pub candidate_of : (ws : List Waiting) (p : OpenPicks) (self : Meaning) (limits : Limits) (newcomer : Extent) (hw id : ℕ) (side : Side) → view ws p ≡ self → HaveDistinctIds ws → IsNewest limits newcomer ws (length ws) id side → HasCandidate serves_all hw limits newcomer self id side
candidate_of ws p self limits newcomer hw id side v d best = (
  best.waiting,
  record {
    pending = sym (got ws p self v id) ∙ ap (found ws) (sym best.its_id) ∙ found_at ws best.place best.waiting d best.stands;
    served = refl;
    tried = subst (λ (m : Meaning). IsTried m.front side) v (tried side);
    fits = best.fits;
    back_first = λ is_front back. let e : Back ≡ side = best.only Back back in cc;
    newest = λ other u s after there served tried fits.
        let here = place_of ws other u (got ws p self v other ∙ there) in
        best.newest here.0 u here.1 here.2 (let e : u.id ≡ other = here.3 in omega (arith, after)) s fits;
  },
)

pub no_candidate : (ws : List Waiting) (p : OpenPicks) (self : Meaning) (limits : Limits) (newcomer : Extent) (hw : ℕ) → view ws p ≡ self → FitsNoneOf limits newcomer ws (length ws) → HasNoCandidate serves_all hw limits newcomer self
no_candidate ws p self limits newcomer hw v none id w s there served tried fits =
    let at = place_of ws id w (got ws p self v id ∙ there) in
    none at.0 w at.1 at.2 s fits

-- what the search answers
pub newest_is : (ws : List Waiting) (p : OpenPicks) (self : Meaning) (limits : Limits) (newcomer : Extent) (hw : ℕ) (answer : Option (ℕ × Side)) → view ws p ≡ self → HaveDistinctIds ws → IsNewestOf limits newcomer ws (length ws) answer
    → IfSome answer (λ r. HasCandidate serves_all hw limits newcomer self r.0 r.1) × IfNone answer (HasNoCandidate serves_all hw limits newcomer self)
newest_is ws p self limits newcomer hw None v d is = (tt, no_candidate ws p self limits newcomer hw v is)
newest_is ws p self limits newcomer hw (Some r) v d is = (candidate_of ws p self limits newcomer hw r.0 r.1 v d is, tt)

-- the first place of an id, which is there
placed : (ws : List Waiting) (id : ℕ) (w : Waiting) → found ws id ≡ Some w → (position_or_len (λ (v : Waiting). v.id == id) ws < length ws) × (slice_get ws (position_or_len (λ (v : Waiting). v.id == id) ws) ≡ Some w)
placed [] id w there = absurd (cc)
placed (v ∷ ws) id w there =
    let at : ℕ = position_or_len (λ (u : Waiting). u.id == id) ws in
    elim (v.id == id) as (λ b. cond b (Some v) (found ws id) ≡ Some w → (cond (not b) (1 + at) 0 < length (v ∷ ws)) × (slice_get (v ∷ ws) (cond (not b) (1 + at) 0) ≡ Some w)) [
      | true ↦ λ here. (omega arith, here)
      | false ↦ λ behind. let rest = placed ws id w behind in let next : 1 + at ≡ suc at = omega arith in (let low : at < length ws = rest.0 in omega arith, ap (slice_get (v ∷ ws)) next ∙ rest.1)
    ] (ap (λ c. cond c (Some v) (found ws id)) (sym (one_test id v.id)) ∙ there)

-- what is joined stands at the first place of its id
pub stands : (ws read : List Waiting) (p : OpenPicks) (self : Meaning) (newcomer : Extent) (hw id : ℕ) (side : Side) (answer : Option ℕ) → view ws p ≡ self → read ≡ ws → answer ≡ position (λ (w : Waiting). w.id == id) read → (at : StandsAt serves_all hw newcomer self id side)
    → (place : ℕ) × (answer ≡ Some place) × (place < length read) × (slice_get ws place ≡ Some at.0)
stands ws read p self newcomer hw id side answer v same is at =
    let first : ℕ = position_or_len (λ (w : Waiting). w.id == id) read in
    let there = placed read id at.0 (ap (λ l. found l id) same ∙ got ws p self v id ∙ at.1) in
    (first, is ∙ ap (λ b. cond b (Some first) None) (lt-ltb first (length read) there.0), there.0, subst (λ l. slice_get l first ≡ Some at.0) same there.1)

-- the place that was answered is that one
pub stands_there : (ws read : List Waiting) (p : OpenPicks) (self : Meaning) (newcomer : Extent) (hw id place : ℕ) (side : Side) (answer : Option ℕ) → view ws p ≡ self → read ≡ ws → answer ≡ position (λ (w : Waiting). w.id == id) read → answer ≡ Some place → (at : StandsAt serves_all hw newcomer self id side)
    → (place < length read) × (slice_get ws place ≡ Some at.0)
stands_there ws read p self newcomer hw id place side answer v same is here at =
    let there = stands ws read p self newcomer hw id side answer v same is at in
    let both : Some there.0 ≡ Some place = sym there.1 ∙ here in
    let one : there.0 ≡ place = cc in
    subst (λ (k : ℕ). (k < length read) × (slice_get ws k ≡ Some at.0)) one (there.2, there.3)

-- what stands at the place of an id, changed by a join
pub joins : (ws : List Waiting) (p : OpenPicks) (self : Meaning) (newcomer : Extent) (now place id : ℕ) (side : Side) (w : Waiting) → view ws p ≡ self → HaveDistinctIds ws → map.get self.pending id ≡ Some w → slice_get ws place ≡ Some w → JoinsAt now newcomer self id side (view (slice_set ws place (joined_waiting side now newcomer w)) p)
joins ws p self newcomer now place id side w v d there stands =
    let own : w.id ≡ id = (place_of ws id w (got ws p self v id ∙ there)).3 in (
      w,
      there,
      ap (λ (y : Pending). let m : Meaning = record { pending = y; open_picks = p; front = true } in m) (one_given (each named ws) (each named (slice_set ws place (joined_waiting side now newcomer w))) w.id (joined_waiting side now newcomer w) (λ k. found_changed ws place w (joined_waiting side now newcomer w) k d stands refl))
          ∙ ap (λ (m : Meaning). let n : Meaning = record m { pending = map.insert m.pending w.id (joined_waiting side now newcomer w) } in n) v
          ∙ ap (λ (k : ℕ). let n : Meaning = record self { pending = map.insert self.pending k (joined_waiting side now newcomer w) } in n) own,
    )
