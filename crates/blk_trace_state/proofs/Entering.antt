-- The requests of a list of events by id, with one more event; and whether bios are new and fit.
use Rattle.std.proofs.Common.{◌≡◌, ◌+◌, ◌++◌, ◌==◌, ◌∙◌, ◌∷◌, ℕ, zero, suc, List, [], refl, sym, ap, subst, arith, inl, inr, cond, Bool, true, false, map, length, eqb-true, eq-eqb, ne_eqb, append-nil}
use Rattle.std.specs.Prelude.{◌&&◌, ◌||◌, not, find, Some, None, option_map}
use Rattle.std.specs.List.{cons_option, list_any}
use Rattle.std.proofs.lemmas.Bool.{cases_Bool, or_cases, or_left, or_right, and_parts, and_from, not-true, not_from_false, false_from_ne_true, leb-true, le-leb}
use Rattle.std.proofs.lemmas.List.{map-append}
use Rattle.std.proofs.lemmas.List.Folds.{list_any-append}
use Rattle.std.proofs.lemmas.Option.{slice_get_within}
use Rattle.blk_bio.specs.declared.bio.BioId.{BioId}
use Rattle.blk_bio.specs.declared.bio.Dir.{Dir}
use Rattle.blk_bio.specs.declared.bio.Dir.TheVariants.{Read, Write}
use Rattle.blk_bio.specs.declared.request.Side.{Side}
use Rattle.blk_bio.specs.declared.request.Side.TheVariants.{Back, Front}
use Rattle.blk_bio.specs.declared.rule.TraceRule.TheVariants.{ReleasedTwice, Fit}
use Rattle.blk_bio.specs.Bios.{Bio}
use Rattle.blk_bio.specs.Limits.{Limits}
use Rattle.blk_bio.specs.Requests.{dir_of, first_of, last_of, joined, IsWithin, Fits}
use Rattle.blk_trace.specs.declared.event.Event.TheVariants.{Release, Join}
use Rattle.blk_trace.specs.Happened.{Happened}
use Rattle.blk_trace.specs.Kinds.{releases}
use Rattle.blk_trace.specs.Setups.{Setup, expire_of, same_dir}
use Rattle.blk_trace.specs.Events.{round_of, request_of, join_up, AreOnce, IsReleased}
use Rattle.blk_trace.specs.Meaning.{release_of, due_of, released_ids, least}
use Rattle.blk_trace.specs.Waits.{has_id}
use Rattle.blk_trace.specs.Legal.{IsLegalTrace}
use Rattle.blk_trace.specs.Rules.{BreaksNoRule}
use Rattle.blk_trace.specs.Inside.Kept.{has_bio_id, is_bio}
use Rattle.blk_trace.proofs.More.{released_more, due_is}
use Rattle.blk_trace.proofs.Ids.{not_released}
use Rattle.blk_trace.proofs.Entering.{enters_as, IsSame, same_entered, IsEntered, HasNothing, entered_released, entered_joined, nothing_before, next_soon, soon, round_rises, release_within}
use Rattle.blk_trace.proofs.Commands.{map_same}
use Rattle.blk_trace.proofs.Newness.{same_bio, has_at, at_has, in_first, in_second, AreApart, once_both, once_second, once_push}
use Rattle.blk_trace_state.specs.State.{Entry, LayerState, joined_by}
use Rattle.blk_trace_state.specs.Replay.{has_bio, are_new, is_within, can_join}
use Rattle.blk_trace_state.specs.Laws.{entry_of}

-- the requests of all ids that were released
unfoldable pub entries_of : Setup → List Happened → List Entry
entries_of setup es = map (entry_of setup es) (released_ids es)

entry_same : (setup : Setup) (es fs : List Happened) (id : ℕ) → IsSame setup es fs id → entry_of setup fs id ≡ entry_of setup es id
entry_same setup es fs id same =
    let release : release_of fs id ≡ release_of es id = same.release in
    let due : due_of setup fs id ≡ due_of setup es id = same.due in
    let bios : request_of fs id ≡ request_of es id = same.request in
    cc

map_twice : {X Y : Type 0} (f : X → Y) (g : ℕ → X) (xs : List ℕ) → map (λ x. f (g x)) xs ≡ map f (map g xs)
map_twice f g [] = refl
map_twice f g (x ∷ xs) = ap (λ l. f (g x) ∷ l) (map_twice f g xs)

-- ---- with one more event

ids_kept : (es : List Happened) (e : Happened) → releases e ≡ None → released_ids (es ++ e ∷ []) ≡ released_ids es
unfolding released_ids
ids_kept es e h = released_more es (e ∷ []) ∙ ap (λ o. released_ids es ++ cons_option (option_map (λ p. p.0) o) []) h ∙ append-nil _

pub entries_kept : (setup : Setup) (es : List Happened) (e : Happened) → releases e ≡ None → ((id : ℕ) → enters_as id e ≡ false) → entries_of setup (es ++ e ∷ []) ≡ entries_of setup es
unfolding entries_of
entries_kept setup es e h none =
    ap (map (entry_of setup (es ++ e ∷ []))) (ids_kept es e h)
    ∙ map_same (entry_of setup (es ++ e ∷ [])) (entry_of setup es) (released_ids es) (λ id _. entry_same setup es _ id (same_entered setup es e id (none id)))

pub entries_released : (setup : Setup) (es : List Happened) (i : ℕ) (q : List Bio) → IsLegalTrace setup es → BreaksNoRule setup es (Release i q) → entries_of setup (es ++ Release i q ∷ []) ≡ entries_of setup es ++ record { id = i; release = round_of es; due = round_of es + expire_of setup (dir_of q); bios = q } ∷ []
unfolding entries_of released_ids
entries_released setup es i q old all =
    let fs : List Happened = es ++ Release i q ∷ [] in
    let t : (i == i) ≡ true = eq-eqb i i refl in
    let none : HasNothing setup es i = nothing_before setup es i i q old all t in
    let new : IsEntered setup es fs i q = entered_released setup es i i q t in
    let request : request_of fs i ≡ q = new.request ∙ ap (λ l. join_up l q) none.request in
    let release : release_of fs i ≡ round_of es = new.release ∙ omega (arith, none.release) in
    let due : due_of setup fs i ≡ round_of es + expire_of setup (dir_of q) = due_is setup fs i ∙ ap least (new.dues_are ∙ ap (λ l. l ++ (round_of es + expire_of setup (dir_of q)) ∷ []) none.dues_are) in
    let last : entry_of setup fs i ≡ record { id = i; release = round_of es; due = round_of es + expire_of setup (dir_of q); bios = q } = cc in
    let other : (id : ℕ) → has_id (released_ids es) id ≡ true → (i == id) ≡ false = λ id h. ne_eqb i id (λ same.
    let gone : has_id (released_ids es) id ≡ false = not_released es id (subst (λ x. IsReleased es x → ⊥) same (all ReleasedTwice)) in absurd (let u : has_id (released_ids es) id ≡ true = h in cc)) in
    ap (map (entry_of setup fs)) (released_more es (Release i q ∷ []))
    ∙ map-append (entry_of setup fs) (released_ids es) (i ∷ [])
    ∙ ap (λ l. l ++ entry_of setup fs i ∷ []) (map_same (entry_of setup fs) (entry_of setup es) (released_ids es) (λ id h. entry_same setup es fs id (same_entered setup es (Release i q) id (other id h))))
    ∙ ap (λ x. map (entry_of setup es) (released_ids es) ++ x ∷ []) last

entry_joined : (setup : Setup) (es : List Happened) (i : ℕ) (q : List Bio) → IsLegalTrace setup es → BreaksNoRule setup es (Join i q) → (id : ℕ) → has_id (released_ids es) id ≡ true → entry_of setup (es ++ Join i q ∷ []) id ≡ joined_by (round_of es) i q (entry_of setup es id)
entry_joined setup es i q old all id h =
    let fs : List Happened = es ++ Join i q ∷ [] in
    elim (cases_Bool (i == id)) [
      | inl t ↦
          let same : i ≡ id = eqb-true i id t in
          let back : (id == i) ≡ true = eq-eqb id i (sym same) in
          let new : IsEntered setup es fs id q = entered_joined setup es i id q t in
          let dir : dir_of q ≡ dir_of (request_of es id) = subst (λ x. dir_of q ≡ dir_of (request_of es x)) same (all Fit).1.same_direction in
          let due : due_of setup fs id ≡ due_of setup es id = (next_soon setup es fs id q (soon setup es id old h) new dir (round_rises es (Join i q))).1 in
          let release : release_of fs id ≡ round_of es = new.release ∙ omega (arith, release_within es id) in
          let request : request_of fs id ≡ join_up (request_of es id) q = new.request in
          let now : entry_of setup fs id ≡ record { id = id; release = round_of es; due = due_of setup es id; bios = join_up (request_of es id) q } = cc in
          now ∙ ap (λ b. cond b (record { id = id; release = round_of es; due = due_of setup es id; bios = join_up (request_of es id) q }) (entry_of setup es id)) (sym back)
      | inr t ↦
          let back : (id == i) ≡ false = ne_eqb id i (λ same. absurd (let u : (i == id) ≡ true = eq-eqb i id (sym same) in cc)) in
          entry_same setup es fs id (same_entered setup es (Join i q) id t)
          ∙ ap (λ b. cond b (record { id = id; release = round_of es; due = due_of setup es id; bios = join_up (request_of es id) q }) (entry_of setup es id)) (sym back)
    ]

pub entries_joined : (setup : Setup) (es : List Happened) (i : ℕ) (q : List Bio) → IsLegalTrace setup es → BreaksNoRule setup es (Join i q) → entries_of setup (es ++ Join i q ∷ []) ≡ map (joined_by (round_of es) i q) (entries_of setup es)
unfolding entries_of
entries_joined setup es i q old all =
    ap (map (entry_of setup (es ++ Join i q ∷ []))) (ids_kept es (Join i q) refl)
    ∙ map_same (entry_of setup (es ++ Join i q ∷ [])) (λ id. joined_by (round_of es) i q (entry_of setup es id)) (released_ids es) (entry_joined setup es i q old all)
    ∙ map_twice (joined_by (round_of es) i q) (entry_of setup es) (released_ids es)

-- ---- by id

any_ids : (setup : Setup) (es : List Happened) (ids : List ℕ) (id : ℕ) → list_any (λ (r : Entry). r.id == id) (map (entry_of setup es) ids) ≡ has_id ids id
any_ids setup es [] id = refl
any_ids setup es (x ∷ ids) id = ap (λ b. (x == id) || b) (any_ids setup es ids id)

pub released_in : (setup : Setup) (es : List Happened) (id : ℕ) → list_any (λ (r : Entry). r.id == id) (entries_of setup es) ≡ has_id (released_ids es) id
unfolding entries_of
released_in setup es id = any_ids setup es (released_ids es) id

find_there : (setup : Setup) (es : List Happened) (ids : List ℕ) (id : ℕ) → find (λ (r : Entry). r.id == id) (map (entry_of setup es) ids) ≡ cond (has_id ids id) (Some (entry_of setup es id)) None
find_there setup es [] id = refl
find_there setup es (x ∷ ids) id =
    elim (cases_Bool (x == id)) [
      | inl t ↦ ap (λ b. cond b (Some (entry_of setup es x)) (find (λ (r : Entry). r.id == id) (map (entry_of setup es) ids))) t ∙ ap (λ y. Some (entry_of setup es y)) (eqb-true x id t) ∙ sym (ap (λ b. cond (b || has_id ids id) (Some (entry_of setup es id)) None) t)
      | inr t ↦ ap (λ b. cond b (Some (entry_of setup es x)) (find (λ (r : Entry). r.id == id) (map (entry_of setup es) ids))) t ∙ find_there setup es ids id ∙ sym (ap (λ b. cond (b || has_id ids id) (Some (entry_of setup es id)) None) t)
    ]

pub entry_in : (setup : Setup) (es : List Happened) (id : ℕ) → find (λ (r : Entry). r.id == id) (entries_of setup es) ≡ cond (has_id (released_ids es) id) (Some (entry_of setup es id)) None
unfolding entries_of
entry_in setup es id = find_there setup es (released_ids es) id

ids_part : (setup : Setup) (es : List Happened) (ids : List ℕ) → map (λ (r : Entry). r.id) (map (entry_of setup es) ids) ≡ ids
ids_part setup es [] = refl
ids_part setup es (x ∷ ids) = ap (λ l. x ∷ l) (ids_part setup es ids)

pub ids_in : (setup : Setup) (es : List Happened) → map (λ (r : Entry). r.id) (entries_of setup es) ≡ released_ids es
unfolding entries_of
ids_in setup es = ids_part setup es (released_ids es)

-- ---- the ids of bios

-- whether a bio of the requests has the id
abbrev pub has_entered : BioId → List Entry → Bool
has_entered id entries = list_any (λ (r : Entry). has_bio id r.bios) entries

or_swap : (x y : Bool) → (x || y) ≡ (y || x)
or_swap true true = refl
or_swap true false = refl
or_swap false true = refl
or_swap false false = refl

has_joined : (id : BioId) (bs q : List Bio) → has_bio id (join_up bs q) ≡ (has_bio id bs || has_bio id q)
has_joined id [] q = refl
has_joined id (b ∷ bs) q = by (first_of q == last_of (b ∷ bs))
  where
    by : (t : Bool) → has_bio id (cond t ((b ∷ bs) ++ q) (q ++ (b ∷ bs))) ≡ (has_bio id (b ∷ bs) || has_bio id q)
    by true = list_any-append (λ (b : Bio). is_bio b.id id) (b ∷ bs) q
    by false = list_any-append (λ (b : Bio). is_bio b.id id) q (b ∷ bs) ∙ or_swap (has_bio id q) (has_bio id (b ∷ bs))

-- one that is joined, or another
all_parts : (t x q a i : Bool) → ((cond t (x || q) x) || (a || (i && q))) ≡ ((x || a) || ((t || i) && q))
all_parts true true q a i = refl
all_parts true false true true i = refl
all_parts true false true false i = refl
all_parts true false false true i = refl
all_parts true false false false true = refl
all_parts true false false false false = refl
all_parts false true q a i = refl
all_parts false false q a i = refl

has_one : (round i : ℕ) (q : List Bio) (id : BioId) (r : Entry) → has_bio id (joined_by round i q r).bios ≡ cond (r.id == i) (has_bio id r.bios || has_bio id q) (has_bio id r.bios)
has_one round i q id r = by (r.id == i)
  where
    by : (t : Bool) → has_bio id (cond t (let n : Entry = record { id = r.id; release = round; due = r.due; bios = join_up r.bios q } in n) r).bios ≡ cond t (has_bio id r.bios || has_bio id q) (has_bio id r.bios)
    by true = has_joined id r.bios q
    by false = refl

pub bios_joined : (round i : ℕ) (q : List Bio) (id : BioId) (entries : List Entry) → has_entered id (map (joined_by round i q) entries) ≡ (has_entered id entries || (list_any (λ (r : Entry). r.id == i) entries && has_bio id q))
bios_joined round i q id [] = refl
bios_joined round i q id (r ∷ entries) =
    ap (λ b. b || has_entered id (map (joined_by round i q) entries)) (has_one round i q id r)
    ∙ ap (λ b. cond (r.id == i) (has_bio id r.bios || has_bio id q) (has_bio id r.bios) || b) (bios_joined round i q id entries)
    ∙ all_parts (r.id == i) (has_bio id r.bios) (has_bio id q) (has_entered id entries) (list_any (λ (r : Entry). r.id == i) entries)

-- ---- whether bios are new

-- the bios of these events and of the state are the same
abbrev pub HasEntered : LayerState → List Bio → Type 0
HasEntered s before = (id : BioId) → has_entered id s.entries ≡ has_bio_id before id

record IsNewFirst (s : LayerState) (b : Bio) (bs : List Bio) : Type 0 where
  not_later : has_bio b.id bs ≡ false
  not_before : has_entered b.id s.entries ≡ false
  rest : are_new s bs ≡ true

new_first : (s : LayerState) (b : Bio) (bs : List Bio) → are_new s (b ∷ bs) ≡ true → IsNewFirst s b bs
new_first s b bs h =
    let p = and_parts (not (has_bio b.id bs) && not (has_entered b.id s.entries)) (are_new s bs) h in
    let q = and_parts (not (has_bio b.id bs)) (not (has_entered b.id s.entries)) p.0 in
    record { not_later = not-true _ q.0; not_before = not-true _ q.1; rest = p.1 }

first_new : (s : LayerState) (b : Bio) (bs : List Bio) → IsNewFirst s b bs → are_new s (b ∷ bs) ≡ true
first_new s b bs n = and_from _ _ (and_from _ _ (not_from_false _ n.not_later) (not_from_false _ n.not_before)) n.rest

none_once : AreOnce []
none_once j k b c h l same = absurd (cc)

one_apart : (b : Bio) (bs : List Bio) → has_bio b.id bs ≡ false → AreApart (b ∷ []) bs
one_apart b bs h k c at =
    elim (cases_Bool (is_bio b.id c.id)) [
      | inl t ↦ absurd (let y : has_bio b.id bs ≡ true = has_at bs k c b.id at (sym (same_bio b.id c.id t)) in cc)
      | inr t ↦ ap (λ x. x || false) t
    ]

new_once : (s : LayerState) (bs : List Bio) → are_new s bs ≡ true → AreOnce bs
new_once s [] h = none_once
new_once s (b ∷ bs) h =
    let n = new_first s b bs h in
    once_both (b ∷ []) bs (once_push [] b none_once refl) (new_once s bs n.rest) (one_apart b bs n.not_later)

new_apart : (s : LayerState) (before bs : List Bio) → HasEntered s before → are_new s bs ≡ true → AreApart before bs
new_apart s before [] has h k b at = absurd (cc)
new_apart s before (b ∷ bs) has h zero c at =
    let n = new_first s b bs h in
    subst (λ (x : Bio). has_bio_id before x.id ≡ false) (let same : b ≡ c = cc in same) (sym (has b.id) ∙ n.not_before)
new_apart s before (b ∷ bs) has h (suc k) c at = new_apart s before bs has (new_first s b bs h).rest k c at

pub new_is : (s : LayerState) (before bs : List Bio) → HasEntered s before → AreOnce before → are_new s bs ≡ true → AreOnce (before ++ bs)
new_is s before bs has one h = once_both before bs one (new_once s bs h) (new_apart s before bs has h)

once_new : (s : LayerState) (before bs : List Bio) → HasEntered s before → AreApart before bs → AreOnce bs → are_new s bs ≡ true
once_new s before [] has apart one = refl
once_new s before (b ∷ bs) has apart one =
    first_new s b bs record {
      not_later = false_from_ne_true _ (λ t. let p = at_has bs b.id t in absurd (omega (arith, one 0 (suc p.0) b p.1.0 refl p.1.1 (sym p.1.2))));
      not_before = has b.id ∙ apart 0 b refl;
      rest = once_new s before bs has (λ k c at. apart (suc k) c at) (λ j k c d at there same. omega (arith, one (suc j) (suc k) c d at there same));
    }

pub is_new : (s : LayerState) (before bs : List Bio) → HasEntered s before → AreOnce (before ++ bs) → are_new s bs ≡ true
is_new s before bs has all =
    once_new s before bs has (λ k b at. false_from_ne_true _ (λ t.
    let p = at_has before b.id t in
    absurd (omega (arith, all p.0 (length before + k) p.1.0 b (in_first before bs p.0 p.1.0 p.1.1) (in_second before bs k b at) p.1.2, slice_get_within before p.0 p.1.0 p.1.1))))
    (once_second before bs all)

-- ---- whether they fit

pub within_is : (limits : Limits) (bs : List Bio) → is_within limits bs ≡ true → IsWithin limits bs
within_is limits bs h =
    elim (or_cases (length bs == 1) _ h) [
      | inl t ↦ inl (eqb-true (length bs) 1 t)
      | inr t ↦ let p = and_parts _ _ t in inr (leb-true _ _ p.0, leb-true _ _ p.1)
    ]

pub is_so_within : (limits : Limits) (bs : List Bio) → IsWithin limits bs → is_within limits bs ≡ true
is_so_within limits bs (inl h) = or_left (length bs == 1) _ (eq-eqb (length bs) 1 h)
is_so_within limits bs (inr h) = or_right (length bs == 1) _ (and_from _ _ (le-leb _ _ h.0) (le-leb _ _ h.1))

dir_is : (a b : Dir) → same_dir a b ≡ true → a ≡ b
dir_is Read Read h = refl
dir_is Read Write h = absurd (cc)
dir_is Write Read h = absurd (cc)
dir_is Write Write h = refl

is_dir : (a : Dir) → same_dir a a ≡ true
is_dir Read = refl
is_dir Write = refl

pub fits_is : (limits : Limits) (bs q : List Bio) → can_join limits bs q ≡ true → (s : Side) × Fits limits bs q s
fits_is limits bs q h =
    let p = and_parts (same_dir (dir_of q) (dir_of bs)) _ h in
    elim (or_cases ((first_of q == last_of bs) && is_within limits (joined bs q Back)) _ p.1) [
      | inl t ↦ let u = and_parts (first_of q == last_of bs) _ t in (Back, record { same_direction = dir_is _ _ p.0; abuts = eqb-true (first_of q) (last_of bs) u.0; within = within_is limits (joined bs q Back) u.1 })
      | inr t ↦ let u = and_parts (last_of q == first_of bs) _ t in (Front, record { same_direction = dir_is _ _ p.0; abuts = eqb-true (last_of q) (first_of bs) u.0; within = within_is limits (joined bs q Front) u.1 })
    ]

pub is_so_fit : (limits : Limits) (bs q : List Bio) (s : Side) → Fits limits bs q s → can_join limits bs q ≡ true
is_so_fit limits bs q Back f =
    and_from _ _ (subst (λ d. same_dir (dir_of q) d ≡ true) f.same_direction (is_dir (dir_of q)))
    (or_left _ _ (and_from _ _ (eq-eqb (first_of q) (last_of bs) f.abuts) (is_so_within limits (joined bs q Back) f.within)))
is_so_fit limits bs q Front f =
    and_from _ _ (subst (λ d. same_dir (dir_of q) d ≡ true) f.same_direction (is_dir (dir_of q)))
    (or_right _ _ (and_from _ _ (eq-eqb (last_of q) (first_of bs) f.abuts) (is_so_within limits (joined bs q Front) f.within)))
