-- What waits under each id after one more event.
use Rattle.std.proofs.Common.{◌≡◌, ◌<◌, ◌+◌, ◌-◌, ◌++◌, ◌==◌, ℕ, suc, List, [], ◌∷◌, length, get_or, take, drop, refl, sym, ◌∙◌, ap, subst, arith, Some, None, cond, Bool, true, false, inl, inr, eqb-true}
use Rattle.std.specs.Prelude.{Option, option_map, ◌||◌, ◌&&◌, not, fold, slice_get}
use Rattle.std.specs.Option.{option_map_or, option_and_then}
use Rattle.std.specs.List.{cons_option}
use Rattle.std.proofs.lemmas.Bool.{cases_Bool, or_left, or_right}
use Rattle.std.proofs.lemmas.List.{take_more, take-append-drop}
use Rattle.blk_bio.specs.Bios.{Bio, end_of}
use Rattle.blk_bio.specs.Requests.{first_of, last_of}
use Rattle.blk_bio.specs.declared.rule.TraceRule.TheVariants.{Unknown}
use Rattle.blk_trace.specs.declared.known.Known.{Known}
use Rattle.blk_trace.specs.Happened.{Happened, Release, Join}
use Rattle.blk_trace.specs.Kinds.{enters}
use Rattle.blk_trace.specs.Setups.{Setup}
use Rattle.blk_trace.specs.Events.{join_up, request_of, IsReleased}
use Rattle.blk_trace.specs.Legal.{IsLegalTrace}
use Rattle.blk_trace.specs.Rules.{BreaksNoRule}
use Rattle.blk_trace.specs.Meaning.{issued_ids, released_ids, release_of, due_of}
use Rattle.blk_trace.specs.Waits.{Entered, has_id, waits_at}
use Rattle.blk_trace.specs.Inside.Gathered.{waiting_bios, bios_unless, enters_to_stay, with_event}
use Rattle.blk_trace.specs.Inside.Kept.{known_of, is_gone}
use Rattle.blk_trace.proofs.More.{request_more}
use Rattle.blk_trace.proofs.Pushing.{shorter_legal, obeys}
use Rattle.blk_trace.proofs.Reading.{prefix_legal}
use Rattle.blk_trace.proofs.Ids.{released_has, has_released_more}
use Rattle.blk_trace.proofs.Knowing.{is_out}
use Rattle.blk_trace.proofs.Entering.{enters_as, nothing, same_entered, has_released_same}

-- without events there is nothing
pub nothing_gathered : (gone : ℕ → Bool) (id : ℕ) → bios_unless gone [] id ≡ None
unfolding bios_unless released_ids
nothing_gathered gone id = refl

-- what is there, by its parts
bios_by : (gone : ℕ → Bool) (es : List Happened) (id : ℕ) (b g : Bool) (l : List Bio) → has_id (released_ids es) id ≡ b → gone id ≡ g → request_of es id ≡ l → bios_unless gone es id ≡ cond (b && not g) (Some l) None
unfolding bios_unless
bios_by gone es id b g l h i j = rw (h, i, j) refl

bios_same : (gone : ℕ → Bool) (es fs : List Happened) (id : ℕ) → has_id (released_ids fs) id ≡ has_id (released_ids es) id → request_of fs id ≡ request_of es id → bios_unless gone fs id ≡ bios_unless gone es id
unfolding bios_unless
bios_same gone es fs id h j = bios_by gone fs id _ _ _ h refl j

gone_unless : (b : Bool) (x : List Bio) → cond (b && not true) (Some x) None ≡ None
gone_unless true x = refl
gone_unless false x = refl

bios_gone : (gone : ℕ → Bool) (es : List Happened) (id : ℕ) → gone id ≡ true → bios_unless gone es id ≡ None
bios_gone gone es id h = bios_by gone es id _ true _ refl h refl ∙ gone_unless (has_id (released_ids es) id) (request_of es id)

-- the request of an id that was released and isn't gone
bios_there : (gone : ℕ → Bool) (es : List Happened) (id : ℕ) → has_id (released_ids es) id ≡ true → gone id ≡ false → bios_unless gone es id ≡ Some (request_of es id)
bios_there gone es id h g = bios_by gone es id true false _ h g refl

stays_false : (b : Bool) → not b ≡ true → b ≡ false
stays_false true h = absurd (cc)
stays_false false h = refl

stays_true : (b : Bool) → not b ≡ false → b ≡ true
stays_true true h = refl
stays_true false h = absurd (cc)

-- what an event enters under an id
under : (id : ℕ) (o : Option (ℕ × List Bio)) → option_map_or (λ p. p.0 == id) o false ≡ true → (q : List Bio) × (option_and_then (λ p. cond (p.0 == id) (Some p.1) None) o ≡ Some q)
under id None h = absurd (cc)
under id (Some p) h = (p.1, ap (λ b. cond b (Some p.1) None) h)

not_under : (id : ℕ) (o : Option (ℕ × List Bio)) → option_map_or (λ p. p.0 == id) o false ≡ false → option_and_then (λ p. cond (p.0 == id) (Some p.1) None) o ≡ None
not_under id None h = refl
not_under id (Some p) h = ap (λ b. cond b (Some p.1) None) h

-- an id under which bios enter is released then
pub released_now : (setup : Setup) (es : List Happened) (e : Happened) (id : ℕ) → BreaksNoRule setup es e → enters_as id e ≡ true → has_id (released_ids (es ++ e ∷ [])) id ≡ true
unfolding released_ids
released_now setup es (Release i q) id all h = has_released_more es (Release i q) id ∙ or_right (has_id (released_ids es) id) ((i == id) || false) (or_left (i == id) false h)
released_now setup es (Join i q) id all h =
    let here : IsReleased es id = subst (IsReleased es) (eqb-true i id h) (all Unknown) in
    has_released_more es (Join i q) id ∙ or_left (has_id (released_ids es) id) _ (released_has es here.0 id here.1.0 here.1.1)
released_now setup es e id all h = absurd (cc)

released_then : (es : List Happened) (e : Happened) (id : ℕ) → enters_as id e ≡ false → has_id (released_ids (es ++ e ∷ [])) id ≡ has_id (released_ids es) id
unfolding released_ids
released_then es (Release i q) id h = has_released_same es (Release i q) id (rw h refl)
released_then es e id h = has_released_same es e id refl

-- what is there of an id that isn't gone is its request so far
is_there : (setup : Setup) (gone : ℕ → Bool) (es : List Happened) (id : ℕ) → IsLegalTrace setup es → gone id ≡ false → option_map_or (λ bios. bios) (bios_unless gone es id) [] ≡ request_of es id
is_there setup gone es id legal stays =
    elim (cases_Bool (has_id (released_ids es) id)) [
      | inl b ↦ ap (λ o. option_map_or (λ bios. bios) o []) (bios_there gone es id b stays)
      | inr b ↦ ap (λ o. option_map_or (λ bios. bios) o []) (bios_by gone es id false false _ b stays refl) ∙ sym (nothing setup es id legal b).request
    ]

-- what is there after one more event under whose id something stays, or not
kept_under : (setup : Setup) (gone : ℕ → Bool) (es : List Happened) (e : Happened) (id : ℕ) → enters_as id e ≡ false → bios_unless gone (es ++ e ∷ []) id ≡ bios_unless gone es id
kept_under setup gone es e id h = bios_same gone es (es ++ e ∷ []) id (released_then es e id h) (same_entered setup es e id h).request

gone_if : (gone : ℕ → Bool) (id : ℕ) (b : Bool) (o : Option (ℕ × List Bio)) → option_map_or (λ p. p.0 == id) o false ≡ true → option_map_or (λ p. not (gone p.0)) o false ≡ b → gone id ≡ not b
gone_if gone id b None h s = absurd (cc)
gone_if gone id true (Some p) h s = stays_false (gone id) (subst (λ n. not (gone n) ≡ true) (eqb-true p.0 id h) s)
gone_if gone id false (Some p) h s = stays_true (gone id) (subst (λ n. not (gone n) ≡ false) (eqb-true p.0 id h) s)

pub gathers : (setup : Setup) (gone : ℕ → Bool) (es : List Happened) (e : Happened) (f : ℕ → Option (List Bio)) → IsLegalTrace setup (es ++ e ∷ []) → enters_to_stay gone e ≡ true → ((i : ℕ) → f i ≡ bios_unless gone es i) → (id : ℕ) → with_event f e id ≡ bios_unless gone (es ++ e ∷ []) id
gathers setup gone es e f legal stays s id =
    elim (cases_Bool (enters_as id e)) [
      | inl t ↦
          let u = under id (enters e) t in
          let g : gone id ≡ false = gone_if gone id true (enters e) t stays in
          let was : option_map_or (λ bios. bios) (f id) [] ≡ request_of es id = ap (λ o. option_map_or (λ bios. bios) o []) (s id) ∙ is_there setup gone es id (shorter_legal setup es e legal) g in
          let is : request_of (es ++ e ∷ []) id ≡ join_up (request_of es id) u.0 = request_more es e id ∙ ap (λ o. fold join_up (request_of es id) (cons_option o [])) u.1 in
          ap (λ o. option_map_or (λ newcomer. Some (join_up (option_map_or (λ bios. bios) (f id) []) newcomer)) o (f id)) u.1
          ∙ ap (λ l. Some (join_up l u.0)) was
          ∙ ap (λ l. Some l) (sym is)
          ∙ sym (bios_there gone (es ++ e ∷ []) id (released_now setup es e id (obeys setup es e legal) t) g)
      | inr t ↦
          ap (λ o. option_map_or (λ newcomer. Some (join_up (option_map_or (λ bios. bios) (f id) []) newcomer)) o (f id)) (not_under id (enters e) t)
          ∙ s id
          ∙ sym (kept_under setup gone es e id t)
    ]

pub passes : (setup : Setup) (gone : ℕ → Bool) (es : List Happened) (e : Happened) → enters_to_stay gone e ≡ false → (id : ℕ) → bios_unless gone (es ++ e ∷ []) id ≡ bios_unless gone es id
passes setup gone es e h id =
    elim (cases_Bool (enters_as id e)) [
      | inl t ↦ let g : gone id ≡ true = gone_if gone id false (enters e) t h in bios_gone gone (es ++ e ∷ []) id g ∙ sym (bios_gone gone es id g)
      | inr t ↦ kept_under setup gone es e id t
    ]

-- whether bios enter to stay, by what is kept
pub stays_by : (setup : Setup) (es : List Happened) (f : ℕ → Option Known) (e : Happened) → IsLegalTrace setup es → ((id : ℕ) → f id ≡ known_of setup es id) → option_map_or (λ p. not (is_gone (f p.0))) (enters e) false ≡ enters_to_stay (λ id. has_id (issued_ids es) id) e
stays_by setup es f e legal kept = by_entry (enters e)
  where
    by_entry : (o : Option (ℕ × List Bio)) → option_map_or (λ p. not (is_gone (f p.0))) o false ≡ option_map_or (λ p. not (has_id (issued_ids es) p.0)) o false
    by_entry None = refl
    by_entry (Some p) = ap not (ap is_gone (kept p.0) ∙ is_out setup es p.0 legal)

-- in the end what is there waits
with_bios : (b : Bool) (x : Entered) → cond b (Some x.bios) None ≡ option_map (λ w. w.bios) (cond b (Some x) None)
with_bios true x = refl
with_bios false x = refl

pub at_the_end : (setup : Setup) (es : List Happened) (id : ℕ) → bios_unless (λ i. has_id (issued_ids es) i) es id ≡ waiting_bios setup es id
unfolding bios_unless waits_at
at_the_end setup es id = with_bios (has_id (released_ids es) id && not (has_id (issued_ids es) id)) (record { release = release_of es id; due = due_of setup es id; bios = request_of es id })

-- the events up to a place and the one there
pub one_more : (setup : Setup) (es : List Happened) (i : ℕ) (e : Happened) → i < length es → e ≡ get_or es i e → IsLegalTrace setup es
    → (take (i + 1) es ≡ take i es ++ e ∷ []) × IsLegalTrace setup (take i es ++ e ∷ [])
one_more setup es i e low is legal =
    let up : take (i + 1) es ≡ take i es ++ e ∷ [] = take_more es i e low ∙ ap (λ x. take i es ++ x ∷ []) (sym is) in
    let whole : es ≡ take (i + 1) es ++ drop (i + 1) es = sym (take-append-drop (i + 1) es) in
    let prefix : IsLegalTrace setup (take (i + 1) es) = prefix_legal setup _ (take (i + 1) es) (drop (i + 1) es) refl (subst (IsLegalTrace setup) whole legal) in
    (up, subst (IsLegalTrace setup) up prefix)

-- a newcomer joined to bios, by the last of them
last_is : (bios : List Bio) (b : Bio) → slice_get bios (length bios - 1) ≡ Some b → last_of bios ≡ end_of b
unfolding last_of
last_is [] b h = absurd (cc)
last_is (x ∷ []) b h = let same : x ≡ b = cc in ap end_of same
last_is (x ∷ y ∷ bios) b h =
    let place : length (x ∷ y ∷ bios) - 1 ≡ suc (length (y ∷ bios) - 1) = omega arith in
    last_is (y ∷ bios) b (subst (λ n. slice_get (x ∷ y ∷ bios) n ≡ Some b) place h)

pub joined_to : (bios newcomer : List Bio) (b : Bio) → slice_get bios (length bios - 1) ≡ Some b → join_up bios newcomer ≡ cond (first_of newcomer == end_of b) (bios ++ newcomer) (newcomer ++ bios)
joined_to [] newcomer b h = absurd (cc)
joined_to (x ∷ bios) newcomer b h = ap (λ e. cond (first_of newcomer == e) ((x ∷ bios) ++ newcomer) (newcomer ++ (x ∷ bios))) (last_is (x ∷ bios) b h)
