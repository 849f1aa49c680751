-- What later events leave of a command, and of the depths of the rounds before them.
use Rattle.std.proofs.Common.{◌≡◌, ◌<◌, ◌≤◌, ◌++◌, ◌==◌, ℕ, List, [], ◌∷◌, length, refl, sym, ◌∙◌, ap, subst, arith, cond, true, false, inl, inr, Some, None, append_assoc, append-nil}
use Rattle.std.specs.Prelude.{Option, option_map, fold, max}
use Rattle.std.specs.Option.{option_map_or, option_and_then}
use Rattle.std.specs.List.{cons_option}
use Rattle.std.proofs.lemmas.Bool.{cases_Bool, or_from}
use Rattle.blk_bio.specs.Bios.{Bio}
use Rattle.blk_trace.specs.Happened.{Happened}
use Rattle.blk_trace.specs.declared.event.Event.TheVariants.{Release}
use Rattle.blk_trace.specs.Kinds.{enters}
use Rattle.blk_trace.specs.Setups.{Setup}
use Rattle.blk_trace.specs.Events.{round_of, IsIssued}
use Rattle.blk_trace.specs.Depths.{depth_in}
use Rattle.blk_trace.specs.Legal.{IsLegalTrace}
use Rattle.blk_trace.specs.Meaning.{entry_round, release_of, released_ids, command_of}
use Rattle.blk_trace.specs.Waits.{has_id}
use Rattle.blk_trace.proofs.Places.{keep}
use Rattle.blk_trace.proofs.More.{release_more}
use Rattle.blk_trace.proofs.Pushing.{shorter_legal, obeys}
use Rattle.blk_trace.proofs.Reading.{prefix_legal}
use Rattle.blk_trace.proofs.Depths.{depth_past}
use Rattle.blk_trace.proofs.Entering.{enters_as, same_entered, stays_out, round_rises, has_released_same}
use Rattle.blk_trace.proofs.Commands.{same_command}

-- one event more on the left
moved : (es : List Happened) (e : Happened) (fs : List Happened) → (es ++ e ∷ []) ++ fs ≡ es ++ e ∷ fs
moved es e fs = append_assoc es (e ∷ []) fs

-- ---- a release only grows

no_less : (a : ℕ) (o : Option ℕ) → a ≤ fold max a (cons_option o [])
no_less a None = omega arith
no_less a (Some r) = omega arith

release_rises : (es : List Happened) (e : Happened) (id : ℕ) → release_of es id ≤ release_of (es ++ e ∷ []) id
release_rises es e id = omega (arith, release_more es e id, no_less (release_of es id) (entry_round id (round_of es, e)))

release_grows : (fs es : List Happened) (id : ℕ) → release_of es id ≤ release_of (es ++ fs) id
release_grows [] es id = omega (arith, ap (λ l. release_of l id) (append-nil es))
release_grows (e ∷ fs) es id = omega (arith, release_rises es e id, release_grows fs (es ++ e ∷ []) id, ap (λ l. release_of l id) (moved es e fs))

-- an entry is no later
some_under : (id : ℕ) (o : Option (ℕ × List Bio)) → option_map_or (λ p. p.0 == id) o false ≡ true → (q : List Bio) × (option_and_then (λ p. cond (p.0 == id) (Some p.1) None) o ≡ Some q)
some_under id None h = absurd (cc)
some_under id (Some p) h = (p.1, ap (λ b. cond b (Some p.1) None) h)

entered_then : (es : List Happened) (e : Happened) (id : ℕ) → enters_as id e ≡ true → round_of es ≤ release_of (es ++ e ∷ []) id
entered_then es e id h =
    let q = some_under id (enters e) h in
    let is : release_of (es ++ e ∷ []) id ≡ max (release_of es id) (round_of es) = release_more es e id ∙ ap (λ (o : Option (List Bio)). fold max (release_of es id) (cons_option (option_map (λ _. round_of es) o) [])) q.1 in
    omega arith

-- ---- where an id's release lies before a round, nothing enters under it from then on

released_none : (e : Happened) (id : ℕ) → enters_as id e ≡ false → has_id (released_ids (e ∷ [])) id ≡ false
unfolding released_ids
released_none (Release i q) id h = or_from (i == id) false h refl
released_none e id h = refl

pub record IsStill (setup : Setup) (es fs : List Happened) (id : ℕ) : Type 0 where
  pub command : command_of setup (es ++ fs) id ≡ command_of setup es id
  pub released : has_id (released_ids (es ++ fs)) id ≡ has_id (released_ids es) id

pub still_after : (setup : Setup) (fs es : List Happened) (id x : ℕ) → x < round_of es → release_of (es ++ fs) id ≤ x → IsStill setup es fs id
still_after setup [] es id x after late = record {
  command = ap (λ l. command_of setup l id) (append-nil es);
  released = ap (λ l. has_id (released_ids l) id) (append-nil es);
}
still_after setup (e ∷ fs) es id x after late =
    let more : List Happened = es ++ e ∷ [] in
    let same : more ++ fs ≡ es ++ e ∷ fs = moved es e fs in
    let late' : release_of (more ++ fs) id ≤ x = omega (arith, late, ap (λ l. release_of l id) same) in
    let none : enters_as id e ≡ false =
    elim (cases_Bool (enters_as id e)) [
      | inr f ↦ f
      | inl t ↦ absurd (omega (arith, entered_then es e id t, release_grows fs more id, late'))
    ] in
    let rest : IsStill setup more fs id = still_after setup fs more id x (omega (arith, round_rises es e)) late' in
    record {
      command = ap (λ l. command_of setup l id) (sym same) ∙ rest.command ∙ same_command setup es more id (same_entered setup es e id none);
      released = ap (λ l. has_id (released_ids l) id) (sym same) ∙ rest.released ∙ has_released_same es e id (released_none e id none);
    }

-- ---- nor does anything under an id that was issued

pub still_issued : (setup : Setup) (fs es : List Happened) (id : ℕ) → IsLegalTrace setup (es ++ fs) → IsIssued es id → command_of setup (es ++ fs) id ≡ command_of setup es id
still_issued setup [] es id legal issued = ap (λ l. command_of setup l id) (append-nil es)
still_issued setup (e ∷ fs) es id legal issued =
    let more : List Happened = es ++ e ∷ [] in
    let same : more ++ fs ≡ es ++ e ∷ fs = moved es e fs in
    let legal' : IsLegalTrace setup (more ++ fs) = subst (λ l. IsLegalTrace setup l) (sym same) legal in
    let here : IsLegalTrace setup more = prefix_legal setup (length fs) more fs refl legal' in
    let none : enters_as id e ≡ false = stays_out setup es e id (shorter_legal setup es e here) (obeys setup es e here) issued in
    let issued' : IsIssued more id = (issued.0, (issued.1.0, keep es (e ∷ []) issued.0 _ issued.1.1)) in
    ap (λ l. command_of setup l id) (sym same) ∙ still_issued setup fs more id legal' issued' ∙ same_command setup es more id (same_entered setup es e id none)

-- ---- nor does a Depth change the rounds up to its own

pub still_deep : (setup : Setup) (fs es : List Happened) (x : ℕ) → x ≤ round_of es → depth_in setup (es ++ fs) x ≡ depth_in setup es x
still_deep setup [] es x early = ap (λ l. depth_in setup l x) (append-nil es)
still_deep setup (e ∷ fs) es x early =
    ap (λ l. depth_in setup l x) (sym (moved es e fs)) ∙ still_deep setup fs (es ++ e ∷ []) x (omega (arith, round_rises es e)) ∙ depth_past setup es e x early
