-- The commands and their rounds after one more event.
use Rattle.std.proofs.Common.{◌≡◌, ◌++◌, ◌==◌, ℕ, List, [], ◌∷◌, map, refl, sym, ◌∙◌, ap, Some, None, option_map, append-nil, true, eq-eqb}
use Rattle.std.specs.List.{cons_option}
use Rattle.std.proofs.lemmas.List.{map-append}
use Rattle.std.proofs.lemmas.Bool.{or_left, or_right}
use Rattle.blk_trace.specs.Happened.{Happened, Issue}
use Rattle.blk_trace.specs.Kinds.{issues, requeues}
use Rattle.blk_trace.specs.Setups.{Setup}
use Rattle.blk_trace.specs.Legal.{IsLegalTrace}
use Rattle.blk_trace.specs.Events.{round_of}
use Rattle.blk_trace.specs.Meaning.{release_of, due_of, issued_ids, command_of, commands_of, rounds_of}
use Rattle.blk_trace.specs.Waits.{Entered, has_id, waits_at}
use Rattle.blk_trace.proofs.Served.{new_ids, issued_more, rounds_more}
use Rattle.blk_trace.proofs.Pushing.{shorter_legal, obeys}
use Rattle.blk_trace.proofs.Ids.{has_issued}
use Rattle.blk_trace.proofs.Entering.{IsSame, same_entered, stays_out}
use Rattle.blk_trace.proofs.Waiting.{IsWaiting, waiting_from}

-- two functions that agree on the ids of a list
pub map_same : {Y : Type 0} (f g : ℕ → Y) (xs : List ℕ) → ((x : ℕ) → has_id xs x ≡ true → f x ≡ g x) → map f xs ≡ map g xs
map_same f g [] h = refl
map_same f g (x ∷ xs) h =
    let one : f x ≡ g x = h x (or_left (x == x) _ (eq-eqb x x refl)) in
    let more : map f xs ≡ map g xs = map_same f g xs (λ y e. h y (or_right (x == y) _ e)) in
    cc

pub same_command : (setup : Setup) (es fs : List Happened) (id : ℕ) → IsSame setup es fs id → command_of setup fs id ≡ command_of setup es id
same_command setup es fs id same =
    let release : release_of fs id ≡ release_of es id = same.release in
    let due : due_of setup fs id ≡ due_of setup es id = same.due in
    cc

-- those before, and the one that the event issues
pub commands_more : (setup : Setup) (es : List Happened) (e : Happened) → IsLegalTrace setup (es ++ e ∷ []) → requeues e ≡ None → commands_of setup (es ++ e ∷ []) ≡ commands_of setup es ++ map (command_of setup (es ++ e ∷ [])) (new_ids e)
unfolding commands_of
commands_more setup es e legal n =
    let same : map (command_of setup (es ++ e ∷ [])) (issued_ids es) ≡ map (command_of setup es) (issued_ids es) =
    map_same _ _ (issued_ids es) (λ id h. same_command setup es (es ++ e ∷ []) id (same_entered setup es e id (stays_out setup es e id (shorter_legal setup es e legal) (obeys setup es e legal) (has_issued es id h)))) in
    ap (map (command_of setup (es ++ e ∷ []))) (issued_more es e n) ∙ map-append (command_of setup (es ++ e ∷ [])) (issued_ids es) (new_ids e) ∙ ap (λ l. l ++ map (command_of setup (es ++ e ∷ [])) (new_ids e)) same

-- an event that issues nothing and hands nothing back leaves the commands
pub commands_kept : (setup : Setup) (events : List Happened) (e : Happened) → IsLegalTrace setup (events ++ e ∷ []) → issues e ≡ None → requeues e ≡ None → commands_of setup (events ++ e ∷ []) ≡ commands_of setup events
unfolding issued_ids
commands_kept setup events e legal none n =
    commands_more setup events e legal n
    ∙ ap (λ o. commands_of setup events ++ map (command_of setup (events ++ e ∷ [])) (cons_option (option_map (λ p. p.0) o) [])) none
    ∙ append-nil _

pub commands-issued : (setup : Setup) (events : List Happened) (id tag : ℕ) → IsLegalTrace setup (events ++ Issue id tag ∷ []) → (w : Entered) → waits_at setup events id ≡ Some w → commands_of setup (events ++ Issue id tag ∷ []) ≡ commands_of setup events ++ record { id = id; release = w.release; due = w.due } ∷ []
unfolding issued_ids
commands-issued setup events id tag legal w waits =
    let was : IsWaiting setup events id w = waiting_from setup events id w waits in
    let same : IsSame setup events (events ++ Issue id tag ∷ []) id = same_entered setup events (Issue id tag) id refl in
    let release : release_of (events ++ Issue id tag ∷ []) id ≡ w.release = same.release ∙ sym was.release_is in
    let due : due_of setup (events ++ Issue id tag ∷ []) id ≡ w.due = same.due ∙ sym was.due_is in
    let last : command_of setup (events ++ Issue id tag ∷ []) id ≡ record { id = id; release = w.release; due = w.due } = cc in
    commands_more setup events (Issue id tag) legal refl ∙ ap (λ x. commands_of setup events ++ x ∷ []) last

-- the rounds
pub rounds_kept : (events : List Happened) (e : Happened) → issues e ≡ None → requeues e ≡ None → rounds_of (events ++ e ∷ []) ≡ rounds_of events
rounds_kept events e none n = rounds_more events e n ∙ ap (λ o. rounds_of events ++ cons_option (option_map (λ _. round_of events) o) []) none ∙ append-nil _

pub rounds-issued : (events : List Happened) (id tag : ℕ) → rounds_of (events ++ Issue id tag ∷ []) ≡ rounds_of events ++ round_of events ∷ []
rounds-issued events id tag = rounds_more events (Issue id tag) refl
