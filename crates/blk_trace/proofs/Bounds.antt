-- What bounds a trace's commands and their rounds.
use Rattle.std.proofs.Common.{◌≡◌, ◌≢◌, ◌<◌, ◌≤◌, ◌==◌, ℕ, zero, suc, List, [], ◌∷◌, length, map, get_or, refl, sym, ◌∙◌, ap, subst, arith, Bool, true, eq-eqb}
use Rattle.std.specs.Prelude.{not, count_by, filter, All}
use Rattle.std.proofs.lemmas.List.Sums.{length-filter, count_by-le-length}
use Rattle.std.proofs.lemmas.List.Elements.{All-map}
use Rattle.std.proofs.lemmas.Bool.{or_left, or_right}
use Rattle.edd_commands.specs.declared.Command.{Command}
use Rattle.edd_commands.specs.declared.TheConstants.{MAX_ROUNDS}
use Rattle.blk_bio.specs.declared.bio.Dir.{Dir}
use Rattle.blk_bio.specs.declared.bio.Dir.TheVariants.{Read, Write}
use Rattle.blk_bio.specs.Requests.{dir_of}
use Rattle.blk_trace.specs.declared.trace.TheConstants.{MAX_EVENTS}
use Rattle.blk_trace.specs.declared.setup.TheConstants.{MAX_EXPIRIES}
use Rattle.blk_trace.specs.Happened.{Happened}
use Rattle.blk_trace.specs.declared.issued.Issued.{Issued}
use Rattle.blk_trace.specs.Issues.{issues_of, was_requeued, kept_of}
use Rattle.blk_trace.specs.Setups.{Setup, IsSetup, expire_of}
use Rattle.blk_trace.specs.Events.{round_of, request_of, IsReleased}
use Rattle.blk_trace.specs.Legal.{IsLegalTrace}
use Rattle.blk_trace.specs.Meaning.{round_and_id, served, issued_ids, command_of, commands_of, rounds_of}
use Rattle.blk_trace.specs.Waits.{has_id}
use Rattle.blk_trace.specs.Laws.{AreBounded}
use Rattle.blk_trace.proofs.More.{rounds_within}
use Rattle.blk_trace.proofs.Issues.{issues_few}
use Rattle.blk_trace.proofs.Served.{served_between}
use Rattle.blk_trace.proofs.Ids.{has_issued, released_first, released_has}
use Rattle.blk_trace.proofs.Entering.{release_within, IsDueSoon, soon}
use Rattle.blk_trace.proofs.Counting.{one_if, count-cons}
use Rattle.blk_trace.proofs.Requeuing.{distinct}

-- there are no more commands than events
filter_few : {X : Type 0} (p : X → Bool) (xs : List X) → length (filter p xs) ≤ length xs
filter_few p xs = omega (arith, length-filter p xs, count_by-le-length p xs)

map_length : {X Y : Type 0} (f : X → Y) (xs : List X) → length (map f xs) ≡ length xs
map_length f [] = refl
map_length f (x ∷ xs) = ap suc (map_length f xs)

commands_few : (setup : Setup) (es : List Happened) → length (commands_of setup es) ≤ length es
unfolding commands_of issued_ids served
commands_few setup es =
    let kept : List Issued = kept_of (issues_of es) in
    omega (
      arith,
      map_length (command_of setup es) (map (λ (s : ℕ × ℕ). s.1) (map round_and_id kept)),
      map_length (λ (s : ℕ × ℕ). s.1) (map round_and_id kept),
      map_length round_and_id kept,
      filter_few (λ i. not (was_requeued i.outcome)) (issues_of es),
      issues_few 0 es,
    )

-- no round is later than the last
rounds_early : (es : List Happened) → All (λ r. r ≤ round_of es) (rounds_of es)
unfolding rounds_of
rounds_early es = All-map (λ (r : ℕ). r ≤ round_of es) (λ (s : ℕ × ℕ). s.0) (served 0 es) (λ k d h. omega (arith, (served_between 0 es k d h).1))

-- what stands at a place is in the list
place_has : (xs : List ℕ) (k d : ℕ) → k < length xs → has_id xs (get_or xs k d) ≡ true
place_has [] k d h = absurd (omega arith)
place_has (x ∷ xs) zero d h = or_left (x == x) _ (eq-eqb x x refl)
place_has (x ∷ xs) (suc k) d h = or_right (x == get_or xs k d) _ (place_has xs k d (omega arith))

place_counts : (xs : List ℕ) (k d : ℕ) → k < length xs → 1 ≤ count_by (λ y. get_or xs k d == y) xs
place_counts [] k d h = absurd (omega arith)
place_counts (x ∷ xs) zero d h =
    let one : one_if (x == x) ≡ 1 = ap one_if (eq-eqb x x refl) in
    omega (arith, count-cons (λ y. x == y) x xs)
place_counts (x ∷ xs) (suc k) d h = omega (arith, count-cons (λ y. get_or xs k d == y) x xs, place_counts xs k d (omega arith))

apart : (xs : List ℕ) → ((u : ℕ) → count_by (λ y. u == y) xs ≤ 1) → (j k d : ℕ) → j < k → k < length xs → get_or xs j d ≡ get_or xs k d → ⊥
apart [] few j k d l h e = absurd (omega arith)
apart (x ∷ xs) few zero zero d l h e = absurd (omega arith)
apart (x ∷ xs) few zero (suc k) d l h e =
    let again : 1 ≤ count_by (λ y. x == y) xs = subst (λ u. 1 ≤ count_by (λ y. u == y) xs) (sym e) (place_counts xs k d (omega arith)) in
    let one : one_if (x == x) ≡ 1 = ap one_if (eq-eqb x x refl) in
    absurd (omega (arith, few x, count-cons (λ y. x == y) x xs))
apart (x ∷ xs) few (suc j) zero d l h e = absurd (omega arith)
apart (x ∷ xs) few (suc j) (suc k) d l h e = apart xs (λ u. omega (arith, few u, count-cons (λ y. u == y) x xs)) j k d (omega arith) (omega arith) e

id_at : (setup : Setup) (es : List Happened) (xs : List ℕ) (k d : ℕ) (c : Command) → k < length xs → (get_or (map (command_of setup es) xs) k c).id ≡ get_or xs k d
id_at setup es [] k d c h = absurd (omega arith)
id_at setup es (x ∷ xs) zero d c h = refl
id_at setup es (x ∷ xs) (suc k) d c h = id_at setup es xs k d c (omega arith)

commands_apart : (setup : Setup) (es : List Happened) → IsLegalTrace setup es → (j k : ℕ) (d : Command) → j < k → k < length (commands_of setup es) → (get_or (commands_of setup es) j d).id ≢ (get_or (commands_of setup es) k d).id
unfolding commands_of
commands_apart setup es legal j k d l h e =
    let n : length (map (command_of setup es) (issued_ids es)) ≡ length (issued_ids es) = map_length (command_of setup es) (issued_ids es) in
    let first : (get_or (map (command_of setup es) (issued_ids es)) j d).id ≡ get_or (issued_ids es) j 0 = id_at setup es (issued_ids es) j 0 d (omega arith) in
    let second : (get_or (map (command_of setup es) (issued_ids es)) k d).id ≡ get_or (issued_ids es) k 0 = id_at setup es (issued_ids es) k 0 d (omega arith) in
    apart (issued_ids es) (distinct setup es legal) j k 0 l (omega arith) (sym first ∙ e ∙ second)

-- releases and dues
expire_small : (setup : Setup) (dir : Dir) → IsSetup setup → expire_of setup dir < MAX_EXPIRIES
expire_small setup Read is = is.read_in
expire_small setup Write is = is.write_in

commands_early : (setup : Setup) (es : List Happened) → IsSetup setup → IsLegalTrace setup es → All (λ (c : Command). (c.release ≤ MAX_EVENTS) × (c.due < MAX_ROUNDS)) (commands_of setup es)
unfolding commands_of
commands_early setup es is legal =
    All-map (λ (c : Command). (c.release ≤ MAX_EVENTS) × (c.due < MAX_ROUNDS)) (command_of setup es) (issued_ids es)
    (λ k d h.
    let p : IsReleased es (get_or (issued_ids es) k d) = released_first setup es (get_or (issued_ids es) k d) legal (has_issued es (get_or (issued_ids es) k d) (place_has (issued_ids es) k d h)) in
    let s : IsDueSoon setup es (get_or (issued_ids es) k d) = soon setup es (get_or (issued_ids es) k d) legal (released_has es p.0 (get_or (issued_ids es) k d) p.1.0 p.1.1) in (
      omega (arith, release_within es (get_or (issued_ids es) k d), rounds_within es, legal.not_too_long),
      omega (arith, s.early, expire_small setup (dir_of (request_of es (get_or (issued_ids es) k d))) is, rounds_within es, legal.not_too_long),
    ))

at_most : (xs : List ℕ) (A B : ℕ) → A ≤ B → All (λ r. r ≤ A) xs → All (λ r. r ≤ B) xs
at_most xs A B h all k d l = omega (arith, all k d l)

pub bounded : (setup : Setup) (es : List Happened) → IsSetup setup → IsLegalTrace setup es → AreBounded (commands_of setup es) (rounds_of es)
bounded setup es is legal = record {
  few = omega (arith, commands_few setup es, legal.not_too_long);
  in_range = commands_early setup es is legal;
  distinct = commands_apart setup es legal;
  in_time = at_most (rounds_of es) (round_of es) MAX_EVENTS (omega (arith, rounds_within es, legal.not_too_long)) (rounds_early es);
}
