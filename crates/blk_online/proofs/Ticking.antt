-- A command that could have run in a round waits as the round ends, as it is in the whole trace.
use Rattle.std.proofs.Common.{◌≡◌, ◌<◌, ◌≤◌, ◌+◌, ◌++◌, ◌==◌, ℕ, zero, suc, List, [], ◌∷◌, take, drop, map, get_or, refl, sym, ◌∙◌, ap, subst, arith, cond, true, false, inl, inr, Some, Bool, append_assoc, eq-eqb, ne_eqb}
use Rattle.std.specs.Prelude.{slice_get, count_by}
use Rattle.std.proofs.lemmas.List.{map-append}
use Rattle.std.proofs.lemmas.List.Sums.{sum_by-append}
use Rattle.std.proofs.lemmas.Bool.{or_left, or_right}
use Rattle.edd_commands.specs.Capacity.{depth_at}
use Rattle.edd_commands.specs.Schedule.{places_at}
use Rattle.edd_oracle.proofs.Counting.{count_map, count_none}
use Rattle.blk_trace.specs.Happened.{Happened}
use Rattle.blk_trace.specs.declared.event.Event.TheVariants.{Tick}
use Rattle.blk_trace.specs.Setups.{Setup}
use Rattle.blk_trace.specs.Events.{At, round_of, request_of, IsReleased}
use Rattle.blk_trace.specs.Depths.{depth_now, capacity_of}
use Rattle.blk_trace.specs.Legal.{IsLegalTrace}
use Rattle.blk_trace.specs.Issues.{issues_from}
use Rattle.blk_trace.specs.Meaning.{served, issued_ids, rounds_of, released_ids, release_of, due_of, command_of}
use Rattle.blk_trace.specs.Waits.{has_id, waits_at}
use Rattle.blk_trace.proofs.Newness.{in_either, get_at}
use Rattle.blk_trace.proofs.Ids.{released_has, released_first, has_issued}
use Rattle.blk_trace.proofs.Counting.{count-cons}
use Rattle.blk_trace.proofs.Requeuing.{distinct, absent}
use Rattle.blk_trace.proofs.Waiting.{waits_from}
use Rattle.blk_trace.proofs.Entering.{same_entered, has_released_same}
use Rattle.blk_trace.proofs.Commands.{same_command}
use Rattle.blk_trace.proofs.Depths.{depth_now_is}
use Rattle.blk_trace.proofs.Changes.{capacity_depth}
use Rattle.blk_trace.proofs.More.{round_more}
use Rattle.blk_online.specs.Ticks.{WentOut}
use Rattle.blk_online.proofs.Splitting.{tick_at, split_at, ended_before, served_split, rounds_between}
use Rattle.blk_online.proofs.Staying.{IsStill, still_after, still_issued, still_deep}

-- ---- lists of services

count_append : (p : ℕ → Bool) (xs ys : List ℕ) → count_by p (xs ++ ys) ≡ count_by p xs + count_by p ys
count_append p xs ys = sum_by-append (λ (x : ℕ). cond (p x) 1 0) xs ys

counted_once : (xs : List (ℕ × ℕ)) (j : ℕ) (s : ℕ × ℕ) → slice_get xs j ≡ Some s → 1 ≤ count_by (λ u. s.1 == u) (map (λ (t : ℕ × ℕ). t.1) xs)
counted_once [] j s h = absurd (cc)
counted_once (x ∷ xs) zero s h =
    let same : x ≡ s = cc in
    let here : (s.1 == x.1) ≡ true = eq-eqb s.1 x.1 (ap (λ (t : ℕ × ℕ). t.1) (sym same)) in
    let one : cond {A = ℕ} (s.1 == x.1) 1 0 ≡ 1 = ap (λ b. cond {A = ℕ} b 1 0) here in
    omega (arith, count-cons (λ u. s.1 == u) x.1 (map (λ (t : ℕ × ℕ). t.1) xs))
counted_once (x ∷ xs) (suc j) s h = omega (arith, count-cons (λ u. s.1 == u) x.1 (map (λ (t : ℕ × ℕ). t.1) xs), counted_once xs j s h)

has_here : (xs : List (ℕ × ℕ)) (j : ℕ) (s : ℕ × ℕ) → slice_get xs j ≡ Some s → has_id (map (λ (t : ℕ × ℕ). t.1) xs) s.1 ≡ true
has_here [] j s h = absurd (cc)
has_here (x ∷ xs) zero s h = let same : x ≡ s = cc in or_left (x.1 == s.1) _ (eq-eqb x.1 s.1 (ap (λ (t : ℕ × ℕ). t.1) same))
has_here (x ∷ xs) (suc j) s h = or_right (x.1 == s.1) _ (has_here xs j s h)

-- no service from a later round on has an earlier one
none_later : (r : ℕ) (es : List Happened) (x : ℕ) → x < r → places_at (map (λ (s : ℕ × ℕ). s.0) (served r es)) x ≡ 0
unfolding places_at
none_later r es x low =
    count_map (λ (s : ℕ × ℕ). s.0) (λ y. y == x) (served r es)
    ∙ count_none (λ (s : ℕ × ℕ). s.0 == x) (served r es)
    (λ k d h.
    let at = rounds_between r es k (get_or (served r es) k d) (get_at (served r es) k d h) in
    ne_eqb (get_or (served r es) k d).0 x (λ same. absurd (omega (arith, at.0))))

-- ---- a trace about a Tick

-- what is known as the round x ends of a command that goes out later and was released by then
pub record IsHeldBack (setup : Setup) (before all : List Happened) (x id : ℕ) : Type 0 where
  pub waits : waits_at setup before id ≡ Some (record { release = release_of before id; due = due_of setup before id; bios = request_of before id })
  pub same : command_of setup all id ≡ command_of setup before id
  pub places : places_at (rounds_of all) x ≡ places_at (rounds_of before) x
  pub depth : depth_at (capacity_of setup all) x ≡ depth_now setup before
  pub went_out : (p : ℕ) (q : ℕ × ℕ) → slice_get (served 0 all) p ≡ Some q → q.0 ≡ x → WentOut before x q.1 × (command_of setup all q.1 ≡ command_of setup before q.1)

module _ (setup : Setup) (before after : List Happened) (legal : IsLegalTrace setup (before ++ Tick ∷ after)) where
  abbrev whole : List Happened
  whole = before ++ Tick ∷ after

  abbrev now : ℕ
  now = round_of before

  -- the services before the Tick, and those after it
  split : served 0 whole ≡ served 0 before ++ served (now + 1) after
  unfolding served issues_from
  split = served_split 0 before (Tick ∷ after) (ended_before setup before after legal) ∙ ap (λ n. served 0 before ++ served (n + 1) after) (let e : 0 + now ≡ now = omega arith in e)

  places_same : places_at (rounds_of whole) now ≡ places_at (rounds_of before) now
  unfolding rounds_of places_at
  places_same =
      ap (λ l. count_by (λ y. y == now) (map (λ (s : ℕ × ℕ). s.0) l)) split
      ∙ ap (count_by (λ y. y == now)) (map-append (λ (s : ℕ × ℕ). s.0) (served 0 before) (served (now + 1) after))
      ∙ count_append (λ y. y == now) (map (λ (s : ℕ × ℕ). s.0) (served 0 before)) (map (λ (s : ℕ × ℕ). s.0) (served (now + 1) after))
      ∙ omega (arith, none_later (now + 1) after now (omega arith))

  depth_same : depth_at (capacity_of setup whole) now ≡ depth_now setup before
  depth_same = capacity_depth setup whole now ∙ still_deep setup (Tick ∷ after) before now (omega arith) ∙ sym (depth_now_is setup before)

  -- a service of that round stands before the Tick
  out_now : (p : ℕ) (q : ℕ × ℕ) → slice_get (served 0 whole) p ≡ Some q → q.0 ≡ now → WentOut before now q.1 × (command_of setup whole q.1 ≡ command_of setup before q.1)
  unfolding issued_ids
  out_now p q h at =
      elim (in_either (served 0 before) (served (now + 1) after) p q (ap (λ l. slice_get l p) (sym split) ∙ h)) [
        | inl first ↦
            let there : slice_get (served 0 before) p ≡ Some (now, q.1) = first ∙ ap (λ n. Some (n, q.1)) at in
            ((p, there), still_issued setup (Tick ∷ after) before q.1 legal (has_issued before q.1 (has_here (served 0 before) p q first)))
        | inr second ↦
            let low = rounds_between (now + 1) after second.0 q second.1.1 in
            absurd (omega (arith, low.0))
      ]

  -- a command that goes out later
  held_back : (k : ℕ) (s : ℕ × ℕ) → slice_get (served 0 whole) k ≡ Some s → release_of whole s.1 ≤ now → now < s.0 → IsHeldBack setup before whole now s.1
  unfolding issued_ids released_ids
  held_back k s h released later =
      let id : ℕ = s.1 in
      let more : List Happened = before ++ Tick ∷ [] in
      let same : more ++ after ≡ whole = append_assoc before (Tick ∷ []) after in
      let up : round_of more ≡ now + 1 = round_more before Tick in
      let still : IsStill setup more after id = still_after setup after more id now (omega arith) (omega (arith, released, ap (λ l. release_of l id) same)) in
      let second : (j : ℕ) × (slice_get (served (now + 1) after) j ≡ Some s) =
      elim (in_either (served 0 before) (served (now + 1) after) k s (ap (λ l. slice_get l k) (sym split) ∙ h)) [
        | inl first ↦ absurd (omega (arith, (rounds_between 0 before k s first).1))
        | inr there ↦ (there.0, there.1.1)
      ] in
      let issued : has_id (issued_ids whole) id ≡ true = has_here (served 0 whole) k s h in
      let release : IsReleased whole id = released_first setup whole id legal (has_issued whole id issued) in
      let released_is : has_id (released_ids before) id ≡ true =
      sym (has_released_same before Tick id refl) ∙ sym still.released ∙ ap (λ l. has_id (released_ids l) id) same ∙ released_has whole release.0 id release.1.0 release.1.1 in
      let ids : issued_ids whole ≡ issued_ids before ++ map (λ (t : ℕ × ℕ). t.1) (served (now + 1) after) =
      ap (map (λ (t : ℕ × ℕ). t.1)) split ∙ map-append (λ (t : ℕ × ℕ). t.1) (served 0 before) (served (now + 1) after) in
      let few : count_by (λ u. id == u) (issued_ids before) + count_by (λ u. id == u) (map (λ (t : ℕ × ℕ). t.1) (served (now + 1) after)) ≤ 1 =
      omega (arith, distinct setup whole legal id, ap (count_by (λ u. id == u)) ids, count_append (λ u. id == u) (issued_ids before) (map (λ (t : ℕ × ℕ). t.1) (served (now + 1) after))) in
      let none : has_id (issued_ids before) id ≡ false = absent id (issued_ids before) (omega (arith, few, counted_once (served (now + 1) after) second.0 s second.1)) in
      record {
        waits = waits_from setup before id released_is none;
        same = ap (λ l. command_of setup l id) (sym same) ∙ still.command ∙ same_command setup before more id (same_entered setup before Tick id refl);
        places = places_same;
        depth = depth_same;
        went_out = out_now;
      }

-- ---- the Tick of each round

pub record IsTick (setup : Setup) (all : List Happened) (x id : ℕ) : Type 0 where
  pub place : ℕ
  pub ticked : At all place Tick
  pub round : round_of (take place all) ≡ x
  pub held : IsHeldBack setup (take place all) all x id

pub tick_of : (setup : Setup) (all : List Happened) → IsLegalTrace setup all → (x k : ℕ) (s : ℕ × ℕ) → slice_get (served 0 all) k ≡ Some s → release_of all s.1 ≤ x → x < s.0 → IsTick setup all x s.1
tick_of setup all legal x k s h released later =
    let last = rounds_between 0 all k s h in
    let t = tick_at all x (omega (arith, last.1)) in
    let before : List Happened = take t.0 all in
    let after : List Happened = drop (suc t.0) all in
    let is : all ≡ before ++ Tick ∷ after = split_at all t.0 Tick t.1 in
    let P : List Happened → Type 0 = λ l. IsLegalTrace setup l → slice_get (served 0 l) k ≡ Some s → release_of l s.1 ≤ round_of before → round_of before < s.0 → IsHeldBack setup before l (round_of before) s.1 in
    let held : IsHeldBack setup before all (round_of before) s.1 =
    (subst P (sym is) (λ g. held_back setup before after g k s)) legal h (omega (arith, t.2)) (omega (arith, t.2)) in
    record { place = t.0; ticked = t.1; round = t.2; held = subst (λ n. IsHeldBack setup before all n s.1) t.2 held }
