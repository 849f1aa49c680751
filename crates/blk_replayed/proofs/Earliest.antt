-- Replays under earliest.
use Rattle.std.proofs.Common.{ℕ, ◌≡◌, ◌≤◌, ◌∙◌, List, [], ◌∷◌, Result, Ok, Err, IfOk, length, get_or, arith, inl, inr, refl, sym, ap, subst, cond, zero, suc, Bool, true, false, Some}
use Rattle.std.specs.Prelude.{All}
use Rattle.std.specs.List.{Contains}
use Rattle.std.specs.FinMap as map
use Rattle.std.specs.Map.{lookup, values_of}
use Rattle.std.specs.BTreeMap.{is_at}
use Rattle.std.specs.Ordering.{nat_cmp, is_eq}
use Rattle.edd_commands.specs.Capacity.{fixed}
use Rattle.edd_commands.specs.Schedule.{IsLegal}
use Rattle.edd_commands.specs.declared.Command.{Command}
use Rattle.edd_commands.specs.declared.TheConstants.{MAX_COMMANDS}
use Rattle.blk_sched.specs.Meaning.{Waiting, Pending, at_start}
use Rattle.blk_sched.proofs.Maps.{looked_up}
use Rattle.blk_earliest.specs.Choice.{earliest_choice, earliest_kept, earliest_policy, IsNoLater}
use Rattle.blk_earliest.proofs.Chosen.{choice_first, choice_on_time}
use Rattle.blk_capture.specs.Requests.{AreTimed}
use Rattle.blk_capture.specs.declared.requests.CapturedRequest.{CapturedRequest}
use Rattle.blk_schedulers.specs.Rows.{sched_for}
use Rattle.blk_schedulers.specs.Rows.Earliest.{is_late_last}
use Rattle.blk_schedulers.specs.declared.plans.Plan.{Plan}
use Rattle.blk_schedulers.specs.declared.rows.SchedKind.{SchedKind}
use Rattle.blk_replay.specs.Replay.{standing}
use Rattle.blk_replay.specs.Requests.{AreRoundCommands, IsReplayOf}
use Rattle.blk_replay.specs.DueFirst.{GoesFirst, GoesByDue, IsBestOrder, ReplaysBest}
use Rattle.blk_replayed.specs.declared.row.Chooser.TheVariants.{Replay}
use Rattle.blk_replayed.specs.Rows.{due_by, IsReplayed, IsBestUnderEarliest}

-- what is found in a map is one of its values
found_listed : (es : List (ℕ × Waiting)) (k : ℕ) (v : Waiting) → lookup (is_at (nat_cmp k)) es ≡ Some v → Contains (values_of es) v
found_listed [] k v h = absurd (cc)
found_listed (e ∷ es) k v h =
    elim (is_eq (nat_cmp k e.0)) as (λ b. cond b (Some e.1) (lookup (is_at (nat_cmp k)) es) ≡ Some v → Contains (e.1 ∷ values_of es) v) [
      | true ↦ λ g. let same : e.1 ≡ v = cc in (0, omega arith, same)
      | false ↦ λ g. let rest = found_listed es k v g in (suc rest.0, omega (arith, rest.1), rest.2)
    ] h

listed : (P : Pending) (k : ℕ) (v : Waiting) → map.get P k ≡ Some v → Contains (map.values P) v
listed P k v h = found_listed (map.entries P) k v (sym (looked_up P k) ∙ h)

of_listed : (Q : Waiting → Type 0) (ws : List Waiting) (v : Waiting) → All Q ws → Contains ws v → Q v
of_listed Q ws v all there = subst Q there.2 (all there.0 v there.1)

-- its policy goes by due rounds, by the setting that it keeps
same_setting : (a b : Bool) → earliest_kept a ≡ earliest_kept b → a ≡ b
same_setting true true h = refl
same_setting false false h = refl
same_setting true false h = absurd (let e : 1 ≡ 0 = ap (λ (xs : List ℕ). get_or xs 0 0) h in omega arith)
same_setting false true h = absurd (let e : 0 ≡ 1 = ap (λ (xs : List ℕ). get_or xs 0 0) h in omega arith)

due_no_later : (w v : Waiting) → IsNoLater w v → w.due ≤ v.due
due_no_later w v (inl sooner) = omega (arith, sooner)
due_no_later w v (inr tie) = omega (arith, tie.0)

goes_first : (late_last : Bool) (now : ℕ) (ws : List Waiting) (w v : Waiting) → earliest_choice late_last now ws ≡ Some w → Contains ws v → GoesFirst late_last now w v
goes_first false now ws w v h there = due_no_later w v (of_listed (λ x. IsNoLater w x) ws v (choice_first now ws w h).first there)
goes_first true now ws w v h there = λ in_time.
    let both = of_listed (λ x. now ≤ x.due → (now ≤ w.due) × IsNoLater w x) ws v (choice_on_time now ws w h).on_time there in_time in
    (both.0, due_no_later w v both.1)

goes_by_due : (late_last : Bool) → GoesByDue late_last earliest_policy (earliest_kept late_last)
goes_by_due late_last = record {
  first = λ m hw now id w v after h there.
      let own : late_last ≡ h.0 = same_setting late_last h.0 h.1 in
      let choice : earliest_choice late_last now (map.values m.pending) ≡ Some w = ap (λ b. earliest_choice b now (map.values m.pending)) own ∙ sym h.2 in
      goes_first late_last now (map.values m.pending) w v choice (listed m.pending id v there);
  picked = λ m hw now w after h. h.3;
  done = λ hw dir wait after h. h;
  ticked = λ now after h. h;
}

-- so its replays are the best
pub best_of : (p : Plan) (requests : List CapturedRequest) (commands : List Command) (rounds : List ℕ)
    → ReplaysBest earliest_policy → AreTimed requests → length requests ≤ MAX_COMMANDS → AreRoundCommands requests commands → IsReplayed p requests commands rounds → IsLegal commands rounds (fixed 1) → IsBestUnderEarliest (Replay p) commands rounds
best_of p requests commands rounds law timed few counted replayed legal = record {
  best = λ late_last of.
      let v : List ℕ = p.sched.values in
      let M : SchedKind → Type 0 = λ k. IsReplayOf (sched_for k).policy (standing ((sched_for k).meaning v) ((sched_for k).kept v 1)) requests commands (due_by k p.fifo) rounds in
      subst (λ b. IsBestOrder b commands rounds) of.1
      (law (is_late_last v) (standing (at_start true) (earliest_kept (is_late_last v))) requests commands rounds (goes_by_due (is_late_last v)) timed few counted (subst M of.0 replayed.1) legal);
}

-- of what two clauses say
pub ok_both : {X E : Type 0} (r : Result X E) (P Q R : X → Type 0) → IfOk r P → IfOk r Q → ((x : X) → P x → Q x → R x) → IfOk r R
ok_both (Ok x) P Q R p q h = h x p q
ok_both (Err e) P Q R p q h = tt
