-- Certificates that are proved, from what the oracle and the check answer.
use Rattle.std.proofs.Common.{ℕ, ◌≡◌, ◌∙◌, ◌<◌, ◌*◌, ◌^◌, Result, Ok, IfOk, List, [], ◌∷◌, length, arith, sym, subst, Some, None, refl, slice_index_or, slice_index, get_or, ◌==◌, eq-eqb}
use Rattle.std.specs.Prelude.{ℤ, pos, negsuc, ◌+ℤ◌, ◌-ℤ◌, ◌↔◌, All, Option, Err, IfSome}
use Rattle.std.proofs.lemmas.Int.{ints}
use Rattle.std.proofs.lemmas.List.{get_or-map, length-map}
use Rattle.std.proofs.lemmas.List.Elements.{All-get_or}
use Rattle.std.proofs.lemmas.List.Folds.{list_any_at}
use Rattle.std.proofs.lemmas.Option.{get_or_from_slice_get, slice_get_within}
use Rattle.edd_commands.specs.declared.Command.{Command}
use Rattle.edd_check.specs.declared.Window.{Window}
use Rattle.edd_commands.specs.declared.steps.Step.{Step}
use Rattle.edd_commands.specs.Capacity.{fixed}
use Rattle.edd_commands.specs.Schedule.{IsLegal, IsGreatestLateness, IsLeastLateness, RoundsInRange}
use Rattle.edd_check.specs.Window.{IsCrowded, rounds_between}
use Rattle.edd_check.specs.declared.Crowding.{Crowding}
use Rattle.edd_check.specs.declared.CheckFault.{CheckFault}
use Rattle.edd_check.specs.Check.{IsAnswer, IsCrowding}
use Rattle.edd_commands.proofs.InForce.{carried_fixed}
use Rattle.answer.specs.declared.answer.Part.{Part}
use Rattle.blk_cli.specs.Certificates.{IsProof, IsRefusedBound, bound_parts, verdict_parts}
use Rattle.blk_cli.specs.Inside.Certificates.{IsCrowdingOf}
use Rattle.edd_oracle.specs.Answer.{IsBest}
use Rattle.blk_text.specs.TraceRecords.{EventFits}
use Rattle.blk_trace.proofs.Ids.{has_issued}
use Rattle.blk_trace.specs.Events.{IsIssued}
use Rattle.blk_trace.specs.Happened.{Happened}
use Rattle.blk_trace.specs.declared.event.Event.TheVariants.{Tick, Issue}
use Rattle.blk_trace.specs.Meaning.{command_of, commands_of, issued_ids}
use Rattle.blk_trace.specs.Laws.{AreBounded}
use Rattle.blk_trace.specs.Setups.{Setup, IsSetup}
use Rattle.blk_records.specs.Commands.{IsCommandInRange, AreCommands}
use Rattle.blk_records.specs.Certificate.{Claim, IsBound, IsClaim, IsLateness}

difference_in : (late : ℤ) (r d : ℕ) → pos r -ℤ pos d ≡ late → r < 2 ^ 41 → d < 2 ^ 41 → IsLateness late
difference_in (pos n) r d e h k = omega (arith, ints, e)
difference_in (negsuc n) r d e h k = omega (arith, ints, e)

-- a schedule's greatest lateness is that of one of its places, so it lies in the range of a text
pub lateness_in : (commands : List Command) (rounds : List ℕ) (late : ℤ) → length rounds ≡ length commands → All IsCommandInRange commands → RoundsInRange rounds
    → IsGreatestLateness commands rounds late → IsLateness late
lateness_in commands rounds late same in_range rounds_in g =
    let d : Command = record { id = 0; release = 0; due = 0 } in
    let c : IsCommandInRange (slice_index_or commands g.place d) = All-get_or IsCommandInRange commands g.place d g.in_list in_range in
    let r : slice_index rounds g.place < 2 ^ 41 = All-get_or (λ x. x < 2 ^ 41) rounds g.place 0 (omega (arith, same, g.in_list)) rounds_in in
    difference_in late (slice_index rounds g.place) (slice_index_or commands g.place d).due (g.reached d) r c.2

-- what the oracle answers is a certificate's claim
pub claim_in : (depth : ℕ) (steps : List Step) (commands : List Command) (rounds : List ℕ) (late : ℤ) (window : Window) → AreCommands depth commands → IsBest commands steps rounds late window
    → IsClaim (record { depth = depth; commands = commands; rounds = rounds; bound = Some (late, window) })
claim_in depth steps commands rounds late window are best = record {
  depth = (are.0, are.1);
  few = are.2;
  one_each = best.legal.one_each;
  bound = (omega (arith, best.greatest.in_list), lateness_in commands rounds late best.legal.one_each are.3 best.rounds_in best.greatest, best.window_in.0, best.window_in.1);
  commands = are.3;
  rounds = best.rounds_in;
}

no_commands : (commands : List Command) → length commands ≡ 0 → commands ≡ []
no_commands [] e = refl
no_commands (c ∷ cs) e = absurd (omega (arith, e))

-- a bound stands exactly beside commands
pub bound_beside : (count : ℕ) (commands : List Command) (bound : Option (ℤ × Window)) → count ≡ length commands → IsBound count bound → (bound ≡ None) ↔ (commands ≡ [])
bound_beside count commands None e h = (λ _. no_commands commands (omega (arith, e, h)), λ _. refl)
bound_beside count [] (Some b) e h = absurd (omega (arith, e, h.0))
bound_beside count (c ∷ cs) (Some b) e h = (λ e. cc e, λ e. cc e)

-- a bound of which the check said Ok
pub proof_of : (commands : List Command) (steps : List Step) (depth : ℕ) (rounds : List ℕ) (bound : Option (ℤ × Window)) (late other : ℤ) (window : Window) → steps ≡ fixed depth → bound ≡ Some (late, window) → other ≡ late
    → IsLegal commands rounds steps × IsGreatestLateness commands rounds other × IsCrowded commands steps other window → IsLeastLateness commands steps other
    → IfSome bound (λ b. IsProof commands depth rounds b.0 b.1)
proof_of commands steps depth rounds bound late other window under e same h least =
    let P : Option (ℤ × Window) → Type 0 = λ o. IfSome o (λ b. IsProof commands depth rounds b.0 b.1) in
    let Q : ℤ → Type 0 = λ z. IsProof commands depth rounds z window in
    subst P (sym e) (subst Q same (record {
      legal = subst (λ s. IsLegal commands rounds s) under h.0;
      greatest = h.1;
      crowded = subst (λ s. IsCrowded commands s other window) under h.2;
      least = subst (λ s. IsLeastLateness commands s other) under least;
    }))

-- a bound that the check refused
pub refused_of : (claim : Claim) (commands : List Command) (rounds : List ℕ) (steps : List Step) (late other : ℤ) (window : Window) (f : CheckFault) → commands ≡ claim.commands → rounds ≡ claim.rounds → steps ≡ fixed claim.depth
    → claim.bound ≡ Some (late, window) → other ≡ late → IsAnswer commands steps other rounds window (Err f) → IsRefusedBound claim f claim.bound
refused_of claim commands rounds steps late other window f same_commands same_rounds under is same h =
    let C : List Command → Type 0 = λ xs. IsAnswer xs steps other rounds window (Err f) in
    let R : List ℕ → Type 0 = λ ys. IsAnswer claim.commands steps other ys window (Err f) in
    let P : List Step → Type 0 = λ s. IsAnswer claim.commands s other claim.rounds window (Err f) in
    let Q : ℤ → Type 0 = λ z. IsAnswer claim.commands (fixed claim.depth) z claim.rounds window (Err f) in
    (late, window, is, subst Q same (subst P under (subst R same_rounds (subst C same_commands h))))

-- how crowded the window of a bound is of which the check said Ok
pub crowding_of : (claim : Claim) (commands : List Command) (steps : List Step) (late other : ℤ) (window : Window) (c : Crowding) → commands ≡ claim.commands → steps ≡ fixed claim.depth
    → claim.bound ≡ Some (late, window) → other ≡ late → IsCrowding commands steps other window c → IsCrowdingOf claim claim.bound (Some c)
crowding_of claim commands steps late other window c same_commands under is same h =
    let C : List Command → Type 0 = λ xs. IsCrowding xs steps other window c in
    let P : List Step → Type 0 = λ s. IsCrowding claim.commands s other window c in
    let Q : ℤ → Type 0 = λ z. IsCrowding claim.commands (fixed claim.depth) z window c in
    subst (λ (b : Option (ℤ × Window)). IsCrowdingOf claim b (Some c)) (sym is) (subst Q same (subst P under (subst C same_commands h)))

-- what is said of a certificate with a bound
pub verdict_is : {E : Type 0} (r : Result (List Part) E) (claim : Claim) (late other : ℤ) (window : Window) (found : Option Crowding) (c : Crowding) → claim.bound ≡ Some (late, window) → found ≡ Some c → other ≡ late
    → IsCrowdingOf claim claim.bound found → IfOk r (λ a. a ≡ bound_parts other c.load c.carries) → IfOk r (λ a. a ≡ verdict_parts claim claim.bound)
verdict_is (Err e) claim late other window found c is has same are h = tt
verdict_is (Ok a) claim late other window found c is has same are h =
    let here : IsCrowding claim.commands (fixed claim.depth) late window c =
    subst (λ (o : Option Crowding). IsCrowdingOf claim (Some (late, window)) o) has (subst (λ (b : Option (ℤ × Window)). IsCrowdingOf claim b found) is are) in
    let carries : c.carries ≡ claim.depth * rounds_between window.from (pos window.due +ℤ late) =
    here.1 ∙ carried_fixed claim.depth window.from (rounds_between window.from (pos window.due +ℤ late)) in
    rw is (h ∙ rw (same, here.0, carries) refl)

-- a trace's commands are a command list's
pub commands_in : (setup : Setup) (depth : ℕ) (own commands : List Command) (rounds : List ℕ) → depth ≡ setup.depth → IsSetup setup → AreBounded own rounds → commands ≡ own → All (λ c. c.id < 2 ^ 64) commands
    → AreCommands depth commands
commands_in setup depth own commands rounds same is bounded e ids =
    let b : AreBounded commands rounds = rw e bounded in
    let each : All IsCommandInRange commands = λ k d h. (ids k d h, omega (arith, (b.in_range k d h).0), (b.in_range k d h).1) in
    (omega (arith, same, is.some_tags), omega (arith, same, is.few_tags), b.few, each)

-- a trace's commands are of its Issues, whose ids are numbers of 64 bits
pub ids_fit : (setup : Setup) (es : List Happened) → All EventFits es → All (λ (x : Command). x.id < 2 ^ 64) (commands_of setup es)
unfolding commands_of
ids_fit setup es fit k d h =
    let ids : List ℕ = issued_ids es in
    let within : k < length ids = omega (arith, h, length-map ids (command_of setup es)) in
    let id : ℕ = get_or ids k 0 in
    let issued : IsIssued es id = has_issued es id (list_any_at (λ (i : ℕ). i == id) ids k 0 within (eq-eqb id id refl)) in
    let issue : Happened = Issue id issued.1.0 in
    let at : get_or es issued.0 Tick ≡ issue = get_or_from_slice_get es issued.0 issue Tick issued.1.1 in
    let fits : EventFits issue = subst EventFits at (fit issued.0 Tick (slice_get_within es issued.0 issue issued.1.1)) in
    rw (get_or-map (command_of setup es) ids k 0 d within) fits.1.0
