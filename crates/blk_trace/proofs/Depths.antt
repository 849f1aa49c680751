-- The depth of each round with one more event.
use Rattle.std.proofs.Common.{◌≡◌, ◌≤◌, ◌+◌, ◌++◌, ℕ, List, [], ◌∷◌, refl, ◌∙◌, ap, arith, cond, nat_le, Some, None, append-nil}
use Rattle.std.specs.Prelude.{Option, option_map}
use Rattle.std.specs.List.{cons_option}
use Rattle.std.proofs.lemmas.Bool.{cond-false, lt-leb}
use Rattle.edd_commands.specs.declared.steps.Step.{Step}
use Rattle.edd_commands.specs.Capacity.{depth_after, depth_at}
use Rattle.blk_trace.specs.Happened.{Happened}
use Rattle.blk_trace.specs.Kinds.{sets_depth}
use Rattle.blk_trace.specs.Setups.{Setup}
use Rattle.blk_trace.specs.Events.{round_of}
use Rattle.blk_trace.specs.Depths.{step_after, change, changes_of, depth_in, depth_now}
use Rattle.blk_trace.proofs.More.{timed_part}

depth_after_push : (n : ℕ) (xs : List Step) (s : Step) (x : ℕ) → depth_after n (xs ++ s ∷ []) x ≡ cond (nat_le s.from x) s.depth (depth_after n xs x)
depth_after_push n [] s x = refl
depth_after_push n (t ∷ xs) s x = depth_after_push (cond (nat_le t.from x) t.depth n) xs s x

-- the changes with one more event
pub changes_more : (setup : Setup) (es : List Happened) (e : Happened) → changes_of setup (es ++ e ∷ []) ≡ changes_of setup es ++ cons_option (option_map (step_after (round_of es)) (sets_depth e)) []
unfolding changes_of
changes_more setup es e = let first : Step = record { from = 0; depth = setup.depth } in ap (λ l. first ∷ l) (timed_part change es e)

-- an event that sets no depth leaves all of them
pub depth_kept : (setup : Setup) (es : List Happened) (e : Happened) (x : ℕ) → sets_depth e ≡ None → depth_in setup (es ++ e ∷ []) x ≡ depth_in setup es x
unfolding depth_in
depth_kept setup es e x h =
    ap (λ l. depth_at l x) (changes_more setup es e ∙ ap (λ o. changes_of setup es ++ cons_option (option_map (step_after (round_of es)) o) []) h ∙ append-nil _)

-- one that sets a depth sets that of the rounds after its own
pub depth_set : (setup : Setup) (es : List Happened) (e : Happened) (d x : ℕ) → sets_depth e ≡ Some d → depth_in setup (es ++ e ∷ []) x ≡ cond (nat_le (round_of es + 1) x) d (depth_in setup es x)
unfolding depth_in depth_at
depth_set setup es e d x h =
    ap (λ l. depth_after 0 l x) (changes_more setup es e ∙ ap (λ o. changes_of setup es ++ cons_option (option_map (step_after (round_of es)) o) []) h) ∙ depth_after_push 0 (changes_of setup es) (step_after (round_of es) d) x

-- the rounds up to the one that is on keep their depths
pub depth_past : (setup : Setup) (es : List Happened) (e : Happened) (x : ℕ) → x ≤ round_of es → depth_in setup (es ++ e ∷ []) x ≡ depth_in setup es x
depth_past setup es e x early = by_set (sets_depth e) refl
  where
    by_set : (o : Option ℕ) → sets_depth e ≡ o → depth_in setup (es ++ e ∷ []) x ≡ depth_in setup es x
    by_set None h = depth_kept setup es e x h
    by_set (Some d) h = depth_set setup es e d x h ∙ cond-false (nat_le (round_of es + 1) x) d (depth_in setup es x) (lt-leb (round_of es + 1) x (omega arith))

-- the depth of the round that is on
pub depth_now_is : (setup : Setup) (es : List Happened) → depth_now setup es ≡ depth_in setup es (round_of es)
unfolding depth_now
depth_now_is setup es = refl
