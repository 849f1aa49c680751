-- For which of some schedulers a script isn't run, from what became of it at one place.
use Rattle.std.proofs.Common.{ℕ, ◌≡◌, ◌∙◌, ◌∷◌, ◌++◌, List, sym, ap, take, drop, length, get_or, inr, ◌<◌, ◌+◌}
use Rattle.std.specs.Prelude.{All}
use Rattle.std.proofs.lemmas.List.{take-append-drop, drop_more}
use Rattle.blk_schedulers.specs.declared.sched.Sched.{Sched}
use Rattle.blk_schedulers.specs.declared.sched.SchedFault.{SchedFault}
use Rattle.blk_schedulers.specs.Made.{IsMade, HasFault}
use Rattle.blk_schedulers.proofs.Unmade.{made_memory}
use Rattle.blk_text.specs.Script.{Scripted}
use Rattle.blk_runs.specs.declared.fault.RunFault.{RunFault}
use Rattle.blk_runs.specs.declared.fault.RunFault.TheVariants as run
use Rattle.blk_runs.specs.Runs.{IsRunFault}
use Rattle.blk_runs.specs.Firsts.{IsFirstUnmade, RunsWhole, AreUnrun}

-- a list, split at a place
split_at : (xs : List Sched) (i : ℕ) (d : Sched) → i < length xs → xs ≡ take i xs ++ get_or xs i d ∷ drop (i + 1) xs
split_at xs i d h = sym (take-append-drop i xs) ∙ ap (λ (rest : List Sched). take i xs ++ rest) (drop_more xs i d h)

-- the first that isn't made of its settings
pub first_unmade : (ss : List Sched) (i : ℕ) (d : Sched) (f : SchedFault) → i < length ss → All IsMade (take i ss) → HasFault (get_or ss i d) f → IsFirstUnmade ss f
first_unmade ss i d f h made fault = record { before = take i ss; unmade = get_or ss i d; after = drop (i + 1) ss; turn = split_at ss i d h; made = made; fault = fault }

-- all are made, those before a place run the script whole, and the one there doesn't
pub unrun_at : (ss : List Sched) (i : ℕ) (d : Sched) (s : Scripted) (f : RunFault) → i < length ss → All IsMade ss → All (RunsWhole s) (take i ss) → IsRunFault (get_or ss i d) s f → AreUnrun ss s f
unrun_at ss i d s (run.Sched f) h made whole r = inr (made_memory (get_or ss i d) f (made i d h) r)
unrun_at ss i d s (run.Step f) h made whole r =
    record { before = take i ss; under = get_or ss i d; after = drop (i + 1) ss; turn = split_at ss i d h; made = made; whole = whole; refused = r }
unrun_at ss i d s run.Memory h made whole r = tt
