-- Rows of some settings, one after another.
use Rattle.std.proofs.Common.{ℕ, ◌≡◌, ◌∙◌, ◌∷◌, [], List, Result, Ok, Err, ap, arith, sym, refl, suc, subst, take, length, get_or, ◌<◌, ◌≤◌, map}
use Rattle.std.specs.Prelude.{All}
use Rattle.std.proofs.lemmas.List.{get_or-take, length-take-le}
use Rattle.std.proofs.lemmas.List.Elements.{All-cons, All-nil, All-map, All-weaker, All-same}
use Rattle.blk_schedulers.specs.declared.sched.Sched.{Sched}
use Rattle.blk_schedulers.specs.Made.{IsMade}
use Rattle.blk_schedulers.proofs.Unmade.{no_sched}
use Rattle.blk_text.specs.Script.{Scripted}
use Rattle.blk_runs.specs.Firsts.{RunsWhole, AreUnrun}
use Rattle.blk_runs.specs.declared.fault.RunFault.{RunFault}
use Rattle.blk_runs.proofs.Turns.{unrun_at}
use Rattle.blk_tune.specs.declared.row.TrialRow.{TrialRow}
use Rattle.blk_tune.specs.Row.{IsRow, AreRowsUnder}
use Rattle.blk_tune.specs.Inside.Row.{IsRunAnswer}

abbrev sched_of : TrialRow → Sched
sched_of r = r.sched

-- a row for each of them
pub rows_of : (ss : List Sched) (s : Scripted) (rs : List TrialRow) → length rs ≡ length ss → ((i : ℕ) (r : TrialRow) (d : Sched) → i < length ss → IsRunAnswer s (get_or ss i d) (Ok (get_or rs i r))) → AreRowsUnder ss s rs
rows_of [] s [] e are = (refl, All-nil (IsRow s))
rows_of [] s (r ∷ rs) e are = absurd (omega (arith, e))
rows_of (x ∷ ss) s [] e are = absurd (omega (arith, e))
rows_of (x ∷ ss) s (r ∷ rs) e are =
    let first : (r.sched ≡ x) × IsRow s r = are 0 r x (omega arith) in
    let rest : AreRowsUnder ss s rs = rows_of ss s rs (omega (arith, e)) (λ i r d h. are (suc i) r d (omega (arith, h))) in (
      ap (λ (y : Sched). y ∷ map sched_of rs) first.0 ∙ ap (λ (ys : List Sched). x ∷ ys) rest.0,
      All-cons (IsRow s) r rs first.1 rest.1,
    )

-- the script runs whole under each of them
pub whole : (ss : List Sched) (s : Scripted) (rs : List TrialRow) → AreRowsUnder ss s rs → All (RunsWhole s) ss
whole ss s rs are =
    All-same (RunsWhole s) ss (map sched_of rs) (sym are.0)
    (All-map (RunsWhole s) sched_of rs (All-weaker (IsRow s) (λ r. RunsWhole s (sched_of r)) (λ r row. (row.trace, row.is_trace)) rs are.1))

-- what is answered under each of the first, and why there is none under the next
pub unrun_after : (ss : List Sched) (s : Scripted) (before : List TrialRow) (f : RunFault) → All IsMade ss → length before < length ss
    → ((i : ℕ) (r : TrialRow) → i < length before → (d : Sched) → IsRunAnswer s (get_or ss i d) (Ok (get_or before i r)))
    → ((d : Sched) → IsRunAnswer s (get_or ss (length before) d) (Err f)) → AreUnrun ss s f
unrun_after ss s before f made inside are none =
    let n : ℕ = length before in
    let short : length (take n ss) ≡ n = length-take-le n ss (omega (arith, inside)) in
    let of : (i : ℕ) (r : TrialRow) (d : Sched) → i < length (take n ss) → IsRunAnswer s (get_or (take n ss) i d) (Ok (get_or before i r)) = λ i r d h.
    let low : i < n = omega (arith, h, short) in
    subst (λ (x : Sched). IsRunAnswer s x (Ok (get_or before i r))) (sym (get_or-take n ss i d low)) (are i r low d) in
    unrun_at ss n no_sched s f inside made (whole (take n ss) s before (rows_of (take n ss) s before (sym short) of)) (none no_sched)
