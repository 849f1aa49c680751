-- What a run comes to that ended with status 0.
use Rattle.std.proofs.Common.{◌≡◌, ◌∙◌, ℕ, Bool, true, false, List, Option, Some, ap, sym, subst, inl, inr}
use Rattle.edd_commands.specs.declared.faults.Beside.{Beside}
use Rattle.edd_commands.specs.declared.faults.Beside.TheVariants as beside
use Rattle.edd_commands.specs.Faults.{status_beside}
use Rattle.text_output.specs.Outputs.{Stream, IsWritten}
use Rattle.blk_records.specs.Sources.{Row}
use Rattle.blk_args.specs.declared.inputs.TextJob.{TextJob}
use Rattle.blk_args.specs.declared.words.Job.{Job}
use Rattle.blk_cli.specs.declared.Ended.{Ended}
use Rattle.blk_cli.specs.declared.NoText.{NoText}
use Rattle.blk_cli.specs.declared.NoText.TheVariants as none
use Rattle.blk_cli.specs.Said.{Said}
use Rattle.blk_cli.specs.Gives.{GivesAnswer, GivesText}
use Rattle.blk_cli.specs.Lines.{told_of}
use Rattle.blk_cli.specs.Ends.{Answers, RunEnds, status_without}
use Rattle.blk_online_cli.specs.Told.{rows_in, AskAlone, EndsWell}

-- where there is no text the status is another than 0
failed : (b : Beside) → status_beside b ≡ 0 → ⊥
failed beside.Nothing e = cc e
failed (beside.Number n) e = cc e
failed (beside.Signed z) e = cc e
failed (beside.Record at) e = cc e
failed (beside.Line at) e = cc e
failed beside.Words e = cc e
failed beside.Read e = cc e
failed beside.Write e = cc e
failed beside.Memory e = cc e

without : (n : NoText) → status_without n ≡ 0 → ⊥
without (none.Failure f) e = failed (told_of f).1 e
without (none.Told fault text) e = cc e
without (none.Usage text) e = cc e
without none.Excluded e = cc e

-- the words ask for this job alone, and get its text
pub gives : (j : TextJob) (words : List (List ℕ)) (input : Option (List Row)) (bytes : Option (List ℕ)) (s : Said) → AskAlone words j → Answers words input bytes s → GivesText j input s.text
gives j words input bytes s alone answer = (subst (λ (k : Job). GivesAnswer words k input bytes s) ((alone answer.0).0 answer.1) answer.2).0

-- a run that ended well wrote the text of the job that its words ask for
pub wrote : (j : TextJob) (words : List (List ℕ)) (bytes : List ℕ) (old new : Stream) → AskAlone words j → EndsWell words bytes old new
    → (text : List ℕ) × GivesText j (Some (rows_in bytes)) text × IsWritten text old new
wrote j words bytes old new alone run = elim run.runs [
  | inl put ↦ elim put.2 [
    | inl whole ↦ (put.0.text, gives j words (Some (rows_in bytes)) (Some bytes) put.0 alone put.1, whole.0)
    | inr cut ↦ (let e : 3 ≡ 0 = sym cut.1.0 ∙ run.good in cc e)
  ]
  | inr n ↦ absurd (without n.0 (sym n.3.0 ∙ run.good))
]

-- a run that reads known bytes ended well
pub ends_well : (words own : List (List ℕ)) (bytes : List ℕ) (left : Option (List Row)) (given : Option (List ℕ)) (failed : Bool) (old new faults_old faults_new : Stream) (ended : Ended) → own ≡ words → left ≡ Some (rows_in bytes) → given ≡ Some bytes
    → RunEnds own left given failed old new faults_old faults_new ended → ended.status ≡ 0 → EndsWell words bytes old new
ends_well words own bytes left given failed old new faults_old faults_new ended same read is runs good = record {
  read_failed = failed;
  faults_old = faults_old;
  faults_new = faults_new;
  ended = ended;
  runs = subst (λ (ws : List (List ℕ)). RunEnds ws (Some (rows_in bytes)) (Some bytes) failed old new faults_old faults_new ended) same
      (subst (λ (r : Option (List Row)). RunEnds own r (Some bytes) failed old new faults_old faults_new ended) read
      (subst (λ (b : Option (List ℕ)). RunEnds own left b failed old new faults_old faults_new ended) is runs));
  good = good;
}

-- a text was answered, and a run that reads it ended well
pub piped : (Told : List ℕ → Stream → Stream → Type 0) (first second : TextJob) (words again own own_again : List (List ℕ)) (script : List ℕ) (s : Said) (source : List ℕ) (left left_again : Option (List Row)) (raw raw_again : Option (List ℕ)) (failed : Bool)
    (old new faults_old faults_new : Stream) (ended : Ended) → ((text : List ℕ) → GivesText first (Some (rows_in script)) s.text → GivesText second (Some (rows_in s.text)) text → IsWritten text old new → Told s.text old new)
    → AskAlone words first → AskAlone again second → own ≡ words → own_again ≡ again → left ≡ Some (rows_in script) → left_again ≡ Some (rows_in source) → raw_again ≡ Some source → source ≡ s.text
    → Answers own left raw s → RunEnds own_again left_again raw_again failed old new faults_old faults_new ended → ended.status ≡ 0 → (traced : List ℕ) × Told traced old new
piped Told first second words again own own_again script s source left left_again raw raw_again failed old new faults_old faults_new ended law alone alone_again same same_again known read bytes is answer runs good =
    let asked : Answers words (Some (rows_in script)) raw s =
    subst (λ (ws : List (List ℕ)). Answers ws (Some (rows_in script)) raw s) same (subst (λ (l : Option (List Row)). Answers own l raw s) known answer) in
    let source_read : left_again ≡ Some (rows_in s.text) = read ∙ ap (λ (bs : List ℕ). Some (rows_in bs)) is in
    let w = wrote second again s.text old new alone_again (ends_well again own_again s.text left_again raw_again failed old new faults_old faults_new ended same_again source_read (bytes ∙ ap (λ (bs : List ℕ). Some bs) is) runs good) in
    (s.text, law w.0 (gives first words (Some (rows_in script)) raw s alone asked) w.1 w.2)
