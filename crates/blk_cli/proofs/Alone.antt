-- How a run ends that has an answer, and what is answered where words ask for texts alone.
use Rattle.std.proofs.Common.{◌≡◌, ◌∙◌, ℕ, Bool, true, false, List, Option, ap, sym, inl, inr}
use Rattle.text_output.specs.Outputs.{Stream}
use Rattle.blk_records.specs.Sources.{Row}
use Rattle.blk_capture.specs.declared.record.Record.{Record}
use Rattle.blk_args.specs.declared.inputs.Running.TheVariants as running
use Rattle.blk_args.specs.declared.inputs.TextJob.TheVariants as text_job
use Rattle.blk_args.specs.declared.words.Import.{Import}
use Rattle.blk_args.specs.declared.words.Kept.{Kept}
use Rattle.blk_args.specs.declared.words.Kept.TheVariants as kept
use Rattle.blk_args.specs.declared.words.Written.{Written}
use Rattle.blk_args.specs.declared.words.Written.TheVariants as written
use Rattle.blk_args.specs.declared.words.Job.{Job}
use Rattle.blk_args.specs.declared.words.Job.TheVariants as job
use Rattle.blk_cli.specs.Said.{Said, IsAlone}
use Rattle.blk_cli.specs.Gives.{GivesAnswer, AnswersGood, AnswersText}
use Rattle.blk_cli.specs.declared.Ended.{Ended}
use Rattle.blk_cli.specs.Importing.{IsImported, IsWrittenAs}
use Rattle.blk_cli.specs.Ends.{Answers, AskForGood, AskForTexts, EndsPut, status_with}

-- what is written of a capture is good: of one whose records are kept, and in numbers
kept_good : (k : Kept) (words : List (List ℕ)) (i : Import) (records : List Record) (s : Said) → IsImported k words i records s → s.good ≡ true
kept_good kept.Schedule words i records s h = h.good
kept_good kept.Table words i records s h = h.good
kept_good (kept.Script round depth) words i records s h = h.alone.1
kept_good (kept.Blame b) words i records s h = h.good
kept_good (kept.Replay r) words i records s h = h.good
kept_good (kept.Grid g) words i records s h = h.good
kept_good (kept.Replayed p how) words i records s h = h.good

import_good : (w : Written) (words : List (List ℕ)) (i : Import) (input : Option (List ℕ)) (s : Said) → IsWrittenAs w words i input s → s.good ≡ true
import_good written.Summary words i input s g = ap (λ (t : Said). t.good) g.summed.said.2 ∙ g.summed.summary_of.good
import_good (written.Kept k) words i input s g =
    let base : Said = g.of.written.base in ap (λ (t : Said). t.good) g.of.written.said.2 ∙ kept_good k words i g.of.read.records.items base g.of.written.imported

-- a job whose answer is good
good : (words : List (List ℕ)) (j : Job) (input : Option (List Row)) (bytes : Option (List ℕ)) (s : Said) → AnswersGood j → GivesAnswer words j input bytes s → s.good ≡ true
good words job.Version input bytes s answers g = g.1.1
good words (job.OfText (text_job.OfScript (running.One x))) input bytes s answers g = g.1.2.1
good words (job.OfText (text_job.OfScript (running.Each x y))) input bytes s answers g = g.1.2.1
good words (job.OfText (text_job.OfScript (running.Drawn x))) input bytes s answers g = g.1.2.1
good words (job.OfText (text_job.OfTrace x)) input bytes s answers g = g.1.1
good words (job.OfText (text_job.OfList x)) input bytes s answers g = g.1.1
good words (job.OfText (text_job.Check x)) input bytes s answers g = g.1.1
good words (job.OfText (text_job.Judge x)) input bytes s answers g = g.1.2.1
good words (job.OfText text_job.Draw) input bytes s answers g = g.1.1
good words (job.Tune x) input bytes s answers g = g.1.2.1
good words (job.Import x) input bytes s answers g = import_good x.written words x bytes s g
good words (job.Refuse x) input bytes s answers g = absurd g
good words job.Explain input bytes s answers g = absurd answers
good words (job.Load x y z true) input bytes s answers g = g.1
good words (job.Load x y z false) input bytes s answers g = g.1.1

pub good_by : (words : List (List ℕ)) (input : Option (List Row)) (bytes : Option (List ℕ)) (s : Said) → AskForGood words → Answers words input bytes s → s.good ≡ true
good_by words input bytes s ask a = good words a.0 input bytes s (ask a.0 a.1) a.2

-- a job that answers a text alone
alone : (words : List (List ℕ)) (j : Job) (input : Option (List Row)) (bytes : Option (List ℕ)) (s : Said) → AnswersText j → GivesAnswer words j input bytes s → IsAlone s
alone words job.Version input bytes s answers g = g.1
alone words (job.OfText (text_job.OfScript (running.One x))) input bytes s answers g = g.1.2
alone words (job.OfText (text_job.OfScript (running.Each x y))) input bytes s answers g = g.1.2
alone words (job.OfText (text_job.OfScript (running.Drawn x))) input bytes s answers g = absurd answers
alone words (job.OfText (text_job.OfTrace x)) input bytes s answers g = g.1
alone words (job.OfText (text_job.OfList x)) input bytes s answers g = g.1
alone words (job.OfText (text_job.Check x)) input bytes s answers g = g.1
alone words (job.OfText (text_job.Judge x)) input bytes s answers g = absurd answers
alone words (job.OfText text_job.Draw) input bytes s answers g = g.1
alone words (job.Tune x) input bytes s answers g = absurd answers
alone words (job.Import x) input bytes s answers g = absurd answers
alone words (job.Refuse x) input bytes s answers g = absurd g
alone words job.Explain input bytes s answers g = absurd answers
alone words (job.Load x y z true) input bytes s answers g = absurd answers
alone words (job.Load x y z false) input bytes s answers g = g.1

pub alone_by : (words : List (List ℕ)) (input : Option (List Row)) (bytes : Option (List ℕ)) (s : Said) → AskForTexts words → Answers words input bytes s → IsAlone s
alone_by words input bytes s ask a = alone words a.0 input bytes s (ask a.0 a.1) a.2

not_one : (good : Bool) → good ≡ true → status_with good ≡ 1 → ⊥
not_one true e f = cc f
not_one false e f = cc e

-- where it was put, the status is not 1
pub put_not_one : (s : Said) (old new faults_old faults_new : Stream) (ended : Ended) → s.good ≡ true → EndsPut s old new faults_old faults_new ended → ended.status ≡ 1 → ⊥
put_not_one s old new faults_old faults_new ended is put e = elim put [
  | inl whole ↦ not_one s.good is (sym whole.1 ∙ e)
  | inr cut ↦ (let f : 3 ≡ 1 = sym cut.1.0 ∙ e in cc f)
]
