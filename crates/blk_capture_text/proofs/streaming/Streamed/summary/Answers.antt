use Rattle.std.proofs.Common.{◌+◌, ◌∙◌, ℕ, List, length, map, refl, ap, subst}
use Rattle.std.specs.Prelude.{All, min}
use Rattle.blk_capture.specs.Parting.{gone_before, part, bio_in, fate_in}
use Rattle.blk_capture.specs.Requests.{IsDue}
use Rattle.blk_capture.specs.Settled.{IsMatching}
use Rattle.blk_capture.specs.declared.fates.Fate.{Fate}
use Rattle.blk_capture.specs.declared.record.TheConstants.{MAX_TIME}
use Rattle.blk_capture.specs.declared.requests.CapturedRequest.{CapturedRequest}
use Rattle.blk_capture_text.proofs.Imported.{imported}
use Rattle.blk_capture_text.proofs.Following.{counted_in}
use Rattle.blk_capture_text.proofs.streaming.Streamed.summary.Goals as goal

pub returns : goal.returns
returns c = λ records had.
    let run = c.in_ok-summary.ensures records had.fates had.taken in
    let begin : ℕ = c.begin_from-begin.result in
    let requests : List CapturedRequest = part begin c.args.asked.now.first run.requests in
    let from : ℕ = gone_before begin run.requests in
    let fates : List Fate = map (fate_in from (length requests)) run.fates in
    record {
      requests = requests;
      bios = map (bio_in from (length requests)) run.bios;
      fates = fates;
      absorbed = run.absorbed;
      is_import = imported records c.args.asked.now _ _ run.fates _ _ _ _ fates _ _ _ (c.begin_from-begin.ensures ∙ ap (λ t. min (t + c.args.asked.now.skip) MAX_TIME) had.first)
          (record {
            timed = run.timed;
            due = subst (λ o. All (IsDue o) run.requests) c.requires.options run.due;
            have_bios = run.have_bios;
            tallied = run.tallied;
            gone = run.gone;
            told_each = run.each;
            passed = run.passed;
            below = run.below;
            opened = run.opened;
            made = run.made;
            matching = subst (λ o. IsMatching o records run.requests run.bios run.fates run.absorbed) c.requires.options run.matching;
          })
          refl refl refl refl run.left_are;
      is_summary = run.is_summary;
      unused = counted_in from (length requests) run.fates had.fates c.args.self.unused run.known had.unused;
      counts = had.counts;
    }
