use Rattle.std.proofs.Common.{◌≡◌, ◌-◌, ◌<◌, ◌∙◌, ℕ, get_or, length, ap, arith}
use Rattle.std.proofs.lemmas.List.{get_or_default}
use Rattle.edd_verdict.specs.declared.Verdict.{Verdict}
use Rattle.edd_verdict.specs.declared.Verdict.TheVariants.{Arrival}
use Rattle.blk_report.specs.declared.below.CountAsk.{CountAsk}
use Rattle.blk_report.specs.declared.serving.Service.{Service}
use Rattle.blk_report.specs.declared.delays.LateCommand.{LateCommand}
use Rattle.blk_report.specs.Inside.Waited.{late_command}
use Rattle.blk_report.proofs.Waiting.{unserved, row_push}
use Rattle.blk_report.proofs.delays.late_commands.Goals as goal

abbrev no_ask : CountAsk
no_ask = record { start = 0; end = 0; bound = 0; count = 0 }

pub late_command-requires : goal.late_command-requires
late_command-requires g c = c.requires.each c.loop-place.place unserved no_ask no_ask c.loop-place-test.true

pub loop-place-preserved : goal.loop-place-preserved
loop-place-preserved g c =
    let old = c.loop-place.invariant in
    let n : ℕ = c.loop-place.place in
    let row : Service → CountAsk → CountAsk → Verdict → LateCommand = λ s a f v. late_command c.args.sums.now s (a.end - a.start) f.count v in
    let low : n < length c.args.late.now = c.loop-place-test.true in
    let here : (d : Service) (e f : CountAsk) (v : Verdict) → c.late_command.result ≡ row (get_or c.args.late.now n d) (get_or c.args.asks.now n e) (get_or c.args.counted.now n f) (get_or c.args.told.now n v) =
    λ d e f v.
    c.late_command.ensures
    ∙ ap (λ s. row s (get_or c.args.asks.now n no_ask) (get_or c.args.counted.now n no_ask) (get_or c.args.told.now n Arrival)) (get_or_default c.args.late.now n unserved d low)
    ∙ ap (λ a. row (get_or c.args.late.now n d) a (get_or c.args.counted.now n no_ask) (get_or c.args.told.now n Arrival)) (get_or_default c.args.asks.now n no_ask e (omega (arith, low, c.requires.asked)))
    ∙ ap (λ a. row (get_or c.args.late.now n d) (get_or c.args.asks.now n e) a (get_or c.args.told.now n Arrival)) (get_or_default c.args.counted.now n no_ask f (omega (arith, low, c.requires.counted)))
    ∙ ap (row (get_or c.args.late.now n d) (get_or c.args.asks.now n e) (get_or c.args.counted.now n f)) (get_or_default c.args.told.now n Arrival v (omega (arith, low, c.requires.told))) in
    let new =
    row_push (λ k x. (d : Service) (e f : CountAsk) (v : Verdict) → x ≡ row (get_or c.args.late.now k d) (get_or c.args.asks.now k e) (get_or c.args.counted.now k f) (get_or c.args.told.now k v)) n c.loop-place.rows.items c.late_command.result c.push.new.self.items old.each c.in_ok-push.ensures.items (λ k r h d e f v. old.so_far k d e f v r h) here in
    record { each = new.0; so_far = λ k d e f v r h. new.1 k r h d e f v }
