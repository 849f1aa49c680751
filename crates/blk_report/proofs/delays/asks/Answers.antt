use Rattle.std.proofs.Common.{◌+◌, ℕ, get_or, refl, subst}
use Rattle.std.proofs.lemmas.List.{get_or_default}
use Rattle.blk_report.specs.declared.below.CountAsk.{CountAsk}
use Rattle.blk_report.specs.declared.serving.Service.{Service}
use Rattle.blk_report.specs.Inside.Waited.{IsAskOfWait}
use Rattle.blk_report.proofs.Waiting.{unserved, ask_push}
use Rattle.blk_report.proofs.delays.asks.Goals as goal

pub loop-service-preserved : goal.loop-service-preserved
loop-service-preserved g c =
    let old = c.loop-service.invariant in
    let n : ℕ = c.loop-service.service-index in
    let s : Service = get_or c.args.late.now n unserved in
    let a : CountAsk = record { start = c.place_from.result; end = c.place_from-in-loop-service.result; bound = s.due + 1; count = 0 } in
    let asks : IsAskOfWait c.args.services.now s a = record { start = c.place_from.ensures; end = c.place_from-in-loop-service.ensures; bound = refl; nothing = refl } in
    let new =
    ask_push (λ k x. (d : Service) → IsAskOfWait c.args.services.now (get_or c.args.late.now k d) x) n c.loop-service.asks.items a c.push.new.self.items old.each c.in_ok-push.ensures.items (λ k e h d. old.so_far k d e h)
    (λ d. subst (λ (t : Service). IsAskOfWait c.args.services.now t a) (get_or_default c.args.late.now n unserved d c.loop-service-test.true) asks) in
    record { each = new.0; so_far = λ k d e h. new.1 k e h d }
