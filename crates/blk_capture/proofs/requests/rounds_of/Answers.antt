use Rattle.std.proofs.Common.{◌∙◌, List, sym, subst}
use Rattle.std.proofs.lemmas.Result.{IfOk-weaker}
use Rattle.blk_capture.specs.Counting.{AreServed, AreLateByClock}
use Rattle.blk_capture.specs.Requests.{AgreeOnLateness}
use Rattle.blk_capture.specs.declared.counting.TimedRequest.{TimedRequest}
use Rattle.blk_capture.proofs.Settling.{map_served, late_of_served}
use Rattle.blk_capture.proofs.requests.rounds_of.Goals as goal

pub count_rounds-requires-clause-served : goal.count_rounds-requires-clause-served
count_rounds-requires-clause-served g c = subst AreServed (sym (c.as_slice.ensures.value ∙ c.in_ok-served.ensures)) (map_served c.args.requests.now c.requires.timed)

pub returns-clause-late : goal.returns-clause-late
returns-clause-late g c =
    IfOk-weaker c.count_rounds.result (λ s. AreLateByClock c.as_slice.result.now s.commands.items s.rounds.items) (λ s. AgreeOnLateness c.args.requests.now s.commands.items s.rounds.items)
    (λ s late. late_of_served c.args.requests.now s.commands.items s.rounds.items (subst (λ (l : List TimedRequest). AreLateByClock l s.commands.items s.rounds.items) (c.as_slice.ensures.value ∙ c.in_ok-served.ensures) late))
    c.count_rounds.ensures.late
