use Rattle.std.proofs.Common.{refl}
use Rattle.blk_capture.specs.Summaries.{time_in}
use Rattle.blk_capture.specs.declared.requests.CapturedRequest.{CapturedRequest}
use Rattle.blk_capture.specs.declared.summary.Phase.TheVariants.{Tag, Scheduler, Device}
use Rattle.blk_capture.proofs.Figured.{flight_more, known_more}
use Rattle.blk_capture.proofs.figures.Figures.add.Goals as goal

pub returns : goal.returns
returns g c = λ qs are. record {
  flights = flight_more qs c.args.request.now c.args.self.now.flights.items _ _ are.flights c.flight_of.ensures c.in_ok-push.ensures.items;
  tag = known_more (time_in Tag) qs c.args.request.now c.args.self.now.tag.items _ _ are.tag c.time_in.ensures c.in_ok-push_known.ensures;
  scheduler = known_more (time_in Scheduler) qs c.args.request.now c.args.self.now.scheduler.items _ _ are.scheduler c.time_in-2.ensures c.in_ok-push_known-2.ensures;
  device = known_more (time_in Device) qs c.args.request.now c.args.self.now.device.items _ _ are.device c.time_in-3.ensures c.in_ok-push_known-3.ensures;
  completions = known_more (λ (q : CapturedRequest). q.completed) qs c.args.request.now c.args.self.now.completions.items _ _ are.completions refl c.in_ok-push_known-4.ensures;
}
