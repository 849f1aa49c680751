use Rattle.std.proofs.Common.{subst}
use Rattle.blk_trace.specs.Events.{request_of, IsReleased}
use Rattle.blk_bio.specs.Requests.{IsRequest}
use Rattle.blk_trace.specs.Traces.{Traced}
use Rattle.blk_trace.proofs.Ids.{released_has}
use Rattle.blk_trace.proofs.trace.Trace.known_at.Goals as goal

pub returns-clause-request : goal.returns-clause-request
returns-clause-request g c =
    let P : Traced → Type 0 = λ v. IsReleased v.events c.args.id → IsRequest (request_of v.events c.args.id) in
    subst P c.self.view_is (λ p. c.self.invariant.0.requests_are c.args.id (released_has c.self.inside.events.items p.0 c.args.id p.1.0 p.1.1))
