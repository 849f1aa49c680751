use Rattle.std.proofs.Common.{arith, ◌≡◌, true}
use Rattle.blk_capture.specs.Rules.{is_opened, BeginsWith}
use Rattle.blk_capture.specs.Inside.LookupKeys.{has}
use Rattle.blk_capture.specs.Inside.Indexes.{OpenedStart}
use Rattle.blk_capture.proofs.Found.{within, from_found, from_none, read_oldest}
use Rattle.blk_capture.proofs.matching.Matching.opened_from.Goals as goal

pub index-requires : goal.index-requires
index-requires g c =
    let o = from_found c.args.self.now.requests.items (has c.args.self.now.index.starts) c.args.range c.edge-start.result c.in-Some.number (c.requires.indexed OpenedStart) c.edge-start.ensures c.in-Some.ensures.some in
    let lt = within c.args.self.now.requests.items c.in-Some.number o.0 o.1.there in
    omega (arith, lt)

pub returns-in-Some : goal.returns-in-Some
returns-in-Some g c =
    let o = from_found c.args.self.now.requests.items (has c.args.self.now.index.starts) c.args.range c.edge-start.result c.in-Some.number (c.requires.indexed OpenedStart) c.edge-start.ensures c.in-Some.ensures.some in
    read_oldest (λ q. q.age) (λ q. (is_opened q.stage ≡ true) × BeginsWith c.args.range q.left) c.args.self.now.requests.items c.in-Some.number c.index.result.now o.0 o.1 c.index.ensures

pub returns-in-None : goal.returns-in-None
returns-in-None g c = from_none c.args.self.now.requests.items (has c.args.self.now.index.starts) c.args.range c.edge-start.result (c.requires.indexed OpenedStart) c.edge-start.ensures c.in-None.ensures.none
