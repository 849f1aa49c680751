use Rattle.std.proofs.Common.{arith}
use Rattle.blk_capture.specs.Rules.{IsInsertedBeside}
use Rattle.blk_capture.proofs.Found.{within, inserted_found, inserted_none, read_oldest}
use Rattle.blk_capture.proofs.matching.Matching.inserted_beside.Goals as goal

pub index-requires : goal.index-requires
index-requires g c =
    let o = inserted_found c.args.self.now.requests.items c.args.self.now.index c.args.side c.args.range c.in-Some.number c.requires.indexed c.in-Some.ensures.some in
    let lt = within c.args.self.now.requests.items c.in-Some.number o.0 o.1.there in
    omega (arith, lt)

pub returns-in-Some : goal.returns-in-Some
returns-in-Some g c =
    let o = inserted_found c.args.self.now.requests.items c.args.self.now.index c.args.side c.args.range c.in-Some.number c.requires.indexed c.in-Some.ensures.some in
    read_oldest (λ q. q.age) (IsInsertedBeside c.args.side c.args.range) c.args.self.now.requests.items c.in-Some.number c.index.result.now o.0 o.1 c.index.ensures

pub returns-in-None : goal.returns-in-None
returns-in-None g c = inserted_none c.args.self.now.requests.items c.args.self.now.index c.args.side c.args.range c.requires.indexed c.in-None.ensures.none
