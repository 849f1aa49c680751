use Rattle.std.proofs.Common.{arith}
use Rattle.blk_capture.specs.Rules.{IsOwnBeside}
use Rattle.blk_capture.proofs.Found.{within, own_found, own_none, read_newest}
use Rattle.blk_capture.proofs.matching.Matching.own_beside.Goals as goal

pub index-requires : goal.index-requires
index-requires g c =
    let o = own_found c.args.self.now.requests.items c.args.self.now.index c.args.side c.args.range c.args.pid c.in-Some.number c.requires.indexed c.requires.aged c.in-Some.ensures.some in
    let lt = within c.args.self.now.requests.items c.in-Some.number o.0 o.1.there in
    omega (arith, lt)

pub returns-in-Some : goal.returns-in-Some
returns-in-Some g c =
    let o = own_found c.args.self.now.requests.items c.args.self.now.index c.args.side c.args.range c.args.pid c.in-Some.number c.requires.indexed c.requires.aged c.in-Some.ensures.some in
    read_newest (λ q. q.age) (IsOwnBeside c.args.side c.args.pid c.args.range) c.args.self.now.requests.items c.in-Some.number c.index.result.now o.0 o.1 c.index.ensures

pub returns-in-None : goal.returns-in-None
returns-in-None g c = own_none c.args.self.now.requests.items c.args.self.now.index c.args.side c.args.range c.args.pid c.requires.indexed c.requires.aged c.in-None.ensures.none
