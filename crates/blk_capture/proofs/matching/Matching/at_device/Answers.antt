use Rattle.std.proofs.Common.{arith, ◌≡◌, true}
use Rattle.blk_capture.specs.Rules.{is_in_flight}
use Rattle.blk_capture.specs.Inside.LookupKeys.{has}
use Rattle.blk_capture.specs.Inside.Indexes.{AtDevice}
use Rattle.blk_capture.proofs.Found.{within, whole_found, whole_none, read_oldest}
use Rattle.blk_capture.proofs.matching.Matching.at_device.Goals as goal

pub index-requires : goal.index-requires
index-requires g c =
    let o = whole_found (λ q. is_in_flight q.stage) (λ q. q.left) (λ q. q.age) c.args.self.now.requests.items (has c.args.self.now.index.in_flight) c.args.range c.whole.result c.in-Some.number (c.requires.indexed AtDevice) c.whole.ensures c.in-Some.ensures.some in
    let lt = within c.args.self.now.requests.items c.in-Some.number o.0 o.1.there in
    omega (arith, lt)

pub returns-in-Some : goal.returns-in-Some
returns-in-Some g c =
    let o = whole_found (λ q. is_in_flight q.stage) (λ q. q.left) (λ q. q.age) c.args.self.now.requests.items (has c.args.self.now.index.in_flight) c.args.range c.whole.result c.in-Some.number (c.requires.indexed AtDevice) c.whole.ensures c.in-Some.ensures.some in
    read_oldest (λ q. q.age) (λ q. (is_in_flight q.stage ≡ true) × (q.left ≡ c.args.range)) c.args.self.now.requests.items c.in-Some.number c.index.result.now o.0 o.1 c.index.ensures

pub returns-in-None : goal.returns-in-None
returns-in-None g c = whole_none (λ q. is_in_flight q.stage) (λ q. q.left) (λ q. q.age) c.args.self.now.requests.items (has c.args.self.now.index.in_flight) c.args.range c.whole.result (c.requires.indexed AtDevice) c.whole.ensures c.in-None.ensures.none
