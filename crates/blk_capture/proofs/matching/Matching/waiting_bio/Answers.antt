use Rattle.std.proofs.Common.{arith, ◌≡◌, true}
use Rattle.blk_capture.specs.Rules.{is_waiting}
use Rattle.blk_capture.specs.Inside.LookupKeys.{has}
use Rattle.blk_capture.proofs.Found.{within, whole_found, whole_none, read_oldest}
use Rattle.blk_capture.proofs.matching.Matching.waiting_bio.Goals as goal

pub index-requires : goal.index-requires
index-requires g c =
    let o = whole_found (λ b. is_waiting b.stage) (λ b. b.range) (λ b. b.age) c.args.self.now.members.bios.items (has c.args.self.now.waiting) c.args.range c.whole.result c.in-Some.number c.requires.waiting c.whole.ensures c.in-Some.ensures.some in
    let lt = within c.args.self.now.members.bios.items c.in-Some.number o.0 o.1.there in
    omega (arith, lt)

pub returns-in-Some : goal.returns-in-Some
returns-in-Some g c =
    let o = whole_found (λ b. is_waiting b.stage) (λ b. b.range) (λ b. b.age) c.args.self.now.members.bios.items (has c.args.self.now.waiting) c.args.range c.whole.result c.in-Some.number c.requires.waiting c.whole.ensures c.in-Some.ensures.some in
    read_oldest (λ b. b.age) (λ b. (is_waiting b.stage ≡ true) × (b.range ≡ c.args.range)) c.args.self.now.members.bios.items c.in-Some.number c.index.result.now o.0 o.1 c.index.ensures

pub returns-in-None : goal.returns-in-None
returns-in-None g c = whole_none (λ b. is_waiting b.stage) (λ b. b.range) (λ b. b.age) c.args.self.now.members.bios.items (has c.args.self.now.waiting) c.args.range c.whole.result c.requires.waiting c.whole.ensures c.in-None.ensures.none
