use Rattle.std.proofs.Common.{arith, ◌≡◌, true}
use Rattle.blk_capture.specs.Ranges.{IsLonger}
use Rattle.blk_capture.specs.Rules.{is_waiting}
use Rattle.blk_capture.specs.Inside.LookupKeys.{has}
use Rattle.blk_capture.proofs.Indexed.{shortest_in, none_longer_in}
use Rattle.blk_capture.proofs.Found.{within, read_shortest}
use Rattle.blk_capture.proofs.matching.Matching.longer_bio.Goals as goal

pub index-requires : goal.index-requires
index-requires g c =
    let o = shortest_in (λ b. is_waiting b.stage) (λ b. b.range) (λ b. b.age) c.args.self.now.members.bios.items (has c.args.self.now.waiting) c.args.range c.in-Some.number c.requires.sound.waiting c.in-Some.ensures.some in
    let lt = within c.args.self.now.members.bios.items c.in-Some.number o.0 o.1.there in
    omega (arith, lt)

pub returns-in-Some : goal.returns-in-Some
returns-in-Some g c =
    let o = shortest_in (λ b. is_waiting b.stage) (λ b. b.range) (λ b. b.age) c.args.self.now.members.bios.items (has c.args.self.now.waiting) c.args.range c.in-Some.number c.requires.sound.waiting c.in-Some.ensures.some in
    read_shortest (λ b. b.range.end) (λ b. b.age) (λ b. (is_waiting b.stage ≡ true) × IsLonger c.args.range b.range) c.args.self.now.members.bios.items c.in-Some.number c.index.result.now o.0 o.1 c.index.ensures

pub returns-in-None : goal.returns-in-None
returns-in-None g c = none_longer_in (λ b. is_waiting b.stage) (λ b. b.range) (λ b. b.age) c.args.self.now.members.bios.items (has c.args.self.now.waiting) c.args.range c.requires.sound.waiting c.in-None.ensures.none
