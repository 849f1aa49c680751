use Rattle.std.proofs.Common.{arith, ◌+◌, ◌<◌, ◌≤◌, ◌^◌, length, ap, subst, ◌∙◌, sym}
use Rattle.blk_bio.specs.Requests.{IsWithin}
use Rattle.blk_queues.proofs.Counts.{keep_all, put_kept}
use Rattle.blk_queues.proofs.soft.SoftQueue.put.Goals as goal

pub invariant_of-self : goal.invariant_of-self
invariant_of-self g c =
    let room : length c.self.inside.ring.items < c.self.inside.ring.capacity = omega arith in
    let few : c.self.inside.bios_in + length c.bios.result.now ≤ 2 ^ 40 = omega (arith, c.self.invariant.few_bios) in
    let within : IsWithin c.self.inside.limits c.args.request = subst (λ q. IsWithin q.limits c.args.request) (sym c.self.view_is) c.requires.within in
    put_kept record { depth = c.self.inside.ring.capacity; limits = c.self.inside.limits; requests = c.self.inside.ring.items; bios_in = c.self.inside.bios_in; bios_out = c.self.inside.bios_out } c.args.request c.bios.result.now c.push_back-none.new.self.items c.push_back-none.new.self.capacity c.self.invariant within room few (ap (λ b. b.items) c.push_back-none.ensures.items ∙ keep_all c.self.inside.ring.items c.args.request c.self.inside.ring.capacity room) (ap (λ b. b.capacity) c.push_back-none.ensures.items) c.bios.ensures.bios
