use Rattle.std.proofs.Common.{◌≡◌, None, ap, sym, subst, arith}
use Rattle.std.specs.FinMap as map
use Rattle.blk_sched.specs.Meaning.{Pending}
use Rattle.blk_index.specs.Inside.Requests.{both}
use Rattle.blk_index.proofs.ByDir.{one_more}
use Rattle.blk_index.proofs.requests.Requests.insert.Goals as goal

pub invariant_of-self-2 : goal.invariant_of-self-2
invariant_of-self-2 g c =
    let m = both c.self.inside.reads c.self.inside.writes in
    let none : map.get m c.args.queued.id ≡ None = subst (λ (n : Pending). map.get n c.args.queued.id ≡ None) (sym c.self.view_is) c.requires in
    let more = one_more m c.args.queued.id c.args.queued none in
    let len = ap (λ (n : Pending). map.len n) c.in_ok-insert_in.ensures.ok in
    record {
      apart = c.insert_in.ensures.apart c.self.invariant.apart;
      counted = omega (arith, more, len, c.self.invariant.counted, c.in-Some.ensures.1);
    }
