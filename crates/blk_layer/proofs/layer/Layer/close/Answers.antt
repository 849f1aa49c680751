use Rattle.std.proofs.Common.{sym, refl, rules, IsTrue}
use Rattle.blk_layer.specs.Closing.{AreAllThere}
use Rattle.blk_layer.proofs.Agreed.{same_there, on_ok}
use Rattle.blk_layer.proofs.layer.Layer.close.Goals as goal

pub returns-then-not-are_all_there-clause-refused : goal.returns-then-not-are_all_there-clause-refused
returns-then-not-are_all_there-clause-refused g c = (
  λ there. let seen = same_there c.args.self.map c.args.self.workers c.args.submitters.items c.as_slice.result.now c.args.workers.items c.as_slice-2.result.now (sym c.as_slice.ensures.value) (sym c.as_slice-2.ensures.value) there in
      let yes : IsTrue c.are_all_there.result = c.are_all_there.ensures.1 seen in
      search (rules, yes),
  record { same_layer = refl; same_submitters = refl; same_workers = refl },
)

pub close_all-requires-clause-there : goal.close_all-requires-clause-there
close_all-requires-clause-there g c = same_there c.args.self.map c.args.self.workers c.as_slice.result.now c.args.submitters.items c.as_slice-2.result.now c.args.workers.items c.as_slice.ensures.value c.as_slice-2.ensures.value (c.are_all_there.ensures.0 c.if-not-are_all_there.false)

pub returns-clause-there : goal.returns-clause-there
returns-clause-there g c =
    let there : AreAllThere c.args.self.map c.args.self.workers c.args.submitters.items c.args.workers.items = same_there c.args.self.map c.args.self.workers c.as_slice.result.now c.args.submitters.items c.as_slice-2.result.now c.args.workers.items c.as_slice.ensures.value c.as_slice-2.ensures.value (c.are_all_there.ensures.0 c.if-not-are_all_there.false) in
    on_ok c.close_all.result (AreAllThere c.args.self.map c.args.self.workers c.args.submitters.items c.args.workers.items) there
