use Rattle.std.proofs.Common.{◌≡◌, subst, sym, slice_index_or}
use Rattle.blk_queues.proofs.hardware.Map.hw_of.Goals as goal

pub returns-clause-below : goal.returns-clause-below
returns-clause-below g c =
    let stands : slice_index_or c.args.self.now c.args.soft c.index.result.now ≡ c.index.result.now =
    subst (λ m. slice_index_or m c.args.soft c.index.result.now ≡ c.index.result.now) c.self.view_is (sym c.index.ensures) in
    λ count is. (is c.index.result.now).0 (c.args.soft, c.requires, stands)
