use Rattle.std.proofs.Common.{◌∙◌, List, refl, subst}
use Rattle.blk_report.specs.declared.serving.Service.{Service}
use Rattle.blk_report.specs.Spread.{AreSpreads}
use Rattle.blk_tune.proofs.Best.{fewest, least}
use Rattle.blk_tune.proofs.row.numbers_of.Goals as goal

pub returns-clause-row : goal.returns-clause-row
returns-clause-row c =
    let t = c.args.trace.now in
    let windows = c.in_ok-missed.missed.windows.items in
    record {
      is_report = c.in_ok-report.ensures;
      windows = windows;
      is_tallied = c.in_ok-missed.ensures.tallied;
      spreads = c.in_ok-spreads.spreads;
      are_spreads = subst (λ (x : List Service). AreSpreads x c.in_ok-spreads.spreads) (c.as_slice.ensures.value ∙ c.in_ok-services.ensures.services) c.in_ok-spreads.ensures;
      reads = refl;
      writes = refl;
      fewest = fewest t.setup t.events c.in_ok-missed.missed.tally windows c.in_ok-missed.ensures.tallied;
      least = least t.setup t.events c.in_ok-report.report c.in_ok-report.ensures;
    }
