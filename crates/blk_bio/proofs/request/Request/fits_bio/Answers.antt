use Rattle.std.proofs.Common.{◌∷◌, []}
use Rattle.blk_bio.proofs.Fitting.{fits_none, fits_only, fits_some}
use Rattle.blk_bio.proofs.request.Request.fits_bio.Goals as goal

pub returns-clause-some : goal.returns-clause-some
returns-clause-some g c =
    fits_some c.args.limits.now c.extent.result c.extent-2.result c.args.self.now (c.args.bio.now ∷ []) c.fits.result c.extent.ensures.value c.extent-2.ensures.value c.extent.ensures.is_request c.extent-2.ensures.is_request c.fits.ensures.some

pub returns-clause-only : goal.returns-clause-only
returns-clause-only g c =
    fits_only c.args.limits.now c.extent.result c.extent-2.result c.args.self.now (c.args.bio.now ∷ []) c.fits.result c.extent.ensures.value c.extent-2.ensures.value c.extent.ensures.is_request c.extent-2.ensures.is_request c.fits.ensures.only

pub returns-clause-none : goal.returns-clause-none
returns-clause-none g c =
    fits_none c.args.limits.now c.extent.result c.extent-2.result c.args.self.now (c.args.bio.now ∷ []) c.fits.result c.extent.ensures.value c.extent-2.ensures.value c.extent.ensures.is_request c.extent-2.ensures.is_request c.fits.ensures.none
