use Rattle.std.proofs.Common.{◌≡◌, ap, sym, subst, ℕ, Option}
use Rattle.std.specs.Prelude.{IfSome, IfNone}
use Rattle.std.specs.FinMap as map
use Rattle.blk_bio.specs.declared.request.Side.{Side}
use Rattle.blk_sched.specs.Meaning.{Pending}
use Rattle.blk_sched.specs.Fits.{IsNewestFit, FitsNone}
use Rattle.blk_index.specs.Inside.Search.{newer_of}
use Rattle.blk_index.proofs.Indexed.{Found}
use Rattle.blk_index.proofs.Walk.{newer_law}
use Rattle.blk_index.proofs.index.Index.candidate.Goals as goal

pub returns-clause-some : goal.returns-clause-some
returns-clause-some g c =
    let law = newer_law c.args.limits.now c.args.front (map.get c.self.inside.waiting) c.args.newcomer.now c.newest_of-back.result c.newest_ahead-ahead.result
    c.newest_of-back.ensures.some c.newest_of-back.ensures.none c.newest_ahead-ahead.ensures.some c.newest_ahead-ahead.ensures.tried c.newest_ahead-ahead.ensures.none in
    let got : (id : ℕ) → map.get c.self.inside.waiting id ≡ map.get c.args.self.now id = λ id. ap (λ (m : Pending). map.get m id) c.self.view_is in
    subst (λ (r : Option (ℕ × Side)). IfSome r (λ x. IsNewestFit c.args.limits.now c.args.front (map.get c.args.self.now) c.args.newcomer.now x.0 x.1)) (sym c.newer.ensures)
    (subst (λ (f : Found). IfSome (newer_of c.newest_of-back.result c.newest_ahead-ahead.result) (λ x. IsNewestFit c.args.limits.now c.args.front f c.args.newcomer.now x.0 x.1)) (λ i id. got id i) law.0)

pub returns-clause-none : goal.returns-clause-none
returns-clause-none g c =
    let law = newer_law c.args.limits.now c.args.front (map.get c.self.inside.waiting) c.args.newcomer.now c.newest_of-back.result c.newest_ahead-ahead.result
    c.newest_of-back.ensures.some c.newest_of-back.ensures.none c.newest_ahead-ahead.ensures.some c.newest_ahead-ahead.ensures.tried c.newest_ahead-ahead.ensures.none in
    let got : (id : ℕ) → map.get c.self.inside.waiting id ≡ map.get c.args.self.now id = λ id. ap (λ (m : Pending). map.get m id) c.self.view_is in
    subst (λ (r : Option (ℕ × Side)). IfNone r (FitsNone c.args.limits.now c.args.front (map.get c.args.self.now) c.args.newcomer.now)) (sym c.newer.ensures)
    (subst (λ (f : Found). IfNone (newer_of c.newest_of-back.result c.newest_ahead-ahead.result) (FitsNone c.args.limits.now c.args.front f c.args.newcomer.now)) (λ i id. got id i) law.1)
