use Rattle.std.proofs.Common.{ℕ, ◌≡◌, ◌≤◌, ◌<◌, ◌+◌, subst}
use Rattle.blk_trace.specs.Traces.{Traced}
use Rattle.blk_trace.specs.Events.{IsUsed}
use Rattle.blk_trace.proofs.trace.Trace.unused_from.Goals as goal

pub returns-clause-few : goal.returns-clause-few
returns-clause-few g c =
    let P : Traced → Type 0 = λ v. c.self.inside.unused_from ≤ v.setup.depth in
    subst P c.self.view_is c.self.invariant.3.within

pub returns-clause-unused : goal.returns-clause-unused
returns-clause-unused g c =
    let P : Traced → Type 0 = λ v. (tag : ℕ) → c.self.inside.unused_from ≤ tag → tag < v.setup.depth → IsUsed v.events tag → ⊥ in
    subst P c.self.view_is (λ tag past low. c.self.invariant.3.unused tag past)

pub returns-clause-used : goal.returns-clause-used
returns-clause-used g c =
    let P : Traced → Type 0 = λ v. (tag : ℕ) → c.self.inside.unused_from ≡ tag + 1 → IsUsed v.events tag in
    subst P c.self.view_is c.self.invariant.3.used
