use Rattle.std.proofs.Common.{◌≡◌, ◌<◌, ◌-◌, ℕ, List, length, get_or, sym, subst, ◌∙◌, ap, arith, rules}
use Rattle.std.proofs.lemmas.List.{get_or_read}
use Rattle.std.proofs.lemmas.List.Sorted.{IsNonDecreasingBy-from_sort}
use Rattle.edd_commands.specs.Capacity.{depth_at}
use Rattle.edd_check.specs.Rules.{IsLeastOverDeep}
use Rattle.edd_commands.proofs.Counting.{Rises}
use Rattle.edd_check.proofs.OverDeep.{over_deep_here, none_over_deep}
use Rattle.edd_check.proofs.least_over_deep.Goals as goal

pub returns-then-index-clause-least : goal.returns-then-index-clause-least
returns-then-index-clause-least g c =
    let sorted : List ℕ = c.sort_unstable.new.self.items in
    let last : ℕ = c.loop-last.last in
    let rises : Rises sorted =
    λ i j le lt. IsNonDecreasingBy-from_sort (λ x. x) sorted c.sort_unstable.ensures.sorted i j 0 le lt in
    let within : last < length sorted = search rules in
    let depth : ℕ = c.at-depth.result in
    let first : ℕ = last - depth in
    let at_first : c.index-then-depth-last.result.now ≡ get_or sorted first 0 = get_or_read sorted first _ (omega arith) c.index-then-depth-last.ensures 0 in
    let at_last : c.index-then-depth-last-2.result.now ≡ get_or sorted last 0 = get_or_read sorted last _ within c.index-then-depth-last-2.ensures 0 in
    let found : c.index-then-index.result.now ≡ get_or sorted last 0 = get_or_read sorted last _ within c.index-then-index.ensures 0 in
    let asked = get_or_read sorted last _ within c.index.ensures 0 in
    let deep : depth ≡ depth_at c.args.capacity.now (get_or sorted last 0) = c.at-depth.ensures.value ∙ ap (λ y. depth_at c.args.capacity.now y) asked in
    subst (λ x. IsLeastOverDeep c.args.rounds.now c.args.capacity.now x) (sym found)
    (over_deep_here c.args.rounds.now c.in_ok-sorted.sorted.items sorted c.args.capacity.now first last c.in_ok-sorted.ensures.items c.sort_unstable.ensures.permutation rises c.loop-last.invariant within (omega (arith, deep)) (sym at_first ∙ c.if-index.true ∙ at_last))

pub returns-clause-none : goal.returns-clause-none
returns-clause-none g c =
    let sorted : List ℕ = c.sort_unstable.new.self.items in
    let rises : Rises sorted =
    λ i j le lt. IsNonDecreasingBy-from_sort (λ x. x) sorted c.sort_unstable.ensures.sorted i j 0 le lt in
    none_over_deep c.args.rounds.now c.in_ok-sorted.sorted.items sorted c.args.capacity.now c.loop-last.last c.in_ok-sorted.ensures.items c.sort_unstable.ensures.permutation rises c.loop-last.invariant (search rules)
