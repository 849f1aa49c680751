use Rattle.std.proofs.Common.{◌≡◌, ◌∙◌, Bool, true, length, ap, sym, rules}
use Rattle.std.proofs.lemmas.Bool.{lt-ltb}
use Rattle.std.specs.Prelude.{◌&&◌, ◌==◌, not, nat_lt}
use Rattle.std.specs.List.{list_any}
use Rattle.blk_schedulers.specs.declared.given.TheConstants.{MAX_LISTED}
use Rattle.blk_args.proofs.Listed.{listed_more}
use Rattle.blk_args.proofs.lists.goes_on.Goals as goal

pub returns-then-len-lt-MAX_LISTED : goal.returns-then-len-lt-MAX_LISTED
returns-then-len-lt-MAX_LISTED c =
    let ns = c.args.numbers.now.items in
    let n = c.args.number in
    let few : nat_lt (length ns) MAX_LISTED ≡ true = search (rules, lt-ltb) in
    let has : not c.contains.result ≡ not (list_any (λ y. y == n) ns) = search rules in
    has ∙ sym (listed_more ns n c.requires ∙ ap (λ (b : Bool). b && not (list_any (λ y. y == n) ns)) few)
