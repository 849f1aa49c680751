use Rattle.std.proofs.Common.{◌∙◌}
use Rattle.blk_blame.proofs.Glue.{by_clock, taken}
use Rattle.blk_blame.proofs.account.account_of.Goals as goal

pub blame_of-requires-clause-taken : goal.blame_of-requires-clause-taken
blame_of-requires-clause-taken c = rw c.as_slice.ensures.value (taken c.args.requests.now _ _ c.in_ok-counted.ensures.counted c.requires.few c.in_ok-counted.ensures.solvable)

pub blame_of-requires-clause-by_clock : goal.blame_of-requires-clause-by_clock
blame_of-requires-clause-by_clock c =
    rw (c.as_slice.ensures.value, c.as_slice-3.ensures.value ∙ c.in_ok-allowances.ensures, c.as_slice-4.ensures.value ∙ c.in_ok-dispatches.ensures)
    (by_clock c.args.requests.now _ _ c.in_ok-counted.ensures.counted)

pub causes-requires-clause-taken : goal.causes-requires-clause-taken
causes-requires-clause-taken c = rw c.as_slice-5.ensures.value (taken c.args.requests.now _ _ c.in_ok-counted.ensures.counted c.requires.few c.in_ok-counted.ensures.solvable)

pub causes-requires-clause-by_clock : goal.causes-requires-clause-by_clock
causes-requires-clause-by_clock c =
    rw (c.as_slice-5.ensures.value, c.as_slice-7.ensures.value ∙ c.in_ok-allowances.ensures, c.as_slice-8.ensures.value ∙ c.in_ok-dispatches.ensures)
    (by_clock c.args.requests.now _ _ c.in_ok-counted.ensures.counted)

pub returns : goal.returns
returns c = record {
  counted = c.in_ok-counted.ensures.counted;
  taken = taken c.args.requests.now _ _ c.in_ok-counted.ensures.counted c.requires.few c.in_ok-counted.ensures.solvable;
  legal = c.in_ok-counted.ensures.legal;
  misses = rw (c.as_slice.ensures.value, c.as_slice-2.ensures.value, c.in_ok-capacity.ensures) at c.in_ok-blame.ensures.misses;
  sum = rw (c.as_slice-3.ensures.value ∙ c.in_ok-allowances.ensures, c.as_slice-4.ensures.value ∙ c.in_ok-dispatches.ensures) at c.in_ok-blame.ensures.sum;
  stalls = rw (c.as_slice-3.ensures.value ∙ c.in_ok-allowances.ensures, c.as_slice-4.ensures.value ∙ c.in_ok-dispatches.ensures) at c.in_ok-blame.ensures.stalls;
  causes =
      rw (c.as_slice-5.ensures.value, c.as_slice-6.ensures.value, c.in_ok-capacity.ensures, c.as_slice-7.ensures.value ∙ c.in_ok-allowances.ensures, c.as_slice-8.ensures.value ∙ c.in_ok-dispatches.ensures)
      at c.in_ok-causes.ensures;
}
