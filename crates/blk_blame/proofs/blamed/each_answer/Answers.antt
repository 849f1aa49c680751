use Rattle.std.proofs.Common.{refl}
use Rattle.blk_blame.proofs.blamed.each_answer.Goals as goal

pub add_each-requires-clause-counted : goal.add_each-requires-clause-counted
add_each-requires-clause-counted c t = rw c.as_slice-2.ensures.value (c.in_ok-completions.ensures.counted t)

pub returns : goal.returns
returns c = record {
  account = c.in_ok-account.account;
  is_account = c.in_ok-account.ensures;
  is = rw (c.in_ok-add_each.ensures, c.new-answer.ensures, c.as_slice-3.ensures.value, c.in_ok-lates.ensures, c.as_slice-commands.ensures.value, c.as_slice.ensures.value) refl;
}
