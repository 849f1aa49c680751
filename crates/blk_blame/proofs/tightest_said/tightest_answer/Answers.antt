use Rattle.blk_blame.proofs.tightest_said.tightest_answer.Goals as goal

pub returns : goal.returns
returns c = record {
  beside = c.in_ok-beside.beside;
  beside_is = c.in_ok-beside.ensures;
  alone = c.in_ok-alone.alone;
  alone_is = c.in_ok-alone.ensures;
  is = c.in_ok-answer.ensures;
}
