use Rattle.blk_replayed.proofs.replays.replays_in.Goals as goal

pub returns : goal.returns
returns g c = record {
  commands = c.as_slice-commands.result.now;
  rounds = c.as_slice-rounds.result.now;
  counted = rw (c.as_slice-commands.ensures.value, c.as_slice-rounds.ensures.value) c.in_ok-counted.ensures.counted;
  counts = c.in_ok-missed.missed.counts;
  windows = c.in_ok-missed.missed.windows.items;
  missed = c.in_ok-missed.ensures;
  as_it_went = c.in_ok-captured.ensures.chosen;
  is_captured = c.in_ok-captured.ensures.row;
  in_turn = c.in_ok-replayed.replayed.items;
  are_rows = c.in_ok-replayed.ensures;
  best_first = c.in_ok-better_first.ensures;
}
