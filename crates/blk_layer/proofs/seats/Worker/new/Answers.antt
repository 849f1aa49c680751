use Rattle.std.proofs.Common.{◌≡◌, ◌∙◌, sym, ap, subst, arith, map, length, [], List, ℕ}
use Rattle.std.specs.Prelude.{is_some, Option, count_by}
use Rattle.edd_commands.specs.declared.Command.{Command}
use Rattle.blk_tags.specs.Inside.{Marks}
use Rattle.blk_layer.proofs.Held.{no_marks, no_length, empty_count}
use Rattle.blk_layer.proofs.seats.Worker.new.Goals as goal

pub invariant_of-result : goal.invariant_of-result
invariant_of-result g c =
    let n = c.args.depth in
    let are = c.in_ok-hands.ensures in
    let depth : c.args.seat.of_set.depth ≡ n = c.requires.depth.0 in
    record {
      queue = c.requires.queue;
      one = c.requires.one;
      named = depth ∙ c.requires.depth.1;
      places = ap length are ∙ no_length n ∙ sym depth;
      marks = subst (λ (tags : List ℕ). Marks (map is_some c.in_ok-hands.hands.items) tags) (sym c.requires.seat) (subst (λ (hands : List (Option Command)). Marks (map is_some hands) []) (sym are) (no_marks n));
      room_left = omega (arith, ap length c.new.ensures.items, ap (count_by is_some) are, empty_count n);
      part = c.requires.share.0;
      counted = c.requires.share.1 ∙ sym (ap length c.new.ensures.items);
    }
