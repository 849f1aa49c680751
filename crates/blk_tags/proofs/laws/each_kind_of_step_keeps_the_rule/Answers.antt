use Rattle.std.proofs.Common.{[], subst, sym}
use Rattle.blk_tags.specs.Steps.{TagsAreHeldOnce}
use Rattle.blk_tags.proofs.Counts.{held_some}
use Rattle.blk_tags.proofs.Plain.{new_seat, empty_seat}
use Rattle.blk_tags.proofs.Rule.{opens, wins, loses, gives}
use Rattle.blk_tags.proofs.laws.each_kind_of_step_keeps_the_rule.Goals as goal

pub returns-clause-opening : goal.returns-clause-opening
returns-clause-opening c depth = opens depth []

pub returns-clause-splitting : goal.returns-clause-splitting
returns-clause-splitting c depth s after k h = subst (TagsAreHeldOnce depth) (sym k) (new_seat depth s h)

pub returns-clause-joining : goal.returns-clause-joining
returns-clause-joining c depth s after k h = subst (TagsAreHeldOnce depth) (sym k.4) (empty_seat depth s h k.0 k.1 k.2 k.3)

pub returns-clause-winning : goal.returns-clause-winning
returns-clause-winning c depth s after k h = subst (TagsAreHeldOnce depth) (sym k.after_is) (wins depth s k.seat k.tag k.held k.at.below k.at.few h k.at.holds k.clear)

pub returns-clause-losing : goal.returns-clause-losing
returns-clause-losing c depth s after k h = subst (TagsAreHeldOnce depth) (sym k.after_is) (loses depth s k.seat k.tag k.held k.at.below k.at.few h k.at.holds k.full)

pub returns-clause-giving : goal.returns-clause-giving
returns-clause-giving c depth s after k h = subst (TagsAreHeldOnce depth) (sym k.after_is) (gives depth s k.seat k.tag k.held k.at.below k.at.few h k.at.holds (held_some k.tag k.held.tags k.has))
