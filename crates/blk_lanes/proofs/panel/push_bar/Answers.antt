use Rattle.std.proofs.Common.{◌++◌, ◌∙◌, List, ℕ, ap}
use Rattle.blk_lanes.proofs.Saying.{says_framed}
use Rattle.blk_lanes.proofs.panel.push_bar.Goals as goal

pub returns : goal.returns
returns c =
    says_framed _ _ _ _ _ c.args.draft.now c.text.new.self c.text-2.new.self c.text-3.new.self c.text-4.new.self c.text-5.new.self c.in_ok-text.ensures
    (c.in_ok-text-2.ensures ∙ ap (λ (l : List ℕ). c.text.new.self ++ l) (c.as_slice.ensures.value ∙ c.in_ok-fact.ensures))
    c.in_ok-text-3.ensures
    c.in_ok-text-4.ensures
    c.in_ok-text-5.ensures
