use Rattle.std.proofs.Common.{◌∙◌, ◌==◌, Bool, false, not, ℕ, sym, ap}
use Rattle.std.proofs.lemmas.Bool.{ne_eqb}
use Rattle.std.specs.Prelude.{if◌then◌else◌}
use Rattle.std.specs.List.{list_any}
use Rattle.blk_capture_text.specs.Doubts.{is_completed}
use Rattle.blk_capture_text.proofs.Doubting.{nothing_whole, none_completed}
use Rattle.blk_capture_text.proofs.counts.RecordCounts.has_nothing_whole.Goals as goal

pub returns-then-self-eq0 : goal.returns-then-self-eq0
returns-then-self-eq0 c = λ rs qs e are.
    sym (nothing_whole c.args.self.now rs qs e ∙ ap (λ (n : ℕ). if n == 0 then false else not (list_any is_completed qs)) c.if-self-eq0.true)

pub returns : goal.returns
returns c = λ rs qs e are.
    none_completed qs c.args.device.now are
    ∙ sym (nothing_whole c.args.self.now rs qs e
    ∙ ap (λ (b : Bool). if b then false else not (list_any is_completed qs)) (ne_eqb c.args.self.now.records 0 c.if-self-eq0.false))
