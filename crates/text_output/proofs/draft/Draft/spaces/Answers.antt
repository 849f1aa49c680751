use Rattle.std.proofs.Common.{◌∙◌, ◌∷◌, ◌++◌, [], ap, sym, append_assoc, append-nil}
use Rattle.std.proofs.Math.ListN.{replicate}
use Rattle.std.proofs.lemmas.Grind.{replicate_next}
use Rattle.text_output.proofs.draft.Draft.spaces.Goals as goal

pub loop-init : goal.loop-init
loop-init c = rw (← c.self.view_is) (sym (append-nil _))

pub loop-preserved : goal.loop-preserved
loop-preserved c =
    c.in_ok-push.ensures ∙ ap (λ t. t ++ 32 ∷ []) c.loop.invariant ∙ append_assoc c.args.self.now (replicate c.loop.counter 32) (32 ∷ [])
    ∙ ap (λ t. c.args.self.now ++ t) (sym (replicate_next c.loop.counter 32))
