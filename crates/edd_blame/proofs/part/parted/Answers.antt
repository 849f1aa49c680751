use Rattle.std.proofs.Common.{◌≡◌, ◌++◌, ◌∷◌, [], ◌∙◌, ℕ, Bool, false, not, List, filter, get_or, length, ap, sym, arith}
use Rattle.std.specs.List.{range_with_len}
use Rattle.edd_blame.specs.Parts.{marked_places, other_places}
use Rattle.edd_blame.proofs.Beside.{more_kept, more_out}
use Rattle.edd_blame.proofs.part.parted.Goals as goal
use Rattle.edd_blame.proofs.part.parted.Goals.{then-mark+in_ok-push, else-mark+in_ok-push-2}

pub loop-place-preserved : goal.loop-place-preserved
loop-place-preserved g c =
    let i : ℕ = c.loop-place.place in
    let marks : List Bool = c.args.marks.now in
    let old = c.loop-place.invariant in
    elim c.if-mark.branch [
      | then-mark+in_ok-push w ↦
          record {
            marked = ap (λ v. v.items) w.marked-is ∙ w.in_ok-push.ensures.items ∙ ap (λ l. l ++ i ∷ []) old.marked ∙ sym (more_kept (λ k. get_or marks k false) i w.if-mark.true);
            others = ap (λ v. v.items) w.others-is ∙ old.others ∙ sym (more_out (λ k. not (get_or marks k false)) i (ap not w.if-mark.true));
          }
      | else-mark+in_ok-push-2 w ↦
          record {
            marked = ap (λ v. v.items) w.marked-is ∙ old.marked ∙ sym (more_out (λ k. get_or marks k false) i w.if-mark.false);
            others = ap (λ v. v.items) w.others-is ∙ w.in_ok-push-2.ensures.items ∙ ap (λ l. l ++ i ∷ []) old.others ∙ sym (more_kept (λ k. not (get_or marks k false)) i (ap not w.if-mark.false));
          }
    ]

pub returns : goal.returns
unfolding marked_places other_places
returns g c =
    let marks : List Bool = c.args.marks.now in
    let all : c.loop-place.place ≡ length marks = omega arith in
    record {
      marked = c.loop-place.invariant.marked ∙ ap (λ n. filter (λ k. get_or marks k false) (range_with_len 0 n)) all;
      others = c.loop-place.invariant.others ∙ ap (λ n. filter (λ k. not (get_or marks k false)) (range_with_len 0 n)) all;
    }
