-- The first line that tells.
use Rattle.std.proofs.Common.{ℕ, zero, suc, add-one, ◌≡◌, ◌+◌, ◌<◌, ◌∙◌, List, [], ◌∷◌, take, length, refl, ap, None, Some}
use Rattle.blk_recorders.specs.Words.{words, line_between, IsLineEnd}
use Rattle.blk_recorders.specs.Detected.{form_told, first_form}
use Rattle.blk_recorders.specs.declared.detect.CaptureForm.{CaptureForm}
use Rattle.blk_recorders.specs.declared.detect.CaptureForm.TheVariants.{Records}
use Rattle.blk_recorders.proofs.Cutting.{lines_left, next_line, no_line}

first_taken : (n : ℕ) (l : List ℕ) (ls : List (List ℕ)) → take (n + 1) (l ∷ ls) ≡ l ∷ take n ls
first_taken n l ls = rw (add-one n) refl

-- so many lines of those that are left, of which there is one
pub told : (text : List ℕ) (n begin end : ℕ) (form : CaptureForm) → IsLineEnd text begin end → form_told (words (line_between text begin end)) ≡ Some form → first_form (take (n + 1) (lines_left text begin)) ≡ form
unfolding first_form
told text n begin end form h e =
    ap (λ (ls : List (List ℕ)). first_form (take (n + 1) ls)) (next_line text begin end h) ∙ ap first_form (first_taken n (line_between text begin end) (lines_left text (end + 1))) ∙ rw e refl

pub untold : (text : List ℕ) (n begin end : ℕ) → IsLineEnd text begin end → form_told (words (line_between text begin end)) ≡ None
    → first_form (take (n + 1) (lines_left text begin)) ≡ first_form (take n (lines_left text (end + 1)))
unfolding first_form
untold text n begin end h e =
    ap (λ (ls : List (List ℕ)). first_form (take (n + 1) ls)) (next_line text begin end h) ∙ ap first_form (first_taken n (line_between text begin end) (lines_left text (end + 1))) ∙ rw e refl

none_left : (n : ℕ) → first_form (take n []) ≡ Records
unfolding first_form
none_left zero = refl
none_left (suc n) = refl

pub none_told : (text : List ℕ) (n begin : ℕ) → length text < begin → first_form (take n (lines_left text begin)) ≡ Records
none_told text n begin l = rw (no_line text begin l) (none_left n)

pub none_looked_at : (ls : List (List ℕ)) → first_form (take 0 ls) ≡ Records
unfolding first_form
none_looked_at ls = refl
