-- Records of an action counted.
use Rattle.std.proofs.Common.{ℕ, ◌≡◌, ◌<◌, ◌+◌, ◌==◌, ◌∙◌, cond, Bool, true, false, List, [], length, get_or, take, refl, arith, ap, sym}
use Rattle.std.specs.Prelude.{◌&&◌}
use Rattle.std.proofs.lemmas.List.{take_more, length-take-le}
use Rattle.blk_capture.specs.Fates.{told, is_of_action, is_taken, is_left_out, is_unmatched, is_passed, tally_of}
use Rattle.blk_capture.specs.Inside.Tallies.{tally_with}
use Rattle.blk_capture.specs.Passing.{place_of}
use Rattle.blk_capture.specs.declared.fates.Fate.{Fate}
use Rattle.blk_capture.specs.declared.fates.ActionTally.{ActionTally}
use Rattle.blk_capture.specs.declared.record.Action.{Action}
use Rattle.blk_capture.specs.declared.record.Record.{Record}
use Rattle.blk_capture.proofs.Telling.{told_next, told_none}

-- one more fate
pub more : (p : Action → Fate → Bool) (records : List Record) (fates : List Fate) (n : ℕ) (d : Record) (e : Fate) → n < length fates → length fates ≡ length records
    → told p records (take n fates) + cond (p (get_or records n d).action (get_or fates n e)) 1 0 ≡ told p records (take (n + 1) fates)
more p records fates n d e here same =
    told_next p records (take n fates) (take (n + 1) fates) (get_or fates n e) n (told p records (take n fates)) (told p records (take n fates) + cond (p (get_or records n d).action (get_or fates n e)) 1 0) d
    (length-take-le n fates (omega arith)) (omega arith) refl refl (take_more fates n e here)

-- of the action, and of another
of_it : (a : Action) (p : Fate → Bool) (records : List Record) (fates : List Fate) (n : ℕ) (d : Record) (e : Fate) → n < length fates → length fates ≡ length records → (place_of (get_or records n d).action == place_of a) ≡ true
    → told (is_of_action a p) records (take n fates) + cond (p (get_or fates n e)) 1 0 ≡ told (is_of_action a p) records (take (n + 1) fates)
of_it a p records fates n d e here same is =
    ap (λ b. told (is_of_action a p) records (take n fates) + cond (b && p (get_or fates n e)) 1 0) (sym is) ∙ more (is_of_action a p) records fates n d e here same

of_other : (a : Action) (p : Fate → Bool) (records : List Record) (fates : List Fate) (n : ℕ) (d : Record) (e : Fate) → n < length fates → length fates ≡ length records → (place_of (get_or records n d).action == place_of a) ≡ false
    → told (is_of_action a p) records (take n fates) ≡ told (is_of_action a p) records (take (n + 1) fates)
of_other a p records fates n d e here same is =
    let none : told (is_of_action a p) records (take n fates) ≡ told (is_of_action a p) records (take n fates) + 0 = omega arith in
    none ∙ ap (λ b. told (is_of_action a p) records (take n fates) + cond (b && p (get_or fates n e)) 1 0) (sym is) ∙ more (is_of_action a p) records fates n d e here same

same_tally : (r t l u p r2 t2 l2 u2 p2 : ℕ) → r ≡ r2 → t ≡ t2 → l ≡ l2 → u ≡ u2 → p ≡ p2
    → (let x : ActionTally = record { records = r; taken = t; left_out = l; unmatched = u; passed_over = p } in x) ≡ record { records = r2; taken = t2; left_out = l2; unmatched = u2; passed_over = p2 }
same_tally r t l u p r2 t2 l2 u2 p2 a b c d e = cc

pub tally_more : (a : Action) (records : List Record) (fates : List Fate) (n : ℕ) (d : Record) (e : Fate) → n < length fates → length fates ≡ length records → (place_of (get_or records n d).action == place_of a) ≡ true
    → tally_with (tally_of a records (take n fates)) (get_or fates n e) ≡ tally_of a records (take (n + 1) fates)
tally_more a records fates n d e here same is =
    same_tally _ _ _ _ _ _ _ _ _ _ (of_it a (λ f. true) records fates n d e here same is) (of_it a is_taken records fates n d e here same is) (of_it a is_left_out records fates n d e here same is)
    (of_it a is_unmatched records fates n d e here same is) (of_it a is_passed records fates n d e here same is)

pub tally_same : (a : Action) (records : List Record) (fates : List Fate) (n : ℕ) (d : Record) (e : Fate) → n < length fates → length fates ≡ length records → (place_of (get_or records n d).action == place_of a) ≡ false
    → tally_of a records (take n fates) ≡ tally_of a records (take (n + 1) fates)
tally_same a records fates n d e here same is =
    same_tally _ _ _ _ _ _ _ _ _ _ (of_other a (λ f. true) records fates n d e here same is) (of_other a is_taken records fates n d e here same is) (of_other a is_left_out records fates n d e here same is)
    (of_other a is_unmatched records fates n d e here same is) (of_other a is_passed records fates n d e here same is)

pub tally_none : (a : Action) (records : List Record) → (let x : ActionTally = record { records = 0; taken = 0; left_out = 0; unmatched = 0; passed_over = 0 } in x) ≡ tally_of a records []
tally_none a records =
    same_tally _ _ _ _ _ _ _ _ _ _ (sym (told_none (is_of_action a (λ f. true)) records)) (sym (told_none (is_of_action a is_taken) records)) (sym (told_none (is_of_action a is_left_out) records))
    (sym (told_none (is_of_action a is_unmatched) records)) (sym (told_none (is_of_action a is_passed) records))

-- a step of the count
pub tally_step : (a : Action) (records : List Record) (fates : List Fate) (n : ℕ) (d : Record) (e : Fate) (t t2 : ActionTally) → n < length fates → length fates ≡ length records → (place_of (get_or records n d).action == place_of a) ≡ true
    → t ≡ tally_of a records (take n fates) → t2 ≡ tally_with t (get_or fates n e) → t2 ≡ tally_of a records (take (n + 1) fates)
tally_step a records fates n d e t t2 here same is so_far with_it = with_it ∙ ap (λ x. tally_with x (get_or fates n e)) so_far ∙ tally_more a records fates n d e here same is
