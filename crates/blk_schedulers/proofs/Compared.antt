-- Schedulers that are compared, row by row.
use Rattle.std.proofs.Common.{◌≡◌, ◌∙◌, ◌∷◌, [], ◌++◌, ◌+◌, ◌<◌, ℕ, zero, suc, List, Option, Some, None, length, map, take, get_or, ap, sym, refl, arith, option_map}
use Rattle.std.proofs.lemmas.List.{map-append, take_more}
use Rattle.std.specs.Prelude.{option_and_then}
use Rattle.blk_schedulers.specs.Given.{GivenOptions, compared_by, all_compared}
use Rattle.blk_schedulers.specs.Row.{RowOf, sched_row_of}
use Rattle.blk_schedulers.specs.declared.rows.SchedRow.{SchedRow}
use Rattle.blk_schedulers.specs.declared.sched.Sched.{Sched}

-- lists where all of their items are there: with an item in front of one that has grown at its end, and in front of none
grows : {X : Type 0} (p : Option X) (q more : Option (List X)) (o : Option X) → more ≡ option_and_then (λ xs. option_map (λ x. xs ++ x ∷ []) o) q
    → option_and_then (λ x. option_map (λ rest. x ∷ rest) more) p ≡ option_and_then (λ xs. option_map (λ x. xs ++ x ∷ []) o) (option_and_then (λ x. option_map (λ rest. x ∷ rest) q) p)
grows None q more o e = refl
grows (Some x) None more o e = rw e refl
grows (Some x) (Some xs) more None e = rw e refl
grows (Some x) (Some xs) more (Some y) e = rw e refl

begins : {X : Type 0} (o : Option X) → option_and_then (λ x. option_map (λ rest. x ∷ rest) (Some [])) o ≡ option_map (λ x. x ∷ []) o
begins None = refl
begins (Some x) = refl

stays_none : {X : Type 0} (p : Option X) (q : Option (List X)) → q ≡ None → option_and_then (λ x. option_map (λ rest. x ∷ rest) q) p ≡ None
stays_none None q e = refl
stays_none (Some x) q e = rw e refl

-- the schedulers of some rows and of one more
with_row : (o : GivenOptions) (rows : List RowOf) (r : RowOf) → all_compared o (rows ++ r ∷ []) ≡ option_and_then (λ ss. option_map (λ s. ss ++ s ∷ []) (compared_by o r)) (all_compared o rows)
with_row o [] r = begins (compared_by o r)
with_row o (x ∷ rows) r = grows (compared_by o x) (all_compared o rows) (all_compared o (rows ++ r ∷ [])) (compared_by o r) (with_row o rows r)

pub one_more : (o : GivenOptions) (rows : List SchedRow) (i : ℕ) (d : SchedRow) (ss : List (Option Sched)) (s : Option Sched) → i < length rows
    → all_compared o (map sched_row_of (take i rows)) ≡ Some ss → Some s ≡ compared_by o (sched_row_of (get_or rows i d)) → all_compared o (map sched_row_of (take (i + 1) rows)) ≡ Some (ss ++ s ∷ [])
one_more o rows i d ss s lt so is =
    let x = get_or rows i d in
    ap (λ (xs : List SchedRow). all_compared o (map sched_row_of xs)) (take_more rows i d lt) ∙ ap (all_compared o) (map-append sched_row_of (take i rows) (x ∷ []))
    ∙ with_row o (map sched_row_of (take i rows)) (sched_row_of x)
    ∙ ap (option_and_then (λ ss. option_map (λ s. ss ++ s ∷ []) (compared_by o (sched_row_of x)))) so ∙ ap (option_map (λ s. ss ++ s ∷ [])) (sym is)

-- where one has no scheduler, they have none
pub one_missing : (o : GivenOptions) (rows : List SchedRow) (i : ℕ) (d : SchedRow) → i < length rows → None ≡ compared_by o (sched_row_of (get_or rows i d)) → all_compared o (map sched_row_of rows) ≡ None
one_missing o [] i d lt is = absurd (omega (arith, lt))
one_missing o (x ∷ rows) zero d lt is = rw (sym is) refl
one_missing o (x ∷ rows) (suc i) d lt is = stays_none (compared_by o (sched_row_of x)) (all_compared o (map sched_row_of rows)) (one_missing o rows i d (omega (arith, lt)) is)
