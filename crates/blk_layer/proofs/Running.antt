-- What a worker's passes add up to.
use Rattle.std.proofs.Common.{◌≡◌, ◌∙◌, ◌+◌, ℕ, zero, suc, List, [], ◌∷◌, ◌++◌, append_assoc, Some, None, length, refl, sym, ap, arith}
use Rattle.std.specs.Prelude.{Option, slice_get, slice_set}
use Rattle.std.proofs.lemmas.List.{append-nil}
use Rattle.edd_commands.specs.declared.Command.{Command}
use Rattle.blk_tags.specs.Tags.{without}
use Rattle.blk_tags.proofs.Counts.{none_count}
use Rattle.blk_layer.specs.declared.serving.WorkFault.{WorkFault}
use Rattle.blk_layer.specs.declared.serving.WorkFault.TheVariants.{TraceFull, Memory, Repeated}
use Rattle.blk_layer.specs.Seats.{WorkerSeat}
use Rattle.blk_layer.specs.Serving.{TakesInHand, let_go, TakesAll, RunsMore, IsWorkFault}
use Rattle.blk_layer.proofs.InHand.{pushed_without}

-- nothing ran
pub none_ran : (old new : WorkerSeat) → new ≡ old → RunsMore old new
none_ran old new e = rw e (record { added = []; grown = ap (λ (l : List Command). record old { ran = l }) (sym (append-nil old.ran)) })

-- one run after another
pub ran_on : (a b c : WorkerSeat) → RunsMore a b → RunsMore b c → RunsMore a c
ran_on a b c one two = record {
  added = one.added ++ two.added;
  grown = two.grown ∙ ap (λ (s : WorkerSeat). record s { ran = s.ran ++ two.added }) one.grown
      ∙ ap (λ (l : List Command). record a { ran = l }) (append_assoc a.ran one.added two.added);
}

-- a run and then a fault
pub faulted_on : (a b : WorkerSeat) (why : WorkFault) (c : WorkerSeat) → RunsMore a b → IsWorkFault b why c → IsWorkFault a why c
faulted_on a b TraceFull c one two = ran_on a b c one two
faulted_on a b Memory c one two = (two.0, ran_on a b two.0 one two.1, two.2)
faulted_on a b (Repeated id) c one two = ran_on a b c one two

-- a fault that changed nothing
pub refused : (old : WorkerSeat) (why : WorkFault) (new : WorkerSeat) → new ≡ old → IsWorkFault old why new
unfolding TakesAll
refused old TraceFull new e = none_ran old new e
refused old Memory new e = (old, none_ran old old refl, record { tags = []; few = omega arith; takes = e })
refused old (Repeated id) new e = none_ran old new e

-- a hand that was empty, took a command and let it go
emptied : (hands : List (Option Command)) (t : ℕ) (command : Command) → slice_get hands t ≡ Some None → slice_set (slice_set hands t (Some command)) t None ≡ hands
emptied [] t command e = refl
emptied (x ∷ hs) zero command e = (let is : x ≡ None = (let s : Some x ≡ Some None = e in cc) in rw is refl)
emptied (x ∷ hs) (suc t) command e = ap (λ l. x ∷ l) (emptied hs t command e)

-- a worker that took a command in hand and let it go is as it was
pub let_go_again : (a : WorkerSeat) (t : ℕ) (command : Command) (b : WorkerSeat) → TakesInHand a t command b → let_go b t ≡ a
let_go_again a t command b took = rw took.taken (
    let tags : without t (a.tags ++ t ∷ []) ≡ a.tags = pushed_without t a.tags (none_count a.tags t took.unheld) in
    let hands : slice_set (slice_set a.hands t (Some command)) t None ≡ a.hands = emptied a.hands t command took.free in
    rw (tags, hands) refl)

-- how much longer the account is
pub ran_count : (a b : WorkerSeat) (runs : RunsMore a b) → length b.ran ≡ length a.ran + length runs.added
ran_count a b runs = ap (λ (s : WorkerSeat). length s.ran) runs.grown ∙ count a.ran runs.added
  where
    count : (xs ys : List Command) → length (xs ++ ys) ≡ length xs + length ys
    count [] ys = omega arith
    count (x ∷ xs) ys = omega (arith, count xs ys)
