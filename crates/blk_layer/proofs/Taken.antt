-- Commands that came into a worker's hands one after the other.
use Rattle.std.proofs.Common.{◌≡◌, ◌≢◌, ◌∙◌, ◌+◌, ◌≤◌, ◌==◌, ℕ, zero, suc, List, [], ◌∷◌, ◌++◌, append_assoc, Some, None, length, refl, sym, ap, subst, inl, inr, not, arith}
use Rattle.std.specs.Prelude.{Bool, true, false, Option, Result, Ok, Err, OnOk, IfErr, slice_get, slice_set, drop}
use Rattle.std.specs.Bool.{OnTrue, OnFalse}
use Rattle.std.proofs.lemmas.Bool.{ne_eqb}
use Rattle.std.proofs.lemmas.List.{append-nil}
use Rattle.std.proofs.lemmas.List.Elements.{filter-append}
use Rattle.edd_commands.specs.declared.Command.{Command}
use Rattle.blk_tags.specs.Tags.{without}
use Rattle.blk_tags.proofs.Counts.{some_held, held_some, others_left}
use Rattle.blk_layer.specs.declared.serving.Ran.{Ran}
use Rattle.blk_layer.specs.declared.serving.Ran.TheVariants.{Done, Busy}
use Rattle.blk_layer.specs.declared.serving.WorkFault.{WorkFault}
use Rattle.blk_layer.specs.declared.seats.NoNext.{NoNext}
use Rattle.blk_layer.specs.declared.seats.NoNext.TheVariants.{NoTag, Tried}
use Rattle.blk_core.specs.declared.trying.NoneIssued.TheVariants as none
use Rattle.blk_core.specs.declared.refusals.IssueFault.TheVariants as issue
use Rattle.blk_core.specs.declared.refusals.TickFault.TheVariants as tick
use Rattle.blk_layer.specs.declared.batch.TheConstants.{MAX_BATCH}
use Rattle.blk_layer.specs.Seats.{WorkerSeat}
use Rattle.blk_layer.specs.Serving.{TakesInHand, let_go, RunsMore, TakesAll, IsWorkFault}
use Rattle.blk_layer.specs.Inside.Serving.{IsEndedAs, EndsFirst, EndsBatch, Exchanges, IsServing, Serves, IsServeFault}
use Rattle.blk_layer.specs.Inside.Next.{pass_end}
use Rattle.blk_layer.proofs.Running.{none_ran, ran_on, let_go_again}

-- what is put at a place stands there, and another place keeps what it had
put_at : (hands : List (Option Command)) (t : ℕ) (hand : Option Command) → slice_get hands t ≡ Some None → slice_get (slice_set hands t hand) t ≡ Some hand
put_at [] t hand e = absurd (let n : None ≡ Some None = e in cc)
put_at (x ∷ hs) zero hand e = refl
put_at (x ∷ hs) (suc t) hand e = put_at hs t hand e

put_other : (hands : List (Option Command)) (t y : ℕ) (hand : Option Command) → y ≢ t → slice_get (slice_set hands t hand) y ≡ slice_get hands y
put_other [] t y hand d = refl
put_other (x ∷ hs) zero zero hand d = absurd (d refl)
put_other (x ∷ hs) zero (suc y) hand d = refl
put_other (x ∷ hs) (suc t) zero hand d = refl
put_other (x ∷ hs) (suc t) (suc y) hand d = put_other hs t y hand (λ e. d (ap suc e))

put_both : (hands : List (Option Command)) (t y : ℕ) (one other : Option Command) → y ≢ t → slice_set (slice_set hands y other) t one ≡ slice_set (slice_set hands t one) y other
put_both [] t y one other d = refl
put_both (x ∷ hs) zero zero one other d = absurd (d refl)
put_both (x ∷ hs) zero (suc y) one other d = refl
put_both (x ∷ hs) (suc t) zero one other d = refl
put_both (x ∷ hs) (suc t) (suc y) one other d = ap (λ l. x ∷ l) (put_both hs t y one other (λ e. d (ap suc e)))

-- an empty hand isn't that of a command
differ : (hands : List (Option Command)) (t y : ℕ) (command : Command) → slice_get hands t ≡ Some (Some command) → slice_get hands y ≡ Some None → y ≢ t
differ hands t y command held free = λ e. (let s : Some (Some command) ≡ Some None = sym held ∙ ap (slice_get hands) (sym e) ∙ free in absurd (cc))

-- a command that is let go leaves one that came after it
past_one : (m : WorkerSeat) (t : ℕ) (held : Command) (u : ℕ) (command : Command) (n : WorkerSeat) → slice_get m.hands t ≡ Some (Some held) → TakesInHand m u command n
    → TakesInHand (let_go m t) u command (let_go n t)
past_one m t held u command n at took =
    let d : u ≢ t = differ m.hands t u held at took.free in
    let tags : without t (m.tags ++ u ∷ []) ≡ without t m.tags ++ u ∷ [] = filter-append (λ v. not (v == t)) m.tags (u ∷ []) ∙ rw (ne_eqb u t d) refl in
    let hands = put_both m.hands t u None (Some command) d in
    rw took.taken (record {
      below = took.below;
      free = put_other m.hands t u None d ∙ took.free;
      unheld = λ has. took.unheld (some_held u m.tags (omega (arith, held_some u (without t m.tags) has, others_left u t m.tags d)));
      taken = rw (tags, hands) refl;
    })

still_held : (m : WorkerSeat) (t : ℕ) (held : Command) (u : ℕ) (command : Command) (n : WorkerSeat) → slice_get m.hands t ≡ Some (Some held) → TakesInHand m u command n
    → slice_get n.hands t ≡ Some (Some held)
still_held m t held u command n at took =
    let d : u ≢ t = differ m.hands t u held at took.free in
    rw took.taken (put_other m.hands u t (Some command) (λ e. d (sym e)) ∙ at)

past_all : (m : WorkerSeat) (t : ℕ) (held : Command) (batch : List ℕ) (n : WorkerSeat) → slice_get m.hands t ≡ Some (Some held) → TakesAll m batch n → TakesAll (let_go m t) batch (let_go n t)
unfolding TakesAll
past_all m t held [] n at e = ap (λ (s : WorkerSeat). let_go s t) e
past_all m t held (u ∷ us) n at takes =
    let one = takes.1 in
    (let_go takes.0 t, (one.0, past_one m t held u one.0 takes.0 at one.1), past_all takes.0 t held us n (still_held m t held u one.0 takes.0 at one.1) takes.2)

-- the same commands come into the hands of a worker that ran more
took_since : (m : WorkerSeat) (more : List Command) (u : ℕ) (command : Command) (n : WorkerSeat) → TakesInHand m u command n
    → TakesInHand (record m { ran = m.ran ++ more }) u command (record n { ran = n.ran ++ more })
took_since m more u command n took = rw took.taken (record { below = took.below; free = took.free; unheld = took.unheld; taken = refl })

took_all_since : (m : WorkerSeat) (more : List Command) (batch : List ℕ) (n : WorkerSeat) → TakesAll m batch n → TakesAll (record m { ran = m.ran ++ more }) batch (record n { ran = n.ran ++ more })
unfolding TakesAll
took_all_since m more [] n e = ap (λ (s : WorkerSeat). record s { ran = s.ran ++ more }) e
took_all_since m more (u ∷ us) n takes =
    let one = takes.1 in
    (record takes.0 { ran = takes.0.ran ++ more }, (one.0, took_since m more u one.0 takes.0 one.1), took_all_since takes.0 more us n takes.2)

-- the first of the commands in hand goes
first_gone : (a : WorkerSeat) (t : ℕ) (batch : List ℕ) (now : WorkerSeat) → TakesAll a (t ∷ batch) now → TakesAll a batch (let_go now t)
unfolding TakesAll
first_gone a t batch now takes =
    let one : (command : Command) × TakesInHand a t command takes.0 = takes.1 in
    let at : slice_get takes.0.hands t ≡ Some (Some one.0) = rw one.1.taken (put_at a.hands t (Some one.0) one.1.free) in
    subst (λ (s : WorkerSeat). TakesAll s batch (let_go now t)) (let_go_again a t one.0 takes.0 one.1) (past_all takes.0 t one.0 batch now at takes.2)

-- it was done, or requeued
first_ended : (start : WorkerSeat) (ran : Ran) (t : ℕ) (batch : List ℕ) (now new : WorkerSeat) → IsEndedAs ran now t new → IsServing start (t ∷ batch) now → IsServing start batch new
first_ended start Done t batch now new done is =
    let a = is.before in
    let one : List Command = done.command ∷ [] in
    let more : WorkerSeat = record a { ran = a.ran ++ one } in
    record {
      before = more;
      runs = ran_on start a more is.runs (record { added = one; grown = refl });
      takes = subst (λ (s : WorkerSeat). TakesAll more batch s) (sym done.gone) (took_all_since a one batch (let_go now t) (first_gone a t batch now is.takes));
    }
first_ended start Busy t batch now new back is = record {
  before = is.before;
  runs = is.runs;
  takes = subst (λ (s : WorkerSeat). TakesAll is.before batch s) (sym back.1.gone) (first_gone is.before t batch now is.takes);
}

-- one more comes into its hands
took_more : (a : WorkerSeat) (batch : List ℕ) (now : WorkerSeat) (t : ℕ) (command : Command) (new : WorkerSeat) → TakesAll a batch now → TakesInHand now t command new → TakesAll a (batch ++ t ∷ []) new
unfolding TakesAll
took_more a [] now t command new e took = (new, (command, subst (λ (s : WorkerSeat). TakesInHand s t command new) e took), refl)
took_more a (u ∷ us) now t command new takes took = (takes.0, takes.1, took_more takes.0 us now t command new takes.2 took)

-- nothing is ended and nothing taken
pub serves_none : (batch left : List ℕ) (old new : WorkerSeat) → left ≡ batch → new ≡ old → Serves batch old left new
serves_none batch left old new b e = rw (b, e) (record { same_set = refl; on = λ start is. is })

-- one exchange after another
pub serves_on : (b1 : List ℕ) (w1 : WorkerSeat) (b2 : List ℕ) (w2 : WorkerSeat) (b3 : List ℕ) (w3 : WorkerSeat) → Serves b1 w1 b2 w2 → Serves b2 w2 b3 w3 → Serves b1 w1 b3 w3
serves_on b1 w1 b2 w2 b3 w3 one two = record { same_set = two.same_set ∙ one.same_set; on = λ start is. two.on start (one.on start is) }

ended_set : (ran : Ran) (t : ℕ) (old new : WorkerSeat) → IsEndedAs ran old t new → new.tag_set ≡ old.tag_set
ended_set Done t old new h = ap (λ (s : WorkerSeat). s.tag_set) h.gone
ended_set Busy t old new h = ap (λ (s : WorkerSeat). s.tag_set) h.1.gone

-- the first one of a batch is ended
pub serves_first : (ran : Ran) (batch : List ℕ) (old : WorkerSeat) (left : List ℕ) (new : WorkerSeat) → EndsFirst ran batch old left new → Serves batch old left new
serves_first ran batch old left new h = rw h.first (record {
  same_set = ended_set ran h.tag old new h.ended;
  on = λ start is. first_ended start ran h.tag left old new h.ended is;
})

-- or it can't be reported
pub serves_first_or_none : (done : Bool) (ran : Ran) (batch : List ℕ) (old : WorkerSeat) (left : List ℕ) (new : WorkerSeat) → OnTrue done (EndsFirst ran batch old left new) → OnFalse done ((left ≡ batch) × (new ≡ old))
    → Serves batch old left new
serves_first_or_none true ran batch old left new ends stays = serves_first ran batch old left new ends
serves_first_or_none false ran batch old left new ends stays = serves_none batch left old new stays.0 stays.1

-- one more is taken in hand
pub serves_more : (batch : List ℕ) (old : WorkerSeat) (t : ℕ) (command : Command) (left : List ℕ) (new : WorkerSeat) → TakesInHand old t command new → left ≡ batch ++ t ∷ [] → Serves batch old left new
serves_more batch old t command left new took e = rw e (record {
  same_set = ap (λ (s : WorkerSeat). s.tag_set) took.taken;
  on = λ start is. record { before = is.before; runs = is.runs; takes = took_more is.before batch old t command new is.takes took };
})

-- before anything
pub serves_nothing : (start : WorkerSeat) → IsServing start [] start
unfolding TakesAll
serves_nothing start = record { before = start; runs = none_ran start start refl; takes = refl }

-- nothing is in hand
pub all_served : (start : WorkerSeat) (batch : List ℕ) (now : WorkerSeat) → IsServing start batch now → length batch ≡ 0 → RunsMore start now
unfolding TakesAll
all_served start [] now is e = subst (λ (s : WorkerSeat). RunsMore start s) (sym is.takes) is.runs
all_served start (t ∷ ts) now is e = absurd (omega (arith, e))

-- some may be left in hand
pub serve_refused : (start : WorkerSeat) (batch : List ℕ) (now : WorkerSeat) (why : WorkFault) → IsServing start batch now → length batch ≤ MAX_BATCH → IsServeFault why batch → IsWorkFault start why now
serve_refused start batch now why is few (inl e) = rw e (is.before, is.runs, record { tags = batch; few = few; takes = is.takes })
serve_refused start batch now why is few (inr h) = rw h.0 (all_served start batch now is (ap length h.1))

no_rest : (n x : ℕ) (rest : List ℕ) → drop n [] ≡ x ∷ rest → ⊥
no_rest zero x rest e = absurd (cc)
no_rest (suc n) x rest e = absurd (cc)

-- what is left after one more
drop_next : (n : ℕ) (xs : List ℕ) (x : ℕ) (rest : List ℕ) → drop n xs ≡ x ∷ rest → rest ≡ drop (n + 1) xs
drop_next n [] x rest e = absurd (no_rest n x rest e)
drop_next zero (y ∷ ys) x rest e = cc
drop_next (suc n) (y ∷ ys) x rest e = drop_next n ys x rest e ∙ ap (λ k. drop k (y ∷ ys)) (let s : suc (n + 1) ≡ suc n + 1 = omega arith in s)

-- so many commands of a batch, from its front on, are done
pub record DoesFirst (n : ℕ) (batch : List ℕ) (old : WorkerSeat) (left : List ℕ) (new : WorkerSeat) : Type 0 where
  pub serves : Serves batch old left new
  pub rest : left ≡ drop n batch
  pub counted : length new.ran ≡ length old.ran + n

pub does_none : (batch : List ℕ) (old : WorkerSeat) → DoesFirst 0 batch old batch old
does_none batch old = record { serves = serves_none batch batch old old refl refl; rest = refl; counted = omega arith }

count_one : (xs : List Command) (x : Command) → length (xs ++ x ∷ []) ≡ length xs + 1
count_one [] x = omega arith
count_one (y ∷ ys) x = omega (arith, count_one ys x)

left_after : (n : ℕ) (batch left : List ℕ) (t : ℕ) (more : List ℕ) → left ≡ drop n batch → left ≡ t ∷ more → more ≡ drop (n + 1) batch
left_after n batch left t more rest first = drop_next n batch t more (sym rest ∙ first)

pub does_more : (n : ℕ) (batch : List ℕ) (old : WorkerSeat) (left : List ℕ) (now : WorkerSeat) (more : List ℕ) (new : WorkerSeat) → DoesFirst n batch old left now → EndsFirst Done left now more new
    → DoesFirst (n + 1) batch old more new
does_more n batch old left now more new is one =
    let gone : new.ran ≡ now.ran ++ one.ended.command ∷ [] = ap (λ (s : WorkerSeat). s.ran) one.ended.gone in
    record {
      serves = serves_on batch old left now more new is.serves (serves_first Done left now more new one);
      rest = left_after n batch left one.tag more is.rest one.first;
      counted = omega (arith, ap length gone, count_one now.ran one.ended.command, is.counted);
    }

-- the next one was requeued
requeues_next : (n : ℕ) (batch : List ℕ) (old : WorkerSeat) (left : List ℕ) (now : WorkerSeat) (more : List ℕ) (new : WorkerSeat) → DoesFirst n batch old left now → EndsFirst Busy left now more new
    → EndsBatch n batch old more new
requeues_next n batch old left now more new is one = record {
  rest = left_after n batch left one.tag more is.rest one.first;
  counted = omega (arith, ap (λ (s : WorkerSeat). length s.ran) one.ended.1.gone, is.counted);
}

pub requeues_or_not : (done : Bool) (n ran : ℕ) (batch : List ℕ) (old : WorkerSeat) (left : List ℕ) (now : WorkerSeat) (more : List ℕ) (new : WorkerSeat) → n ≡ ran → DoesFirst n batch old left now
    → OnTrue done (EndsFirst Busy left now more new) → OnTrue done (EndsBatch ran batch old more new)
requeues_or_not true n ran batch old left now more new e is one = subst (λ k. EndsBatch k batch old more new) e (requeues_next n batch old left now more new is one)
requeues_or_not false n ran batch old left now more new e is one = tt

-- some commands were taken in hand
pub record TakesMore (batch : List ℕ) (old : WorkerSeat) (now_batch : List ℕ) (now : WorkerSeat) : Type 0 where
  pub serves : Serves batch old now_batch now
  pub taken : List ℕ
  pub batch_is : now_batch ≡ batch ++ taken
  pub ran : now.ran ≡ old.ran

pub takes_none : (batch : List ℕ) (old : WorkerSeat) → TakesMore batch old batch old
takes_none batch old = record { serves = serves_none batch batch old old refl refl; taken = []; batch_is = sym (append-nil batch); ran = refl }

pub takes_more : (batch : List ℕ) (old : WorkerSeat) (held : List ℕ) (now : WorkerSeat) (t : ℕ) (command : Command) (new_batch : List ℕ) (new : WorkerSeat) → TakesMore batch old held now
    → TakesInHand now t command new → new_batch ≡ held ++ t ∷ [] → TakesMore batch old new_batch new
takes_more batch old held now t command new_batch new is took e = record {
  serves = serves_on batch old held now new_batch new is.serves (serves_more held now t command new_batch new took e);
  taken = is.taken ++ t ∷ [];
  batch_is = e ∙ ap (λ l. l ++ t ∷ []) is.batch_is ∙ append_assoc batch is.taken (t ∷ []);
  ran = ap (λ (s : WorkerSeat). s.ran) took.taken ∙ is.ran;
}

-- a batch that ended, and then some commands
pub always : (r : Result (Unit {0}) WorkFault) (P : Type 0) → P → OnOk r P
always (Ok u) P p = p
always (Err why) P p = tt

pub exchanged : (n : ℕ) (batch : List ℕ) (old : WorkerSeat) (left : List ℕ) (now : WorkerSeat) (taken new_batch : List ℕ) (new : WorkerSeat) → EndsBatch n batch old left now → new_batch ≡ left ++ taken
    → new.ran ≡ now.ran → Exchanges n batch old new_batch new
exchanged n batch old left now taken new_batch new ends e same =
    record { taken = taken; batch_is = e ∙ ap (λ l. l ++ taken) ends.rest; counted = ap length same ∙ ends.counted }

is_empty : (batch : List ℕ) → length batch ≡ 0 → batch ≡ []
is_empty [] e = refl
is_empty (t ∷ ts) e = absurd (omega (arith, e))

-- what a pass makes of the reason for which it has no command, while it has none in hand
pub refused_pass : (why : NoNext) (batch : List ℕ) → length batch ≡ 0 → IfErr (pass_end why) (λ fault. IsServeFault fault batch)
refused_pass NoTag batch e = tt
refused_pass (Tried none.Nothing) batch e = tt
refused_pass (Tried none.Ended) batch e = tt
refused_pass (Tried (none.Issue issue.NoQueue)) batch e = tt
refused_pass (Tried (none.Issue issue.TagRange)) batch e = tt
refused_pass (Tried (none.Issue issue.SlotUsed)) batch e = tt
refused_pass (Tried (none.Issue issue.TraceFull)) batch e = inr (refl, is_empty batch e)
refused_pass (Tried (none.Issue issue.Memory)) batch e = inl refl
refused_pass (Tried (none.Tick (tick.InFlight n))) batch e = tt
refused_pass (Tried (none.Tick tick.TraceFull)) batch e = inr (refl, is_empty batch e)
refused_pass (Tried (none.Tick tick.Memory)) batch e = inl refl
