-- What counts say of the bios and the commands that are counted.
use Rattle.std.proofs.Common.{◌==◌, ◌&&◌, ◌≡◌, ◌∙◌, ◌<◌, ◌≢◌, Bool, true, false, ℕ, sym, ap, refl, subst, arith, inl, List, ◌++◌, Option, Some, None, length, take, drop, count_by, IsPermutation, append_assoc, Contains}
use Rattle.std.specs.Prelude.{IfNone, IfSome, OnOk, Result, Ok, Err}
use Rattle.std.proofs.lemmas.Bool.{eqb-true, eq-eqb}
use Rattle.std.proofs.lemmas.List.{take-append-le, take_all}
use Rattle.std.proofs.lemmas.List.Sorted.{IsPermutation-refl, IsPermutation-sym, IsPermutation-trans, IsPermutation-append, IsPermutation-append_comm}
use Rattle.edd_commands.specs.declared.Command.{Command}
use Rattle.blk_bio.specs.Bios.{Bio}
use Rattle.blk_bio.specs.contracts.bio.BioPartialEq.TheImpl as equality
use Rattle.blk_bio.specs.declared.bio.Dir.{Dir}
use Rattle.blk_bio.specs.declared.bio.Dir.TheVariants.{Read, Write}
use Rattle.blk_trace.specs.Happened.{Happened}
use Rattle.blk_trace.specs.Setups.{Setup}
use Rattle.blk_trace.specs.Events.{entered}
use Rattle.blk_trace.specs.Laws.{IsAccounted}
use Rattle.blk_trace.specs.Meaning.{waiting_of}
use Rattle.blk_layer.specs.Closing.{way_number, is_bio_of, is_command, issued_bios, done_commands, all_accepted, all_ran, AreAllThere, AreSettled, AreCounted, IsBioOf, DiffersAsCommand, Disagrees}
use Rattle.blk_layer.specs.Inside.Closing.{IsExact, times, HasEach}
use Rattle.blk_bio.specs.declared.bio.BioId.{BioId}
use Rattle.blk_layer.specs.Seats.{SubmitterSeat, WorkerSeat}
use Rattle.blk_layer.proofs.Same.{no_rest, each_as_many, count_moved}
use Rattle.blk_layer.proofs.Completed.{done_is}

way_is : (x y : Dir) → way_number x ≡ way_number y → x ≡ y
way_is Read Read e = refl
way_is Read Write e = absurd (omega (arith, e))
way_is Write Read e = absurd (omega (arith, e))
way_is Write Write e = refl

-- both parts of a test
both : (a b : Bool) → (a && b) ≡ true → (a ≡ true) × (b ≡ true)
both true b e = (refl, e)
both false b e = let n : false ≡ true = e in absurd (cc)

eqb_self : (n : ℕ) → (n == n) ≡ true
eqb_self n = eq-eqb n n refl

-- the test of two bios holds just of one and the same, and that of two commands
bio_is : (x y : Bio) → is_bio_of x y ≡ true → x ≡ y
bio_is x y e =
    let a = both ((x.id.submitter == y.id.submitter) && (x.id.serial == y.id.serial)) ((way_number x.dir == way_number y.dir) && ((x.first == y.first) && (x.sectors == y.sectors))) e in
    let b = both (x.id.submitter == y.id.submitter) (x.id.serial == y.id.serial) a.0 in
    let c = both (way_number x.dir == way_number y.dir) ((x.first == y.first) && (x.sectors == y.sectors)) a.1 in
    let d = both (x.first == y.first) (x.sectors == y.sectors) c.1 in
    let o : x.id.submitter ≡ y.id.submitter = eqb-true x.id.submitter y.id.submitter b.0 in
    let n : x.id.serial ≡ y.id.serial = eqb-true x.id.serial y.id.serial b.1 in
    let w : x.dir ≡ y.dir = way_is x.dir y.dir (eqb-true (way_number x.dir) (way_number y.dir) c.0) in
    let f : x.first ≡ y.first = eqb-true x.first y.first d.0 in
    let t : x.sectors ≡ y.sectors = eqb-true x.sectors y.sectors d.1 in
    λ i. record { id = record { submitter = o i; serial = n i }; dir = w i; first = f i; sectors = t i }

bio_exact : IsExact is_bio_of
bio_exact = record {
  only = bio_is;
  self = λ x. rw (eqb_self x.id.submitter, eqb_self x.id.serial, eqb_self (way_number x.dir), eqb_self x.first, eqb_self x.sectors) refl;
}

-- what `==` computes of two bios is that test
abbrev pub bio_equal : Bio → Bio → Bool
bio_equal = (equality.ghosts).eq

by_parts : (i j : BioId) (v w : Dir) (f g s t : ℕ) → bio_equal (record { id = i; dir = v; first = f; sectors = s }) (record { id = j; dir = w; first = g; sectors = t })
    ≡ is_bio_of (record { id = i; dir = v; first = f; sectors = s }) (record { id = j; dir = w; first = g; sectors = t })
by_parts i j Read Read f g s t = refl
by_parts i j Read Write f g s t = refl
by_parts i j Write Read f g s t = refl
by_parts i j Write Write f g s t = refl

bio_like : bio_equal ≡ is_bio_of
bio_like = λ k x y. by_parts x.id y.id x.dir y.dir x.first y.first x.sectors y.sectors k

pub equal_exact : IsExact bio_equal
equal_exact = subst (λ (same : Bio → Bio → Bool). IsExact same) (sym bio_like) bio_exact

command_is : (x y : Command) → is_command x y ≡ true → x ≡ y
command_is x y e =
    let a = both (x.id == y.id) ((x.release == y.release) && (x.due == y.due)) e in
    let b = both (x.release == y.release) (x.due == y.due) a.1 in
    let n : x.id ≡ y.id = eqb-true x.id y.id a.0 in
    let f : x.release ≡ y.release = eqb-true x.release y.release b.0 in
    let t : x.due ≡ y.due = eqb-true x.due y.due b.1 in
    λ i. record { id = n i; release = f i; due = t i }

pub command_exact : IsExact is_command
command_exact = record { only = command_is; self = λ x. rw (eqb_self x.id, eqb_self x.release, eqb_self x.due) refl }

module _ {X : Type 0} (same : X → X → Bool) where
  -- what stands more times in the one of two lists than in the other, in those that they were made of too
  pub moved_more : (xs ys xs' ys' : List X) (x : X) → IsPermutation xs xs' → IsPermutation ys ys' → times same x ys' < times same x xs' → count_by (same x) ys < count_by (same x) xs
  unfolding times
  moved_more xs ys xs' ys' x p q more = omega (arith, count_moved (same x) xs xs' p, count_moved (same x) ys ys' q, more)

  -- lists that have each element at least as many times as the other, and lists of one length of which the one does
  pub agree : IsExact same → (xs ys : List X) → HasEach same ys xs → HasEach same xs ys → IsPermutation xs ys
  unfolding times
  agree exact xs ys le ge = each_as_many same exact.only exact.self xs ys le ge

  pub agree_long : IsExact same → (xs ys : List X) → HasEach same ys xs → length ys ≡ length xs → IsPermutation ys xs
  unfolding times
  agree_long exact xs ys le as_many = IsPermutation-sym xs ys (no_rest same exact.only exact.self xs ys le (omega (arith, as_many)))

pub bio_more : (xs ys xs' ys' : List Bio) (x : Bio) → IsPermutation xs xs' → IsPermutation ys ys' → times bio_equal x ys' < times bio_equal x xs' → count_by (is_bio_of x) ys < count_by (is_bio_of x) xs
bio_more xs ys xs' ys' x p q more = subst (λ (same : Bio → Bio → Bool). count_by (same x) ys < count_by (same x) xs) bio_like (moved_more bio_equal xs ys xs' ys' x p q more)

-- lists of which permutations agree
pub moved_both : {X : Type 0} (xs ys xs' ys' : List X) → IsPermutation xs xs' → IsPermutation ys ys' → IsPermutation xs' ys' → IsPermutation xs ys
moved_both xs ys xs' ys' p q same = IsPermutation-trans xs xs' ys p (IsPermutation-trans xs' ys' ys same (IsPermutation-sym ys ys' q))

-- the bios that entered and those of the queues are those that were issued and those left
pub stored_is : (es : List Happened) (queued : List Bio) → IsAccounted es → IsPermutation (entered es ++ queued) (issued_bios es ++ (queued ++ waiting_of es))
unfolding issued_bios
stored_is es queued accounted =
    let issued : List Bio = issued_bios es in
    let waiting : List Bio = waiting_of es in
    let out : IsPermutation (entered es ++ queued) ((issued ++ waiting) ++ queued) = IsPermutation-append (entered es) (issued ++ waiting) queued queued (IsPermutation-sym (issued ++ waiting) (entered es) accounted) (IsPermutation-refl queued) in
    let turned : IsPermutation (issued ++ (waiting ++ queued)) (issued ++ (queued ++ waiting)) = IsPermutation-append issued issued (waiting ++ queued) (queued ++ waiting) (IsPermutation-refl issued) (IsPermutation-append_comm waiting queued) in
    IsPermutation-trans (entered es ++ queued) ((issued ++ waiting) ++ queued) (issued ++ (queued ++ waiting)) out (subst (λ l. IsPermutation l (issued ++ (queued ++ waiting))) (sym (append_assoc issued waiting queued)) turned)

pub settled_bios : (es : List Happened) (queued accepted : List Bio) → IsAccounted es → IsPermutation accepted (entered es ++ queued) → IsPermutation accepted (issued_bios es ++ (queued ++ waiting_of es))
settled_bios es queued accepted accounted same = IsPermutation-trans accepted (entered es ++ queued) (issued_bios es ++ (queued ++ waiting_of es)) same (stored_is es queued accounted)

pub differing_bios : (es : List Happened) (queued accepted : List Bio) (b : Bio) → IsAccounted es → count_by (is_bio_of b) accepted ≢ count_by (is_bio_of b) (entered es ++ queued) → count_by (is_bio_of b) accepted ≢ count_by (is_bio_of b) (issued_bios es ++ (queued ++ waiting_of es))
differing_bios es queued accepted b accounted other same = other (same ∙ count_moved (is_bio_of b) (entered es ++ queued) (issued_bios es ++ (queued ++ waiting_of es)) (stored_is es queued accounted))

-- a command that is done and stands another number of times in the accounts
pub differs_as : (setup : Setup) (es : List Happened) (workers : List WorkerSeat) (c : Command) (done ran : List Command) (id : BioId) → done ≡ done_commands setup es → ran ≡ all_ran workers
    → Contains done c × (count_by (is_command c) ran ≢ count_by (is_command c) done) → IsBioOf es c.id id → DiffersAsCommand setup es workers id
differs_as setup es workers c done ran id d r found its =
    let is = done_is setup es c (subst (λ (l : List Command). Contains l c) d found.0) in
    record {
      command = c.id;
      is_its = its;
      counted = subst (λ (x : Command). count_by (is_command x) (all_ran workers) ≢ count_by (is_command x) (done_commands setup es)) is
          (subst (λ (l : List Command). count_by (is_command c) l ≢ count_by (is_command c) (done_commands setup es)) r
          (subst (λ (l : List Command). count_by (is_command c) ran ≢ count_by (is_command c) l) d found.1));
    }

-- a value that is there or not
pub none_of : {X : Type 0} (o : Option X) (Q : Type 0) → o ≡ None → IfNone o Q → Q
none_of None Q e h = h
none_of (Some x) Q e h = absurd (cc)

pub some_of : {X : Type 0} (o : Option X) (P : X → Type 0) (x : X) → o ≡ Some x → IfSome o P → P x
some_of None P x e h = absurd (cc)
some_of (Some y) P x e h =
    let is : y ≡ x = cc in
    subst P is h

-- what is said of a value that is there
pub some_map : {X : Type 0} (o : Option X) (P Q : X → Type 0) → ((x : X) → P x → Q x) → IfSome o P → IfSome o Q
some_map None P Q on h = h
some_map (Some x) P Q on h = on x h

pub none_map : {X : Type 0} (o : Option X) (A B : Type 0) → (A → B) → IfNone o A → IfNone o B
none_map None A B on h = on h
none_map (Some x) A B on h = h

-- what the accounts say of the bios and of the commands, as the layer's
pub disagree_bio : (setup : Setup) (es : List Happened) (queued left accepted stored : List Bio) (submitters : List SubmitterSeat) (workers : List WorkerSeat) (id : BioId) → IsAccounted es
    → left ≡ queued ++ waiting_of es → accepted ≡ all_accepted submitters → stored ≡ entered es ++ queued
    → ((bio : Bio) × (bio.id ≡ id) × (count_by (is_bio_of bio) accepted ≢ count_by (is_bio_of bio) stored)) → Disagrees setup es left submitters workers id
disagree_bio setup es queued left accepted stored submitters workers id accounted left_is accepted_is stored_is' found =
    let b : Bio = found.0 in
    let count : List Bio → ℕ = count_by (is_bio_of b) in
    let other : count (all_accepted submitters) ≢ count (entered es ++ queued) = λ same. found.2 (ap count accepted_is ∙ same ∙ sym (ap count stored_is')) in
    let told = differing_bios es queued (all_accepted submitters) b accounted other in
    inl (record { bio = b; named = found.1; counted = λ same. told (same ∙ ap (λ l. count (issued_bios es ++ l)) left_is) })

pub agree_all : (setup : Setup) (es : List Happened) (queued left accepted stored : List Bio) (submitters : List SubmitterSeat) (workers : List WorkerSeat) → IsAccounted es
    → left ≡ queued ++ waiting_of es → accepted ≡ all_accepted submitters → stored ≡ entered es ++ queued → IsPermutation accepted stored → IsPermutation (all_ran workers) (done_commands setup es) → AreSettled setup es left submitters workers
agree_all setup es queued left accepted stored submitters workers accounted left_is accepted_is stored_is' same commands =
    let there : IsPermutation (all_accepted submitters) stored = subst (λ l. IsPermutation l stored) accepted_is same in
    let here : IsPermutation (all_accepted submitters) (entered es ++ queued) = subst (IsPermutation (all_accepted submitters)) stored_is' there in
    record {
      bios = subst (λ l. IsPermutation (all_accepted submitters) (issued_bios es ++ l)) (sym left_is) (settled_bios es queued (all_accepted submitters) accounted here);
      commands = commands;
    }

-- the same of equal setups, events and seats
pub same_settled : (s t : Setup) (es fs : List Happened) (left : List Bio) (a b : List SubmitterSeat) (v w : List WorkerSeat) → t ≡ s → fs ≡ es → a ≡ b → v ≡ w → AreSettled s es left a v → AreSettled t fs left b w
same_settled s t es fs left a b v w setup events submitters workers h =
    subst (λ (x : Setup). AreSettled x fs left b w) (sym setup) (subst (λ (l : List Happened). AreSettled s l left b w) (sym events) (subst (λ (l : List SubmitterSeat). AreSettled s es left l w) submitters (subst (AreSettled s es left a) workers h)))

pub same_counted : (es fs : List Happened) (left : List Bio) (v w : List WorkerSeat) → fs ≡ es → v ≡ w → AreCounted es left v → AreCounted fs left w
same_counted es fs left v w events workers h = subst (λ (l : List Happened). AreCounted l left w) (sym events) (subst (AreCounted es left) workers h)

pub same_disagrees : (s t : Setup) (es fs : List Happened) (left : List Bio) (a b : List SubmitterSeat) (v w : List WorkerSeat) (id : BioId) → t ≡ s → fs ≡ es → a ≡ b → v ≡ w → Disagrees s es left a v id → Disagrees t fs left b w id
same_disagrees s t es fs left a b v w id setup events submitters workers h =
    subst (λ (x : Setup). Disagrees x fs left b w id) (sym setup) (subst (λ (l : List Happened). Disagrees s l left b w id) (sym events) (subst (λ (l : List SubmitterSeat). Disagrees s es left l w id) submitters (subst (λ (l : List WorkerSeat). Disagrees s es left a l id) workers h)))

pub same_there : (m : List ℕ) (n : ℕ) (a b : List SubmitterSeat) (v w : List WorkerSeat) → a ≡ b → v ≡ w → AreAllThere m n a v → AreAllThere m n b w
same_there m n a b v w submitters workers h = subst (λ (l : List SubmitterSeat). AreAllThere m n l w) submitters (subst (AreAllThere m n a) workers h)

-- what holds anyhow holds of a value too
pub on_ok : {X E : Type 0} (r : Result X E) (P : Type 0) → P → OnOk r P
on_ok (Ok x) P h = h
on_ok (Err e) P h = tt

-- a list that was lent whole and came back as it was
pub written_back : {X : Type 0} (n : ℕ) (xs new : List X) → new ≡ xs → length new ≡ n → take n (new ++ drop (length new) xs) ≡ xs
written_back n xs new same long = take-append-le n new (drop (length new) xs) (omega (arith, long)) ∙ take_all n new (omega (arith, long)) ∙ same
