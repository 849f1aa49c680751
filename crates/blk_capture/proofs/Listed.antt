-- An inserted request in the index of requests.
use Rattle.std.proofs.Common.{◌≡◌, ℕ, Bool, true, false, cond, ap, refl, Ok, Err, Result}
use Rattle.std.specs.Result.{OnOk}
use Rattle.blk_capture.specs.Rules.{is_opened, is_inserted, is_in_flight}
use Rattle.blk_capture.specs.Inside.LookupKeys.{has, seat, whole_key, edge_key, PutsIf, TakesIf}
use Rattle.blk_capture.specs.Inside.Indexes.{OpenedWhole, OpenedFirst, OpenedEnd, OpenedStart, InsertedWhole, InsertedFirst, InsertedEnd, AtDevice, Lists, Unlists}
use Rattle.blk_capture.specs.declared.index.RequestIndex.{RequestIndex}
use Rattle.blk_capture.specs.declared.index.MergeIndex.{MergeIndex}
use Rattle.blk_capture.specs.declared.opened.Opened.{Opened}
use Rattle.blk_capture.specs.declared.opened.Stage.TheVariants as stage

not_there : (b x o : Bool) → b ≡ false → o ≡ cond b x o
not_there false x o e = refl
not_there true x o e = absurd (cc)

there : (b x y o : Bool) → b ≡ true → o ≡ x → o ≡ cond b x y
there true x y o e h = h
there false x y o e h = absurd (cc)

pub lists_inserted : {A : Type 0} (k : ℕ) (q : Opened) (old : RequestIndex A) (new : MergeIndex A) → q.stage ≡ stage.Inserted
    → PutsIf true (seat (whole_key q.left) q.age k) (has old.inserted.wholes) (has new.wholes)
    → PutsIf true (seat (edge_key q.left q.left.first 0) q.age k) (has old.inserted.firsts) (has new.firsts)
    → PutsIf true (seat (edge_key q.left q.left.end 0) q.age k) (has old.inserted.ends) (has new.ends)
    → Lists k q old (record old { inserted = new })
lists_inserted k q old new e w f n OpenedWhole s = not_there (is_opened q.stage) _ (has old.opened.wholes s) (ap is_opened e)
lists_inserted k q old new e w f n OpenedFirst s = not_there (is_opened q.stage) _ (has old.opened.firsts s) (ap is_opened e)
lists_inserted k q old new e w f n OpenedEnd s = not_there (is_opened q.stage) _ (has old.opened.ends s) (ap is_opened e)
lists_inserted k q old new e w f n OpenedStart s = not_there (is_opened q.stage) _ (has old.starts s) (ap is_opened e)
lists_inserted k q old new e w f n InsertedWhole s = there (is_inserted q.stage) _ _ (has new.wholes s) (ap is_inserted e) (w s)
lists_inserted k q old new e w f n InsertedFirst s = there (is_inserted q.stage) _ _ (has new.firsts s) (ap is_inserted e) (f s)
lists_inserted k q old new e w f n InsertedEnd s = there (is_inserted q.stage) _ _ (has new.ends s) (ap is_inserted e) (n s)
lists_inserted k q old new e w f n AtDevice s = not_there (is_in_flight q.stage) _ (has old.in_flight s) (ap is_in_flight e)

pub unlists_inserted : {A : Type 0} (k : ℕ) (q : Opened) (old : RequestIndex A) (new : MergeIndex A) → q.stage ≡ stage.Inserted
    → TakesIf true (seat (whole_key q.left) q.age k) (has old.inserted.wholes) (has new.wholes)
    → TakesIf true (seat (edge_key q.left q.left.first 0) q.age k) (has old.inserted.firsts) (has new.firsts)
    → TakesIf true (seat (edge_key q.left q.left.end 0) q.age k) (has old.inserted.ends) (has new.ends)
    → Unlists k q old (record old { inserted = new })
unlists_inserted k q old new e w f n OpenedWhole s = not_there (is_opened q.stage) _ (has old.opened.wholes s) (ap is_opened e)
unlists_inserted k q old new e w f n OpenedFirst s = not_there (is_opened q.stage) _ (has old.opened.firsts s) (ap is_opened e)
unlists_inserted k q old new e w f n OpenedEnd s = not_there (is_opened q.stage) _ (has old.opened.ends s) (ap is_opened e)
unlists_inserted k q old new e w f n OpenedStart s = not_there (is_opened q.stage) _ (has old.starts s) (ap is_opened e)
unlists_inserted k q old new e w f n InsertedWhole s = there (is_inserted q.stage) _ _ (has new.wholes s) (ap is_inserted e) (w s)
unlists_inserted k q old new e w f n InsertedFirst s = there (is_inserted q.stage) _ _ (has new.firsts s) (ap is_inserted e) (f s)
unlists_inserted k q old new e w f n InsertedEnd s = there (is_inserted q.stage) _ _ (has new.ends s) (ap is_inserted e) (n s)
unlists_inserted k q old new e w f n AtDevice s = not_there (is_in_flight q.stage) _ (has old.in_flight s) (ap is_in_flight e)

-- what follows from three facts of a call that went well
pub all_ok : {T E : Type 0} (r : Result T E) (P Q R S : Type 0) → (P → Q → R → S) → OnOk r P → OnOk r Q → OnOk r R → OnOk r S
all_ok (Ok x) P Q R S h p q r = h p q r
all_ok (Err e) P Q R S h p q r = tt
