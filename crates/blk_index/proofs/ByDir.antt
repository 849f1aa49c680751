-- Requests of both directions as one map.
use Rattle.std.specs.Prelude.{ℕ, ◌≡◌, ◌≤◌, ◌+◌, ◌-◌, ◌++◌, ◌⊎◌, IfSome, IfNone, IsSome, OnOk, OnErr, Result, Ok, Err, Bool, true, false, cond, List, [], Option, None, Some, is_some, refl}
use native.Mathlib.Omega.{arith}
use mir.Val.{bool_byte}
use mathlib.Core.Path.{sym, ap, subst, ◌∙◌}
use mathlib.Core.Logic.{inl, inr}
use Rattle.std.specs.Ordering.{nat_cmp}
use Rattle.std.specs.Option.{option_or}
use Rattle.std.specs.Cmp.{nat_cmp_total, unsigned_tied}
use Rattle.std.proofs.lemmas.Bool.{eq-eqb}
use Rattle.std.specs.BTreeMap.{is_at}
use Rattle.std.specs.FinMap as map
use Rattle.blk_bio.specs.declared.bio.Dir.{Dir}
use Rattle.blk_bio.specs.declared.bio.Dir.TheVariants.{Read, Write}
use Rattle.blk_bio.specs.declared.request.Side.{Side}
use Rattle.blk_bio.specs.declared.request.Side.TheVariants.{Back, Front}
use Rattle.blk_bio.specs.Extents.{Extent}
use Rattle.blk_sched.specs.Meaning.{Waiting, Pending, joined_waiting}
use Rattle.blk_sched.proofs.Maps.{get_waiting, one_given, one_taken, put_back, same_number}
use Rattle.blk_index.specs.Index.{IsJoined, IsOldest, NoneOf}
use Rattle.blk_index.specs.Inside.Spots.{Becomes}
use Rattle.blk_index.specs.Inside.Lanes.{entries_of, found_in, at_id, IsLeastOrNone, IsRun}
use Rattle.blk_index.specs.Inside.Requests.{both, AreApart, AreRequests}
use Rattle.blk_index.specs.declared.lane.Lane.{Lane}
use Rattle.blk_index.proofs.Lanes.{joined, both_taken, first_given, then_given, none_taken as nothing_taken}

none_in : (o p : Option Waiting) → option_or o p ≡ None → (o ≡ None) × (p ≡ None)
none_in (Some w) p h = absurd (cc)
none_in None p h = (refl, h)

by_first : (o p : Option Waiting) (w : Waiting) → option_or o p ≡ Some w → (o ≡ Some w) ⊎ (p ≡ Some w)
by_first (Some v) p w h = inl h
by_first None p w h = inr h

apart_too : (o p : Option Waiting) (w : Waiting) → ((v : Waiting) → o ≡ Some v → p ≡ None) → p ≡ Some w → o ≡ None
apart_too (Some v) p w h there = absurd (let x : p ≡ None = h v refl in cc)
apart_too None p w h there = refl

of_set : (b : Bool) (x v : Waiting) (o : Option Waiting) (P : Waiting → Type 0) → (b ≡ true → P x) → (o ≡ Some v → P v) → cond b (Some x) o ≡ Some v → P v
of_set true x v o P here other h = subst P (let e : x ≡ v = cc in e) (here refl)
of_set false x v o P here other h = other h

apart_of_set : (b : Bool) (x v : Waiting) (o p : Option Waiting) → (b ≡ true → p ≡ None) → (o ≡ Some v → p ≡ None) → cond b (Some x) o ≡ Some v → p ≡ None
apart_of_set true x v o p here other h = here refl
apart_of_set false x v o p here other h = other h

of_taken : (b : Bool) (v : Waiting) (o : Option Waiting) (P : Type 0) → (o ≡ Some v → P) → cond b None o ≡ Some v → P
of_taken true v o P h there = absurd (let x : ◌≡◌ {A = Option Waiting} None (Some v) = there in cc)
of_taken false v o P h there = h there

none_taken : (b : Bool) (o : Option Waiting) → o ≡ None → cond b None o ≡ None
none_taken true o h = refl
none_taken false o h = h

-- a newcomer leaves a request's direction
pub same_dir : (side : Side) (now : ℕ) (newcomer : Extent) (w : Waiting) → (joined_waiting side now newcomer w).extent.dir ≡ w.extent.dir
same_dir Back now newcomer w = refl
same_dir Front now newcomer w = refl

-- how many there are once one more came, one is changed, or one went
pub one_more : (m : Pending) (id : ℕ) (x : Waiting) → map.get m id ≡ None → map.len (map.insert m id x) ≡ map.len m + 1
one_more m id x h = map.len-insert nat_cmp_total m id x ∙ ap (λ o. cond (is_some o) (map.len m) (map.len m + 1)) h

pub as_many : (m : Pending) (id : ℕ) (v x : Waiting) → map.get m id ≡ Some v → map.len (map.insert m id x) ≡ map.len m
as_many m id v x h = map.len-insert nat_cmp_total m id x ∙ ap (λ o. cond (is_some o) (map.len m) (map.len m + 1)) h

pub fewer : (m : Pending) (id : ℕ) (o : Option Waiting) → map.get m id ≡ o → map.len (map.remove m id) + cond (is_some o) 1 0 ≡ map.len m
fewer m id None h = let e = map.len-remove nat_cmp_total m id ∙ ap (λ x. cond (is_some x) (map.len m - 1) (map.len m)) h in omega (arith, e)
fewer m id (Some w) h =
    let none : map.get (map.remove m id) id ≡ None = map.get-remove nat_cmp_total m id id ∙ ap (λ b. cond b None (map.get m id)) (unsigned_tied id id ∙ eq-eqb id id refl) in
    sym (one_more (map.remove m id) id w none) ∙ ap map.len (put_back m id w) ∙ as_many m id w w h

byte_is : (b : Bool) → bool_byte b ≡ cond b 1 0
byte_is true = refl
byte_is false = refl

module _ {A : Type 0} where
  -- what is found in both
  pub found : (these those : Lane A) (q : ℕ) → map.get (both these those) q ≡ option_or (found_in these q) (found_in those q)
  found these those q = get_waiting (entries_of these ++ entries_of those) q ∙ joined (entries_of these) (entries_of those) q

  pub in_one : (these those : Lane A) (q : ℕ) (w : Waiting) → map.get (both these those) q ≡ Some w → (found_in these q ≡ Some w) ⊎ (found_in those q ≡ Some w)
  in_one these those q w h = by_first (found_in these q) (found_in those q) w (sym (found these those q) ∙ h)

  pub in_other : (these those : Lane A) (q : ℕ) (w : Waiting) → map.get (both these those) q ≡ Some w → (found_in those q ≡ Some w) ⊎ (found_in these q ≡ Some w)
  in_other these those q w h = elim (in_one these those q w h) [ inl a ↦ inr a | inr b ↦ inl b ]

  pub found_here : (these those : Lane A) (q : ℕ) (w : Waiting) → found_in these q ≡ Some w → map.get (both these those) q ≡ Some w
  found_here these those q w at = found these those q ∙ ap (λ o. option_or o (found_in those q)) at

  pub found_there : (dir other : Dir) (these those : Lane A) → AreApart dir other these those → (q : ℕ) (w : Waiting) → found_in those q ≡ Some w → map.get (both these those) q ≡ Some w
  found_there dir other these those are q w at = found these those q ∙ ap (λ o. option_or o (found_in those q)) (apart_too (found_in these q) (found_in those q) w (are.apart q) at) ∙ at

  -- each has its id
  pub named : (dir other : Dir) (these those : Lane A) → AreApart dir other these those → (k : ℕ) (w : Waiting) → map.get (both these those) k ≡ Some w → w.id ≡ k
  named dir other these those are k w h = elim (in_one these those k w h) [ inl a ↦ (are.are_of k w a).0 | inr b ↦ (are.are_of_other k w b).0 ]

  pub absent : (these those : Lane A) (q : ℕ) → map.get (both these those) q ≡ None → (found_in these q ≡ None) × (found_in those q ≡ None)
  absent these those q h = none_in (found_in these q) (found_in those q) (sym (found these those q) ∙ h)

  pub turned : (dir other : Dir) (these those : Lane A) → AreApart dir other these those → AreApart other dir those these
  turned dir other these those are = record {
    are_of = are.are_of_other;
    are_of_other = are.are_of;
    apart = λ id w there. apart_too (found_in these id) (found_in those id) w (are.apart id) there;
    run = are.other_run;
    other_run = are.run;
  }

  -- one of them is set: here it waits, or it waits nowhere
  pub set_is : (these those new : Lane A) (id : ℕ) (x : Waiting) → Becomes (found_in these) id (Some x) (found_in new) → both new those ≡ map.insert (both these those) id x
  set_is these those new id x step = one_given (entries_of these ++ entries_of those) (entries_of new ++ entries_of those) id x (first_given (entries_of these) (entries_of new) (entries_of those) id x step)

  pub set_there : (these those new : Lane A) (id : ℕ) (x : Waiting) → found_in these id ≡ None → Becomes (found_in those) id (Some x) (found_in new) → both these new ≡ map.insert (both these those) id x
  set_there these those new id x none step = one_given (entries_of these ++ entries_of those) (entries_of these ++ entries_of new) id x (then_given (entries_of these) (entries_of those) (entries_of new) id x none step)

  pub set_apart : (dir other : Dir) (these those new : Lane A) (id : ℕ) (x : Waiting) → AreApart dir other these those → Becomes (found_in these) id (Some x) (found_in new) → (IsRun these → IsRun new) → x.id ≡ id → x.extent.dir ≡ dir → found_in those id ≡ None → AreApart dir other new those
  set_apart dir other these those new id x are step run x_id x_dir none = record {
    are_of = λ k v there. of_set (is_at (nat_cmp id) k) x v (found_in these k) (λ (y : Waiting). (y.id ≡ k) × (y.extent.dir ≡ dir)) (λ here. (x_id ∙ sym (same_number id k here), x_dir)) (are.are_of k v) (sym (step k) ∙ there);
    are_of_other = are.are_of_other;
    apart = λ k v there. apart_of_set (is_at (nat_cmp id) k) x v (found_in these k) (found_in those k) (λ here. subst (λ n. found_in those n ≡ None) (sym (same_number id k here)) none) (are.apart k v) (sym (step k) ∙ there);
    run = run are.run;
    other_run = are.other_run;
  }

  -- one went
  pub taken_is : (these those new gone : Lane A) (id : ℕ) → Becomes (found_in these) id None (found_in new) → Becomes (found_in those) id None (found_in gone) → both new gone ≡ map.remove (both these those) id
  taken_is these those new gone id step other = one_taken (entries_of these ++ entries_of those) (entries_of new ++ entries_of gone) id (both_taken (entries_of these) (entries_of new) (entries_of those) (entries_of gone) id step other)

  pub taken_apart : (dir other : Dir) (these those new gone : Lane A) (id : ℕ) → AreApart dir other these those → Becomes (found_in these) id None (found_in new) → Becomes (found_in those) id None (found_in gone) → (IsRun these → IsRun new) → (IsRun those → IsRun gone) → AreApart dir other new gone
  taken_apart dir other these those new gone id are step step_other run other_run = record {
    are_of = λ k v there. of_taken (is_at (nat_cmp id) k) v (found_in these k) ((v.id ≡ k) × (v.extent.dir ≡ dir)) (are.are_of k v) (sym (step k) ∙ there);
    are_of_other = λ k v there. of_taken (is_at (nat_cmp id) k) v (found_in those k) ((v.id ≡ k) × (v.extent.dir ≡ other)) (are.are_of_other k v) (sym (step_other k) ∙ there);
    apart = λ k v there. step_other k ∙ none_taken (is_at (nat_cmp id) k) (found_in those k) (of_taken (is_at (nat_cmp id) k) v (found_in these k) (found_in those k ≡ None) (are.apart k v) (sym (step k) ∙ there));
    run = run are.run;
    other_run = other_run are.other_run;
  }

  -- one that was refused
  pub same_apart : (dir other : Dir) (these those new : Lane A) → AreApart dir other these those → entries_of new ≡ entries_of these → (IsRun these → IsRun new) → AreApart dir other new those
  same_apart dir other these those new are same run = record {
    are_of = λ k v there. are.are_of k v (ap (λ es. at_id es k) (sym same) ∙ there);
    are_of_other = are.are_of_other;
    apart = λ k v there. are.apart k v (ap (λ es. at_id es k) (sym same) ∙ there);
    run = run are.run;
    other_run = are.other_run;
  }

  -- one more, or as before where it is refused
  pub entered_apart : {E : Type 0} (r : Result (Unit {0}) E) (dir other : Dir) (these those new : Lane A) (x : Waiting) → x.extent.dir ≡ dir → found_in those x.id ≡ None → OnOk r (Becomes (found_in these) x.id (Some x) (found_in new)) → OnErr r (entries_of new ≡ entries_of these) → (IsRun these → IsRun new) → AreApart dir other these those → AreApart dir other new those
  entered_apart (Ok u) dir other these those new x x_dir none step same run are = set_apart dir other these those new x.id x are step run refl x_dir none
  entered_apart (Err e) dir other these those new x x_dir none step same run are = same_apart dir other these those new are same run

  -- the least id of a direction
  module _ (dir other : Dir) (these those : Lane A) (all : Pending) (are : AreApart dir other these those) (differ : dir ≡ other → ⊥) (only : (k : ℕ) (w : Waiting) → map.get all k ≡ Some w → (found_in these k ≡ Some w) ⊎ (found_in those k ≡ Some w)) where
    pub oldest_is : (result : Option ℕ) → ((k : ℕ) (w : Waiting) → found_in these k ≡ Some w → map.get all k ≡ Some w) → IsLeastOrNone (found_in these) result → IfSome result (IsOldest dir (map.get all))
    oldest_is None there least = tt
    oldest_is (Some id) there least = by_there (found_in these id) refl least.there
      where
        by_there : (o : Option Waiting) → found_in these id ≡ o → IsSome o → IsOldest dir (map.get all) id
        by_there None at some = absurd (cc)
        by_there (Some v) at some = record {
          waiting = v;
          is_found = there id v at;
          same_dir = (are.are_of id v at).1;
          least = λ k u lt foundk d. elim (only k u foundk) [
            | inl a ↦ (let x : ◌≡◌ {A = Option Waiting} None (Some u) = sym (least.least k lt) ∙ a in cc)
            | inr b ↦ differ (sym d ∙ (are.are_of_other k u b).1)
          ];
        }

    pub none_oldest : (result : Option ℕ) → IsLeastOrNone (found_in these) result → IfNone result (NoneOf dir (map.get all))
    none_oldest (Some id) least = tt
    none_oldest None least = λ k v foundk d. elim (only k v foundk) [
      | inl a ↦ (let x : ◌≡◌ {A = Option Waiting} None (Some v) = sym (least k) ∙ a in cc)
      | inr b ↦ differ (sym d ∙ (are.are_of_other k v b).1)
    ]

  -- nothing yet
  pub none_yet : (these those : Lane A) → entries_of these ≡ [] → entries_of those ≡ [] → IsRun these → IsRun those → AreRequests these those 0
  none_yet these those none none_there run other_run = record {
    apart = record {
      are_of = λ id w there. absurd (let x : ◌≡◌ {A = Option Waiting} None (Some w) = ap (λ es. at_id es id) (sym none) ∙ there in cc);
      are_of_other = λ id w there. absurd (let x : ◌≡◌ {A = Option Waiting} None (Some w) = ap (λ es. at_id es id) (sym none_there) ∙ there in cc);
      apart = λ id w there. absurd (let x : ◌≡◌ {A = Option Waiting} None (Some w) = ap (λ es. at_id es id) (sym none) ∙ there in cc);
      run = run;
      other_run = other_run;
    };
    counted = sym (ap (λ (m : Pending). map.len m) (none_both these those none none_there) ∙ map.len-empty nat_cmp Waiting);
  }
    where
      none_both : (these those : Lane A) → entries_of these ≡ [] → entries_of those ≡ [] → both these those ≡ map.empty
      none_both these those none none_there = ap (λ (es : List (ℕ × Waiting)). map.from_entries (es ++ entries_of those)) none ∙ ap (λ (es : List (ℕ × Waiting)). map.from_entries es) none_there

  pub found_taken : (these those : Lane A) (id : ℕ) (o p q : Option Waiting) → o ≡ option_or p q → p ≡ found_in these id → q ≡ found_in those id → o ≡ map.get (both these those) id
  found_taken these those id o p q is one other = is ∙ ap (λ x. option_or x q) one ∙ ap (option_or (found_in these id)) other ∙ sym (found these those id)

  -- so many are left
  pub taken_count : (these those : Lane A) (count id : ℕ) (o : Option Waiting) (b : Bool) → count ≡ map.len (both these those) → o ≡ map.get (both these those) id → b ≡ is_some o → (bool_byte b ≤ count) × (count - bool_byte b ≡ map.len (map.remove (both these those) id))
  taken_count these those count id o b counted is some =
      let few = fewer (both these those) id o (sym is) in
      let one : bool_byte b ≡ cond (is_some o) 1 0 = ap bool_byte some ∙ byte_is (is_some o) in
      (omega (arith, few, one, counted), omega (arith, few, one, counted))

  pub taken_all : (these those new gone : Lane A) (count id : ℕ) (o : Option Waiting) (b : Bool) → AreRequests these those count → o ≡ map.get (both these those) id → b ≡ is_some o → Becomes (found_in these) id None (found_in new) → Becomes (found_in those) id None (found_in gone) → (IsRun these → IsRun new) → (IsRun those → IsRun gone) → AreRequests new gone (count - bool_byte b)
  taken_all these those new gone count id o b are is some step step_other run other_run = record {
    apart = taken_apart Read Write these those new gone id are.apart step step_other run other_run;
    counted = (taken_count these those count id o b are.counted is some).1 ∙ sym (ap (λ (m : Pending). map.len m) (taken_is these those new gone id step step_other));
  }

  -- nothing goes from those where it is one of these
  pub not_there : (these those : Lane A) (id : ℕ) (w : Waiting) → AreApart Read Write these those → found_in these id ≡ Some w → Becomes (found_in those) id None (found_in those)
  not_there these those id w are at = nothing_taken (entries_of those) id (are.apart id w at)

  -- one that is found is of its direction
  pub here_of : (these those : Lane A) → AreApart Read Write these those → (id : ℕ) (w : Waiting) → map.get (both these those) id ≡ Some w → w.extent.dir ≡ Read → found_in these id ≡ Some w
  here_of these those are id w h dir = elim (in_one these those id w h) [ inl a ↦ a | inr b ↦ absurd (let e : Read ≡ Write = sym dir ∙ (are.are_of_other id w b).1 in cc) ]

  pub there_of : (these those : Lane A) → AreApart Read Write these those → (id : ℕ) (w : Waiting) → map.get (both these those) id ≡ Some w → w.extent.dir ≡ Write → found_in those id ≡ Some w
  there_of these those are id w h dir = elim (in_one these those id w h) [ inl a ↦ absurd (let e : Write ≡ Read = sym dir ∙ (are.are_of id w a).1 in cc) | inr b ↦ b ]

  -- a request that a newcomer joined stays in its place
  module _ (reads writes : Lane A) (count id : ℕ) (w x : Waiting) (side : Side) (now : ℕ) (newcomer : Extent) (are : AreRequests reads writes count) (there : map.get (both reads writes) id ≡ Some w) (own : w.id ≡ id) (is : x ≡ joined_waiting side now newcomer w) where
    pub own_id : x.id ≡ id
    own_id = ap (λ (y : Waiting). y.id) is ∙ own

    pub own_dir : w.extent.dir ≡ x.extent.dir
    own_dir = sym (same_dir side now newcomer w) ∙ ap (λ (y : Waiting). y.extent.dir) (sym is)

    pub is_read : x.extent.dir ≡ Read → found_in reads x.id ≡ Some w
    is_read dir = ap (found_in reads) own_id ∙ here_of reads writes are.apart id w there (own_dir ∙ dir)

    pub is_written : x.extent.dir ≡ Write → found_in writes x.id ≡ Some w
    is_written dir = ap (found_in writes) own_id ∙ there_of reads writes are.apart id w there (own_dir ∙ dir)

    joined_is : map.insert (both reads writes) x.id x ≡ map.insert (both reads writes) id (joined_waiting side now newcomer w)
    joined_is = ap (λ (k : ℕ). map.insert (both reads writes) k x) own_id ∙ ap (λ (y : Waiting). map.insert (both reads writes) id y) is

    joined_count : (m : Pending) → m ≡ map.insert (both reads writes) x.id x → count ≡ map.len m
    joined_count m e = are.counted ∙ sym (ap (λ (n : Pending). map.len n) (e ∙ joined_is) ∙ as_many (both reads writes) id w (joined_waiting side now newcomer w) there)

    pub read_joined : (new : Lane A) → x.extent.dir ≡ Read → Becomes (found_in reads) x.id (Some x) (found_in new) → (IsRun reads → IsRun new) → AreRequests new writes count
    read_joined new dir step run = record {
      apart = set_apart Read Write reads writes new x.id x are.apart step run refl dir (are.apart.apart x.id w (is_read dir));
      counted = joined_count (both new writes) (set_is reads writes new x.id x step);
    }

    pub write_joined : (new : Lane A) → x.extent.dir ≡ Write → Becomes (found_in writes) x.id (Some x) (found_in new) → (IsRun writes → IsRun new) → AreRequests reads new count
    write_joined new dir step run =
        let other = turned Read Write reads writes are.apart in
        record {
          apart = turned Write Read new reads (set_apart Write Read writes reads new x.id x other step run refl dir (other.apart x.id w (is_written dir)));
          counted = joined_count (both reads new) (set_there reads writes new x.id x (other.apart x.id w (is_written dir)) step);
        }

    pub joins_read : (new : Lane A) → Becomes (found_in reads) x.id (Some x) (found_in new) → IsJoined now newcomer (both reads writes) id side (both new writes)
    joins_read new step = record { waiting = w; was = there; is = set_is reads writes new x.id x step ∙ joined_is }

    pub joins_write : (new : Lane A) → x.extent.dir ≡ Write → Becomes (found_in writes) x.id (Some x) (found_in new) → IsJoined now newcomer (both reads writes) id side (both reads new)
    joins_write new dir step = record {
      waiting = w;
      was = there;
      is = set_there reads writes new x.id x ((turned Read Write reads writes are.apart).apart x.id w (is_written dir)) step ∙ joined_is;
    }
