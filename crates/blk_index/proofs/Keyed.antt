-- What a change of one request does to the order of a key.
use Rattle.std.proofs.Common.{◌≡◌, ◌&&◌, ℕ, Bool, true, false, sym, ap, subst, ◌∙◌, refl, Some, None, Option}
use Rattle.std.specs.Prelude.{Result, Ok, Err, OnOk, OnErr, cond}
use Rattle.std.specs.Option.{option_map}
use Rattle.std.specs.Ordering.{nat_cmp, ordering_then, eq_by_cmp, is_eq}
use Rattle.std.specs.BTreeMap.{is_at}
use Rattle.std.specs.Cmp.{IsTotalOrder, nat_cmp_total, on_total, then_total, tied_itself}
use Rattle.std.specs.FinMap as map
use Rattle.std.specs.declared.cmp.Ordering.{Ordering}
use Rattle.std.specs.declared.cmp.Ordering.TheVariants.{Less, Equal, Greater}
use Rattle.blk_bio.specs.declared.request.Side.{Side}
use Rattle.blk_bio.specs.Extents.{Extent}
use Rattle.blk_sched.specs.Meaning.{Waiting, Pending, joined_waiting}
use Rattle.blk_sched.proofs.Maps.{same_number}
use Rattle.ordered.specs.Ordered.{Adds, Takes, Keeps, is_key}
use Rattle.ordered.proofs.Indexes.{Gets, replaced, moved, stayed, kept, undone}
use Rattle.blk_index.specs.Index.{IsJoined}
use Rattle.blk_index.specs.Keys.{keyed_cmp, key_at, AreKeyed}
use Rattle.blk_index.specs.Inside.Spots.{Becomes}
use Rattle.blk_index.proofs.Indexed.{Found, becomes_given, becomes_taken, same_without}

-- two entries are one where their keys and their ids are
one_entry : (o r : Ordering) → is_eq (ordering_then o r) ≡ (is_eq o && is_eq r)
one_entry Less r = refl
one_entry Equal r = refl
one_entry Greater r = refl

second : (a b : Bool) → (a && b) ≡ true → b ≡ true
second true b h = h
second false b h = cc

both_true : (x : Bool) → (x && true) ≡ x
both_true true = refl
both_true false = refl

module _ {K : Type 0} (cmp : K → K → Ordering) where
  -- whether a request, if there is one, has a key
  abbrev pub has_key : (Waiting → K) → K → Option Waiting → Bool
  has_key key k None = false
  has_key key k (Some w) = eq_by_cmp cmp (key w) k

  -- entries of one id are one where their keys are
  same_id : (a p : K) (id : ℕ) → eq_by_cmp (keyed_cmp cmp) (a, id) (p, id) ≡ eq_by_cmp cmp a p
  same_id a p id = one_entry (cmp a p) (nat_cmp id id) ∙ ap (λ o. is_eq (cmp a p) && is_eq o) (tied_itself nat_cmp_total id) ∙ both_true (is_eq (cmp a p))

  of_key : (key : Waiting → K) (p : K) (id : ℕ) (x : Option Waiting) → is_key (keyed_cmp cmp) (option_map (λ w. (key w, id)) x) (p, id) ≡ has_key key p x
  of_key key p id None = refl
  of_key key p id (Some w) = same_id (key w) p id

  -- what stands under a key and an id
  pub keyed : (key : Waiting → K) (found : Found) (has : K × ℕ → Bool) → AreKeyed cmp key found has → (p : K) (id : ℕ) → has (p, id) ≡ has_key key p (found id)
  keyed key found has are p id = are (p, id) ∙ of_key key p id (found id)

module _ {K : Type 0} (cmp : K → K → Ordering) (total : IsTotalOrder cmp) (key : Waiting → K) where
  abbrev Has : Type 0
  Has = K × ℕ → Bool

  abbrev Is : Found → Has → Type 0
  Is = AreKeyed cmp key

  abbrev Entries : Found → ℕ → Option (K × ℕ)
  Entries = key_at key

  abbrev id_of : K × ℕ → ℕ
  id_of q = q.1

  whole : IsTotalOrder (keyed_cmp cmp)
  whole = then_total (on_total (λ (t : K × ℕ). t.0) total) (on_total (λ (t : K × ℕ). t.1) nat_cmp_total)

  one : (a b : K × ℕ) → eq_by_cmp (keyed_cmp cmp) a b ≡ true → a.1 ≡ b.1
  one a b h = sym (same_number a.1 b.1 (second (is_eq (cmp a.0 b.0)) (is_eq (nat_cmp a.1 b.1)) (sym (one_entry (cmp a.0 b.0) (nat_cmp a.1 b.1)) ∙ h)))

  gets : (old new : Found) (id : ℕ) (x : Option Waiting) → Becomes old id x new → Gets (Entries old) id (option_map (λ w. (key w, id)) x) (Entries new)
  gets old new id x becomes = (
    ap (option_map (λ w. (key w, id))) (becomes id ∙ ap (λ b. cond b x (old id)) (ap is_eq (tied_itself nat_cmp_total id))),
    λ k other. ap (option_map (λ w. (key w, k))) (becomes k ∙ elim (is_at (nat_cmp id) k) as (λ b. is_at (nat_cmp id) k ≡ b → cond b x (old k) ≡ old k) [
      | true ↦ λ e. absurd (other (same_number id k e))
      | false ↦ λ _. refl
    ] refl),
  )

  -- ---- the map of what waits

  pub no_keys : (m : Pending) (has : Has) → m ≡ map.empty → ((q : K × ℕ) → has q ≡ false) → Is (map.get m) has
  no_keys m has none empty q = empty q ∙ ap (λ o. is_key (keyed_cmp cmp) (option_map (λ w. (key w, q.1)) o) q) (sym (ap (λ (x : Pending). map.get x q.1) none ∙ map.get-empty nat_cmp q.1))

  module _ (m n : Pending) where
    same_keys : (has now : Has) → Is (map.get m) has → ((k : ℕ) → map.get n k ≡ map.get m k) → Keeps has now → Is (map.get n) now
    same_keys has now are same keeps = kept (keyed_cmp cmp) whole id_of one (Entries (map.get m)) (Entries (map.get n)) has now are (λ k. ap (option_map (λ w. (key w, k))) (same k)) keeps

    pub kept_key : (has now : Has) → Is (map.get m) has → n ≡ m → Keeps has now → Is (map.get n) now
    kept_key has now are same keeps = same_keys has now are (λ k. ap (λ (x : Pending). map.get x k) same) keeps

    pub entered_key : (w : Waiting) (a : K) (has now : Has) → Is (map.get m) has → map.get m w.id ≡ None → a ≡ key w → Adds (keyed_cmp cmp) has (a, w.id) now → n ≡ map.insert m w.id w → Is (map.get n) now
    entered_key w a has now are none is adds given =
        replaced (keyed_cmp cmp) whole id_of one (Entries (map.get m)) (Entries (map.get n)) w.id None (Some (key w, w.id)) has has now are
        (ap (option_map (λ v. (key v, w.id))) none) tt refl (gets (map.get m) (map.get n) w.id (Some w) (becomes_given m n w.id w given))
        (λ q. refl) (subst (λ (q : K). Adds (keyed_cmp cmp) has (q, w.id) now) is adds)

    pub taken_key : (id : ℕ) (w : Waiting) (a : K) (has now : Has) → Is (map.get m) has → map.get m id ≡ Some w → a ≡ key w → Takes (keyed_cmp cmp) has (a, id) now → n ≡ map.remove m id → Is (map.get n) now
    taken_key id w a has now are found is takes out =
        replaced (keyed_cmp cmp) whole id_of one (Entries (map.get m)) (Entries (map.get n)) id (Some (key w, id)) None has now now are
        (ap (option_map (λ v. (key v, id))) found) refl tt (gets (map.get m) (map.get n) id None (becomes_taken m n id out))
        (subst (λ (q : K). Takes (keyed_cmp cmp) has (q, id) now) is takes) (λ q. refl)

    -- what isn't there under a key is put in, and taken out again
    pub undone_key : (id : ℕ) (a : K) (has mid now : Has) → Is (map.get m) has → has_key cmp key a (map.get m id) ≡ false → Adds (keyed_cmp cmp) has (a, id) mid → Takes (keyed_cmp cmp) mid (a, id) now → n ≡ m → Is (map.get n) now
    undone_key id a has mid now are absent adds takes same =
        kept_key now now (undone (keyed_cmp cmp) whole id_of one (Entries (map.get m)) (a, id) has mid now are (of_key cmp key a id (map.get m id) ∙ absent) adds takes) same (λ q. refl)

    -- an id that isn't there is taken out
    pub absent_key : (id : ℕ) (has : Has) → Is (map.get m) has → map.get m id ≡ None → n ≡ map.remove m id → Is (map.get n) has
    absent_key id has are none out = same_keys has has are (same_without m n id none out) (λ q. refl)

    module _ (id now : ℕ) (side : Side) (newcomer : Extent) (v : Waiting) (a b : K) (has : Has) (are : Is (map.get m) has) (found : Some v ≡ map.get m id) (before : a ≡ key v) (after : b ≡ key (joined_waiting side now newcomer v)) where
      joined : IsJoined now newcomer m id side n → Gets (Entries (map.get m)) id (Some (key (joined_waiting side now newcomer v), id)) (Entries (map.get n))
      joined join =
          let one : Some join.waiting ≡ Some v = sym join.was ∙ sym found in
          let same : join.waiting ≡ v = cc in
          gets (map.get m) (map.get n) id (Some (joined_waiting side now newcomer v))
          (becomes_given m n id (joined_waiting side now newcomer v) (join.is ∙ ap (λ (w : Waiting). map.insert m id (joined_waiting side now newcomer w)) same))

      was : Entries (map.get m) id ≡ Some (key v, id)
      was = ap (option_map (λ w. (key w, id))) (sym found)

      entries_are : eq_by_cmp (keyed_cmp cmp) (key v, id) (key (joined_waiting side now newcomer v), id) ≡ eq_by_cmp cmp a b
      entries_are = same_id cmp (key v) (key (joined_waiting side now newcomer v)) id ∙ sym (ap (λ q. eq_by_cmp cmp q b) before ∙ ap (eq_by_cmp cmp (key v)) after)

      -- a join that leaves the key
      pub stayed_key : {T E : Type 0} (r : Result T E) → eq_by_cmp cmp a b ≡ true → OnOk r (IsJoined now newcomer m id side n) → OnErr r (n ≡ m) → Is (map.get n) has
      stayed_key (Ok x) alike join same =
          stayed (keyed_cmp cmp) whole id_of one (Entries (map.get m)) (Entries (map.get n)) id (key v, id) (key (joined_waiting side now newcomer v), id) has are was (entries_are ∙ alike) (joined join)
      stayed_key (Err x) alike join same = kept_key has has are same (λ q. refl)

      module _ (mid last : Has) (other : eq_by_cmp cmp a b ≡ false) (adds : Adds (keyed_cmp cmp) has (b, id) mid) where
        pub moved_key : Takes (keyed_cmp cmp) mid (a, id) last → IsJoined now newcomer m id side n → Is (map.get n) last
        moved_key takes join =
            moved (keyed_cmp cmp) whole id_of one (Entries (map.get m)) (Entries (map.get n)) id (key v, id) (key (joined_waiting side now newcomer v), id) has mid last are was refl refl (joined join)
            (subst (λ (q : K). Adds (keyed_cmp cmp) has (q, id) mid) after adds) (subst (λ (q : K). Takes (keyed_cmp cmp) mid (q, id) last) before takes) (entries_are ∙ other)

        pub refused_key : Takes (keyed_cmp cmp) mid (b, id) last → n ≡ m → Is (map.get n) last
        refused_key takes same =
            undone_key id b has mid last are (ap (has_key cmp key b) (sym found) ∙ ap (λ q. eq_by_cmp cmp q b) (sym before) ∙ other) adds takes same
