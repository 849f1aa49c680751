-- The places of the requests that are taken, dispatch by dispatch, without a list of them.
use Rattle.std.proofs.Common.{◌≡◌, ◌<◌, ◌≤◌, ◌+◌, ◌++◌, ◌∙◌, ℕ, Bool, true, false, cond, List, [], ◌∷◌, length, get_or, set, take, replicate, nat_lt, None, Some, refl, sym, ap, subst, arith}
use Rattle.std.specs.List.{slice_get}
use Rattle.std.specs.List.Sorted.{IsNonDecreasingBy}
use Rattle.std.proofs.lemmas.List.{length_push, take_all}
use Rattle.blk_capture.specs.Parting.{gone_before}
use Rattle.blk_capture.specs.Requests.{IsDue}
use Rattle.blk_capture.specs.Rules.{Known}
use Rattle.blk_capture.specs.Settled.{taken_last, taken_from}
use Rattle.blk_capture.specs.Inside.Coherent.{IsCoherent, IsLast, AreRoots}
use Rattle.blk_capture.specs.Inside.Partly.{IsPlacing, AreWhole}
use Rattle.blk_capture.specs.Inside.Taken.{IsRequestOf}
use Rattle.blk_capture.specs.declared.clock.Dispatch.{Dispatch}
use Rattle.blk_capture.specs.declared.taken.Placing.{Placing}
use Rattle.blk_capture.specs.declared.requests.CapturedRequest.{CapturedRequest}
use Rattle.blk_capture.specs.declared.requests.MergeRoot.{MergeRoot}
use Rattle.blk_capture.specs.declared.requests.Options.{Options}
use Rattle.blk_capture.proofs.Partly.{gone_push}
use Rattle.blk_capture.proofs.Placing.{IsTakenSo, taken_so_none, taken_so_same, taken_so_more, taken_next, one_of, none_of, append_none, is_own, is_free}
use Rattle.blk_capture.proofs.Taking.{IsTakenTo, taken_none, taken_same, taken_more}

-- by the first n dispatches
pub record IsPlacedUpto {A : Type 0} (begin : ℕ) (o : Options) (m : Known) (lives : List MergeRoot) (sent : List Dispatch) (t : Placing A) (n : ℕ) : Type 0 where
  pub listed : IsTakenTo (IsDue o) lives m.openers sent t.places.items (taken_from o m (take n m.dispatches)) n
  pub so : IsTakenSo o m t.places.items (taken_from o m (take n m.dispatches)) n
  pub count : t.count ≡ length (taken_from o m (take n m.dispatches))
  pub before : t.before ≡ gone_before begin (taken_from o m (take n m.dispatches))
  pub each : t.before ≤ t.count
  pub few : t.count ≤ n

pub placed_none : {A : Type 0} (begin : ℕ) (o : Options) (m : Known) (lives : List MergeRoot) (sent : List Dispatch) (t : Placing A) → t.places.items ≡ replicate (length lives) None → t.count ≡ 0 → t.before ≡ 0 → IsPlacedUpto begin o m lives sent t 0
placed_none begin o m lives sent t blank none none2 = record {
  listed = taken_none (IsDue o) lives m.openers sent t.places.items [] refl blank;
  so = taken_so_none o m t.places.items [] (length lives) refl blank;
  count = none;
  before = none2;
  each = omega (arith, none, none2);
  few = omega (arith, none);
}

pub placed_same : {A : Type 0} (begin : ℕ) (o : Options) (time : ℕ) (m : Known) (lives : List MergeRoot) (sent : List Dispatch) (t : Placing A) (n : ℕ) (x : Dispatch) → IsCoherent o time m → slice_get m.dispatches n ≡ Some x → taken_last o m (n, x) ≡ None
    → IsPlacedUpto begin o m lives sent t n → IsPlacedUpto begin o m lives sent t (n + 1)
placed_same begin o time m lives sent t n x c at none old =
    let same : taken_from o m (take (n + 1) m.dispatches) ≡ taken_from o m (take n m.dispatches) =
    taken_next o m m.dispatches n x at ∙ ap (λ qs. taken_from o m (take n m.dispatches) ++ qs) (none_of (taken_last o m) (n, x) none) ∙ append_none (taken_from o m (take n m.dispatches)) in
    record {
      listed = subst (λ (qs : List CapturedRequest). IsTakenTo (IsDue o) lives m.openers sent t.places.items qs (n + 1)) (sym same) (taken_same (IsDue o) lives m.openers sent t.places.items (taken_from o m (take n m.dispatches)) n old.listed);
      so = subst (λ (qs : List CapturedRequest). IsTakenSo o m t.places.items qs (n + 1)) (sym same) (taken_so_same o time m t.places.items (taken_from o m (take n m.dispatches)) n x c at none old.so);
      count = old.count ∙ ap length (sym same);
      before = old.before ∙ ap (gone_before begin) (sym same);
      each = old.each;
      few = let few = old.few in omega (arith, few);
    }

one_or_none : (b : Bool) → cond b 1 0 ≤ 1
one_or_none true = omega arith
one_or_none false = omega arith

pub placed_more : {A : Type 0} (begin : ℕ) (o : Options) (time : ℕ) (m : Known) (lives : List MergeRoot) (sent : List Dispatch) (old new : Placing A) (n : ℕ) (x : Dispatch) (q : CapturedRequest)
    → IsCoherent o time m → length lives ≡ length m.requests → AreRoots m.absorptions lives → sent ≡ m.dispatches → IsNonDecreasingBy (λ y. y.time) sent → n < length sent → x ≡ get_or sent n x
    → slice_get m.dispatches n ≡ Some x → taken_last o m (n, x) ≡ Some q → IsLast m n x → IsRequestOf m.openers x q → IsDue o q → IsPlacing x.request (nat_lt q.dispatched begin) old new
    → IsPlacedUpto begin o m lives sent old n → IsPlacedUpto begin o m lives sent new (n + 1)
placed_more begin o time m lives sent old new n x q c each_life roots same up here is at some last of due put was =
    let qs : List CapturedRequest = taken_from o m (take n m.dispatches) in
    let more : taken_from o m (take (n + 1) m.dispatches) ≡ qs ++ q ∷ [] = taken_next o m m.dispatches n x at ∙ ap (λ rs. qs ++ rs) (one_of (taken_last o m) (n, x) q some) in
    let own = is_own o time m lives n x c each_life roots last in
    let free : get_or old.places.items x.request None ≡ None = is_free o m old.places.items qs n x last was.so in
    let there : x.request < length old.places.items = (let in_list = own.in_list in let each = was.listed.each in omega (arith, in_list, each)) in
    let places : new.places.items ≡ set old.places.items x.request (Some (length qs)) = put.places ∙ ap (λ k. set old.places.items x.request (Some k)) was.count in
    let one : cond (nat_lt q.dispatched begin) 1 0 ≤ 1 = one_or_none (nat_lt q.dispatched begin) in
    let counted = put.count in
    let before = put.before in
    record {
      listed =
          subst (λ (rs : List CapturedRequest). IsTakenTo (IsDue o) lives m.openers sent new.places.items rs (n + 1)) (sym more)
          (subst (λ ps. IsTakenTo (IsDue o) lives m.openers sent ps (qs ++ q ∷ []) (n + 1)) (sym places)
          (taken_more (IsDue o) lives m.openers sent old.places.items qs n x q was.listed own of due there free up here (ap (λ (y : Dispatch). y.time) is)));
      so = taken_so_more o time m old.places.items new.places.items qs (taken_from o m (take (n + 1) m.dispatches)) n x q c at some last places more there was.so;
      count = let long = length_push qs q in let was_count = was.count in let all = ap length more in omega (arith, counted, long, was_count, all);
      before = before ∙ ap (λ k. k + cond (nat_lt q.dispatched begin) 1 0) was.before ∙ sym (gone_push begin qs q) ∙ ap (gone_before begin) (sym more);
      each = let each = was.each in omega (arith, counted, before, one, each);
      few = let few = was.few in omega (arith, counted, few);
    }

-- by all of them
pub placed_whole : {A : Type 0} (begin : ℕ) (o : Options) (m : Known) (lives : List MergeRoot) (sent : List Dispatch) (t : Placing A) (n : ℕ) → length m.dispatches ≤ n → IsPlacedUpto begin o m lives sent t n → AreWhole o m lives t.places.items
placed_whole begin o m lives sent t n all upto =
    subst (λ (qs : List CapturedRequest). IsTakenTo (IsDue o) lives m.openers sent t.places.items qs n → AreWhole o m lives t.places.items) (ap (taken_from o m) (sym (take_all n m.dispatches all)))
    (λ listed. record {
      placed = listed.placed;
      timed = record { rising = listed.rising; came_in = listed.came_in; came_back = listed.came_back };
      untallied = listed.untallied;
      due = listed.due;
      many = listed.many;
      within = listed.within;
    })
    upto.listed
