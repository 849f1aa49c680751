-- A list with one more event is legal exactly where the list is, and the event obeys each rule.
use Rattle.std.proofs.Common.{◌≡◌, ◌≤◌, ◌+◌, ◌++◌, ℕ, ◌<◌, List, [], ◌∷◌, length, refl, sym, ◌∙◌, ap, subst, arith, length-append, inl, inr, append-nil, cond, Bool, true, false, Option, Some, None, IfSome, take, get_or}
use Rattle.std.specs.Option.{option_map_or}
use Rattle.std.specs.List.{flat_map}
use Rattle.std.proofs.lemmas.List.{take_more}
use Rattle.std.proofs.lemmas.List.Concat.{flat_map-append}
use Rattle.std.proofs.lemmas.Option.{slice_get_within}
use Rattle.blk_bio.specs.Bios.{Bio}
use Rattle.blk_trace.specs.Happened.{Happened, Tick, Release, Join, Issue, Depth}
use Rattle.blk_trace.specs.Kinds.{enters, ends, is_issue, is_end}
use Rattle.blk_bio.specs.declared.rule.TraceRule.{TraceRule}
use Rattle.blk_bio.specs.declared.rule.TraceRule.TheVariants.{ReleasedTwice, Unknown, AlreadyIssued, BioTwice, Fit, TagRange, TagUsed, NotIssued, InFlight, TooLong, DepthRange}
use Rattle.blk_trace.specs.Setups.{Setup}
use Rattle.blk_trace.specs.Events.{At, EntersRequest, round_of, round_at, bios_of, entered, open_count, AreOnce, IsOpen}
use Rattle.blk_trace.specs.Depths.{depth_in, depth_now}
use Rattle.blk_trace.specs.Legal.{IsLegalTrace}
use Rattle.blk_trace.specs.Rules.{Obeys, BreaksNoRule}
use Rattle.blk_trace.proofs.Places.{split, keep, last, before, before_last}
use Rattle.blk_trace.proofs.Words.{if_some, some_of, keep_end, split_end}
use Rattle.blk_trace.proofs.More.{more_of, round_within}
use Rattle.blk_trace.proofs.Depths.{depth_past, depth_now_is}

-- no events are legal
pub empty_legal : (setup : Setup) → IsLegalTrace setup []
unfolding entered open_count
empty_legal setup = record {
  released_once = λ j k id q r h l. absurd (cc);
  join_released = λ k id n h. absurd (cc);
  join_unissued = λ j k id tag n h l. absurd (cc);
  issue_released = λ k id tag h. absurd (cc);
  reissued = λ j k id t u h l less. absurd (cc);
  tag_range = λ k id tag h. absurd (cc);
  tag_once = λ j k i l tag h m s. absurd (cc);
  done_open = λ k tag h. absurd (cc);
  tick_closed = λ k tag h o. absurd (cc);
  bios_once = λ j k b c h l s. absurd (cc);
  are_requests = λ k e h. absurd (cc);
  release_within = λ k id q h. absurd (cc);
  join_fits = λ k id n h. absurd (cc);
  depth_range = λ k d h. absurd (cc);
  not_too_long = omega arith;
}

-- what enters with one more event
pub entered_more : (es : List Happened) (e : Happened) → entered (es ++ e ∷ []) ≡ entered es ++ bios_of e
unfolding entered
entered_more es e = flat_map-append bios_of es (e ∷ []) ∙ ap (λ l. flat_map bios_of es ++ l) (append-nil (bios_of e))

-- the same of the events up to a place
pub entered_up : (es : List Happened) (i : ℕ) (e : Happened) → i < length es → e ≡ get_or es i e → entered (take (i + 1) es) ≡ entered (take i es) ++ bios_of e
entered_up es i e low is = ap entered (take_more es i e low ∙ ap (λ x. take i es ++ x ∷ []) (sym is)) ∙ entered_more (take i es) e

pub none_entered : entered [] ≡ []
unfolding entered
none_entered = refl

-- no bio enters by an event that is no Released or Joined
pub once_more : (setup : Setup) (es : List Happened) (e : Happened) → AreOnce (entered es) → Obeys setup es e BioTwice → AreOnce (entered es ++ bios_of e)
once_more setup es e old h = by_entry (entered es) (enters e) old h
  where
    by_entry : (bs : List Bio) (o : Option (ℕ × List Bio)) → AreOnce bs → IfSome o (λ p. AreOnce (bs ++ p.1)) → AreOnce (bs ++ option_map_or (λ p. p.1) o [])
    by_entry bs None old h = rw append-nil old
    by_entry bs (Some p) old h = h

-- a number below the depth of a round that has begun
sooner : (setup : Setup) (es : List Happened) (e : Happened) (x n : ℕ) → x ≤ round_of es → n < depth_in setup es x → n < depth_in setup (es ++ e ∷ []) x
sooner setup es e x n early h = omega (arith, h, depth_past setup es e x early)

was_below : (setup : Setup) (es : List Happened) (e : Happened) (x n : ℕ) → x ≤ round_of es → n < depth_in setup (es ++ e ∷ []) x → n < depth_in setup es x
was_below setup es e x n early h = omega (arith, h, depth_past setup es e x early)

now_below : (setup : Setup) (es : List Happened) (n : ℕ) → n < depth_now setup es → n < depth_in setup es (round_of es)
now_below setup es n h = omega (arith, h, depth_now_is setup es)

-- a legal list with an event that obeys each rule, and whose bios are a request, is legal
pub push_legal : (setup : Setup) (es : List Happened) (e : Happened) → IsLegalTrace setup es → BreaksNoRule setup es e → EntersRequest e → IsLegalTrace setup (es ++ e ∷ [])
push_legal setup es e old all request =
    let told : (x : Happened) (r : TraceRule) → e ≡ x → Obeys setup es x r = λ x r h. subst (λ y. Obeys setup es y r) h (all r) in
    record {
      released_once = λ j k id q r h l.
          elim (split es e j _ h) [
            | inl a ↦ elim (split es e k _ l) [
              | inl b ↦ old.released_once j k id q r a b
              | inr b ↦ absurd (told _ ReleasedTwice b.1 (j, (q, a)))
            ]
            | inr a ↦ elim (split es e k _ l) [
              | inl b ↦ absurd (told _ ReleasedTwice a.1 (k, (r, b)))
              | inr b ↦ a.0 ∙ sym b.0
            ]
          ];
      join_released = λ k id n h.
          elim (split es e k _ h) [
            | inl a ↦ rw (before es (e ∷ []) k _ a) (old.join_released k id n a)
            | inr a ↦ rw (before_last es e k a.0) (told _ Unknown a.1)
          ];
      join_unissued = λ j k id tag n h l.
          elim (split es e j _ h) [
            | inl a ↦ elim (split es e k _ l) [
              | inl b ↦ old.join_unissued j k id tag n a b
              | inr b ↦ omega (arith, b.0, slice_get_within es j _ a)
            ]
            | inr a ↦ elim (split es e k _ l) [
              | inl b ↦ absurd (told _ AlreadyIssued a.1 (k, (tag, b)))
              | inr b ↦ absurd (let c : Join id n ≡ Issue id tag = sym a.1 ∙ b.1 in cc)
            ]
          ];
      issue_released = λ k id tag h.
          elim (split es e k _ h) [
            | inl a ↦ rw (before es (e ∷ []) k _ a) (old.issue_released k id tag a)
            | inr a ↦ rw (before_last es e k a.0) (told _ Unknown a.1)
          ];
      reissued = λ j k id t u h l less.
          elim (split es e j _ h) [
            | inl a ↦ elim (split es e k _ l) [
              | inl b ↦ rw (before es (e ∷ []) k _ b) (old.reissued j k id t u a b less)
              | inr b ↦ rw (before_last es e k b.0) (told _ AlreadyIssued b.1 j t a)
            ]
            | inr a ↦ elim (split es e k _ l) [
              | inl b ↦ absurd (omega (arith, a.0, slice_get_within es k _ b))
              | inr b ↦ absurd (omega (arith, a.0, b.0))
            ]
          ];
      tag_range = λ k id tag h.
          elim (split es e k _ h) [
            | inl a ↦ rw (before es (e ∷ []) k _ a) (sooner setup es e (round_at es k) tag (round_within k es) (old.tag_range k id tag a))
            | inr a ↦ rw (before_last es e k a.0) (sooner setup es e (round_of es) tag (omega arith) (now_below setup es tag (told _ TagRange a.1)))
          ];
      tag_once = λ j k i l tag h m same.
          elim (split es e j _ h) [
            | inl a ↦ elim (split es e k _ m) [
              | inl b ↦ old.tag_once j k i l tag a b (ap round_of (sym (before es (e ∷ []) j _ a)) ∙ same ∙ ap round_of (before es (e ∷ []) k _ b))
              | inr b ↦ absurd (told _ TagUsed b.1 record { place = j; id = i; issued = a; now = ap round_of (sym (before es (e ∷ []) j _ a)) ∙ same ∙ ap round_of (before_last es e k b.0) })
            ]
            | inr a ↦ elim (split es e k _ m) [
              | inl b ↦ absurd (told _ TagUsed a.1 record { place = k; id = l; issued = b; now = ap round_of (sym (before es (e ∷ []) k _ b)) ∙ sym same ∙ ap round_of (before_last es e j a.0) })
              | inr b ↦ a.0 ∙ sym b.0
            ]
          ];
      done_open = λ k tag h.
          elim (split_end es e k tag h) [
            | inl a ↦ rw (before es (e ∷ []) k _ a.1) (old.done_open k tag a)
            | inr a ↦ rw (before_last es e k a.0) (some_of (ends e) (IsOpen es) tag a.1 (all NotIssued))
          ];
      tick_closed = λ k tag h.
          elim (split es e k _ h) [
            | inl a ↦ rw (before es (e ∷ []) k _ a) (old.tick_closed k tag a)
            | inr a ↦ rw (before_last es e k a.0) (told _ InFlight a.1 tag)
          ];
      are_requests = λ k x h. elim (split es e k x h) [ inl a ↦ old.are_requests k x a | inr a ↦ subst EntersRequest a.1 request ];
      bios_once = rw (entered_more es e) (once_more setup es e old.bios_once (all BioTwice));
      release_within = λ k id q h.
          elim (split es e k _ h) [
            | inl a ↦ old.release_within k id q a
            | inr a ↦ told _ Fit a.1
          ];
      join_fits = λ k id n h.
          elim (split es e k _ h) [
            | inl a ↦ rw (before es (e ∷ []) k _ a) (old.join_fits k id n a)
            | inr a ↦ rw (before_last es e k a.0) (told _ Fit a.1)
          ];
      depth_range = λ k d h.
          elim (split es e k _ h) [
            | inl a ↦ old.depth_range k d a
            | inr a ↦ told _ DepthRange a.1
          ];
      not_too_long = all TooLong;
    }

at_most_one : (b : Bool) → cond b 1 0 ≤ 1
at_most_one true = omega arith
at_most_one false = omega arith

-- the events with a place for the end of each open Issue are no fewer with one more event
pub open_more : (es : List Happened) (e : Happened) → length es + open_count es ≤ length (es ++ e ∷ []) + open_count (es ++ e ∷ [])
unfolding open_count
open_more es e = omega (arith, more_of is_issue es e, more_of is_end es e, at_most_one (is_end e), length-append es (e ∷ []))

-- bios that stand once in a longer list do in a shorter one
pub once_fewer : (bs cs : List Bio) → AreOnce (bs ++ cs) → AreOnce bs
once_fewer bs cs h = λ j k b c x y same. h j k b c (keep bs cs j b x) (keep bs cs k c y) same

-- a legal list is legal without its last event
pub shorter_legal : (setup : Setup) (es : List Happened) (e : Happened) → IsLegalTrace setup (es ++ e ∷ []) → IsLegalTrace setup es
shorter_legal setup es e new =
    let up : (k : ℕ) (x : Happened) → At es k x → At (es ++ e ∷ []) k x = λ k x h. keep es (e ∷ []) k x h in
    record {
      released_once = λ j k id q r h l. new.released_once j k id q r (up j _ h) (up k _ l);
      join_released = λ k id n h. rw (before es (e ∷ []) k _ h) at (new.join_released k id n (up k _ h));
      join_unissued = λ j k id tag n h l. new.join_unissued j k id tag n (up j _ h) (up k _ l);
      issue_released = λ k id tag h. rw (before es (e ∷ []) k _ h) at (new.issue_released k id tag (up k _ h));
      reissued = λ j k id t u h l less. rw (before es (e ∷ []) k _ l) at (new.reissued j k id t u (up j _ h) (up k _ l) less);
      tag_range = λ k id tag h. was_below setup es e (round_at es k) tag (round_within k es) (rw (before es (e ∷ []) k _ h) at (new.tag_range k id tag (up k _ h)));
      tag_once = λ j k i l tag h m same. new.tag_once j k i l tag (up j _ h) (up k _ m) (ap round_of (before es (e ∷ []) j _ h) ∙ same ∙ ap round_of (sym (before es (e ∷ []) k _ m)));
      done_open = λ k tag h. rw (before es (e ∷ []) k _ h.1) at (new.done_open k tag (keep_end es (e ∷ []) k tag h));
      tick_closed = λ k tag h. rw (before es (e ∷ []) k _ h) at (new.tick_closed k tag (up k _ h));
      are_requests = λ k x h. new.are_requests k x (up k x h);
      bios_once = once_fewer (entered es) (bios_of e) (rw (entered_more es e) at new.bios_once);
      release_within = λ k id q h. new.release_within k id q (up k _ h);
      join_fits = λ k id n h. rw (before es (e ∷ []) k _ h) at (new.join_fits k id n (up k _ h));
      depth_range = λ k d h. new.depth_range k d (up k _ h);
      not_too_long = omega (arith, new.not_too_long, open_more es e);
    }

-- the last event of a legal list obeys each rule after those before it
pub obeys : (setup : Setup) (es : List Happened) (e : Happened) → IsLegalTrace setup (es ++ e ∷ []) → BreaksNoRule setup es e
obeys setup es (Release id q) new ReleasedTwice =
    λ p. absurd (omega (arith, new.released_once p.0 (length es) id p.1.0 q (keep es _ p.0 _ p.1.1) (last es _), slice_get_within es p.0 _ p.1.1))
obeys setup es (Join id n) new Unknown = rw (before_last es (Join id n) (length es) refl) at (new.join_released (length es) id n (last es _))
obeys setup es (Issue id tag) new Unknown = rw (before_last es (Issue id tag) (length es) refl) at (new.issue_released (length es) id tag (last es _))
obeys setup es (Join id n) new AlreadyIssued =
    λ p. absurd (omega (arith, new.join_unissued (length es) p.0 id p.1.0 n (last es _) (keep es _ p.0 _ p.1.1), slice_get_within es p.0 _ p.1.1))
obeys setup es (Issue id tag) new AlreadyIssued =
    λ k t at. rw (before_last es (Issue id tag) (length es) refl) at (new.reissued k (length es) id t tag (keep es _ k _ at) (last es _) (slice_get_within es k _ at))
obeys setup es (Release id q) new BioTwice = rw (entered_more es (Release id q)) at new.bios_once
obeys setup es (Join id n) new BioTwice = rw (entered_more es (Join id n)) at new.bios_once
obeys setup es (Release id q) new Fit = new.release_within (length es) id q (last es _)
obeys setup es (Join id n) new Fit = rw (before_last es (Join id n) (length es) refl) at (new.join_fits (length es) id n (last es _))
obeys setup es (Issue id tag) new TagRange =
    omega (arith, depth_now_is setup es, was_below setup es (Issue id tag) (round_of es) tag (omega arith) (rw (before_last es (Issue id tag) (length es) refl) at (new.tag_range (length es) id tag (last es _))))
obeys setup es (Issue id tag) new TagUsed =
    λ u.
    let same : round_at (es ++ Issue id tag ∷ []) u.place ≡ round_at (es ++ Issue id tag ∷ []) (length es) =
    ap round_of (before es (Issue id tag ∷ []) u.place _ u.issued) ∙ u.now ∙ ap round_of (sym (before_last es (Issue id tag) (length es) refl)) in
    absurd (omega (arith, new.tag_once u.place (length es) u.id id tag (keep es _ u.place _ u.issued) (last es _) same, slice_get_within es u.place _ u.issued))
obeys setup es e new NotIssued = if_some (ends e) (IsOpen es) (λ tag h. rw (before_last es e (length es) refl) at (new.done_open (length es) tag (e, last es _, h)))
obeys setup es Tick new InFlight = λ tag o. new.tick_closed (length es) tag (last es _) (rw (before_last es Tick (length es) refl) o)
obeys setup es e new TooLong = new.not_too_long
obeys setup es (Depth depth) new DepthRange = new.depth_range (length es) depth (last es _)
obeys setup es e new rule = tt
