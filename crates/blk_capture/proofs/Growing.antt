-- Which records open requests and make bios, by the rules of their letters.
use Rattle.std.proofs.Common.{◌≡◌, ◌+◌, ◌∙◌, ℕ, cond, length, set, Option, None, Some, refl, sym, ap, subst, arith}
use Rattle.std.proofs.lemmas.List.{length_push, length-set}
use Rattle.blk_bio.specs.declared.request.Side.{Side}
use Rattle.blk_bio.specs.declared.request.Side.TheVariants.{Back, Front}
use Rattle.blk_capture.specs.Ranges.{range_of}
use Rattle.blk_capture.specs.Rules.{Known, Outcome, Found, IsAbsorbed, IsMergedBy, IsByLetter, IsToldUnless, cut, got, comes, issued, merged, absorbed, queued_bio, rest_of, opened_for}
use Rattle.blk_capture.specs.Inside.Roles.{GrowsIf, opens_role, makes_role}
use Rattle.blk_capture.specs.declared.matching.Role.TheVariants.{PassedOver}
use Rattle.blk_capture.specs.declared.members.QueuedBio.{QueuedBio}
use Rattle.blk_capture.specs.declared.opened.Opened.{Opened}
use Rattle.blk_capture.specs.declared.record.Action.{Action}
use Rattle.blk_capture.specs.declared.record.Action.TheVariants as action
use Rattle.blk_capture.specs.declared.record.PassReason.{PassReason}
use Rattle.blk_capture.specs.declared.record.Range.{Range}
use Rattle.blk_capture.specs.declared.record.Record.{Record}
use Rattle.blk_capture.specs.declared.requests.Options.{Options}
use Rattle.blk_capture.proofs.Telling.{opened_none, made_none}

-- how many of both there are then
abbrev Same : Known → Outcome → Type 0
Same m t = (length t.0.requests ≡ length m.requests) × (length t.0.bios ≡ length m.bios)

along : (m : Known) (t u : Outcome) → t ≡ u → Same m u → Same m t
along m t u e s = (ap (λ (x : Outcome). length x.0.requests) e ∙ s.0, ap (λ (x : Outcome). length x.0.bios) e ∙ s.1)

comes_same : (to : Opened → Opened) (m : Known) (f : Found Opened) → Same m (comes to m f)
comes_same to m None = (refl, refl)
comes_same to m (Some p) = (length-set m.requests p.0 (to p.1), refl)

issued_same : (time : ℕ) (m : Known) (f : Found Opened) → Same m (issued time m f)
issued_same time m None = (refl, refl)
issued_same time m (Some p) = (length-set m.requests p.0 _, refl)

merged_same : (side : Side) (s : Range) (time : ℕ) (m : Known) (b : ℕ × QueuedBio) (f : Found Opened) → Same m (merged side s time m b f)
merged_same side s time m b None = (refl, length-set m.bios b.0 _)
merged_same side s time m b (Some p) = (length-set m.requests p.0 _, length-set m.bios b.0 _)

absorbed_same : (o : Options) (s : Range) (time : ℕ) (m : Known) (p : ℕ × Opened) (f : Found Opened) → Same m (absorbed o s time m p f)
absorbed_same o s time m p None = (refl, refl)
absorbed_same o s time m p (Some w) = (length-set (set m.requests w.0 _) p.0 _ ∙ length-set m.requests w.0 _, refl)

taken_in_same : (o : Options) (side : Side) (s : Range) (time : ℕ) (m : Known) (f : Found Opened) (t : Outcome) → IsAbsorbed o side s time m f t → Same m t
taken_in_same o side s time m None t h = along m t _ h (refl, refl)
taken_in_same o Back s time m (Some p) t h = along m t _ h.is (absorbed_same o s time m p h.found)
taken_in_same o Front s time m (Some p) t h = along m t _ h (refl, refl)

joined_same : (o : Options) (side : Side) (s : Range) (time : ℕ) (m : Known) (b : Found QueuedBio) (f : Found Opened) (t : Outcome) → IsMergedBy o side s time m b f t → Same m t
joined_same o side s time m None f t h = taken_in_same o side s time m f t h
joined_same o side s time m (Some b) f t h = along m t _ h (merged_same side s time m b f)

-- as many more as the record opened and made
abbrev Grows : Action → Known → Outcome → Type 0
Grows a m t = GrowsIf (opens_role a t.1) m.requests t.0.requests × GrowsIf (makes_role a t.1) m.bios t.0.bios

none_more : (n m : ℕ) → n ≡ m → n ≡ m + 0
none_more n m e = omega (arith, e)

same_grows : (m : Known) (t : Outcome) → Same m t → (length t.0.requests ≡ length m.requests + 0) × (length t.0.bios ≡ length m.bios + 0)
same_grows m t s = (none_more _ _ s.0, none_more _ _ s.1)

along_grows : (a : Action) (m : Known) (t u : Outcome) → t ≡ u → Grows a m u → Grows a m t
along_grows a m t u e g = subst (Grows a m) (sym e) g

got_grows : (n pid cpu : ℕ) (s : Range) (time : ℕ) (m : Known) (f : Found QueuedBio) → Grows action.Get m (got n pid cpu s time m f)
got_grows n pid cpu s time m None = (none_more _ _ refl, none_more _ _ refl)
got_grows n pid cpu s time m (Some p) = (length_push m.requests (opened_for n pid cpu s time p.1), none_more _ _ (length-set m.bios p.0 _))

cut_grows : (s : Range) (m : Known) (f : Found QueuedBio) → Grows action.Split m (cut s m f)
cut_grows s m None = (none_more _ _ refl, none_more _ _ refl)
cut_grows s m (Some p) = (none_more _ _ refl, length_push (set m.bios p.0 _) (rest_of s p.1) ∙ ap (λ n. n + 1) (length-set m.bios p.0 _))

letter_grows : (a : Action) (o : Options) (n : ℕ) (r : Record) (m : Known) (t : Outcome) → IsByLetter a o n r m t → Grows a m t
letter_grows action.Queue o n r m t h = along_grows action.Queue m t _ h (none_more _ _ refl, length_push m.bios (queued_bio n r.pid (range_of r) r.time))
letter_grows action.Split o n r m t h = along_grows action.Split m t _ h.is (cut_grows (range_of r) m h.found)
letter_grows action.Get o n r m t h = along_grows action.Get m t _ h.is (got_grows n r.pid r.cpu (range_of r) r.time m h.found)
letter_grows action.BackMerge o n r m t h = same_grows m t (joined_same o Back (range_of r) r.time m h.waiting h.abutting t h.is)
letter_grows action.FrontMerge o n r m t h = same_grows m t (joined_same o Front (range_of r) r.time m h.waiting h.abutting t h.is)
letter_grows action.Insert o n r m t h = same_grows m t (along m t _ h.is (comes_same _ m h.found))
letter_grows action.Issue o n r m t h = same_grows m t (along m t _ h.is (issued_same r.time m h.found))
letter_grows action.Complete o n r m t h = same_grows m t (along m t _ h.is (comes_same _ m h.found))
letter_grows action.Requeue o n r m t h = same_grows m t (along m t _ h.is (comes_same _ m h.found))
letter_grows action.Plug o n r m t h = same_grows m t (along m t _ h (refl, refl))
letter_grows action.Unplug o n r m t h = same_grows m t (along m t _ h (refl, refl))
letter_grows action.Other o n r m t h = same_grows m t (along m t _ h (refl, refl))

passed_grows : (a : Action) (kind : PassReason) (m : Known) → Grows a m (m, PassedOver kind)
passed_grows a kind m = (none_more _ _ refl ∙ ap (λ b. length m.requests + cond b 1 0) (sym (opened_none a)), none_more _ _ refl ∙ ap (λ b. length m.bios + cond b 1 0) (sym (made_none a)))

pub told_grows : (why : Option PassReason) (o : Options) (n : ℕ) (r : Record) (m : Known) (t : Outcome) → IsToldUnless why o n r m t → Grows r.action m t
told_grows (Some kind) o n r m t h = along_grows r.action m t _ h (passed_grows r.action kind m)
told_grows None o n r m t h = letter_grows r.action o n r m t h
