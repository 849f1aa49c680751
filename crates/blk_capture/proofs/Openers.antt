use Rattle.std.proofs.Common.{ℕ, ◌≡◌, ◌≢◌, ◌<◌, ◌++◌, ◌∙◌, List, [], ◌∷◌, length, get_or, set, None, Some, inl, inr, ap, sym}
use Rattle.std.proofs.lemmas.Bool.{cases_lt}
use Rattle.std.proofs.lemmas.Option.{get_or_from_slice_get}
use Rattle.std.proofs.lemmas.List.{get_or_append_left, get_or_past, get_or-set_other}
use Rattle.blk_capture.specs.Inside.Members.{AreOpened, IsWaitingAt, request_into}
use Rattle.blk_capture.specs.declared.members.QueuedBio.{QueuedBio}

none_is_some : (r : ℕ) → None ≡ Some r → ⊥
none_is_some r e = cc

-- the bio that a request was opened for is there, since what isn't there went into none
pub opener_there : (bios : List QueuedBio) (openers : List ℕ) (x : QueuedBio) → AreOpened bios openers → request_into x.stage ≡ None → (r : ℕ) → r < length openers → get_or openers r 0 < length bios
opener_there bios openers x opened none r here =
    elim (cases_lt (get_or openers r 0) (length bios)) [
      | inl there ↦ there
      | inr past ↦
          let is : request_into (get_or bios (get_or openers r 0) x).stage ≡ Some r = opened r x here in
          let same : request_into (get_or bios (get_or openers r 0) x).stage ≡ request_into x.stage = ap (λ (b : QueuedBio). request_into b.stage) (get_or_past bios (get_or openers r 0) x past) in
          absurd (none_is_some r (sym none ∙ sym same ∙ is))
    ]

-- one more bio
pub opened_more : (bios : List QueuedBio) (openers : List ℕ) (x : QueuedBio) → AreOpened bios openers → request_into x.stage ≡ None → AreOpened (bios ++ x ∷ []) openers
opened_more bios openers x opened none r d here =
    ap (λ (b : QueuedBio). request_into b.stage) (get_or_append_left bios (x ∷ []) d (get_or openers r 0) (opener_there bios openers x opened none r here))
    ∙ opened r d here

-- a waiting bio is not one that a request was opened for
waits_apart : (bios : List QueuedBio) (openers : List ℕ) (k : ℕ) → AreOpened bios openers → IsWaitingAt bios k → (r : ℕ) → r < length openers → get_or openers r 0 ≢ k
waits_apart bios openers k opened w r here e =
    let at : get_or bios (get_or openers r 0) w.found ≡ w.found = ap (λ n. get_or bios n w.found) e ∙ get_or_from_slice_get bios k w.found w.found w.there in
    let is : request_into (get_or bios (get_or openers r 0) w.found).stage ≡ Some r = opened r w.found here in
    let none : request_into w.found.stage ≡ None = ap request_into w.waits in
    none_is_some r (sym none ∙ sym (ap (λ (b : QueuedBio). request_into b.stage) at) ∙ is)

-- so it may change
pub opened_changed : (bios : List QueuedBio) (openers : List ℕ) (k : ℕ) (x : QueuedBio) → AreOpened bios openers → IsWaitingAt bios k → AreOpened (set bios k x) openers
opened_changed bios openers k x opened w r d here =
    ap (λ (b : QueuedBio). request_into b.stage) (get_or-set_other bios k (get_or openers r 0) x d (waits_apart bios openers k opened w r here))
    ∙ opened r d here
