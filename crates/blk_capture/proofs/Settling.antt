use Rattle.std.proofs.Common.{ℕ, ◌≡◌, ◌<◌, ◌≤◌, ◌∙◌, List, length, get_or, map, Option, None, Some, inl, inr, refl, arith, ap, sym, subst}
use Rattle.std.specs.List.{All}
use Rattle.std.specs.Prelude.{IfSome}
use Rattle.std.proofs.lemmas.Bool.{cases_lt}
use Rattle.std.proofs.lemmas.List.{get_or_past, get_or-map, length-map, same_lists}
use Rattle.edd_commands.specs.declared.Command.{Command}
use Rattle.blk_bio.specs.declared.bio.Dir.TheVariants.{Read}
use Rattle.blk_capture.specs.Counting.{AreServed, AreLateByClock}
use Rattle.blk_capture.specs.Inside.Members.{AreOpened, request_into}
use Rattle.blk_capture.specs.declared.members.BioStage.TheVariants.{Waiting}
use Rattle.blk_capture.specs.Requests.{times_of, AreTimed, HaveBios, AgreeOnLateness, IsDue}
use Rattle.blk_capture.specs.Inside.Taken.{ArePlaced, ArePlacedBios, IsTalliedFrom}
use Rattle.blk_capture.specs.declared.counting.TimedRequest.{TimedRequest}
use Rattle.blk_capture.specs.declared.members.QueuedBio.{QueuedBio}
use Rattle.blk_capture.specs.declared.requests.CapturedBio.{CapturedBio}
use Rattle.blk_capture.specs.declared.requests.MergeRoot.{MergeRoot}
use Rattle.blk_capture.specs.declared.requests.Options.{Options}
use Rattle.blk_capture.specs.declared.requests.CapturedRequest.{CapturedRequest}
use Rattle.blk_capture.specs.Settled.{uncounted}
use Rattle.blk_capture.proofs.Openers.{opener_there}

abbrev no_bio : QueuedBio
no_bio = record { range = record { dir = Read; first = 0; end = 1 }; pid = 0; time = 0; age = 0; stage = Waiting }

abbrev pub no_request : CapturedRequest
no_request = record { dir = Read; first = 0; sectors = 0; bios = 0; bio = 0; pid = 0; cpu = 0; queued = 0; got = 0; inserted = None; merged = None; entry = 0; released = 0; earlier = None; deadline = 0; dispatched = 0; completed = None }

none_is_some : (r : ℕ) → None ≡ Some r → ⊥
none_is_some r e = cc

-- a place that stands there is within the list
there_at : (places : List (Option ℕ)) (r k : ℕ) → get_or places r None ≡ Some k → r < length places
there_at places r k is =
    elim (cases_lt r (length places)) [
      | inl there ↦ there
      | inr past ↦ absurd (none_is_some k (sym (get_or_past places r None past) ∙ is))
    ]

-- the bio that a request was opened for went out with it
pub have_bios : (lives : List MergeRoot) (openers : List ℕ) (places : List (Option ℕ)) (old new : List CapturedRequest) (queued : List QueuedBio) (bios : List CapturedBio)
    → ArePlaced lives openers places old → IsTalliedFrom old new bios → ArePlacedBios lives places queued (length queued) bios → AreOpened queued openers
    → HaveBios new bios
have_bios lives openers places old new queued bios placed tallied are opened k d e here =
    let in_old : k < length old = omega (arith, here, tallied.each) in
    let at = placed k in_old in
    let r : ℕ = at.0 in
    let b : ℕ = get_or openers r 0 in
    let is : (get_or new k d).bio ≡ b = ap (λ (q : CapturedRequest). q.bio) (tallied.rest k d) ∙ at.1.opener d in
    let there : b < length queued = opener_there queued openers no_bio opened refl r at.1.opened in
    let went : request_into (get_or queued b no_bio).stage ≡ Some r = opened r no_bio at.1.opened in
    let out : (get_or bios b e).request ≡ get_or places r None = are.place b r no_bio e there went at.1.own (there_at places r k at.1.place) in
    ap (λ n. (get_or bios n e).request) is ∙ out ∙ at.1.place

pub tallied_timed : (old new : List CapturedRequest) (bios : List CapturedBio) → AreTimed old → IsTalliedFrom old new bios → AreTimed new
tallied_timed old new bios timed tallied = record {
  rising =
      λ i j d low h.
      let up : (get_or old i d).dispatched ≤ (get_or old j d).dispatched = timed.rising i j d low (omega (arith, h, tallied.each)) in
      omega (arith, up, ap (λ (q : CapturedRequest). q.dispatched) (tallied.rest i d), ap (λ (q : CapturedRequest). q.dispatched) (tallied.rest j d));
  came_in =
      λ k d h.
      let came : (get_or old k d).released ≤ (get_or old k d).dispatched = timed.came_in k d (omega (arith, h, tallied.each)) in
      omega (arith, came, ap (λ (q : CapturedRequest). q.released) (tallied.rest k d), ap (λ (q : CapturedRequest). q.dispatched) (tallied.rest k d));
  came_back =
      λ k d h.
      let back : IfSome (get_or old k d).completed (λ t. (get_or old k d).dispatched ≤ t) = timed.came_back k d (omega (arith, h, tallied.each)) in
      subst (λ (q : CapturedRequest). IfSome q.completed (λ t. q.dispatched ≤ t)) (sym (tallied.rest k d)) back;
}

pub map_served : (requests : List CapturedRequest) → AreTimed requests → AreServed (map times_of requests)
map_served requests timed =
    let n : length (map times_of requests) ≡ length requests = length-map requests times_of in
    record {
      rising =
          λ i j d low h.
          let some : j < length requests = omega (arith, h, n) in
          let q : CapturedRequest = no_request in
          let at_i = ap (λ (s : TimedRequest). s.dispatch) (get_or-map times_of requests i q d (omega (arith, low, some))) in
          let at_j = ap (λ (s : TimedRequest). s.dispatch) (get_or-map times_of requests j q d some) in
          let up : (get_or requests i q).dispatched ≤ (get_or requests j q).dispatched = timed.rising i j q low some in
          omega (arith, at_i, at_j, up);
      released =
          λ k d h.
          let some : k < length requests = omega (arith, h, n) in
          let q : CapturedRequest = no_request in
          let release = ap (λ (s : TimedRequest). s.release) (get_or-map times_of requests k q d some) in
          let dispatch = ap (λ (s : TimedRequest). s.dispatch) (get_or-map times_of requests k q d some) in
          let came : (get_or requests k q).released ≤ (get_or requests k q).dispatched = timed.came_in k q some in
          omega (arith, release, dispatch, came);
    }

pub late_of_served : (requests : List CapturedRequest) (commands : List Command) (rounds : List ℕ) → AreLateByClock (map times_of requests) commands rounds → AgreeOnLateness requests commands rounds
late_of_served requests commands rounds late k d e here =
    let n : length (map times_of requests) ≡ length requests = length-map requests times_of in
    let at = late k (times_of d) e (omega (arith, here, n)) in
    let same = get_or-map times_of requests k d (times_of d) here in
    let deadline = ap (λ (s : TimedRequest). s.deadline) same in
    let dispatch = ap (λ (s : TimedRequest). s.dispatch) same in
    (λ x. let y = at.0 x in omega (arith, y, deadline, dispatch), λ x. at.1 (omega (arith, x, deadline, dispatch)))

-- the same of the lists as the code names them
pub have_bios_of : (lives lives2 : List MergeRoot) (openers : List ℕ) (places places2 : List (Option ℕ)) (old new : List CapturedRequest) (queued queued2 : List QueuedBio) (bios bios2 : List CapturedBio)
    → lives2 ≡ lives → places2 ≡ places → queued2 ≡ queued → bios2 ≡ bios
    → ArePlaced lives openers places old → IsTalliedFrom old new bios2 → ArePlacedBios lives2 places2 queued2 (length queued2) bios → AreOpened queued openers
    → HaveBios new bios
have_bios_of lives lives2 openers places places2 old new queued queued2 bios bios2 same_lives same_places same_queued same_bios placed tallied are opened =
    have_bios lives openers places old new queued bios placed (subst (IsTalliedFrom old new) same_bios tallied)
    (subst (λ ls. ArePlacedBios ls places queued (length queued) bios) same_lives
    (subst (λ ps. ArePlacedBios lives2 ps queued (length queued) bios) same_places
    (subst (λ qs. ArePlacedBios lives2 places2 qs (length qs) bios) same_queued are)))
    opened

pub tallied_due : (options : Options) (old new : List CapturedRequest) (bios : List CapturedBio) → All (IsDue options) old → IsTalliedFrom old new bios → All (IsDue options) new
tallied_due options old new bios due tallied k d h =
    let was : IsDue options (get_or old k d) = due k d (omega (arith, h, tallied.each)) in
    subst (IsDue options) (sym (tallied.rest k d)) record { entered = was.entered; released = was.released; due = was.due }

-- the number of its bios is told apart
uncounted_is : (x q : CapturedRequest) (n : ℕ) → x ≡ record q { bios = n } → q.bios ≡ 0 → uncounted x ≡ q
uncounted_is x q n e none = ap uncounted e ∙ zeroed q none
  where
    zeroed : (q : CapturedRequest) → q.bios ≡ 0 → uncounted q ≡ q
    zeroed q e = ap (λ k. record q { bios = k }) (sym e)

pub uncounted_all : (old new : List CapturedRequest) (bios : List CapturedBio) → All (λ q. q.bios ≡ 0) old → IsTalliedFrom old new bios → map uncounted new ≡ old
uncounted_all old new bios none tallied =
    same_lists (map uncounted new) old (length-map new uncounted ∙ tallied.each)
    (λ k d h.
    let n : length (map uncounted new) ≡ length new = length-map new uncounted in
    let here : k < length new = omega (arith, h, n) in
    let there : k < length old = omega (arith, here, tallied.each) in
    get_or-map uncounted new k d d here ∙ uncounted_is (get_or new k d) (get_or old k d) (get_or new k d).bios (tallied.rest k d) (none k d there))
