use Rattle.std.proofs.Common.{ℕ, ◌≡◌, ◌<◌, ◌≤◌, ◌+◌, ◌∙◌, List, length, get_or, set, take, count_by, true, false, None, Some, inl, inr, refl, arith, ap, sym, subst}
use Rattle.std.specs.List.{All}
use Rattle.std.proofs.lemmas.Bool.{cases_eq, eq-eqb, ne_eqb}
use Rattle.std.proofs.lemmas.List.{get_or-set_same, get_or-set_other, length-set, take_all}
use Rattle.std.proofs.lemmas.List.Sums.{count_by_more_yes, count_by_more_no}
use Rattle.blk_bio.specs.declared.bio.Dir.TheVariants.{Read}
use Rattle.blk_capture.specs.Requests.{went_with}
use Rattle.blk_capture.specs.Inside.Taken.{IsTalliedFrom}
use Rattle.blk_capture.specs.declared.requests.CapturedBio.{CapturedBio}
use Rattle.blk_capture.specs.declared.requests.CapturedRequest.{CapturedRequest}

-- the requests with the numbers of those of the first n bios that went out with them
pub record IsTalliedTo (old new : List CapturedRequest) (bios : List CapturedBio) (n : ℕ) : Type 0 where
  pub each : length new ≡ length old
  pub tallied : (k : ℕ) (d : CapturedRequest) → k < length new → (get_or new k d).bios ≡ count_by (λ b. went_with k b.request) (take n bios)
  pub rest : (k : ℕ) (d : CapturedRequest) → get_or new k d ≡ record (get_or old k d) { bios = (get_or new k d).bios }

-- a bio that went out with none of them
pub tallied_other : (old new : List CapturedRequest) (bios : List CapturedBio) (n : ℕ) (e : CapturedBio) → IsTalliedTo old new bios n → n < length bios → ((k : ℕ) → k < length new → went_with k (get_or bios n e).request ≡ false) → IsTalliedTo old new bios (n + 1)
tallied_other old new bios n e so_far here none = record {
  each = so_far.each;
  tallied = λ k d h. so_far.tallied k d h ∙ sym (count_by_more_no (λ b. went_with k b.request) bios n e here (none k h));
  rest = so_far.rest;
}

-- what a write of the number of bios leaves as it is
kept : (old new : List CapturedRequest) (p : ℕ) (q : CapturedRequest) → p < length new → ((d : CapturedRequest) → q ≡ record (get_or new p d) { bios = q.bios })
    → ((k : ℕ) (d : CapturedRequest) → get_or new k d ≡ record (get_or old k d) { bios = (get_or new k d).bios })
    → (k : ℕ) (d : CapturedRequest) → get_or (set new p q) k d ≡ record (get_or old k d) { bios = (get_or (set new p q) k d).bios }
kept old new p q there same rest k d =
    elim (cases_eq k p) [
      | inl here ↦
          let is : get_or (set new p q) k d ≡ q = subst (λ j. get_or (set new p q) j d ≡ q) (sym here) (get_or-set_same new p q d there) in
          let was : get_or new p d ≡ record (get_or old k d) { bios = (get_or new p d).bios } = subst (λ j. get_or new p d ≡ record (get_or old j d) { bios = (get_or new p d).bios }) (sym here) (rest p d) in
          is
          ∙ same d
          ∙ ap (λ (r : CapturedRequest). record r { bios = q.bios }) was
          ∙ ap (λ n. record (get_or old k d) { bios = n }) (sym (ap (λ (r : CapturedRequest). r.bios) is))
      | inr other ↦
          let is : get_or (set new p q) k d ≡ get_or new k d = get_or-set_other new p k q d other in
          is ∙ rest k d ∙ ap (λ n. record (get_or old k d) { bios = n }) (sym (ap (λ (r : CapturedRequest). r.bios) is))
    ]

-- a bio that went out with the one at place p
pub tallied_at : (old new : List CapturedRequest) (bios : List CapturedBio) (n p : ℕ) (q : CapturedRequest) (e : CapturedBio) → IsTalliedTo old new bios n → n < length bios → (get_or bios n e).request ≡ Some p → p < length new
    → ((d : CapturedRequest) → q.bios ≡ (get_or new p d).bios + 1) → ((d : CapturedRequest) → q ≡ record (get_or new p d) { bios = q.bios })
    → IsTalliedTo old (set new p q) bios (n + 1)
tallied_at old new bios n p q e so_far here is there one same = record {
  each = length-set new p q ∙ so_far.each;
  tallied =
      λ k d h.
      let in_new : k < length new = omega (arith, h, length-set new p q) in
      elim (cases_eq k p) [
        | inl same ↦
            let passes : went_with k (get_or bios n e).request ≡ true = ap (went_with k) is ∙ eq-eqb p k (sym same) in
            let more = count_by_more_yes (λ b. went_with k b.request) bios n e here passes in
            let at : (get_or (set new p q) k d).bios ≡ q.bios = subst (λ j. (get_or (set new p q) j d).bios ≡ q.bios) (sym same) (ap (λ (r : CapturedRequest). r.bios) (get_or-set_same new p q d there)) in
            let was : (get_or new p d).bios ≡ (get_or new k d).bios = ap (λ j. (get_or new j d).bios) (sym same) in
            omega (arith, at, one d, was, so_far.tallied k d in_new, more)
        | inr other ↦
            let fails : went_with k (get_or bios n e).request ≡ false = ap (went_with k) is ∙ ne_eqb p k (λ x. other (sym x)) in
            ap (λ (r : CapturedRequest). r.bios) (get_or-set_other new p k q d other)
            ∙ so_far.tallied k d in_new
            ∙ sym (count_by_more_no (λ b. went_with k b.request) bios n e here fails)
      ];
  rest = kept old new p q there same so_far.rest;
}

pub tallied_none : (requests : List CapturedRequest) (bios : List CapturedBio) → All (λ q. q.bios ≡ 0) requests → IsTalliedTo requests requests bios 0
tallied_none requests bios none = record {
  each = refl;
  tallied = λ k d h. none k d h;
  rest = λ k d. refl;
}

pub tallied_all : (old new : List CapturedRequest) (bios : List CapturedBio) (n : ℕ) → IsTalliedTo old new bios n → length bios ≤ n → IsTalliedFrom old new bios
tallied_all old new bios n so_far all = record {
  each = so_far.each;
  tallied = λ k d h. so_far.tallied k d h ∙ ap (λ bs. count_by (λ b. went_with k b.request) bs) (take_all n bios all);
  rest = so_far.rest;
}

abbrev pub empty_bio : CapturedBio
empty_bio = record { dir = Read; first = 0; sectors = 0; pid = 0; queued = 0; request = None }
