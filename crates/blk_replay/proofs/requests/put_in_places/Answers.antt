use Rattle.std.proofs.Common.{◌≡◌, ◌≢◌, ◌<◌, ◌∙◌, sym, ap, arith, length, get_or, set, inl, inr, length-set}
use Rattle.std.proofs.lemmas.Bool.{cases_eq}
use Rattle.std.proofs.lemmas.List.{get_or-set_same, get_or-set_other, get_or_default}
use Rattle.blk_replay.specs.declared.requests.Entrant.{Entrant}
use Rattle.blk_replay.proofs.requests.put_in_places.Goals as goal

pub loop-k-preserved : goal.loop-k-preserved
loop-k-preserved g c =
    let es = c.args.entrants.now in
    let k = c.loop-k.k in
    let it : Entrant = get_or es k (record { place = 0; released = 0 }) in
    let rounds = c.loop-k.rounds.items in
    let v = get_or c.args.own.now k 0 in
    let same : (d : Entrant) → (get_or es k d).place ≡ it.place = λ d. ap (λ (x : Entrant). x.place) (get_or_default es k d (record { place = 0; released = 0 }) c.loop-k-test.true) in
    let inside : it.place < length rounds = omega (arith, same it, c.requires.within k it c.loop-k-test.true, c.loop-k.invariant.each) in
    record {
      each = length-set rounds it.place v ∙ c.loop-k.invariant.each;
      put = λ j d lt. elim (cases_eq j k) [
        | inl e ↦ ap (λ (x : Entrant). get_or (set rounds it.place v) x.place 0) (ap (λ i. get_or es i d) e) ∙ ap (λ p. get_or (set rounds it.place v) p 0) (same d) ∙ get_or-set_same rounds it.place v 0 inside ∙ ap (λ i. get_or c.args.own.now i 0) (sym e)
        | inr other ↦
            let below : j < k = omega arith in
            let differ : (get_or es j d).place ≢ it.place = λ e. other (c.requires.apart j k d (omega (arith, below, c.loop-k-test.true)) c.loop-k-test.true (e ∙ sym (same d))) in
            get_or-set_other rounds it.place (get_or es j d).place v 0 differ ∙ c.loop-k.invariant.put j d below
      ];
    }
