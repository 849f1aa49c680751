-- Full rounds, found in commands that are in order by round.
use Rattle.std.proofs.Common.{◌≡◌, ◌<◌, ◌≤◌, ℕ, ◌+◌, ◌-◌, ◌==◌, ◌&&◌, nat_le, List, [], ◌∷◌, ◌++◌, length, get_or, inl, inr, arith, refl, ap, sym, ◌∙◌, subst}
use Rattle.std.specs.List.Sorted.{IsNonDecreasingBy}
use Rattle.std.specs.List.{All}
use Rattle.std.proofs.lemmas.Bool.{cases_eq, cases_lt, and_parts, and_from, and_left, le-leb, lt-leb, eq-eqb}
use Rattle.std.proofs.lemmas.List.{length-map, get_or_default}
use Rattle.edd_commands.specs.declared.steps.Step.{Step}
use Rattle.edd_commands.specs.Capacity.{depth_at}
use Rattle.edd_commands.specs.Schedule.{places_at}
use Rattle.edd_commands.proofs.Counting.{run_count, run_of}
use Rattle.edd_oracle.specs.declared.cover.Served.{Served}
use Rattle.edd_oracle.specs.Inside.Cover.{running_at, served_at}
use Rattle.edd_verdict.specs.Inside.Tight.{IsLatestDue, AreRising, AreFull}
use Rattle.edd_verdict.proofs.Sweeping.{pushed_old, pushed_new, pushed_long}
use Rattle.edd_oracle.proofs.Counting.{count_run, count_fewer}
use Rattle.edd_oracle.proofs.Back.{nobody, times, time_at, times_count, times_rise, served_le}

-- a round that is full, found at the place of the last that runs in it
pub record IsFullAt (served : List Served) (steps : List Step) (p : ℕ) (f : Served) : Type 0 where
  pub within : p < length served
  pub deep : depth_at steps f.round ≤ p + 1
  pub starts : (e : Served) → (get_or served (p + 1 - depth_at steps f.round) e).round ≡ f.round
  pub here : (e : Served) → (get_or served p e).round ≡ f.round
  pub latest : IsLatestDue served (p + 1 - depth_at steps f.round) (p + 1) f.due

pub full_at : (served : List Served) (steps : List Step) (n depth due : ℕ) → n < length served → depth ≡ depth_at steps (get_or served n nobody).round → 0 < depth → depth ≤ n + 1 → (get_or served (n + 1 - depth) nobody).round ≡ (get_or served n nobody).round → IsLatestDue served (n + 1 - depth) (n + 1) due → IsFullAt served steps n (record { round = (get_or served n nobody).round; due = due })
full_at served steps n depth due within is_depth some deep starts latest =
    record {
      within = within;
      deep = omega arith;
      starts = λ e. subst (λ k. (get_or served (n + 1 - k) e).round ≡ (get_or served n nobody).round) is_depth (ap (λ (s : Served). s.round) (get_or_default served (n + 1 - depth) e nobody (omega arith)) ∙ starts);
      here = λ e. ap (λ (s : Served). s.round) (get_or_default served n e nobody within);
      latest = subst (λ k. IsLatestDue served (n + 1 - k) (n + 1) due) is_depth latest;
    }

-- those found at the first n places
pub record AreFoundUpto (served : List Served) (steps : List Step) (n : ℕ) (full : List Served) : Type 0 where
  pub each : (i : ℕ) (e : Served) → i < length full → (p : ℕ) × (p < n) × IsFullAt served steps p (get_or full i e)
  pub hit : (p : ℕ) → p < n → depth_at steps (get_or served p nobody).round ≤ p + 1 → (get_or served (p + 1 - depth_at steps (get_or served p nobody).round) nobody).round ≡ (get_or served p nobody).round → (i : ℕ) × (i < length full) × ((e : Served) → (get_or full i e).round ≡ (get_or served p nobody).round)
  pub rising : AreRising full

-- no full round is found here
pub same_found : (served : List Served) (steps : List Step) (n : ℕ) (full : List Served) → AreFoundUpto served steps n full → (depth_at steps (get_or served n nobody).round ≤ n + 1 → (get_or served (n + 1 - depth_at steps (get_or served n nobody).round) nobody).round ≡ (get_or served n nobody).round → ⊥) → AreFoundUpto served steps (n + 1) full
same_found served steps n full so_far none =
    record {
      each = λ i e h. let at = so_far.each i e h in (at.0, omega (arith, at.1), at.2);
      hit = λ p h.
          elim (cases_eq p n) [
            | inl same ↦ subst (λ k. depth_at steps (get_or served k nobody).round ≤ k + 1 → (get_or served (k + 1 - depth_at steps (get_or served k nobody).round) nobody).round ≡ (get_or served k nobody).round → (i : ℕ) × (i < length full) × ((e : Served) → (get_or full i e).round ≡ (get_or served k nobody).round)) (sym same) (λ deep starts. absurd (none deep starts))
            | inr other ↦ so_far.hit p (omega arith)
          ];
      rising = so_far.rising;
    }

module _ (served : List Served) (steps : List Step) (rising : IsNonDecreasingBy (λ s. s.round) served) (few : (y : ℕ) → running_at served y ≤ depth_at steps y) (some : (y : ℕ) → 0 < depth_at steps y) where
  -- a later place has another round
  later_apart : (p n : ℕ) (f : Served) → IsFullAt served steps p f → p < n → n < length served → f.round < (get_or served n nobody).round
  later_apart p n f at lt within =
      let y : ℕ = f.round in
      let first : ℕ = p + 1 - depth_at steps y in
      let up : (get_or served p nobody).round ≤ (get_or served n nobody).round = rising p n nobody (omega arith) within in
      elim (cases_eq (get_or served n nobody).round y) [
        | inr other ↦ omega (arith, at.here nobody)
        | inl same ↦
            let first_in : first < length served = omega (arith, at.within) in
            let run : n < first + places_at (times served) y =
            run_count y (times served) (times_rise served rising) first n (omega (arith, some y)) (omega (arith, length-map served (λ s. s.round))) (time_at served first first_in ∙ at.starts nobody) (time_at served n within ∙ same) in
            absurd (omega (arith, run, times_count served y, few y, at.deep, some y))
      ]

  -- one more full round
  pub more_found : (n : ℕ) (full new : List Served) (f : Served) → AreFoundUpto served steps n full → IsFullAt served steps n f → new ≡ full ++ f ∷ [] → AreFoundUpto served steps (n + 1) new
  more_found n full new f so_far at is =
      let all : List Served = full ++ f ∷ [] in
      let long : length all ≡ length full + 1 = pushed_long full f in
      subst (λ xs. AreFoundUpto served steps (n + 1) xs) (sym is) record {
        each = λ i e h.
            elim (cases_lt i (length full)) [
              | inl low ↦
                  let before = so_far.each i e low in
                  (before.0, omega (arith, before.1), subst (λ (s : Served). IsFullAt served steps before.0 s) (sym (pushed_old full f i e low)) before.2)
              | inr last ↦ (n, omega arith, subst (λ (s : Served). IsFullAt served steps n s) (sym (pushed_new full f i e (omega (arith, long)))) at)
            ];
        hit = λ p h deep starts.
            elim (cases_eq p n) [
              | inl same ↦ (length full, omega (arith, long), λ e. ap (λ (s : Served). s.round) (pushed_new full f (length full) e refl) ∙ sym (at.here nobody) ∙ ap (λ k. (get_or served k nobody).round) (sym same))
              | inr other ↦
                  let before = so_far.hit p (omega arith) deep starts in
                  (before.0, omega (arith, before.1, long), λ e. ap (λ (s : Served). s.round) (pushed_old full f before.0 e before.1) ∙ before.2 e)
            ];
        rising = λ i j e lt h.
            elim (cases_lt j (length full)) [
              | inl low ↦ omega (arith, so_far.rising i j e lt low, ap (λ (s : Served). s.round) (pushed_old full f i e (omega arith)), ap (λ (s : Served). s.round) (pushed_old full f j e low))
              | inr last ↦
                  let before = so_far.each i e (omega (arith, long)) in
                  let apart = later_apart before.0 n (get_or full i e) before.2 before.1 at.within in
                  omega (arith, apart, at.here nobody, ap (λ (s : Served). s.round) (pushed_old full f i e (omega (arith, long))), ap (λ (s : Served). s.round) (pushed_new full f j e (omega (arith, long))))
            ];
      }

  -- what is found is full of commands due by its due round
  found_sound : (p : ℕ) (f : Served) → IsFullAt served steps p f → depth_at steps f.round ≤ served_at served f.round f.due
  unfolding served_at
  found_sound p f at =
      let d : ℕ = depth_at steps f.round in
      count_run (λ s. nat_le s.due f.due && s.round == f.round) served (p + 1 - d) d (omega (arith, at.within, at.deep))
      (λ k e low high.
      let k_in : k < length served = omega (arith, at.within, at.deep) in
      let up : (get_or served (p + 1 - d) e).round ≤ (get_or served k e).round = rising (p + 1 - d) k e low k_in in
      let down : (get_or served k e).round ≤ (get_or served p e).round = rising k p e (omega (arith, at.deep)) at.within in
      and_from (nat_le (get_or served k e).due f.due) ((get_or served k e).round == f.round) (le-leb (get_or served k e).due f.due (at.latest.most k e low (omega (arith, at.deep)))) (eq-eqb (get_or served k e).round f.round (omega (arith, at.starts e, at.here e))))

  -- and of none but these
  found_latest : (p b : ℕ) (f : Served) → IsFullAt served steps p f → depth_at steps f.round ≤ served_at served f.round b → f.due ≤ b
  unfolding served_at running_at
  found_latest p b f at full =
      elim (cases_lt b f.due) [
        | inr enough ↦ enough
        | inl later ↦
            let d : ℕ = depth_at steps f.round in
            let q : ℕ = at.latest.place in
            let q_in : q < length served = omega (arith, at.latest.high, at.within) in
            let up : (get_or served (p + 1 - d) nobody).round ≤ (get_or served q nobody).round = rising (p + 1 - d) q nobody at.latest.low q_in in
            let down : (get_or served q nobody).round ≤ (get_or served p nobody).round = rising q p nobody (omega (arith, at.latest.high)) at.within in
            let fewer : served_at served f.round b < running_at served f.round =
            count_fewer (λ s. nat_le s.due b && s.round == f.round) (λ s. s.round == f.round) (λ s both. (and_parts (nat_le s.due b) (s.round == f.round) both).1) served q nobody q_in
            (eq-eqb (get_or served q nobody).round f.round (omega (arith, at.starts nobody, at.here nobody)))
            (and_left (nat_le (get_or served q nobody).due b) ((get_or served q nobody).round == f.round) (lt-leb (get_or served q nobody).due b (omega (arith, at.latest.reached nobody)))) in
            absurd (omega (arith, fewer, few f.round))
      ]

  pub found_full : (n : ℕ) (full : List Served) → length served ≤ n → AreFoundUpto served steps n full → AreFull served steps full
  unfolding served_at running_at
  found_full n full all found =
      record {
        sound = λ i e h. let at = found.each i e h in found_sound at.0 (get_or full i e) at.2;
        complete = λ y b enough.
            let more : served_at served y b ≤ running_at served y = served_le served y b in
            let run = run_of y (times served) (times_rise served rising) (depth_at steps y - 1) (omega (arith, more, times_count served y, some y)) in
            let e : ℕ = run.1 in
            let e_in : e < length served = omega (arith, run.3, length-map served (λ s. s.round)) in
            let at_e : (get_or served e nobody).round ≡ y = sym (time_at served e e_in) ∙ run.5 in
            let at_j : (get_or served run.0 nobody).round ≡ y = sym (time_at served run.0 (omega (arith, run.2))) ∙ run.4 in
            let first : e + 1 - depth_at steps y ≡ run.0 = omega (arith, run.2, some y) in
            let deep : depth_at steps (get_or served e nobody).round ≤ e + 1 = omega (arith, ap (λ r. depth_at steps r) at_e, run.2, some y) in
            let starts : (get_or served (e + 1 - depth_at steps (get_or served e nobody).round) nobody).round ≡ (get_or served e nobody).round =
            ap (λ r. (get_or served (e + 1 - depth_at steps r) nobody).round) at_e ∙ ap (λ k. (get_or served k nobody).round) first ∙ at_j ∙ sym at_e in
            let hit = found.hit e (omega arith) deep starts in (
              hit.0,
              hit.1,
              λ d.
                  let is : (get_or full hit.0 d).round ≡ y = hit.2 d ∙ at_e in
                  let at = found.each hit.0 d hit.1 in
                  (is, found_latest at.0 b (get_or full hit.0 d) at.2 (subst (λ r. depth_at steps r ≤ served_at served r b) (sym is) enough)),
            );
      }

  pub found_timely : (n : ℕ) (full : List Served) → AreFoundUpto served steps n full → All (λ s. (s.round ≤ s.due) × (s.round < 2199023255552)) served → All (λ s. (s.round ≤ s.due) × (s.round < 2199023255552)) full
  found_timely n full found timely i e h =
      let at = found.each i e h in
      let p : ℕ = at.0 in
      let f : Served = get_or full i e in
      let d : ℕ = depth_at steps f.round in
      let q : ℕ = at.2.latest.place in
      let q_in : q < length served = omega (arith, at.2.latest.high, at.2.within) in
      let up : (get_or served (p + 1 - d) nobody).round ≤ (get_or served q nobody).round = rising (p + 1 - d) q nobody at.2.latest.low q_in in
      let down : (get_or served q nobody).round ≤ (get_or served p nobody).round = rising q p nobody (omega (arith, at.2.latest.high)) at.2.within in
      let known = timely q nobody q_in in
      (omega (arith, known.0, at.2.starts nobody, at.2.here nobody, at.2.latest.reached nobody), omega (arith, known.1, at.2.starts nobody, at.2.here nobody))
