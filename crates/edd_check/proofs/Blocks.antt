-- Counting in blocks of rounds.
use Rattle.std.proofs.Common.{◌≡◌, ◌<◌, ◌≤◌, ℕ, ◌+◌, ◌-◌, List, length, get_or, set, replicate, take, inl, inr, arith, ap, sym, ◌∙◌, ◌≢◌, length-set, subst}
use Rattle.std.specs.List.{All}
use Rattle.std.proofs.lemmas.Bool.{cases_eq, cases_lt}
use Rattle.std.proofs.lemmas.List.{get_or-set_same, get_or-set_other, get_or-replicate, length-replicate}
use Rattle.edd_commands.specs.declared.steps.Step.{Step}
use Rattle.edd_commands.specs.Capacity.{depth_at}
use Rattle.edd_commands.specs.Schedule.{places_at}
use Rattle.edd_check.specs.Inside.Blocks.{IsLeastRoundFrom}
use Rattle.edd_commands.proofs.Counting.{places_more, places_same, places_take, no_places}

-- the places of the rounds from `start` on among the first i, none of which is above the steps
pub record IsCount (rounds : List ℕ) (steps : List Step) (start i : ℕ) (counts : List ℕ) : Type 0 where
  pub long : length counts ≡ 4096
  pub counted : (k : ℕ) → k < 4096 → get_or counts k 0 ≡ places_at (take i rounds) (start + k)
  pub few : (k : ℕ) → k < 4096 → get_or counts k 0 ≤ depth_at steps (start + k)

-- nothing is counted at first
pub nothing_counted : (rounds : List ℕ) (steps : List Step) (start : ℕ) → IsCount rounds steps start 0 (replicate 4096 0)
unfolding places_at
nothing_counted rounds steps start = record {
  long = length-replicate {A = ℕ} 4096 0;
  counted = λ k h. get_or-replicate 4096 k 0 0 h;
  few = λ k h. omega (arith, get_or-replicate {A = ℕ} 4096 k 0 0 h);
}

-- a round of the block is counted once more
pub counted_here : (rounds counts new : List ℕ) (steps : List Step) (start i k : ℕ) → IsCount rounds steps start i counts → i < length rounds → start + k ≡ get_or rounds i 0 → k < 4096 → get_or counts k 0 < depth_at steps (start + k) → new ≡ set counts k (get_or counts k 0 + 1) → IsCount rounds steps start (i + 1) new
counted_here rounds counts new steps start i k so_far within here in_block few is_new =
    let there : k < length counts = omega (arith, so_far.long) in
    let at_k : get_or new k 0 ≡ get_or counts k 0 + 1 = ap (λ xs. get_or xs k 0) is_new ∙ get_or-set_same counts k (get_or counts k 0 + 1) 0 there in
    let others : (j : ℕ) → j ≢ k → get_or new j 0 ≡ get_or counts j 0 = λ j other. ap (λ xs. get_or xs j 0) is_new ∙ get_or-set_other counts k j (get_or counts k 0 + 1) 0 other in
    record {
      long = ap length is_new ∙ length-set counts k (get_or counts k 0 + 1) ∙ so_far.long;
      counted = λ j h.
          elim (cases_eq j k) [
            | inl same ↦ subst (λ n. get_or new n 0 ≡ places_at (take (i + 1) rounds) (start + n)) (sym same) (omega (arith, at_k, so_far.counted k in_block, places_more rounds i (start + k) within (sym here)))
            | inr other ↦ others j other ∙ so_far.counted j h ∙ sym (places_same rounds i (start + j) within (λ same. other (omega arith)))
          ];
      few = λ j h.
          elim (cases_eq j k) [
            | inl same ↦ subst (λ n. get_or new n 0 ≤ depth_at steps (start + n)) (sym same) (omega (arith, at_k))
            | inr other ↦ omega (arith, others j other, so_far.few j h)
          ];
    }

-- a round that is not in the block changes no count
pub counted_elsewhere : (rounds counts new : List ℕ) (steps : List Step) (start i : ℕ) → IsCount rounds steps start i counts → i < length rounds → ((k : ℕ) → k < 4096 → get_or rounds i 0 ≢ start + k) → new ≡ counts → IsCount rounds steps start (i + 1) new
counted_elsewhere rounds counts new steps start i so_far within elsewhere is_new =
    subst (IsCount rounds steps start (i + 1)) (sym is_new) record {
      long = so_far.long;
      counted = λ k h. so_far.counted k h ∙ sym (places_same rounds i (start + k) within (elsewhere k h));
      few = so_far.few;
    }

-- a round that stands once more where its count is the steps already has too many places
pub one_too_many : (rounds counts : List ℕ) (steps : List Step) (start i k : ℕ) → IsCount rounds steps start i counts → i < length rounds → start + k ≡ get_or rounds i 0 → k < 4096 → depth_at steps (start + k) ≤ get_or counts k 0 → depth_at steps (start + k) < places_at rounds (start + k)
one_too_many rounds counts steps start i k so_far within here in_block full =
    omega (arith, so_far.counted k in_block, places_more rounds i (start + k) within (sym here), places_take rounds (i + 1) (start + k))

-- rounds below the next block stay within the steps, where those below the least and those of its block do
pub next_block : (rounds : List ℕ) (steps : List Step) (start least : ℕ) → ((x : ℕ) → x < start → places_at rounds x ≤ depth_at steps x) → IsLeastRoundFrom rounds start least → ((k : ℕ) → k < 4096 → places_at rounds (least + k) ≤ depth_at steps (least + k)) → (x : ℕ) → x < least + 4096 → places_at rounds x ≤ depth_at steps x
next_block rounds steps start least below from_least block x h =
    elim (cases_lt x start) [
      | inl low ↦ below x low
      | inr high ↦
          elim (cases_lt x least) [
            | inl between ↦ omega (arith, no_places rounds x (λ k lt same. let up = from_least.others k 0 lt (omega arith) in absurd (omega arith)))
            | inr later ↦ let same : x ≡ least + (x - least) = omega arith in subst (λ n. places_at rounds n ≤ depth_at steps n) (sym same) (block (x - least) (omega arith))
          ]
    ]

-- no round from `start` on stands in the list
pub no_more : (rounds : List ℕ) (steps : List Step) (start : ℕ) → ((x : ℕ) → x < start → places_at rounds x ≤ depth_at steps x) → All (λ x. x < start) rounds → (x : ℕ) → places_at rounds x ≤ depth_at steps x
no_more rounds steps start below all x =
    elim (cases_lt x start) [
      | inl low ↦ below x low
      | inr high ↦ omega (arith, no_places rounds x (λ k lt same. let up = all k 0 lt in absurd (omega arith)))
    ]

-- a block that reaches the end of the numbers is the last one
pub last_block : (rounds : List ℕ) (steps : List Step) (start least bound : ℕ) → ((x : ℕ) → x < start → places_at rounds x ≤ depth_at steps x) → IsLeastRoundFrom rounds start least → ((k : ℕ) → k < 4096 → places_at rounds (least + k) ≤ depth_at steps (least + k)) → ((k : ℕ) → get_or rounds k 0 < bound) → bound ≤ least + 4096 → (x : ℕ) → places_at rounds x ≤ depth_at steps x
last_block rounds steps start least bound below from_least block each end x =
    elim (cases_lt x (least + 4096)) [
      | inl before ↦ next_block rounds steps start least below from_least block x before
      | inr past ↦ omega (arith, no_places rounds x (λ k lt same. let low = each k in absurd (omega arith)))
    ]
