-- Where it stands and its settings are known by the numbers that it keeps.
use Rattle.std.proofs.Common.{◌≡◌, refl, arith, [], ◌∷◌}
use Rattle.std.specs.Prelude.{Option, None, Some}
use Rattle.blk_bio.specs.declared.bio.Dir.{Dir}
use Rattle.blk_bio.specs.declared.bio.Dir.TheVariants.{Read, Write}
use Rattle.blk_sched.specs.Meaning.{is_same}
use Rattle.blk_sched.specs.Policies.{switch_number}
use Rattle.blk_sched.proofs.Numbers.{one_switch, head_of, tail_of, none_is, some_is}
use Rattle.blk_deadline.specs.declared.Last.{Last}
use Rattle.blk_deadline.specs.declared.BatchState.{BatchState}
use Rattle.blk_deadline.specs.declared.Tunables.{Tunables}
use Rattle.blk_deadline.specs.declared.Positions.{Positions}
use Rattle.blk_deadline.specs.declared.Positions.TheVariants.{One, Each}
use Rattle.blk_deadline.specs.Choice.{last_numbers, is_each, deadline_kept}

one_dir : (d e : Dir) → switch_number (is_same d Write) ≡ switch_number (is_same e Write) → d ≡ e
one_dir Read Read h = refl
one_dir Write Write h = refl
one_dir Read Write h = let e : 0 ≡ 1 = h in absurd (omega (arith, e))
one_dir Write Read h = let e : 1 ≡ 0 = h in absurd (omega (arith, e))

one_last : (a b : Option Last) → last_numbers a ≡ last_numbers b → a ≡ b
one_last None None h = refl
one_last None (Some b) h = absurd (none_is _ _ h)
one_last (Some a) None h = absurd (some_is _ _ h)
one_last (Some a) (Some b) h =
    let h1 : a.first ∷ a.id ∷ [] ≡ b.first ∷ b.id ∷ [] = tail_of _ _ _ _ h in
    let dir : a.dir ≡ b.dir = one_dir a.dir b.dir (head_of _ _ _ _ h) in
    let first : a.first ≡ b.first = head_of _ _ _ _ h1 in
    let id : a.id ≡ b.id = head_of _ _ _ _ (tail_of _ _ _ _ h1) in
    λ i. Some (record { dir = dir i; first = first i; id = id i })

one_positions : (p q : Positions) → switch_number (is_each p) ≡ switch_number (is_each q) → p ≡ q
one_positions One One h = refl
one_positions Each Each h = refl
one_positions One Each h = let e : 0 ≡ 1 = h in absurd (omega (arith, e))
one_positions Each One h = let e : 1 ≡ 0 = h in absurd (omega (arith, e))

pub one_kept : (t u : BatchState) (s v : Tunables) → deadline_kept t s ≡ deadline_kept u v → (t ≡ u) × (s ≡ v)
one_kept t u s v h =
    let h1 = tail_of _ _ _ _ h in
    let h2 = tail_of _ _ _ _ h1 in
    let h3 = tail_of _ _ _ _ h2 in
    let h4 = tail_of _ _ _ _ h3 in
    let h5 = tail_of _ _ _ _ h4 in
    let h6 = tail_of _ _ _ _ h5 in
    let h7 = tail_of _ _ _ _ h6 in
    let front : s.front_merges ≡ v.front_merges = one_switch _ _ (head_of _ _ _ _ h2) in
    let positions : s.positions ≡ v.positions = one_positions _ _ (head_of _ _ _ _ h3) in
    let last : t.last ≡ u.last = one_last t.last u.last (tail_of _ _ _ _ h7) in (
      (λ i. record {
        last = last i;
        read_position = head_of _ _ _ _ h6 i;
        write_position = head_of _ _ _ _ h7 i;
        batching = head_of _ _ _ _ h4 i;
        starved = head_of _ _ _ _ h5 i;
      }),
      (λ i. record { fifo_batch = head_of _ _ _ _ h i; writes_starved = head_of _ _ _ _ h1 i; front_merges = front i; positions = positions i }),
    )
