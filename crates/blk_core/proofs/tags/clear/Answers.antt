use Rattle.std.proofs.Common.{rules, refl, ℕ, ◌≡◌, ◌+◌, ◌≤◌, ◌<◌, ◌⊎◌, inl, inr, length, arith, get_or}
use Rattle.std.proofs.lemmas.List.{length-set}
use Rattle.blk_core.specs.declared.tags.TagState.TheVariants.{Free}
use Rattle.std.proofs.lemmas.Bool.{cases_lt}
use Rattle.blk_core.proofs.Flights.{freed, one_freed}
use Rattle.blk_core.proofs.tags.clear.Goals as goal

pub loop-tag-init : goal.loop-tag-init
loop-tag-init c = λ k low either. elim either [ inl none ↦ absurd (omega (arith, none)) | inr past ↦ c.requires.free k past low ]

pub loop-tag-preserved : goal.loop-tag-preserved
loop-tag-preserved c = λ k low either.
    one_freed c.loop-tag.tags c.loop-tag.tag (omega (arith, c.loop-tag-test.true, c.requires.few, c.loop-tag.auto.tags)) k (λ other. c.loop-tag.invariant k (omega (arith, low, length-set c.loop-tag.tags c.loop-tag.tag Free)) (elim either [ inl below ↦ inl (omega (arith, below, other)) | inr past ↦ inr past ]))

pub returns : goal.returns
returns c =
    freed c.loop-tag.tags (length c.args.tags.now) (search rules) (λ k low.
    c.loop-tag.invariant k low (elim (cases_lt k c.args.bound) [ inl below ↦ inl (omega (arith, below, c.loop-tag-test.false)) | inr past ↦ inr (omega (arith, past)) ]))
