use Rattle.std.proofs.Common.{◌∙◌, sym, ap}
use Rattle.std.specs.Option.{option_or}
use Rattle.blk_bio.specs.declared.bio.Dir.TheVariants.{Read, Write}
use Rattle.blk_index.specs.Inside.Lanes.{found_in}
use Rattle.blk_index.proofs.ByDir.{found, named}
use Rattle.blk_index.proofs.requests.Requests.get.Goals as goal

pub returns-in-Some-clause-value : goal.returns-in-Some-clause-value
returns-in-Some-clause-value g c = rw (← c.self.view_is) (sym (found c.self.inside.reads c.self.inside.writes c.args.id ∙ ap (λ o. option_or o (found_in c.self.inside.writes c.args.id)) (sym c.in-Some.ensures)))

pub returns-in-Some-clause-named : goal.returns-in-Some-clause-named
returns-in-Some-clause-named g c = rw (← c.self.view_is) (named Read Write c.self.inside.reads c.self.inside.writes c.self.invariant.apart)

pub returns-in-None-clause-value : goal.returns-in-None-clause-value
returns-in-None-clause-value g c = rw (← c.self.view_is) (c.get-in-None.ensures ∙ sym (found c.self.inside.reads c.self.inside.writes c.args.id ∙ ap (λ o. option_or o (found_in c.self.inside.writes c.args.id)) (sym c.in-None.ensures)))

pub returns-in-None-clause-named : goal.returns-in-None-clause-named
returns-in-None-clause-named g c = rw (← c.self.view_is) (named Read Write c.self.inside.reads c.self.inside.writes c.self.invariant.apart)
