use Rattle.std.proofs.Common.{◌≡◌, ◌<◌, ◌+◌, ℕ, List, length, get_or, take, map, replicate, arith, sym, ap, ◌∙◌}
use Rattle.std.proofs.lemmas.List.{length-set, get_or-replicate, length-replicate, same_lists, get_or-map, length-map, take_all, get_or_read, get_or_default}
use Rattle.edd_commands.specs.declared.Command.{Command}
use Rattle.edd_check.specs.declared.Window.{Window}
use Rattle.edd_check.specs.OnTime.{inside_of}
use Rattle.edd_figures.proofs.Windows.{counted_in, counted_out, inside_few, none_inside, zeros_of}
use Rattle.edd_figures.proofs.missing.inside_each.Goals as goal
use Rattle.edd_figures.proofs.missing.inside_each.Goals.{in-Some, in_default}

abbrev none : Command
none = record { id = 0; release = 0; due = 0 }

abbrev no_window : Window
no_window = record { from = 0; due = 0 }

pub loop-command-init : goal.loop-command-init
loop-command-init g c =
    let zeros : c.resize.new.self.items ≡ replicate (length c.args.cover.now) 0 = c.in_ok-resize.ensures.items ∙ zeros_of (length c.args.cover.now) c.new-counts.result.items _ c.new-counts.ensures.items c.new-counts.ensures.len in
    record {
      each = ap length zeros ∙ length-replicate (length c.args.cover.now) 0;
      so_far = λ k d h. ap (λ l. get_or l k 0) zeros ∙ get_or-replicate (length c.args.cover.now) k 0 0 h ∙ sym (none_inside (get_or c.args.cover.now k d));
    }

pub index_mut-requires : goal.index_mut-requires
index_mut-requires g c = omega (arith, c.in-Some.ensures.within, c.loop-command.invariant.each)

pub overflow_add-index_mut : goal.overflow_add-index_mut
overflow_add-index_mut g c =
    let few = inside_few c.args.commands.now (get_or c.args.cover.now c.in-Some.place no_window) c.loop-command.command-index (omega arith) in
    let is = c.loop-command.invariant.so_far c.in-Some.place no_window c.in-Some.ensures.within in
    let was : c.index_mut.result.now ≡ get_or c.loop-command.counts.items c.in-Some.place 0 = get_or_read c.loop-command.counts.items c.in-Some.place c.index_mut.result.now (omega (arith, c.in-Some.ensures.within, c.loop-command.invariant.each)) c.index_mut.ensures.value 0 in
    omega (arith, few, is, was)

pub loop-command-preserved : goal.loop-command-preserved
loop-command-preserved g c =
    let old = c.loop-command.invariant in
    elim c.match-window_of.branch [
      | in-Some w ↦ record {
        each = ap (λ v. length v.items) w.counts-is ∙ length-set c.loop-command.counts.items w.in-Some.place (w.index_mut.result.now + 1) ∙ old.each;
        so_far = λ k d h.
            let was : w.index_mut.result.now ≡ get_or c.loop-command.counts.items w.in-Some.place 0 = get_or_read c.loop-command.counts.items w.in-Some.place w.index_mut.result.now (omega (arith, w.in-Some.ensures.within, old.each)) w.index_mut.ensures.value 0 in
            ap (λ v. get_or v.items k 0) w.counts-is
            ∙ counted_in c.args.commands.now c.args.cover.now c.loop-command.counts.items c.loop-command.command-index w.in-Some.place k (w.index_mut.result.now + 1) d none h old.each w.in-Some.ensures.within c.loop-command-test.true (ap (λ n. n + 1) was) (old.so_far k d h) (w.in-Some.ensures.place k d h);
      }
      | in_default w ↦ record {
        each = ap (λ v. length v.items) w.counts-is ∙ old.each;
        so_far = λ k d h.
            ap (λ v. get_or v.items k 0) w.counts-is
            ∙ counted_out c.args.commands.now (get_or c.args.cover.now k d) c.loop-command.command-index (get_or c.loop-command.counts.items k 0) none c.loop-command-test.true (old.so_far k d h) (w.in_default.ensures.place k d h);
      }
    ]

pub returns : goal.returns
returns g c =
    let old = c.loop-command.invariant in
    let all : take c.loop-command.command-index c.args.commands.now ≡ c.args.commands.now = take_all c.loop-command.command-index c.args.commands.now c.loop-command-test.false in
    let counts : List ℕ = c.loop-command.counts.items in
    let asked : List ℕ = map (λ w. inside_of c.args.commands.now w) c.args.cover.now in
    same_lists counts asked (old.each ∙ sym (length-map c.args.cover.now (λ w. inside_of c.args.commands.now w)))
    (λ k d h.
    let low : k < length c.args.cover.now = omega (arith, h, old.each) in
    get_or_default counts k d 0 h
    ∙ old.so_far k no_window low
    ∙ ap (λ l. inside_of l (get_or c.args.cover.now k no_window)) all
    ∙ sym (get_or-map (λ w. inside_of c.args.commands.now w) c.args.cover.now k no_window d low))
