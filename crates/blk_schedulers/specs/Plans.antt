-- How a capture is replayed: under which schedulers, and by what these go.
use Rattle.std.specs.Prelude.{ℕ, ◌∷◌, [], Bool, true, false, List, Option, None, Some, codes, find, map, take, option_map, option_and_then, if◌then◌else◌}
use Rattle.std.specs.List.{flat_map}
use Rattle.std.specs.Option.{option_or}
use Rattle.std.specs.Str.{bytes_eq}
use Rattle.blk_schedulers.specs.Given.{GivenOptions, sched_by}
use Rattle.blk_schedulers.specs.Grids.{with_value}
use Rattle.blk_schedulers.specs.Options.{OptionKind, OptionOf, Flag, MaybeWords, sched_option, tried_names}
use Rattle.blk_schedulers.specs.Row.{RangeOf, SettingOf, Short, UpTo, Switch, Positions}
use Rattle.blk_schedulers.specs.Rows.{row_for, sched_table}
use Rattle.blk_schedulers.specs.declared.plans.FifoExpire.{FifoExpire}
use Rattle.blk_schedulers.specs.declared.plans.Plan.{Plan}
use Rattle.blk_schedulers.specs.declared.rows.SchedKind.{SchedKind}
use Rattle.blk_schedulers.specs.declared.rows.SchedKind.TheVariants as kind
use Rattle.blk_schedulers.specs.declared.sched.Sched.{Sched}

-- a scheduler of a kind with the settings that are given, and a replay under it
abbrev pub kind_given : GivenOptions → SchedKind → Option Sched
kind_given o k = sched_by o (row_for k)

abbrev pub plan_of : FifoExpire → Sched → Plan
plan_of f s = record { sched = s; fifo = f }

-- under each: deadline with one position and with one of each direction, and earliest as it is and late last
abbrev pub plans_of : FifoExpire → Sched → Sched → Sched → Sched → List Plan
plans_of f none deadline kyber earliest =
    map (plan_of f) (none ∷ with_value 3 deadline 0 ∷ with_value 3 deadline 1 ∷ kyber ∷ with_value 0 earliest 0 ∷ with_value 0 earliest 1 ∷ [])

abbrev pub plans_given : GivenOptions → FifoExpire → Option (List Plan)
plans_given o f =
    option_and_then (λ n. option_and_then (λ d. option_and_then (λ k. option_map (plans_of f n d k) (kind_given o kind.Earliest)) (kind_given o kind.Kyber)) (kind_given o kind.Deadline)) (kind_given o kind.None)

-- the schedulers that have FIFO lists, by whose expiries they go
abbrev pub has_fifo_lists : SchedKind → Bool
has_fifo_lists kind.Deadline = true
has_fifo_lists kind.None = false
has_fifo_lists kind.Kyber = false
has_fifo_lists kind.Earliest = false

-- each choice of these expiries of reads and of writes; those that are tried under a scheduler of a kind, the first alone without FIFO lists
abbrev pub fifo_of : ℕ → ℕ → FifoExpire
fifo_of read write = record { read = read; write = write }

abbrev pub fifos_of : List ℕ → List ℕ → List FifoExpire
fifos_of reads writes = flat_map (λ r. map (fifo_of r) writes) reads

abbrev pub fifos_tried : SchedKind → List FifoExpire → List FifoExpire
fifos_tried k fifos = if has_fifo_lists k then fifos else take 1 fifos

-- the replays under each of these schedulers
abbrev pub plans_tried : List Sched → List ℕ → List ℕ → List Plan
plans_tried scheds reads writes = flat_map (λ s. map (λ f. plan_of f s) (fifos_tried s.kind (fifos_of reads writes))) scheds

-- the option that sets a setting in a replay, or lists the values of it that are tried: a text, or a flag
abbrev pub replay_kind : RangeOf → OptionKind
replay_kind (Short default tried) = MaybeWords
replay_kind (UpTo most default tried) = MaybeWords
replay_kind (Switch turned) = Flag
replay_kind (Positions default tried) = MaybeWords

abbrev pub text_option : SettingOf → OptionOf
text_option s = record { name = s.option; kind = replay_kind s.range }

abbrev pub texts_of : List SettingOf → List OptionOf
texts_of = map text_option

abbrev pub text_options : List OptionOf
text_options = flat_map (λ r. texts_of r.settings) sched_table

-- the setting that an option sets, if it is one of these
abbrev pub setting_in : List SettingOf → List ℕ → Option SettingOf
setting_in settings option = find (λ s. bytes_eq option s.option) settings

-- what stands for an option that isn't given: of a setting its default, or in a grid the list of those that are tried, and each direction's own
-- position; of the scheduler none, or in a grid each
abbrev pub tried_by_default : Bool → RangeOf → Option (List ℕ)
tried_by_default false (Short default tried) = Some default
tried_by_default true (Short default tried) = Some tried
tried_by_default false (UpTo most default tried) = Some default
tried_by_default true (UpTo most default tried) = Some tried
tried_by_default g (Switch turned) = None
tried_by_default g (Positions default tried) = Some (codes "each")

abbrev pub text_tried : Bool → SettingOf → Option (List ℕ)
text_tried g s = tried_by_default g s.range

abbrev pub tried_among : Bool → List SettingOf → List ℕ → Option (List ℕ)
tried_among g settings option = option_and_then (text_tried g) (setting_in settings option)

abbrev pub sched_by_default : Bool → List ℕ
sched_by_default g = if g then tried_names else codes "none"

abbrev pub replay_default : Bool → List ℕ → Option (List ℕ)
replay_default g option =
    if bytes_eq option sched_option.name then Some (sched_by_default g) else option_or (tried_among g (row_for kind.Deadline).settings option) (tried_among g (row_for kind.Kyber).settings option)
