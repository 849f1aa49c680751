-- The options of the subcommands, a row for each.
use Rattle.std.specs.Prelude.{codes}
use Rattle.edd_commands.specs.declared.TheConstants.{MAX_COMMANDS}
use Rattle.edd_commands.specs.declared.steps.TheConstants.{MAX_DEPTH}
use Rattle.blk_schedulers.specs.declared.numbers.TheConstants.{MAX_LOAD_SUBMITTERS, MAX_LOAD_WORKERS, MAX_LOAD_BIOS, MAX_LOAD_DEPTH, MAX_LOAD_SERVICE}
use Rattle.blk_schedulers.specs.Options.{Flag, Number, MaybeNumber, Words, MaybeWords, OptionOf, sched_option}
use Rattle.blk_args.specs.declared.table.TheConstants.{MAX_BUSY, MAX_TAGS, MAX_TOP, MAX_THREADS}

-- flags of several subcommands: to write JSON, to read or write a script, to read a schedule, to read or write a trace
abbrev pub json_option : OptionOf
json_option = record { name = codes "json"; kind = Flag }

abbrev pub script_option : OptionOf
script_option = record { name = codes "script"; kind = Flag }

abbrev pub schedule_option : OptionOf
schedule_option = record { name = codes "schedule"; kind = Flag }

abbrev pub trace_option : OptionOf
trace_option = record { name = codes "trace"; kind = Flag }

abbrev pub times_option : OptionOf
times_option = record { name = codes "times"; kind = Flag }

-- of `tune`
abbrev pub by_option : OptionOf
by_option = record { name = codes "by"; kind = Words (codes "misses") }

abbrev pub top_option : OptionOf
top_option = record { name = codes "top"; kind = MaybeNumber 1 MAX_TOP }

abbrev pub threads_option : OptionOf
threads_option = record { name = codes "threads"; kind = MaybeNumber 1 MAX_THREADS }

-- of `oracle` and of `judge`
abbrev pub met_option : OptionOf
met_option = record { name = codes "met"; kind = Flag }

abbrev pub each_option : OptionOf
each_option = record { name = codes "each"; kind = Flag }

-- of `import`
abbrev pub read_expire_option : OptionOf
read_expire_option = record { name = codes "read-expire"; kind = Words (codes "500ms") }

abbrev pub write_expire_option : OptionOf
write_expire_option = record { name = codes "write-expire"; kind = Words (codes "5s") }

abbrev pub from_option : OptionOf
from_option = record { name = codes "from"; kind = Words (codes "insert") }

abbrev pub as_option : OptionOf
as_option = record { name = codes "as"; kind = MaybeWords }

abbrev pub device_option : OptionOf
device_option = record { name = codes "device"; kind = MaybeWords }

abbrev pub tags_option : OptionOf
tags_option = record { name = codes "tags"; kind = MaybeNumber 1 MAX_TAGS }

abbrev pub skip_option : OptionOf
skip_option = record { name = codes "skip"; kind = Words (codes "0s") }

abbrev pub first_option : OptionOf
first_option = record { name = codes "first"; kind = MaybeNumber 1 MAX_COMMANDS }

-- of `blame`
abbrev pub picture_option : OptionOf
picture_option = record { name = codes "picture"; kind = Flag }

abbrev pub all_option : OptionOf
all_option = record { name = codes "all"; kind = Flag }

abbrev pub certificate_option : OptionOf
certificate_option = record { name = codes "certificate"; kind = Flag }

abbrev pub tightest_option : OptionOf
tightest_option = record { name = codes "tightest"; kind = MaybeWords }

abbrev pub for_option : OptionOf
for_option = record { name = codes "for"; kind = MaybeWords }

abbrev pub blame_by_option : OptionOf
blame_by_option = record { name = codes "by"; kind = MaybeWords }

-- of `import` again
abbrev pub table_option : OptionOf
table_option = record { name = codes "table"; kind = Flag }

abbrev pub summary_option : OptionOf
summary_option = record { name = codes "summary"; kind = Flag }

abbrev pub round_option : OptionOf
round_option = record { name = codes "round"; kind = MaybeWords }

abbrev pub depth_option : OptionOf
depth_option = record { name = codes "depth"; kind = MaybeNumber 1 MAX_DEPTH }

-- of `replay`
abbrev pub replay_sched_option : OptionOf
replay_sched_option = record { name = sched_option.name; kind = MaybeWords }

abbrev pub fifo_read_expire_option : OptionOf
fifo_read_expire_option = record { name = codes "fifo-read-expire"; kind = Words (codes "500ms") }

abbrev pub fifo_write_expire_option : OptionOf
fifo_write_expire_option = record { name = codes "fifo-write-expire"; kind = Words (codes "5s") }

abbrev pub grid_option : OptionOf
grid_option = record { name = codes "grid"; kind = Flag }

abbrev pub replay_by_option : OptionOf
replay_by_option = record { name = codes "by"; kind = MaybeWords }

-- of `load`, whose depth has a default
abbrev pub submitters_option : OptionOf
submitters_option = record { name = codes "submitters"; kind = Number 1 MAX_LOAD_SUBMITTERS (codes "2") }

abbrev pub workers_option : OptionOf
workers_option = record { name = codes "workers"; kind = Number 1 MAX_LOAD_WORKERS (codes "2") }

abbrev pub bios_option : OptionOf
bios_option = record { name = codes "bios"; kind = Number 1 MAX_LOAD_BIOS (codes "1000") }

abbrev pub load_depth_option : OptionOf
load_depth_option = record { name = depth_option.name; kind = Number 1 MAX_LOAD_DEPTH (codes "8") }

abbrev pub busy_option : OptionOf
busy_option = record { name = codes "busy"; kind = MaybeNumber 2 MAX_BUSY }

abbrev pub service_option : OptionOf
service_option = record { name = codes "service"; kind = Number 0 MAX_LOAD_SERVICE (codes "0") }
