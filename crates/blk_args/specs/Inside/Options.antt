-- Options, as clap found them.
use Rattle.std.specs.Prelude.{List}
use Rattle.clap.specs.declared.parser.matches.ArgMatches.{ArgMatches}
use Rattle.clap.specs.Words.{Row, found_of, rows_of}

-- what the options of a subcommand are given
abbrev pub given : ArgMatches → List Row
given options = rows_of (found_of options)
