-- The command by which `clap` tells options from words: seven options with a value, two flags, and
-- the words. Every value is a text to `clap`.
use Rattle.std.specs.Prelude.{List, [], ◌∷◌, Option, Some, None, codes, fold}
use Rattle.clap.specs.Words.{App, Row, Rule, Text, found_of, matches_of, new_app, new_rule, rows_of, with_rule}
use Rattle.clap.specs.Faults.{fault_of}
use Rattle.clap.specs.Kinds.{Kinds}
use Rattle.clap.specs.declared.builder.action.ArgAction.TheVariants.{Append, SetTrue}
use Rattle.clap.specs.declared.parser.matches.ArgMatches.{ArgMatches}

-- `--name VALUE` or `--name=VALUE`
abbrev pub option_rule : Text → Rule
option_rule name = record (new_rule name) { long = Some name }

-- `--name`
abbrev pub flag_rule : Text → Rule
flag_rule name = record (new_rule name) { long = Some name; action = Some SetTrue }

-- each word that is no option, and each one after `--`
abbrev pub words_rule : Text → Rule
words_rule name = record (new_rule name) { action = Some Append }

abbrev pub rules : List Rule
rules =
    option_rule (codes "capacity")
    ∷ option_rule (codes "max")
    ∷ option_rule (codes "unit")
    ∷ option_rule (codes "batch")
    ∷ option_rule (codes "drivers")
    ∷ option_rule (codes "workers")
    ∷ option_rule (codes "mode")
    ∷ flag_rule (codes "log")
    ∷ flag_rule (codes "stats")
    ∷ words_rule (codes "WORDS")
    ∷ []

unfoldable pub command_line : App
command_line = fold with_rule (new_app (codes "vxrun")) rules

-- what `clap` finds, unless it finds a fault
abbrev pub unless : Kinds → List Row → Option (List Row)
unless [] rows = Some rows
unless (kind ∷ kinds) rows = None

-- what `clap` finds in the words, of which the first is the program's name
unfoldable pub found : List Text → Option (List Row)
found words = unless (fault_of command_line words) (matches_of command_line words)

-- what `clap` found
abbrev pub rows_in : ArgMatches → List Row
rows_in matches = rows_of (found_of matches)
