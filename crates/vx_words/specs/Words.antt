-- The settings of a command line's words, or none where the words are refused.
use Rattle.std.specs.Prelude.{List, Option, option_and_then}
use Rattle.clap.specs.Words.{Text}
use Rattle.vx_words.specs.Command.{found}
use Rattle.vx_words.specs.Settings.{Settings, settings_of}

-- The first word is the program's name.
unfoldable pub config_of : List Text → Option Settings
config_of words = option_and_then settings_of (found words)
