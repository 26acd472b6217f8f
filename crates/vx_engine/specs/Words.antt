-- The command line: the file that it names, where it asks for nothing that isn't built yet.
use Rattle.std.specs.Prelude.{◌≡◌, ℕ, ◌==◌, ◌||◌, Bool, true, false, not, List, [], length, slice_index_or, String, map, string_bytes, Option, Some, None, option_and_then, if◌then◌else◌, ⊤, Result, Ok, Err}
use Rattle.std.specs.declared.alloc.Global.{Global}
use Rattle.vx_words.specs.Settings.{Settings}
use Rattle.vx_words.specs.Words.{config_of}
use Rattle.vx_words.specs.declared.config.Mode.{Mode}
use Rattle.vx_words.specs.declared.config.Mode.TheVariants.{Run, Check, Gen}
use Rattle.vx_words.specs.declared.error.WordsError.{WordsError}
use Rattle.vx_words.specs.declared.error.WordsError.TheVariants.{Refused, NoMemory}

abbrev pub is_run : Mode → Bool
is_run Run = true
is_run Check = false
is_run Gen = false

-- There are no queries yet, so nothing that limits or parts their work may be other than the defaults.
abbrev pub limits_queries : Settings → Bool
limits_queries s =
    not (s.capacity == 268435456) || not (s.max == 268435456) || not (s.unit == 65536)
    || not (s.batch == 256) || not (s.drivers == 1)

-- The settings ask for what isn't built yet. Such words are bad, until a change that builds it takes its part away.
-- The number of workers is free: whatever it is, the same is printed.
abbrev pub asks_for_unbuilt : Settings → Bool
asks_for_unbuilt s =
    not (is_run s.mode) || not (length s.words == 1) || s.log || s.stats || limits_queries s

-- the settings of the words, where they are lawful
abbrev pub asked : List (String Global) → Option Settings
asked words = config_of (map string_bytes words)

abbrev pub AsksForUnbuilt : Settings → Type 0
AsksForUnbuilt s = asks_for_unbuilt s ≡ true

-- the file that is run
abbrev pub file_of : Settings → Option (List ℕ)
file_of s = if asks_for_unbuilt s then None else Some (slice_index_or s.words 0 [])

abbrev pub name_of : List (String Global) → Option (List ℕ)
name_of words = option_and_then file_of (asked words)

-- it is the file that is run, or there is none and the words are bad
abbrev pub ReadsName : Option (List ℕ) → Result (String Global) WordsError → Type 0
ReadsName named (Ok name) = named ≡ Some (string_bytes name)
ReadsName named (Err Refused) = named ≡ None
ReadsName named (Err NoMemory) = ⊤
