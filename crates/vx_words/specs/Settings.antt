-- The settings of a command line: the table of its options.
use Rattle.std.specs.Prelude.{◌≡◌, ℕ, ◌≤◌, ◌&&◌, nat_le, min, if◌then◌else◌, Bool, true, false, List, [], ◌∷◌, length, Option, Some, None, is_some, codes}
use Rattle.std.specs.Int.{is_power_of_two}
use Rattle.std.specs.Str.{bytes_eq}
use Rattle.clap.specs.Words.{Row, Text, all_of, first_of}
use Rattle.vx_words.specs.Numbers.{number_between}
use Rattle.vx_words.specs.declared.config.Mode.{Mode}
use Rattle.vx_words.specs.declared.config.Mode.TheVariants.{Run, Check, Gen}

-- Memory is in bytes, and `words` are those that are no options.
pub record Settings : Type 0 where
  pub capacity : ℕ
  pub max : ℕ
  pub unit : ℕ
  pub batch : ℕ
  pub drivers : ℕ
  pub workers : ℕ
  pub mode : Mode
  pub log : Bool
  pub stats : Bool
  pub words : List Text

infixl 10 ◌>>=◌
abbrev pub ◌>>=◌ : {A B : Type 0} → Option A → (A → Option B) → Option B
(Some x) >>= f = f x
None >>= f = None

-- ---- one option

-- a number in the range of its option, or the default where the option isn't given
abbrev pub number_or : Option Text → ℕ → ℕ → ℕ → Option ℕ
number_or None least most default = Some default
number_or (Some text) least most default = number_between text least most

abbrev pub number_setting : List Row → Text → ℕ → ℕ → ℕ → Option ℕ
number_setting rows name least most default = number_or (first_of name rows) least most default

-- a power of two that is at most the capacity
abbrev pub power_of_two : ℕ → Option ℕ
power_of_two n = if is_power_of_two n then Some n else None

abbrev pub unit_setting : List Row → ℕ → Option ℕ
unit_setting rows capacity = number_setting rows (codes "unit") 4096 (min capacity 1048576) 65536 >>= power_of_two

-- from the unit to the capacity, and the capacity where it isn't given
abbrev pub max_setting : List Row → ℕ → ℕ → Option ℕ
max_setting rows unit capacity = number_setting rows (codes "max") unit capacity capacity

abbrev pub mode_named : Text → Option Mode
mode_named name =
    if bytes_eq name (codes "run") then Some Run
    else if bytes_eq name (codes "check") then Some Check
    else if bytes_eq name (codes "gen") then Some Gen
    else None

abbrev pub mode_or_run : Option Text → Option Mode
mode_or_run None = Some Run
mode_or_run (Some name) = mode_named name

-- a flag is on where it is given
abbrev pub is_on : Option Text → Bool
is_on None = false
is_on (Some text) = bytes_eq text (codes "true")

abbrev pub flag : List Row → Text → Bool
flag rows name = is_on (first_of name rows)

-- ---- the words that are no options

-- 1 to 32 names of files, of which some may be the same
abbrev pub are_names : List Text → Bool
are_names names = nat_le 1 (length names) && nat_le (length names) 32

-- the number of the plan that is made, and its rows
abbrev pub is_plan : List Text → Bool
is_plan [] = false
is_plan (number ∷ []) = false
is_plan (number ∷ rows ∷ []) = is_some (number_between number 0 9999999999) && is_some (number_between rows 1 50000)
is_plan (number ∷ rows ∷ another ∷ more) = false

abbrev pub are_lawful : Mode → List Text → Bool
are_lawful Run names = are_names names
are_lawful Check names = are_names names
are_lawful Gen words = is_plan words

abbrev pub lawful_words : Mode → List Text → Option (List Text)
lawful_words mode words = if are_lawful mode words then Some words else None

abbrev pub words_setting : List Row → Mode → Option (List Text)
words_setting rows mode = all_of (codes "WORDS") rows >>= lawful_words mode

-- ---- the table

-- each option with its least and its greatest value, and its value where it isn't given
abbrev pub settings_of : List Row → Option Settings
settings_of rows = do
  capacity ← number_setting rows (codes "capacity") 65536 8589934592 268435456
  unit ← unit_setting rows capacity
  max ← max_setting rows unit capacity
  batch ← number_setting rows (codes "batch") 1 4096 256
  drivers ← number_setting rows (codes "drivers") 1 8 1
  workers ← number_setting rows (codes "workers") 1 16 1
  mode ← mode_or_run (first_of (codes "mode") rows)
  words ← words_setting rows mode
  Some (record {
    capacity = capacity;
    max = max;
    unit = unit;
    batch = batch;
    drivers = drivers;
    workers = workers;
    mode = mode;
    log = flag rows (codes "log");
    stats = flag rows (codes "stats");
    words = words;
  })

-- ---- what holds of every settings

pub record IsLawful (s : Settings) : Type 0 where
  pub capacity_least : 65536 ≤ s.capacity
  pub capacity_most : s.capacity ≤ 8589934592
  pub unit_least : 4096 ≤ s.unit
  pub unit_most : s.unit ≤ 1048576
  pub unit_power : is_power_of_two s.unit ≡ true
  pub unit_fits : s.unit ≤ s.capacity
  pub max_least : s.unit ≤ s.max
  pub max_most : s.max ≤ s.capacity
  pub batch_least : 1 ≤ s.batch
  pub batch_most : s.batch ≤ 4096
  pub drivers_least : 1 ≤ s.drivers
  pub drivers_most : s.drivers ≤ 8
  pub workers_least : 1 ≤ s.workers
  pub workers_most : s.workers ≤ 16
  pub words : are_lawful s.mode s.words ≡ true
