-- The settings that a `Config` holds.
use Rattle.std.specs.Prelude.{map, string_bytes}
use Rattle.vx_words.specs.Settings.{Settings, IsLawful}
use Rattle.vx_words.specs.declared.config.Config.TheInside.{Inside}

abbrev pub settings_in : Inside → Settings
settings_in c = record {
  capacity = c.capacity;
  max = c.max;
  unit = c.unit;
  batch = c.batch;
  drivers = c.drivers;
  workers = c.workers;
  mode = c.mode;
  log = c.log;
  stats = c.stats;
  words = map string_bytes c.words.items;
}

abbrev pub IsKept : Inside → Type 0
IsKept c = IsLawful (settings_in c)
