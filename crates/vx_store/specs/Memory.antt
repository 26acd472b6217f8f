-- A store in memory, as contracts see it.
use Rattle.std.specs.Prelude.{ℕ, List, Vec, [], ◌∷◌, ◌++◌, map, length, slice_set, nat_lt, Bool, Option, Some, None, option_map, unwrap_or, Result, Ok, Err}
use Rattle.std.specs.declared.alloc.Global.{Global}
use Rattle.vx_base.specs.Calls.{none_to_fail}
use Rattle.vx_store.specs.Files.{Files, bytes_at}
use Rattle.vx_store.specs.Script.{counted, is_to_fail}
use Rattle.vx_store.specs.Views.{StoreView}
use Rattle.vx_store.specs.declared.error.StoreError.{StoreError}
use Rattle.vx_store.specs.declared.error.StoreError.TheVariants.{Failed, NoMemory}

-- Its files, the numbers of the calls that fail, how many calls were made, and how many of them failed.
pub record StoreMemory : Type 0 where
  pub files : Files
  pub fails : List ℕ
  pub calls : ℕ
  pub faults : ℕ

-- a store that nobody has called yet
abbrev pub new_store : List ℕ → StoreMemory
new_store fails = record { files = []; fails = fails; calls = 0; faults = 0 }

-- each file's bytes, as the code keeps them
abbrev pub files_of : List (Option (Vec ℕ Global)) → Files
files_of files = map (λ file. option_map (λ bytes. bytes.items) file) files

-- what it tells: its files, of which each that was created has a place, and that no call is still to fail once its list is behind it
abbrev pub store_view : StoreMemory → StoreView
store_view s = record { files = Some s.files; created = length s.files; faults = s.faults; unfailing = none_to_fail s.fails s.calls }

-- the next call is one of those that fail
abbrev pub next_fails : StoreMemory → Bool
next_fails s = is_to_fail s.fails s.calls

-- a store after a call that left its files so
abbrev pub after_call : {T : Type 0} → StoreMemory → Result T StoreError → Files → StoreMemory
after_call s (Ok value) files = record s { files = files; calls = counted s.calls }
after_call s (Err Failed) files = record s { calls = counted s.calls; faults = counted s.faults }
after_call s (Err NoMemory) files = record s { calls = counted s.calls }

-- its files after a call that answered so
abbrev pub after_create : {T : Type 0} → Files → Result T StoreError → Files
after_create files (Ok number) = files ++ Some [] ∷ []
after_create files (Err e) = files

-- these files, with bytes added to that one
abbrev pub with_added : Files → ℕ → List ℕ → Files
with_added files n bytes = slice_set files n (option_map (λ old. old ++ bytes) (bytes_at files n))

abbrev pub after_append : {T : Type 0} → Files → ℕ → List ℕ → Result T StoreError → Files
after_append files n bytes (Ok at) = with_added files n bytes
after_append files n bytes (Err e) = files

abbrev pub after_remove : {T : Type 0} → Files → ℕ → Result T StoreError → Files
after_remove files n (Ok done) = slice_set files n None
after_remove files n (Err e) = files

-- the file has fewer bytes than that
abbrev pub is_past_end : Files → ℕ → ℕ → Bool
is_past_end files n end = nat_lt (length (unwrap_or (bytes_at files n) [])) end
