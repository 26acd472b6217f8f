-- A store over real files, as contracts see it: it tells how many files were created, and its faults.
use Rattle.std.specs.Prelude.{ℕ, List, ◌++◌, codes, decimal, false, None}
use Rattle.vx_store.specs.Views.{StoreView}

-- what it tells once so many files were created and so many calls have failed
abbrev pub folder_view : ℕ → ℕ → StoreView
folder_view created faults = record { files = None; created = created; faults = faults; unfailing = false }

-- the name of a job's file, below the current folder
abbrev pub file_name : ℕ → ℕ → List ℕ
file_name job number = codes "vxspill/" ++ decimal job ++ codes "-" ++ decimal number ++ codes ".bin"
