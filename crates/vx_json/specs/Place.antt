-- Where in a plan file a value stands, and what is refused there. A path begins at the file's root and has
-- `/` before each name and each index.
use Rattle.std.specs.Prelude.{ℕ, List, [], ◌++◌, codes, decimal, unwrap_or, Result, Ok, Err}
use Rattle.serde_json.specs.Data.{Data}
use Rattle.serde_json.specs.Find.{get}
use Rattle.vx_expr.specs.declared.outcome.TypeError.{TypeError}
use Rattle.vx_plan.specs.declared.refusal.LimitName.{LimitName}
use Rattle.vx_json.specs.declared.way.Way.{Way, fold-Way}
use Rattle.vx_json.specs.declared.way.Way.TheOpen.{Way-F}

-- a refusal, with its path as bytes
pub data Said : Type 0 where
  p1 : Said
  p2 : List ℕ → Said
  p3 : List ℕ → Said
  p4 : ℕ → TypeError → Said
  p5 : ℕ → Said
  p6 : LimitName → Said
  p7 : ℕ → Said

-- the path of a field, and of an item
abbrev pub at_field : List ℕ → List ℕ → List ℕ
at_field path name = path ++ codes "/" ++ name

abbrev pub at_item : List ℕ → ℕ → List ℕ
at_item path i = path ++ codes "/" ++ decimal i

-- the field of an object that is known to have it
abbrev pub field : List ℕ → Data → Data
field name d = unwrap_or (get name d) d

-- a value that is missing, unknown, or of another type or form than it must be
abbrev pub misfit : {T : Type 0} → List ℕ → Result T Said
misfit path = Err (p2 path)

-- what is given by a first reading and one that goes on from it; the first refusal stands
abbrev pub and_then : {A B : Type 0} → Result A Said → (A → Result B Said) → Result B Said
and_then (Ok a) more = more a
and_then (Err said) more = Err said

-- ---- the way to a place, as the code keeps it

abbrev pub path_step : Way-F (List ℕ) → List ℕ
path_step Way-F.Root = []
path_step (Way-F.Field up name) = at_field up.now name.now
path_step (Way-F.Item up i) = at_item up.now i

abbrev pub path_of : Way → List ℕ
path_of = fold-Way (List ℕ) path_step
