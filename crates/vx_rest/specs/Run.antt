-- A query from its start on, and what its moves keep.
use Rattle.std.specs.Prelude.{◌≡◌, ℕ, ◌≤◌, true, false, List, [], ◌∷◌, Ok, Err, Some, Contains}
use Rattle.vx_value.specs.Row.{Row}
use Rattle.vx_expr.specs.declared.outcome.Fault.{Fault}
use Rattle.vx_expr.specs.declared.outcome.Fault.TheVariants.{Overflow}
use Rattle.vx_plan.specs.declared.aggregate.Aggregate.{Aggregate}
use Rattle.vx_plan.specs.declared.aggregate.Step.{Step}
use Rattle.vx_plan.specs.declared.aggregate.Step.TheVariants.{Partial}
use Rattle.vx_plan.specs.Tree.{Tree, Own, filter, project, aggregation, id_of}
use Rattle.vx_plan.specs.Ids.{check_ids}
use Rattle.vx_plan.specs.Widths.{check_widths}
use Rattle.vx_meaning.specs.Rows.{first_fault}
use Rattle.vx_meaning.specs.Answer.{Answers}
use Rattle.vx_meaning.specs.Faulty.{Faulty}
use Rattle.vx_rest.specs.Held.{Held, outcomes}
use Rattle.vx_rest.specs.RestFaulty.{RestFaulty}
use Rattle.vx_rest.specs.Start.{IsAtStart}
use Rattle.vx_rest.specs.Rank.{IsLower}
use Rattle.vx_rest.specs.MachineRank.{rank_of}
use Rattle.vx_rest.specs.Pick.{all_lines, IsAmong, IsRunnable}
use Rattle.vx_rest.specs.Machine.{Machine, Move, gives, takes, CanMake}
use Rattle.vx_rest.specs.Changes.{Makes}

-- no end was passed on, and no operator knows of one
pub record StartsNew (drivers : ℕ) (t : Tree) (m : Machine) : Type 0 where
  pub query : IsAtStart drivers m.query t
  pub input : (id driver : ℕ) → m.ends.input id driver ≡ false
  pub build : (id driver : ℕ) → m.ends.build id driver ≡ false
  pub ended : (id driver : ℕ) → (m.query.held id driver).ended ≡ false
  pub through : (id : ℕ) → m.through id ≡ false
  pub leaving : (id : ℕ) → m.leaving id ≡ false
  pub full : (id queue : ℕ) → m.full id queue ≡ false
  pub done : m.done ≡ false

-- a machine to which moves have led
pub data IsRun (drivers : ℕ) (t : Tree) : Machine → Type 0 where
  started : (m : Machine) → StartsNew drivers t m → IsRun drivers t m
  moved : (move : Move) (old new : Machine) → Makes drivers t move old new → IsRun drivers t old → IsRun drivers t new

-- ---- faults that a move answers

-- a group that is held overflows; a partial step can't
abbrev pub Overflows : Step → List Aggregate → Held → Row → Fault
    → Type 0
Overflows Partial aggregates held key code = ⊥
Overflows step aggregates held key code = (code ≡ Overflow) × Contains (outcomes step aggregates held.groups) (Err key)

-- a batch that is taken has a row on which an expression faults
abbrev pub TakesFault : Own → List Row → Row → Fault → Type 0
TakesFault (filter x) batch row code = Contains batch row × (first_fault (x ∷ []) row ≡ Some code)
TakesFault (project xs) batch row code = Contains batch row × (first_fault xs row ≡ Some code)
TakesFault own batch row code = ⊥

-- an operator that gives meets a group that overflows
abbrev pub GivesFault : Own → Held → Row → Fault → Type 0
GivesFault (aggregation step keys aggregates) held row code = Overflows step aggregates held row code
GivesFault own held row code = ⊥

-- the node at which this move meets this fault
abbrev pub MeetsAt : Machine → Move → ℕ → Row → Fault → Type 0
MeetsAt m (takes id own source driver) at row code = (id ≡ at)
    × TakesFault own (m.query.hand (id_of source) driver) row code
MeetsAt m (gives id own source driver) at row code = (id ≡ at) × GivesFault own (m.query.held id driver) row code
MeetsAt m move at row code = ⊥

-- ---- the laws

-- what has come out at the end is an answer
abbrev pub RunsEndInAnswers : Type 0
RunsEndInAnswers = (drivers : ℕ) → 1 ≤ drivers → (t : Tree) → check_ids t ≡ Ok tt → check_widths t ≡ Ok tt
    → (m : Machine) → IsRun drivers t m → m.done ≡ true → Answers t m.query.out

-- a fault that a move meets is the plan's
abbrev pub FaultsAreThePlans : Type 0
FaultsAreThePlans =
    (drivers : ℕ) → 1 ≤ drivers → (t : Tree) → check_ids t ≡ Ok tt → check_widths t ≡ Ok tt → (m : Machine)
    → IsRun drivers t m → (move : Move) → CanMake drivers t m move → (at : ℕ) (row : Row) (code : Fault)
    → MeetsAt m move at row code → Faulty t at row code

-- until then some move can be made
abbrev pub RunsGoOn : Type 0
RunsGoOn = (drivers : ℕ) → 1 ≤ drivers → (t : Tree) → check_ids t ≡ Ok tt → check_widths t ≡ Ok tt → (m : Machine)
    → IsRun drivers t m → m.done ≡ false → (move : Move) × CanMake drivers t m move

-- each move lowers the rank
abbrev pub MovesLowerTheRank : Type 0
MovesLowerTheRank = (drivers : ℕ) → 1 ≤ drivers → (t : Tree) → check_ids t ≡ Ok tt → (move : Move) (old new : Machine)
    → Makes drivers t move old new → IsLower (rank_of drivers t new) (rank_of drivers t old)

-- and until the end some driver is runnable
abbrev pub SomeDriverIsRunnable : Type 0
SomeDriverIsRunnable =
    (drivers : ℕ) → 1 ≤ drivers → (t : Tree) → check_ids t ≡ Ok tt → check_widths t ≡ Ok tt → (m : Machine)
    → IsRun drivers t m → m.done ≡ false → (line : List Move) × IsAmong line (all_lines drivers t)
    × IsRunnable drivers t m line
