-- Plain facts of a join's calls, from which follows what they keep.
use Rattle.std.specs.Prelude.{◌≡◌, ◌||◌, Bool, true, List, [], ◌++◌, map, IsPermutation}
use Rattle.std.specs.List.{list_any}
use Rattle.vx_value.specs.Row.{Row}
use Rattle.vx_plan.specs.declared.node.JoinKind.{JoinKind}
use Rattle.vx_meaning.specs.Joins.{On, Build, fresh, matches, probed, joined}
use Rattle.vx_meaning.specs.Parts.{Apart}
use Rattle.vx_rest.specs.Held.{HeldJoin}

-- a build row after these left rows
abbrev pub mark : On → List Row → Build → Build
mark on probe b = record { row = b.row; matched = b.matched || list_any (λ left. matches on left b.row) probe }

-- all build rows after these left rows
abbrev pub marked : On → List Row → List Build → List Build
marked on probe build = map (mark on probe) build

-- an end stays an end, and then nothing more is taken in
abbrev pub StaysEnded : Bool → Bool → List Row → Type 0
StaysEnded before after taken = before ≡ true → (after ≡ true) × (taken ≡ [])

-- rows taken into the build, or put off; a build's or a probe's end; a cut, and rows on their way back
pub record JoinStays (old new : HeldJoin) (taken_left taken_right : List Row) : Type 0 where
  pub built : StaysEnded old.built new.built taken_right
  pub ends : StaysEnded old.ended new.ended taken_left
  pub build : IsPermutation (old.build ++ map fresh taken_right) new.build
  pub deferred : IsPermutation (old.deferred ++ taken_left) new.deferred
  pub owed : IsPermutation old.owed new.owed

-- probe rows are answered, from a hand or on their way back: `before` are those
pub record ProbesAnswered (kind : JoinKind) (on : On) (old new : HeldJoin) (taken_left before : List Row) : Type 0 where
  pub built : new.built ≡ true
  pub ends : StaysEnded old.ended new.ended taken_left
  pub deferred : IsPermutation (old.deferred ++ taken_left) (before ++ new.deferred)
  pub build : IsPermutation (marked on before old.build) new.build
  pub owed : IsPermutation (old.owed ++ probed kind on before old.build) new.owed

-- rows that are owed are given
pub record OwedGiven (old new : HeldJoin) (put : List Row) : Type 0 where
  pub built : StaysEnded old.built new.built []
  pub ends : StaysEnded old.ended new.ended []
  pub build : new.build ≡ old.build
  pub deferred : new.deferred ≡ old.deferred
  pub owed : IsPermutation old.owed (put ++ new.owed)

-- build rows leave, which no further left row matches: without a match they are given, where the kind has such rows
pub record BuildsLeave (kind : JoinKind) (on : On) (old new : HeldJoin) (gone : List Build) (put : List Row) : Type 0 where
  pub built : new.built ≡ true
  pub ends : new.ended ≡ true
  pub build : IsPermutation old.build (gone ++ new.build)
  pub deferred : new.deferred ≡ old.deferred
  pub owed : new.owed ≡ old.owed
  pub apart : Apart on old.deferred gone
  pub is : IsPermutation (joined kind on [] gone) put
