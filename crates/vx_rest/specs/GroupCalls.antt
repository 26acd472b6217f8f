-- Plain facts of an aggregation's calls, from which follows what they keep.
use Rattle.std.specs.Prelude.{◌≡◌, ℕ, Bool, true, false, List, ◌++◌, map, Ok}
use Rattle.std.specs.List.{list_any}
use Rattle.std.specs.Ordering.{eq_by_cmp}
use Rattle.vx_value.specs.Row.{Row}
use Rattle.vx_plan.specs.declared.aggregate.Aggregate.{Aggregate}
use Rattle.vx_plan.specs.declared.aggregate.Step.{Step}
use Rattle.vx_meaning.specs.Groups.{key_cmp}
use Rattle.vx_rest.specs.Held.{Held, Group, group_of, gathered, outcomes}

-- whether some group has this key
abbrev pub has_key : Row → List Group → Bool
has_key key groups = list_any (eq_by_cmp key_cmp key) (map (λ g. g.key) groups)

-- no key of the first is a key of the second
abbrev pub ShareNoKey : List Group → List Group → Type 0
ShareNoKey first second = (key : Row) → has_key key first ≡ true → has_key key second ≡ false

-- A batch is taken in. How the groups then stand doesn't matter: a key may have several rows.
pub record GroupsTaken (step : Step) (keys : List ℕ) (aggregates : List Aggregate) (old new : Held) (taken : List Row) : Type 0 where
  pub going : old.ended ≡ false
  pub same : gathered aggregates (old.groups ++ map (group_of step keys aggregates) taken) ≡ gathered aggregates new.groups

-- An end, a merge or a reclaim: the groups gather alike, and an end stays an end.
pub record GroupsStay (aggregates : List Aggregate) (old new : Held) : Type 0 where
  pub ends : old.ended ≡ true → new.ended ≡ true
  pub same : gathered aggregates old.groups ≡ gathered aggregates new.groups

-- Groups are given, after the end; no key of theirs is left.
pub record GroupsGiven (step : Step) (aggregates : List Aggregate) (old new : Held) (gone : List Group) (put : List Row) : Type 0 where
  pub ended : new.ended ≡ true
  pub same : gathered aggregates old.groups ≡ gathered aggregates (gone ++ new.groups)
  pub apart : ShareNoKey gone new.groups
  pub is : outcomes step aggregates gone ≡ map Ok put
