-- A member that follows a script.
use Rattle.std.specs.Prelude.{◌≡◌, ℕ, ◌+◌, ◌-◌, Bool, true, false, if◌then◌else◌, nat_le, Option, Some, None, List, [], ◌∷◌, length, slice_index}
use Rattle.vx_pool.specs.Pools.{Pools, used_of, reserved_of, unused_of, would_reserve, empty_tree, with_used, with_ahead, after_ahead}
use Rattle.vx_arb.specs.declared.members.Lack.{Lack}
use Rattle.vx_arb.specs.declared.members.Move.{Move}
use Rattle.vx_arb.specs.declared.members.Move.TheVariants.{Moved, Ended as Ends, Short}
use Rattle.vx_arb.specs.declared.entries.AbortNote.{AbortNote}

-- its job, its pool tree with one leaf, its script with the place of the next number, whether what it uses
-- can be reclaimed, and whether it has ended
pub record Plain : Type 0 where
  pub job : ℕ
  pub pools : Pools
  pub script : List ℕ
  pub next : ℕ
  pub soft : Bool
  pub ended : Bool

-- a member at the start of its script, with no capacity
abbrev pub plain_of : ℕ → ℕ → List ℕ → Bool → Plain
plain_of job unit script soft = record {
  job = job;
  pools = empty_tree unit (0 ∷ []);
  script = script;
  next = 0;
  soft = soft;
  ended = false;
}

abbrev pub job_at : Plain → ℕ
job_at plain = plain.job

abbrev pub capacity_at : Plain → ℕ
capacity_at plain = plain.pools.capacity

abbrev pub reserved_at : Plain → ℕ
reserved_at plain = reserved_of plain.pools 0

abbrev pub unused_at : Plain → ℕ
unused_at plain = unused_of plain.pools

abbrev pub reclaimable_at : Plain → ℕ
reclaimable_at plain = if plain.soft then used_of plain.pools 1 else 0

abbrev pub ended_at : Plain → Bool
ended_at plain = plain.ended

-- what the root would have reserved once the next number of the script is ahead
abbrev pub would_at : Plain → ℕ
would_at plain = would_reserve plain.pools 1 (slice_index plain.script plain.next)

abbrev pub lack_at : Plain → ℕ → Option Lack
lack_at plain hint =
    if plain.ended then None
    else if nat_le (length plain.script) plain.next then None
    else if nat_le (would_at plain) plain.pools.capacity then None
    else Some (record {
      leaf = 1;
      need = would_at plain - plain.pools.capacity;
      capacity = plain.pools.capacity;
      reserved = reserved_of plain.pools 0;
      would = would_at plain;
    })

-- the tree once all that the leaf used is given back
abbrev pub emptied : Pools → Pools
emptied pools = with_used pools 1 0

-- the tree once the leaf uses so much
abbrev pub using : Pools → ℕ → Pools
using pools bytes = with_ahead (with_used (after_ahead pools 1 bytes) 1 bytes) 1 0

abbrev pub Stepped : Plain → ℕ → Move → Plain → Type 0
Stepped old hint Moved new = new ≡ record old { pools = using old.pools (slice_index old.script old.next); next = old.next + 1 }
Stepped old hint Ends new = new ≡ record old { pools = (if old.ended then old.pools else emptied old.pools); ended = true }
Stepped old hint (Short lack) new = new ≡ old

abbrev pub Reclaimed : Plain → ℕ → ℕ → Plain → Type 0
Reclaimed old want freed new = new ≡ record old { pools = (if old.soft then emptied old.pools else old.pools) }

abbrev pub Raised : Plain → ℕ → Plain → Type 0
Raised old share new = new ≡ record old { pools = record old.pools { capacity = old.pools.capacity + share } }

abbrev pub Lowered : Plain → ℕ → Plain → Type 0
Lowered old bytes new = new ≡ record old { pools = record old.pools { capacity = old.pools.capacity - bytes } }

abbrev pub Closed : Plain → AbortNote → Plain → Type 0
Closed old note new = new ≡ record old { pools = record (emptied old.pools) { capacity = 0 }; ended = true }

abbrev pub Ended : Plain → Plain → Type 0
Ended old new = new ≡ record old { pools = emptied old.pools; ended = true }
