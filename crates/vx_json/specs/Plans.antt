-- The plan that the bytes of a file spell, or the refusal of them.
--
-- JSON is that of RFC 8259, in the sense of `serde_json`: of a repeated name the last member stands; an
-- integer past 64 bits, `-0`, and a number with a point or an exponent are floats, and no float is a whole
-- number here; more than 127 levels aren't read.
use Rattle.std.specs.Prelude.{ℕ, Bool, false, ◌||◌, nat_lt, if◌then◌else◌, List, [], ◌∷◌, length, codes, Option, Some, None, Result, Ok, Err}
use Rattle.std.specs.Str.{is_utf8}
use Rattle.serde_json.specs.Data.{Data, null, boolean, number, string, array, object, Items, no_items, item, Members, no_members, member}
use Rattle.serde_json.specs.Read.{read}
use Rattle.vx_plan.specs.declared.node.Node.{Node}
use Rattle.vx_plan.specs.declared.node.Plan.{Plan}
use Rattle.vx_plan.specs.declared.refusal.Refusal.{Refusal}
use Rattle.vx_plan.specs.declared.refusal.Refusal.TheVariants.{P6}
use Rattle.vx_plan.specs.declared.refusal.LimitName.TheVariants.{Text}
use Rattle.vx_plan.specs.Check.{check_plan, check_sizes}
use Rattle.vx_plan.specs.Outcome.{on_ok}
use Rattle.vx_plan.specs.Tree.{tree}
use Rattle.vx_json.specs.declared.plans.Parsed.{Parsed}
use Rattle.vx_json.specs.Place.{Said, p1, misfit, and_then}
use Rattle.vx_json.specs.Fields.{has_only, part}
use Rattle.vx_json.specs.Outcome.{said_of}
use Rattle.vx_json.specs.Nodes.{node_at, most_levels}

-- the file is an object with the field `plan` alone
abbrev pub is_file : Data → Bool
is_file d = has_only (codes "plan" ∷ []) [] d

abbrev pub root_in : Data → Result Node Said
root_in d = part (codes "plan") (node_at most_levels) [] d

abbrev pub plan_in : Data → Result Plan Said
plan_in d = if is_file d then and_then (root_in d) (λ root. Ok (record { root = root })) else misfit (codes "/")

-- the JSON value that bytes are
abbrev pub json_of : List ℕ → Option Data
json_of bytes = if is_utf8 bytes then read bytes else None

abbrev pub or_not_json : Option Data → Result Data Said
or_not_json (Some d) = Ok d
or_not_json None = Err p1

-- Whether some string in a value has more than 65,535 bytes. The words of a plan file are all short, so in
-- one that has the form of a plan such a string is a text.
abbrev mutual
  pub has_long : Data → Bool
  has_long null = false
  has_long (boolean b) = false
  has_long (number n) = false
  has_long (string s) = nat_lt 65535 (length s)
  has_long (array ds) = has_long_item ds
  has_long (object ms) = has_long_member ms

  pub has_long_item : Items → Bool
  has_long_item no_items = false
  has_long_item (item d ds) = has_long d || has_long_item ds

  pub has_long_member : Members → Bool
  has_long_member no_members = false
  has_long_member (member name d ms) = has_long d || has_long_member ms

-- a plan, and whether a text in it is too long
abbrev pub noted : Data → Plan → Parsed
noted d plan = record { plan = plan; long = has_long d }

-- the plan that bytes spell, or the refusal of their form; a text that is too long is left out of it
abbrev pub parsed : List ℕ → Result Parsed Said
parsed bytes =
    and_then (or_not_json (json_of bytes)) (λ d.
    and_then (plan_in d) (λ plan.
    Ok (noted d plan)))

-- what the later stages say of a plan; a text that was too long is refused where the limits that are asked
-- before it hold
abbrev pub checked : Bool → Plan → Result Unit Refusal
checked long plan = if long then on_ok (check_sizes (tree plan.root)) (λ _. Err (P6 Text)) else check_plan plan

-- the plan, if the later stages refuse nothing
abbrev pub if_checked : Plan → Result Unit Refusal → Result Plan Said
if_checked plan (Ok nothing) = Ok plan
if_checked plan (Err refusal) = Err (said_of refusal)

-- the plan of a file's bytes, or the first refusal of it
abbrev pub plan_of : List ℕ → Result Plan Said
plan_of bytes = and_then (parsed bytes) (λ read. if_checked read.plan (checked read.long read.plan))
