use Rattle.std.proofs.Common.{◌≡◌, map, take, count_by}
use Rattle.serde_json.specs.View.{view}
use Rattle.vx_json.specs.Fields.{has}
use Rattle.vx_json.proofs.fields.count_of.Given as goal

abbrev pub invariant-loop-name : goal.invariant-loop-name
invariant-loop-name l = l.count ≡ count_by (has (view l.value)) (map (λ name. name.now) (take l.name-index l.names))
