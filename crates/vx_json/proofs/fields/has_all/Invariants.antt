use Rattle.std.proofs.Common.{◌≡◌, map, drop}
use Rattle.std.specs.List.{list_all}
use Rattle.serde_json.specs.View.{view}
use Rattle.vx_json.specs.Fields.{has}
use Rattle.vx_json.proofs.fields.has_all.Given as goal

abbrev pub invariant-loop-name : goal.invariant-loop-name
invariant-loop-name l =
    let all = list_all (has (view l.value)) in
    all (map (λ name. name.now) (drop l.name-index l.names)) ≡ all (map (λ name. name.now) l.names)
