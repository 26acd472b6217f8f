use Rattle.std.proofs.Common.{◌≡◌, drop}
use Rattle.serde_json.specs.View.{items_view, members_view}
use Rattle.vx_json.specs.Plans.{has_long_item, has_long_member}
use Rattle.vx_json.proofs.long_texts.+long.Given as goal

abbrev pub invariant-has_long_item-loop-value : goal.invariant-has_long_item-loop-value
invariant-has_long_item-loop-value l = has_long_item (items_view (drop l.value-index l.values)) ≡ has_long_item (items_view l.values)

abbrev pub invariant-has_long_member-loop-value : goal.invariant-has_long_member-loop-value
invariant-has_long_member-loop-value l = has_long_member (members_view l.value-iterator) ≡ has_long_member (members_view l.fields.entries)
