use Rattle.std.proofs.Common.{◌+◌, length, get_or, refl, arith}
use Rattle.vx_value.specs.declared.value.Kind.TheVariants as kind
use Rattle.vx_rows.specs.declared.fields.Extra.TheVariants as extra
use Rattle.vx_rows.specs.Layout.{cell_len, field_len, fields_of}
use Rattle.vx_rows.proofs.LayoutLemmas.{room_for, one_more, field_of_kind, field_of_extra, how_many, first_none, at_count, all_stand, few_fields}
use Rattle.vx_rows.proofs.fields.Fields.new.Goals as goal

pub overflow_add-count : goal.overflow_add-count
overflow_add-count c = omega (arith, few_fields c.args.kinds.now c.args.extras.now c.requires)

pub null_bytes-requires : goal.null_bytes-requires
null_bytes-requires c = few_fields c.args.kinds.now c.args.extras.now c.requires

pub loop-kind-init : goal.loop-kind-init
loop-kind-init c = first_none c.from-fields.result c.args.kinds.now c.args.extras.now c.null_bytes.result c.from-fields.ensures c.null_bytes.ensures

pub push-requires : goal.push-requires
push-requires c =
    let k = get_or c.args.kinds.now c.loop-kind.kind-index kind.Bool in
    room_for c.loop-kind.fields (fields_of c.args.kinds.now c.args.extras.now) c.loop-kind.kind-index (cell_len k) (extra.Slot k) c.loop-kind.invariant
    (omega (arith, how_many c.args.kinds.now c.args.extras.now, c.loop-kind-test.true))
    (field_of_kind c.args.kinds.now c.args.extras.now c.loop-kind.kind-index kind.Bool c.loop-kind-test.true) refl c.requires

pub loop-kind-preserved : goal.loop-kind-preserved
loop-kind-preserved c =
    let k = get_or c.args.kinds.now c.loop-kind.kind-index kind.Bool in
    one_more c.loop-kind.fields c.push.new.self (fields_of c.args.kinds.now c.args.extras.now) c.loop-kind.kind-index (extra.Slot k) c.loop-kind.invariant
    (omega (arith, how_many c.args.kinds.now c.args.extras.now, c.loop-kind-test.true))
    (field_of_kind c.args.kinds.now c.args.extras.now c.loop-kind.kind-index kind.Bool c.loop-kind-test.true) c.in_ok-push.ensures.ok

pub loop-extra-init : goal.loop-extra-init
loop-extra-init c = at_count c.loop-kind.fields (fields_of c.args.kinds.now c.args.extras.now) c.loop-kind.kind-index (length c.args.kinds.now + 0) (omega (arith, c.loop-kind-test.false, c.loop-kind.auto.kind-index-end)) c.loop-kind.invariant

pub push-requires-in-loop-extra : goal.push-requires-in-loop-extra
push-requires-in-loop-extra c =
    let e = get_or c.args.extras.now c.loop-extra.extra-index (extra.Bytes 0) in
    room_for c.loop-extra.fields (fields_of c.args.kinds.now c.args.extras.now) (length c.args.kinds.now + c.loop-extra.extra-index) (field_len e) e c.loop-extra.invariant
    (omega (arith, how_many c.args.kinds.now c.args.extras.now, c.loop-extra-test.true))
    (field_of_extra c.args.kinds.now c.args.extras.now c.loop-extra.extra-index) refl c.requires

pub loop-extra-preserved : goal.loop-extra-preserved
loop-extra-preserved c =
    let e = get_or c.args.extras.now c.loop-extra.extra-index (extra.Bytes 0) in
    let at = length c.args.kinds.now + c.loop-extra.extra-index in
    at_count c.push-in-loop-extra.new.self (fields_of c.args.kinds.now c.args.extras.now) (at + 1) (length c.args.kinds.now + (c.loop-extra.extra-index + 1)) (omega arith)
    (one_more c.loop-extra.fields c.push-in-loop-extra.new.self (fields_of c.args.kinds.now c.args.extras.now) at e c.loop-extra.invariant
    (omega (arith, how_many c.args.kinds.now c.args.extras.now, c.loop-extra-test.true))
    (field_of_extra c.args.kinds.now c.args.extras.now c.loop-extra.extra-index) c.in_ok-push-2.ensures.ok)

pub returns : goal.returns
returns c = all_stand c.loop-extra.fields (fields_of c.args.kinds.now c.args.extras.now) (length c.args.kinds.now + c.loop-extra.extra-index) c.loop-extra.invariant
    (omega (arith, how_many c.args.kinds.now c.args.extras.now, c.loop-extra-test.false))
