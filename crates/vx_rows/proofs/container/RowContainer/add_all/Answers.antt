use Rattle.std.proofs.Common.{◌≡◌, ℕ, ◌+◌, ◌^◌, ◌<◌, ◌≤◌, length, take, List, refl, ap, ◌∙◌, subst, arith}
use Rattle.std.specs.List.{range_with_len, sum_by}
use Rattle.vx_arena.specs.Text.{ArenaModel}
use Rattle.vx_vector.specs.Batch.{BatchModel, IsEven, row_of}
use Rattle.vx_rows.specs.Batches.{blocks_of_rows, cost_of_rows}
use Rattle.vx_rows.specs.Container.{Gives, blocks_of_row, live}
use Rattle.vx_rows.specs.Layout.{fields_of, row_len}
use Rattle.vx_rows.specs.Need.{texts_cost}
use Rattle.vx_rows.specs.Texts.{text_cost}
use Rattle.vx_rows.proofs.BatchLaw.{added_blocks, adds_more, adds_none, back_all, back_none, cost_within, takes_all, takes_more, takes_none}
use Rattle.vx_rows.proofs.NeedLaw.{need_covers}
use Rattle.vx_rows.proofs.ResultLemmas.{on_err}
use Rattle.vx_rows.proofs.container.RowContainer.add_all.Goals as goal

pub returns-in_err-numbers-clause-back : goal.returns-in_err-numbers-clause-back
returns-in_err-numbers-clause-back c =
    let taken : c.arena.result.now.taken ≡ c.args.self.now.arena.taken = ap (λ (a : ArenaModel). a.taken) c.arena.ensures in
    let given : c.arena-2.result.now.given ≡ c.args.self.now.arena.given = ap (λ (a : ArenaModel). a.given) c.arena-2.ensures in
    on_err c.from_residual.result (back_none c.args.self.now.arena (texts_cost c.args.batch.now.columns) (omega (arith, taken, c.taken-taken.ensures.taken, c.taken-taken.type_inv)) (omega (arith, given, c.given-given.ensures, c.given-given.type_inv)))

pub loop-row-init : goal.loop-row-init
loop-row-init c =
    let all : c.batch.inside.rows ≡ c.args.batch.now.rows = ap (λ (b : BatchModel). b.rows) c.batch.view_is in
    let taken : c.arena.result.now.taken ≡ c.args.self.now.arena.taken = ap (λ (a : ArenaModel). a.taken) c.arena.ensures in
    let fits : c.args.self.now.arena.taken < 2 ^ 64 = omega (arith, taken, c.taken-taken.ensures.taken, c.taken-taken.type_inv) in
    record {
      rows = adds_none c.args.batch.now.columns c.args.self.now c.in_ok-numbers.numbers.items c.in_ok-numbers.ensures.items;
      few = omega arith;
      takes = takes_none c.args.self.now.arena fits;
      kinds = refl;
      extras = refl;
      count = c.in_ok-numbers.ensures.len;
      room = omega (arith, all, c.in_ok-numbers.ensures.capacity);
    }

pub loop-row-preserved : goal.loop-row-preserved
loop-row-preserved c =
    let all : c.batch.inside.rows ≡ c.args.batch.now.rows = ap (λ (b : BatchModel). b.rows) c.batch.view_is in
    let columns = c.args.batch.now.columns in
    let i = c.loop-row.row in
    let so_far = c.loop-row.invariant in
    let one = c.in-Ok.ensures in
    record {
      rows = adds_more columns i c.in-Ok.number c.args.self.now c.loop-row.self c.add.new.self c.loop-row.numbers.items c.push_reserved.new.self.items so_far.rows one.ok so_far.extras c.push_reserved.ensures.items;
      few = omega (arith, so_far.few, one.ok.count);
      takes = takes_more c.args.self.now.extras columns c.args.batch.now.rows i c.loop-row.self.extras c.args.self.now.arena c.loop-row.self.arena c.add.new.self.arena (omega (arith, all, c.loop-row-test.true)) so_far.extras so_far.takes one.takes;
      kinds = one.kinds ∙ so_far.kinds;
      extras = one.extras ∙ so_far.extras;
      count = omega (arith, so_far.count, c.push_reserved.ensures.len);
      room = omega (arith, so_far.room, c.push_reserved.ensures.capacity);
    }

pub returns-in-Err-clause-back : goal.returns-in-Err-clause-back
returns-in-Err-clause-back c =
    let all : c.batch.inside.rows ≡ c.args.batch.now.rows = ap (λ (b : BatchModel). b.rows) c.batch.view_is in
    let columns = c.args.batch.now.columns in
    let rows = c.args.batch.now.rows in
    let i = c.loop-row.row in
    let so_far = c.loop-row.invariant in
    let blocks = added_blocks columns rows i c.args.self.now c.loop-row.self c.add.new.self c.loop-row.numbers.items (omega (arith, all, c.loop-row-test.true)) so_far.rows c.in-Err.ensures.err in
    let erased : Gives c.add.new.self.arena c.erase_each.new.self.arena (blocks_of_rows c.args.self.now.extras columns (take i (range_with_len 0 rows))) =
    subst (λ (n : ℕ). Gives c.add.new.self.arena c.erase_each.new.self.arena n) blocks
    (subst (λ (l : List ℕ). Gives c.add.new.self.arena c.erase_each.new.self.arena (sum_by (λ n. blocks_of_row (live c.add.new.self n)) l)) c.deref.ensures.value c.erase_each.ensures.gives) in
    back_all c.args.self.now.arena c.loop-row.self.arena c.add.new.self.arena c.erase_each.new.self.arena (blocks_of_rows c.args.self.now.extras columns (take i (range_with_len 0 rows))) (cost_of_rows columns (take i (range_with_len 0 rows))) (sum_by text_cost (row_of columns i)) (texts_cost columns) so_far.takes c.in-Err.ensures.back erased
    (cost_within c.args.self.now.extras columns rows i (omega (arith, all, c.loop-row-test.true)) (subst IsEven c.batch.view_is c.batch.invariant))

pub returns-in-Err-clause-within : goal.returns-in-Err-clause-within
returns-in-Err-clause-within c =
    let all : c.batch.inside.rows ≡ c.args.batch.now.rows = ap (λ (b : BatchModel). b.rows) c.batch.view_is in
    let fields = fields_of c.args.self.now.kinds c.args.self.now.extras in
    let so_far = c.loop-row.invariant in
    let kinds = c.erase_each.ensures.kinds ∙ (c.in-Err.ensures.kinds ∙ so_far.kinds) in
    let extras = c.erase_each.ensures.extras ∙ (c.in-Err.ensures.extras ∙ so_far.extras) in
    let unchanged = ap length c.in-Err.ensures.err in
    let few : length c.erase_each.new.self.rows ≤ length c.args.self.now.rows + c.args.batch.now.rows = omega (arith, c.erase_each.ensures.rows.many, unchanged, so_far.few, all, c.loop-row-test.true) in
    let most : row_len fields ≤ 4096 = omega (arith, c.row_bytes-row.ensures.is, c.row_bytes-row.ensures.most) in
    need_covers fields c.args.batch.now.columns c.args.batch.now.rows c.args.self.now c.erase_each.new.self most refl (λ j. fields_of (kinds j) (extras j)) few (returns-in-Err-clause-back c).pays

pub returns-clause-takes : goal.returns-clause-takes
returns-clause-takes c =
    let all : c.batch.inside.rows ≡ c.args.batch.now.rows = ap (λ (b : BatchModel). b.rows) c.batch.view_is in
    takes_all c.args.self.now.extras c.args.batch.now.columns c.args.batch.now.rows c.loop-row.row c.args.self.now.arena c.loop-row.self.arena (omega (arith, all, c.loop-row-test.false)) (subst IsEven c.batch.view_is c.batch.invariant) c.loop-row.invariant.takes

pub returns-clause-within : goal.returns-clause-within
returns-clause-within c =
    let all : c.batch.inside.rows ≡ c.args.batch.now.rows = ap (λ (b : BatchModel). b.rows) c.batch.view_is in
    let fields = fields_of c.args.self.now.kinds c.args.self.now.extras in
    let so_far = c.loop-row.invariant in
    let kinds = so_far.kinds in
    let extras = so_far.extras in
    let few : length c.loop-row.self.rows ≤ length c.args.self.now.rows + c.args.batch.now.rows = omega (arith, so_far.few, all, c.loop-row.auto.row-end) in
    let most : row_len fields ≤ 4096 = omega (arith, c.row_bytes-row.ensures.is, c.row_bytes-row.ensures.most) in
    need_covers fields c.args.batch.now.columns c.args.batch.now.rows c.args.self.now c.loop-row.self most refl (λ j. fields_of (kinds j) (extras j)) few (returns-clause-takes c).pays
