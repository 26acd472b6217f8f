use Rattle.std.proofs.Common.{◌≡◌, ℕ, length, get_or, refl}
use Rattle.vx_vector.specs.Lanes.{kind_of, rows_of, lane_at, AreLanes}
use Rattle.vx_vector.specs.Form.{form_kind, form_lane, form_value}
use Rattle.vx_vector.proofs.FormLemmas.{selected_constant, rows_at}
use Rattle.vx_vector.proofs.form.Form.select.Goals as goal

pub returns-in-Constant-clause-values : goal.returns-in-Constant-clause-values
returns-in-Constant-clause-values c =
    let are : AreLanes (kind_of c.in-Constant.lanes) (rows_of c.in-Constant.lanes) (lane_at c.in-Constant.lanes) c.in_ok-lanes.lanes = c.in_ok-lanes.ensures in
    let one : rows_of c.in-Constant.lanes ≡ 1 = rw c.in-Constant.is at c.requires.sound in
    rw (c.in-Constant.is, c.places.ensures.places) (selected_constant c.in-Constant.lanes c.in_ok-lanes.lanes c.args.rows.now are one)

pub returns : goal.returns
returns c =
    let are : AreLanes (form_kind c.args.self.now) (length c.args.rows.now) (λ (k : ℕ). form_lane c.args.self.now (get_or c.args.rows.now k 0)) c.in_ok-lanes_at.field-0 = c.in_ok-lanes_at.ensures in
    record {
      kind = are.kind;
      values = rows_at (form_value c.args.self.now) (λ (k : ℕ). form_lane c.args.self.now (get_or c.args.rows.now k 0)) 0 c.args.rows.now c.in_ok-lanes_at.field-0 (λ (k : ℕ). refl) are.rows are.at;
      sound = tt;
    }
