use Rattle.std.proofs.Common.{◌≡◌, ◌∙◌, ℕ, ◌<◌, All, List, Option, length, get_or, None, true, subst, replicate}
use Rattle.vx_vector.specs.Lanes.{rows_of}
use Rattle.vx_vector.specs.Index.{IsIn, through}
use Rattle.vx_vector.proofs.FormLemmas.{wrapped_flat, wrapped_constant, wrapped_dictionary, unless_within, through_within, zeros_within}
use Rattle.vx_vector.proofs.form.Form.wrap.Goals as goal

pub returns-in_ok-index-in-Flat-clause-values : goal.returns-in_ok-index-in-Flat-clause-values
returns-in_ok-index-in-Flat-clause-values c =
    let places : All (λ p. p < rows_of c.in-Flat.base) c.args.indices.now = rw c.in-Flat.is at c.requires.places in
    rw c.in-Flat.is (wrapped_flat c.in-Flat.base c.args.indices.now c.args.nulls.now c.in_ok-index-in-Flat.index.items c.in_ok-index-in-Flat.ensures.rows c.requires.rows places c.in_ok-index-in-Flat.ensures.at)

pub returns-in_ok-index-in-Flat-clause-sound : goal.returns-in_ok-index-in-Flat-clause-sound
returns-in_ok-index-in-Flat-clause-sound c =
    let places : All (λ p. p < rows_of c.in-Flat.base) c.args.indices.now = rw c.in-Flat.is at c.requires.places in
    unless_within (rows_of c.in-Flat.base) c.args.indices.now c.args.nulls.now c.in_ok-index-in-Flat.index.items c.in_ok-index-in-Flat.ensures.rows places c.in_ok-index-in-Flat.ensures.at

pub returns-in_ok-index-in-Constant-clause-values : goal.returns-in_ok-index-in-Constant-clause-values
returns-in_ok-index-in-Constant-clause-values c =
    let places : All (λ p. p < c.in-Constant.field-1) c.args.indices.now = rw c.in-Constant.is at c.requires.places in
    let zeros : c.as_slice.result.now ≡ replicate (length c.args.indices.now) 0 = c.as_slice.ensures.value ∙ c.in_ok-first-in-Constant.ensures in
    rw c.in-Constant.is (wrapped_constant c.in-Constant.base c.in-Constant.field-1 c.args.indices.now c.as_slice.result.now c.args.nulls.now c.in_ok-index-in-Constant.index.items zeros c.in_ok-index-in-Constant.ensures.rows c.requires.rows places c.in_ok-index-in-Constant.ensures.at)

pub returns-in_ok-index-in-Constant-clause-sound : goal.returns-in_ok-index-in-Constant-clause-sound
returns-in_ok-index-in-Constant-clause-sound c =
    let one : rows_of c.in-Constant.base ≡ 1 = rw c.in-Constant.is at c.requires.sound in
    let zeros : c.as_slice.result.now ≡ replicate (length c.args.indices.now) 0 = c.as_slice.ensures.value ∙ c.in_ok-first-in-Constant.ensures in
    unless_within (rows_of c.in-Constant.base) c.as_slice.result.now c.args.nulls.now c.in_ok-index-in-Constant.index.items c.in_ok-index-in-Constant.ensures.rows (zeros_within (rows_of c.in-Constant.base) (length c.args.indices.now) c.as_slice.result.now zeros one) c.in_ok-index-in-Constant.ensures.at

pub returns-in_ok-index-in-Dictionary-clause-values : goal.returns-in_ok-index-in-Dictionary-clause-values
returns-in_ok-index-in-Dictionary-clause-values c =
    let places : All (λ p. p < length c.in-Dictionary.index.items) c.args.indices.now = rw c.in-Dictionary.is at c.requires.places in
    let each : (k : ℕ) → k < length c.args.indices.now → get_or c.in_ok-index-in-Dictionary.index.items k None ≡ through c.in-Dictionary.index.items (get_or c.args.nulls.now k true) (get_or c.args.indices.now k 0) =
    subst (λ (old : List (Option ℕ)). (k : ℕ) → k < length c.args.indices.now → get_or c.in_ok-index-in-Dictionary.index.items k None ≡ through old (get_or c.args.nulls.now k true) (get_or c.args.indices.now k 0)) c.as_slice-in-Dictionary.ensures.value c.in_ok-index-in-Dictionary.ensures.at in
    rw c.in-Dictionary.is (wrapped_dictionary c.in-Dictionary.base c.in-Dictionary.index.items c.args.indices.now c.args.nulls.now c.in_ok-index-in-Dictionary.index.items c.in_ok-index-in-Dictionary.ensures.rows c.requires.rows places each)

pub returns-in_ok-index-in-Dictionary-clause-sound : goal.returns-in_ok-index-in-Dictionary-clause-sound
returns-in_ok-index-in-Dictionary-clause-sound c =
    let within : All (IsIn (rows_of c.in-Dictionary.base)) c.in-Dictionary.index.items = rw c.in-Dictionary.is at c.requires.sound in
    let places : All (λ p. p < length c.in-Dictionary.index.items) c.args.indices.now = rw c.in-Dictionary.is at c.requires.places in
    let each : (k : ℕ) → k < length c.args.indices.now → get_or c.in_ok-index-in-Dictionary.index.items k None ≡ through c.in-Dictionary.index.items (get_or c.args.nulls.now k true) (get_or c.args.indices.now k 0) =
    subst (λ (old : List (Option ℕ)). (k : ℕ) → k < length c.args.indices.now → get_or c.in_ok-index-in-Dictionary.index.items k None ≡ through old (get_or c.args.nulls.now k true) (get_or c.args.indices.now k 0)) c.as_slice-in-Dictionary.ensures.value c.in_ok-index-in-Dictionary.ensures.at in
    through_within (rows_of c.in-Dictionary.base) c.in-Dictionary.index.items c.args.indices.now c.args.nulls.now c.in_ok-index-in-Dictionary.index.items c.in_ok-index-in-Dictionary.ensures.rows places within each
