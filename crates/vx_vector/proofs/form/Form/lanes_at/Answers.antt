use Rattle.std.proofs.Common.{◌≡◌, ℕ, ◌<◌, All, length, map, get_or, None}
use Rattle.vx_vector.specs.Lanes.{rows_of}
use Rattle.vx_vector.specs.Index.{IsIn}
use Rattle.vx_vector.proofs.FormLemmas.{picked_within}
use Rattle.vx_vector.proofs.form.Form.lanes_at.Goals as goal

pub spread-requires : goal.spread-requires
spread-requires c =
    let within : All (IsIn (rows_of c.in-Dictionary.base)) c.in-Dictionary.index.items = rw c.in-Dictionary.is at c.requires.sound in
    let inside : All (λ p. p < length c.in-Dictionary.index.items) c.args.rows.now = rw c.in-Dictionary.is at c.requires.places in
    let picked : c.in_ok-index-in-Dictionary.index.items ≡ map (λ (p : ℕ). get_or c.as_slice-in-Dictionary.result.now p None) c.places-in-Dictionary.result.now = c.in_ok-index-in-Dictionary.ensures in
    let seen : c.in_ok-index-in-Dictionary.index.items ≡ map (λ (p : ℕ). get_or c.in-Dictionary.index.items p None) c.args.rows.now = simp (c.as_slice-in-Dictionary.ensures.value, c.places-in-Dictionary.ensures.places) at picked in
    rw c.as_slice-in-Dictionary-2.ensures.value (picked_within (rows_of c.in-Dictionary.base) c.in-Dictionary.index.items c.args.rows.now c.in_ok-index-in-Dictionary.index.items seen inside within)
