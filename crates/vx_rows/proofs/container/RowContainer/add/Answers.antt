use Rattle.std.proofs.Common.{◌≡◌, length, refl, sym, ap, ◌∙◌, subst, List, ℕ}
use Rattle.std.specs.List.{sum_by}
use Rattle.vx_arena.specs.Text.{ArenaModel}
use Rattle.vx_records.specs.Record.{AddsRecord, fresh}
use Rattle.vx_vector.specs.Batch.{row_of}
use Rattle.vx_rows.specs.Body.{all_stored}
use Rattle.vx_rows.specs.Layout.{body_len}
use Rattle.vx_rows.specs.Texts.{Frees, Holds, Keeps, text_cost}
use Rattle.vx_rows.specs.Container.{ContainerModel, IsContainer, Takes, TakesBack, blocks_of_row, new_row}
use Rattle.vx_rows.proofs.ContainerLemmas.{added_container, added_count, added_seen, filled_body, kept_container, kept_count, kept_seen, through}
use Rattle.vx_rows.proofs.ResultLemmas.{on_err}
use Rattle.vx_rows.proofs.RowLemmas.{found_there}
use Rattle.vx_rows.proofs.Taking.{added_freed}
use Rattle.vx_rows.proofs.container.RowContainer.add.Goals as goal

pub returns-in_err-fill-clause-err : goal.returns-in_err-fill-clause-err
returns-in_err-fill-clause-err c =
    let s = c.self.inside in
    on_err c.from_residual.result (kept_seen s.arena c.fill.new.arena s.columns s.layout s.records s.empty.items s.scratch.items (sum_by text_cost (row_of c.args.batch.now.columns c.args.row)) c.self.invariant c.in_err-fill.ensures.err s.records c.args.self.now.rows refl (ap (λ (m : ContainerModel). m.rows) c.self.view_is))

pub returns-in_err-fill-clause-back : goal.returns-in_err-fill-clause-back
returns-in_err-fill-clause-back c =
    let s = c.self.inside in
    on_err c.from_residual.result (subst (λ (a : ArenaModel). TakesBack a c.fill.new.arena (sum_by text_cost (row_of c.args.batch.now.columns c.args.row))) (ap (λ (m : ContainerModel). m.arena) c.self.view_is) (kept_count s.arena c.fill.new.arena s.columns s.layout s.records s.empty.items s.scratch.items (sum_by text_cost (row_of c.args.batch.now.columns c.args.row)) c.self.invariant c.in_err-fill.ensures.err))

pub invariant_of-self-in-Ok : goal.invariant_of-self-in-Ok
invariant_of-self-in-Ok c =
    let s = c.self.inside in
    let many : length c.fill.new.body ≡ body_len s.layout = c.fill.ensures.len ∙ (ap length (c.as_mut_slice.ensures.value ∙ (c.copy_from_slice.ensures.items ∙ c.as_slice.ensures.value)) ∙ c.self.invariant.whole) in
    let len : length c.fill.new.body ≡ c.copy_from_slice.new.self.len = c.fill.ensures.len ∙ c.as_mut_slice.ensures.len in
    let body : c.as_slice-2.result.now ≡ c.fill.new.body = c.as_slice-2.ensures.value ∙ through c.copy_from_slice.new.self.len c.fill.new.body c.copy_from_slice.new.self.items len in
    let adds : AddsRecord s.records c.add.new.self c.in-Ok.number (fresh c.fill.new.body) = subst (λ (b : List ℕ). AddsRecord s.records c.add.new.self c.in-Ok.number (fresh b)) body c.in-Ok.ensures.ok in
    subst (λ (b : List ℕ). IsContainer s.columns s.layout c.add.new.self c.fill.new.arena s.empty.items b) (sym (through c.copy_from_slice.new.self.len c.fill.new.body c.copy_from_slice.new.self.items len))
    (added_container s.arena c.fill.new.arena s.columns s.layout s.records s.empty.items s.scratch.items c.fill.new.body c.args.batch.now.columns c.args.row c.self.invariant (c.requires.kinds ∙ sym (ap (λ (m : ContainerModel). m.kinds) c.self.view_is)) c.add.new.self c.in-Ok.number c.in_ok-fill.ensures.ok adds many)

pub returns-in-Ok-clause-ok : goal.returns-in-Ok-clause-ok
returns-in-Ok-clause-ok c =
    let s = c.self.inside in
    let many : length c.fill.new.body ≡ body_len s.layout = c.fill.ensures.len ∙ (ap length (c.as_mut_slice.ensures.value ∙ (c.copy_from_slice.ensures.items ∙ c.as_slice.ensures.value)) ∙ c.self.invariant.whole) in
    let len : length c.fill.new.body ≡ c.copy_from_slice.new.self.len = c.fill.ensures.len ∙ c.as_mut_slice.ensures.len in
    let body : c.as_slice-2.result.now ≡ c.fill.new.body = c.as_slice-2.ensures.value ∙ through c.copy_from_slice.new.self.len c.fill.new.body c.copy_from_slice.new.self.items len in
    let adds : AddsRecord s.records c.add.new.self c.in-Ok.number (fresh c.fill.new.body) = subst (λ (b : List ℕ). AddsRecord s.records c.add.new.self c.in-Ok.number (fresh b)) body c.in-Ok.ensures.ok in
    added_seen s.arena c.fill.new.arena s.columns s.layout s.records s.empty.items s.scratch.items c.fill.new.body c.args.batch.now.columns c.args.row c.self.invariant (c.requires.kinds ∙ sym (ap (λ (m : ContainerModel). m.kinds) c.self.view_is)) c.add.new.self c.in-Ok.number c.args.self.now.rows c.args.self.now.extras (ap (λ (m : ContainerModel). m.rows) c.self.view_is) (ap (λ (m : ContainerModel). m.extras) c.self.view_is) c.in_ok-fill.ensures.ok adds

pub returns-in-Ok-clause-there : goal.returns-in-Ok-clause-there
returns-in-Ok-clause-there c =
    let s = c.self.inside in
    let many : length c.fill.new.body ≡ body_len s.layout = c.fill.ensures.len ∙ (ap length (c.as_mut_slice.ensures.value ∙ (c.copy_from_slice.ensures.items ∙ c.as_slice.ensures.value)) ∙ c.self.invariant.whole) in
    let len : length c.fill.new.body ≡ c.copy_from_slice.new.self.len = c.fill.ensures.len ∙ c.as_mut_slice.ensures.len in
    let body : c.as_slice-2.result.now ≡ c.fill.new.body = c.as_slice-2.ensures.value ∙ through c.copy_from_slice.new.self.len c.fill.new.body c.copy_from_slice.new.self.items len in
    let adds : AddsRecord s.records c.add.new.self c.in-Ok.number (fresh c.fill.new.body) = subst (λ (b : List ℕ). AddsRecord s.records c.add.new.self c.in-Ok.number (fresh b)) body c.in-Ok.ensures.ok in
    let added = added_seen s.arena c.fill.new.arena s.columns s.layout s.records s.empty.items s.scratch.items c.fill.new.body c.args.batch.now.columns c.args.row c.self.invariant (c.requires.kinds ∙ sym (ap (λ (m : ContainerModel). m.kinds) c.self.view_is)) c.add.new.self c.in-Ok.number c.args.self.now.rows c.args.self.now.extras (ap (λ (m : ContainerModel). m.rows) c.self.view_is) (ap (λ (m : ContainerModel). m.extras) c.self.view_is) c.in_ok-fill.ensures.ok adds in
    found_there _ c.in-Ok.number _ added.there

pub returns-in-Ok-clause-takes : goal.returns-in-Ok-clause-takes
returns-in-Ok-clause-takes c =
    let s = c.self.inside in
    subst (λ (a : ArenaModel). Takes a c.fill.new.arena (blocks_of_row (new_row c.args.self.now.extras (row_of c.args.batch.now.columns c.args.row))) (sum_by text_cost (row_of c.args.batch.now.columns c.args.row))) (ap (λ (m : ContainerModel). m.arena) c.self.view_is)
    (added_count s.arena c.fill.new.arena s.columns s.layout s.records s.empty.items s.scratch.items c.fill.new.body c.args.batch.now.columns c.args.row c.self.invariant (c.requires.kinds ∙ sym (ap (λ (m : ContainerModel). m.kinds) c.self.view_is)) c.args.self.now.extras (ap (λ (m : ContainerModel). m.extras) c.self.view_is) c.in_ok-fill.ensures.ok)

pub release-requires-clause-held : goal.release-requires-clause-held
release-requires-clause-held c =
    let s = c.self.inside in
    let many : length c.fill.new.body ≡ body_len s.layout = c.fill.ensures.len ∙ (ap length (c.as_mut_slice.ensures.value ∙ (c.copy_from_slice.ensures.items ∙ c.as_slice.ensures.value)) ∙ c.self.invariant.whole) in
    let len : length c.fill.new.body ≡ c.copy_from_slice.new.self.len = c.fill.ensures.len ∙ c.as_mut_slice.ensures.len in
    let body : c.as_slice-in-Err.result.now ≡ c.fill.new.body = c.as_slice-in-Err.ensures.value ∙ through c.copy_from_slice.new.self.len c.fill.new.body c.copy_from_slice.new.self.items len in
    subst (λ (b : List ℕ). Holds c.fill.new.arena (all_stored s.layout b)) (sym body) (filled_body s.arena c.fill.new.arena s.layout c.fill.new.body (row_of c.args.batch.now.columns c.args.row) c.in_ok-fill.ensures.ok)

pub invariant_of-self-in-Err : goal.invariant_of-self-in-Err
invariant_of-self-in-Err c =
    let s = c.self.inside in
    let many : length c.fill.new.body ≡ body_len s.layout = c.fill.ensures.len ∙ (ap length (c.as_mut_slice.ensures.value ∙ (c.copy_from_slice.ensures.items ∙ c.as_slice.ensures.value)) ∙ c.self.invariant.whole) in
    let len : length c.fill.new.body ≡ c.copy_from_slice.new.self.len = c.fill.ensures.len ∙ c.as_mut_slice.ensures.len in
    let body : c.as_slice-in-Err.result.now ≡ c.fill.new.body = c.as_slice-in-Err.ensures.value ∙ through c.copy_from_slice.new.self.len c.fill.new.body c.copy_from_slice.new.self.items len in
    let freed : Frees c.fill.new.arena c.release.new.arena (all_stored s.layout c.fill.new.body) = subst (λ (b : List ℕ). Frees c.fill.new.arena c.release.new.arena (all_stored s.layout b)) body c.release.ensures in
    let keeps : Keeps s.arena c.release.new.arena (sum_by text_cost (row_of c.args.batch.now.columns c.args.row)) = added_freed s.arena c.fill.new.arena c.release.new.arena (all_stored s.layout c.fill.new.body) (sum_by text_cost (row_of c.args.batch.now.columns c.args.row)) c.in_ok-fill.ensures.ok.adds freed in
    subst (λ (b : List ℕ). IsContainer s.columns s.layout c.add.new.self c.release.new.arena s.empty.items b) (sym (through c.copy_from_slice.new.self.len c.fill.new.body c.copy_from_slice.new.self.items len))
    (kept_container s.arena c.release.new.arena s.columns s.layout s.records s.empty.items s.scratch.items (sum_by text_cost (row_of c.args.batch.now.columns c.args.row)) c.self.invariant keeps c.add.new.self c.fill.new.body c.in-Err.ensures.err many)

pub returns-in-Err-clause-err : goal.returns-in-Err-clause-err
returns-in-Err-clause-err c =
    let s = c.self.inside in
    let many : length c.fill.new.body ≡ body_len s.layout = c.fill.ensures.len ∙ (ap length (c.as_mut_slice.ensures.value ∙ (c.copy_from_slice.ensures.items ∙ c.as_slice.ensures.value)) ∙ c.self.invariant.whole) in
    let len : length c.fill.new.body ≡ c.copy_from_slice.new.self.len = c.fill.ensures.len ∙ c.as_mut_slice.ensures.len in
    let body : c.as_slice-in-Err.result.now ≡ c.fill.new.body = c.as_slice-in-Err.ensures.value ∙ through c.copy_from_slice.new.self.len c.fill.new.body c.copy_from_slice.new.self.items len in
    let freed : Frees c.fill.new.arena c.release.new.arena (all_stored s.layout c.fill.new.body) = subst (λ (b : List ℕ). Frees c.fill.new.arena c.release.new.arena (all_stored s.layout b)) body c.release.ensures in
    let keeps : Keeps s.arena c.release.new.arena (sum_by text_cost (row_of c.args.batch.now.columns c.args.row)) = added_freed s.arena c.fill.new.arena c.release.new.arena (all_stored s.layout c.fill.new.body) (sum_by text_cost (row_of c.args.batch.now.columns c.args.row)) c.in_ok-fill.ensures.ok.adds freed in
    kept_seen s.arena c.release.new.arena s.columns s.layout s.records s.empty.items s.scratch.items (sum_by text_cost (row_of c.args.batch.now.columns c.args.row)) c.self.invariant keeps c.add.new.self c.args.self.now.rows c.in-Err.ensures.err (ap (λ (m : ContainerModel). m.rows) c.self.view_is)

pub returns-in-Err-clause-back : goal.returns-in-Err-clause-back
returns-in-Err-clause-back c =
    let s = c.self.inside in
    let many : length c.fill.new.body ≡ body_len s.layout = c.fill.ensures.len ∙ (ap length (c.as_mut_slice.ensures.value ∙ (c.copy_from_slice.ensures.items ∙ c.as_slice.ensures.value)) ∙ c.self.invariant.whole) in
    let len : length c.fill.new.body ≡ c.copy_from_slice.new.self.len = c.fill.ensures.len ∙ c.as_mut_slice.ensures.len in
    let body : c.as_slice-in-Err.result.now ≡ c.fill.new.body = c.as_slice-in-Err.ensures.value ∙ through c.copy_from_slice.new.self.len c.fill.new.body c.copy_from_slice.new.self.items len in
    let freed : Frees c.fill.new.arena c.release.new.arena (all_stored s.layout c.fill.new.body) = subst (λ (b : List ℕ). Frees c.fill.new.arena c.release.new.arena (all_stored s.layout b)) body c.release.ensures in
    let keeps : Keeps s.arena c.release.new.arena (sum_by text_cost (row_of c.args.batch.now.columns c.args.row)) = added_freed s.arena c.fill.new.arena c.release.new.arena (all_stored s.layout c.fill.new.body) (sum_by text_cost (row_of c.args.batch.now.columns c.args.row)) c.in_ok-fill.ensures.ok.adds freed in
    subst (λ (a : ArenaModel). TakesBack a c.release.new.arena (sum_by text_cost (row_of c.args.batch.now.columns c.args.row))) (ap (λ (m : ContainerModel). m.arena) c.self.view_is) (kept_count s.arena c.release.new.arena s.columns s.layout s.records s.empty.items s.scratch.items (sum_by text_cost (row_of c.args.batch.now.columns c.args.row)) c.self.invariant keeps)
