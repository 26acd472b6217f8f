use Rattle.std.proofs.Common.{refl, ◌∙◌}
use Rattle.vx_page.specs.Page.{page}
use Rattle.vx_page.proofs.Kept.{keeps_all, grown_front, new_page, told_whole, seals_grow, seals_stay}
use Rattle.vx_page.proofs.sealed.Sealed.append.Goals as goal

pub returns-in-Err-clause-pages : goal.returns-in-Err-clause-pages
returns-in-Err-clause-pages g c = keeps_all _ _ _ _ c.args.file.0 c.as_slice-written.result.now c.self.view_is c.noted.ensures.after c.in-Err.ensures.err (λ n k s e. e)

pub returns-in_err-number-clause-pages : goal.returns-in_err-number-clause-pages
returns-in_err-number-clause-pages g c =
    keeps_all _ _ _ _ c.args.file.0 c.as_slice-written.result.now c.self.view_is refl (told_whole c.args.file.0 c.as_slice-written.result.now c.in-Ok.at _ _ c.in-Ok.ensures.ok)
    (seals_stay _ _ c.args.file.0 c.in_err-number.ensures.err c.in_err-number.ensures.others)

pub returns-clause-ok : goal.returns-clause-ok
returns-clause-ok g c =
    new_page _ _ _ c.args.file.0 c.in_ok-number.number _ c.args.shape.now c.args.rows.now c.as_slice-written.result.now c.in_ok-number.ensures.number c.in_ok-number.ensures.ok (rw c.as_slice-written.ensures.value c.in_ok-bytes.ensures.page) c.in-Some.ensures.some c.hash_key.ensures refl c.in-Ok.ensures.ok

pub returns-clause-pages : goal.returns-clause-pages
returns-clause-pages g c =
    keeps_all _ _ _ _ c.args.file.0 c.as_slice-written.result.now c.self.view_is refl (told_whole c.args.file.0 c.as_slice-written.result.now c.in-Ok.at _ _ c.in-Ok.ensures.ok)
    (seals_grow _ _ c.args.file.0 _ c.in_ok-number.ensures.ok c.in_ok-number.ensures.others)

pub returns-in_err-number-clause-grows : goal.returns-in_err-number-clause-grows
returns-in_err-number-clause-grows g c =
    grown_front _ _ _ c.args.file.0 c.as_slice-written.result.now (page c.args.rows.now) c.in-Ok.at c.self.view_is (c.as_slice-written.ensures.value ∙ c.in_ok-bytes.ensures.ok) c.in-Ok.ensures.ok

pub returns-clause-grows : goal.returns-clause-grows
returns-clause-grows g c =
    grown_front _ _ _ c.args.file.0 c.as_slice-written.result.now (page c.args.rows.now) c.in-Ok.at c.self.view_is (c.as_slice-written.ensures.value ∙ c.in_ok-bytes.ensures.ok) c.in-Ok.ensures.ok
