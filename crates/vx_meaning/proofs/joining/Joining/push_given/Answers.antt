use Rattle.std.proofs.Common.{◌≡◌, ◌∙◌, ap, sym, subst, OnOk, ◌++◌, ◌∷◌, []}
use Rattle.std.specs.Prelude.{filter, if◌then◌else◌, not}
use Rattle.vx_meaning.specs.Joins.{matches, given}
use Rattle.vx_meaning.specs.JoinWords.{on_of}
use Rattle.vx_meaning.proofs.JoinLemmas.{semi-is, anti-is}
use Rattle.vx_meaning.proofs.joining.Joining.push_given.Goals as goal

pub returns-in-Semi : goal.returns-in-Semi
returns-in-Semi c =
    let on = on_of c.args.self.now in
    let test = matches on c.args.left.now in
    let right = c.args.right.now in
    subst (λ more. OnOk c.push_if.result (c.push_if.new.rows.items ≡ c.args.rows.now.items ++ more))
    (ap (λ b. if b then c.args.left.now ∷ [] else []) c.has_partner.ensures ∙ semi-is test right c.args.left.now ∙ ap (λ kind. given kind on c.args.left.now (filter test right)) (sym c.in-Semi.is))
    c.push_if.ensures

pub returns-in-Anti : goal.returns-in-Anti
returns-in-Anti c =
    let on = on_of c.args.self.now in
    let test = matches on c.args.left.now in
    let right = c.args.right.now in
    subst (λ more. OnOk c.push_if-in-Anti.result (c.push_if-in-Anti.new.rows.items ≡ c.args.rows.now.items ++ more))
    (ap (λ b. if not b then c.args.left.now ∷ [] else []) c.has_partner-in-Anti.ensures ∙ anti-is test right c.args.left.now ∙ ap (λ kind. given kind on c.args.left.now (filter test right)) (sym c.in-Anti.is))
    c.push_if-in-Anti.ensures
