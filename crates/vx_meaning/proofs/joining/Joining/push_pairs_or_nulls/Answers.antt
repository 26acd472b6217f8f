use Rattle.std.proofs.Common.{◌≡◌, ◌∙◌, ap, sym, subst, OnOk, ◌++◌, ◌∷◌, []}
use Rattle.std.specs.Prelude.{filter}
use Rattle.vx_meaning.specs.Joins.{pairs, matches, nulls}
use Rattle.vx_meaning.specs.JoinWords.{on_of}
use Rattle.vx_meaning.proofs.JoinLemmas.{if_none-some, if_none-none}
use Rattle.vx_meaning.proofs.joining.Joining.push_pairs_or_nulls.Goals as goal

pub returns-then-has_partner : goal.returns-then-has_partner
returns-then-has_partner c =
    let test = matches (on_of c.args.self.now) c.args.left.now in
    let left = c.args.left.now in
    subst (λ given. OnOk c.push_pairs.result (c.push_pairs.new.rows.items ≡ c.args.rows.now.items ++ given))
    (sym (if_none-some test c.args.right.now ((left ++ nulls c.args.self.now.right_columns) ∷ []) (pairs left (filter test c.args.right.now)) (sym c.has_partner.ensures ∙ c.if-has_partner.true)))
    c.push_pairs.ensures

pub returns-in_ok-beside : goal.returns-in_ok-beside
returns-in_ok-beside c =
    let test = matches (on_of c.args.self.now) c.args.left.now in
    let left = c.args.left.now in
    subst (λ given. OnOk c.push_row.result (c.push_row.new.rows.items ≡ c.args.rows.now.items ++ given))
    (sym (if_none-none test c.args.right.now ((left ++ nulls c.args.self.now.right_columns) ∷ []) (pairs left (filter test c.args.right.now)) (sym c.has_partner.ensures ∙ c.if-has_partner.false)))
    (subst (λ row. OnOk c.push_row.result (c.push_row.new.rows.items ≡ c.args.rows.now.items ++ row ∷ [])) (c.in_ok-beside.ensures ∙ ap (λ right. left ++ right) c.in_ok-nulls.ensures) c.push_row.ensures)
