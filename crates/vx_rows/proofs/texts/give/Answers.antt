use Rattle.std.proofs.Common.{subst, sym, ap, [], ◌∷◌, ◌≡◌, ◌^◌, ◌<◌, arith}
use Rattle.vx_rows.specs.Body.{Stored, seen, long}
use Rattle.vx_rows.specs.Texts.{Frees, IsKept}
use Rattle.vx_rows.proofs.Taking.{frees_long, frees_plain, plain_unless}
use Rattle.vx_rows.proofs.texts.give.Goals as goal

pub returns-in-Long : goal.returns-in-Long
returns-in-Long c =
    let is : seen c.args.stored ≡ long c.in-Long.field-0 c.in-Long.field-1.now c.in-Long.place = ap seen c.in-Long.is in
    let there : IsKept c.args.arena.now (long c.in-Long.field-0 c.in-Long.field-1.now c.in-Long.place) = subst (λ (s : Stored). IsKept c.args.arena.now s) is c.requires in
    subst (λ (s : Stored). Frees c.args.arena.now c.give_text.new.self (s ∷ [])) (sym is) (frees_long c.args.arena.now c.give_text.new.self c.in-Long.field-0 c.in-Long.field-1.now c.in-Long.place there c.give_text.ensures.gives c.give_text.ensures.keeps c.give_text.ensures.given)

pub returns-in_default : goal.returns-in_default
returns-in_default c =
    let fits : c.args.arena.now.given < 2 ^ 64 = omega (arith, c.given-given.ensures, c.given-given.type_inv) in
    frees_plain c.args.arena.now (seen c.args.stored) fits (plain_unless c.args.stored c.in_default.not-Long)
