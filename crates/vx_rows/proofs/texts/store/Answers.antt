use Rattle.std.proofs.Common.{refl, sym, ap, ◌^◌, ◌<◌, arith, subst, FitsSigned, w64}
use Rattle.std.proofs.lemmas.Int.{to_z-of_z}
use Rattle.vx_value.specs.Value.{owned, IsLawful}
use Rattle.vx_value.specs.declared.value.Value.TheVariants as values
use Rattle.vx_rows.specs.Body.{null, bool, int}
use Rattle.vx_rows.proofs.Taking.{stores_plain}
use Rattle.vx_rows.proofs.texts.store.Goals as goal

pub returns-in-Null-clause-ok : goal.returns-in-Null-clause-ok
returns-in-Null-clause-ok c =
    let fits : c.args.arena.now.taken < 2 ^ 64 = omega (arith, c.taken-taken.ensures.taken, c.taken-taken.type_inv) in
    rw (ap owned c.in-Null.is) (stores_plain c.args.arena.now values.Null null fits tt tt refl tt (λ k fits. tt) refl)

pub returns-in-Bool-clause-ok : goal.returns-in-Bool-clause-ok
returns-in-Bool-clause-ok c =
    let fits : c.args.arena.now.taken < 2 ^ 64 = omega (arith, c.taken-taken.ensures.taken, c.taken-taken.type_inv) in
    rw (ap owned c.in-Bool.is) (stores_plain c.args.arena.now (values.Bool c.in-Bool.b) (bool c.in-Bool.b) fits tt tt refl tt (λ k fits. sym fits) refl)

pub returns-in-Int-clause-ok : goal.returns-in-Int-clause-ok
returns-in-Int-clause-ok c =
    let fits : c.args.arena.now.taken < 2 ^ 64 = omega (arith, c.taken-taken.ensures.taken, c.taken-taken.type_inv) in
    let lawful : FitsSigned w64 c.in-Int.n = subst (λ v. IsLawful v) (ap owned c.in-Int.is) c.requires in
    rw (ap owned c.in-Int.is, to_z-of_z w64 c.in-Int.n lawful) (stores_plain c.args.arena.now (values.Int c.in-Int.n) (int c.in-Int.n) fits tt tt refl lawful (λ k fits. sym fits) refl)
