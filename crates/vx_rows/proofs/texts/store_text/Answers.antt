use Rattle.std.proofs.Common.{refl, sym, ◌≡◌, ◌^◌, ◌<◌, nat_le, true, length, arith, subst}
use Rattle.vx_rows.proofs.ResultLemmas.{on_err}
use Rattle.vx_value.specs.declared.value.Value.TheVariants as values
use Rattle.vx_rows.specs.Body.{short}
use Rattle.vx_rows.specs.Texts.{Stores}
use Rattle.vx_rows.proofs.Taking.{stores_plain, stores_long, keeps_failed}
use Rattle.vx_rows.proofs.texts.store_text.Goals as goal

pub returns-then-text-le-SHORT-clause-ok : goal.returns-then-text-le-SHORT-clause-ok
returns-then-text-le-SHORT-clause-ok c =
    let fits : c.args.arena.now.taken < 2 ^ 64 = omega (arith, c.taken-taken.ensures.taken, c.taken-taken.type_inv) in
    let test : nat_le (length c.args.text.now) 12 ≡ true = grind arith in
    stores_plain c.args.arena.now (values.Text c.args.text.now) (short c.args.text.now) fits tt (record { lawful = c.requires; few = c.if-text-le-SHORT.true }) refl c.if-text-le-SHORT.true (λ k fits. sym fits) (rw test refl)

pub returns-in_err-place-clause-err : goal.returns-in_err-place-clause-err
returns-in_err-place-clause-err c = on_err c.from_residual.result (keeps_failed c.args.arena.now c.take_text.new.self c.args.text.now (omega arith) c.in_err-place.ensures.err c.take_text.ensures.keeps)

pub returns-clause-ok : goal.returns-clause-ok
returns-clause-ok c =
    subst (λ s. Stores c.args.arena.now c.take_text.new.self (values.Text c.args.text.now) s) (sym c.long_ref.ensures.is)
    (stores_long c.args.arena.now c.take_text.new.self c.args.text.now c.in_ok-place.place (omega arith) c.requires c.long_ref.ensures.chunk c.in_ok-place.ensures.ok c.in_ok-place.ensures.fresh c.in_ok-place.ensures.there c.in_ok-place.ensures.reads c.in_ok-place.ensures.count c.take_text.ensures.keeps)
