use Rattle.std.proofs.Common.{◌∷◌, ◌++◌, [], ap, sym, ◌∙◌}
use Rattle.vx_page.specs.Sealed.{seals_of, kept_of}
use Rattle.vx_page.proofs.SealLaws.{set_same, set_other, read_is, OnErr-any}
use Rattle.vx_page.proofs.seals.push_seal.Goals as goal

pub returns-in_err-push-clause-others : goal.returns-in_err-push-clause-others
returns-in_err-push-clause-others c = λ n other. set_other c.args.files.now.items c.args.file c.push.new.self n other

pub returns-in_err-push-clause-err : goal.returns-in_err-push-clause-err
returns-in_err-push-clause-err c =
    OnErr-any c.from_residual.result (set_same c.args.files.now.items c.args.file c.push.new.self (seals_of (kept_of c.args.files.now.items) c.args.file) c.requires
    (c.in_err-push.ensures.items ∙ sym (read_is c.args.files.now.items c.args.file c.index_mut-seals.result.now c.requires c.index_mut-seals.ensures.value)))

pub returns-clause-ok : goal.returns-clause-ok
returns-clause-ok c =
    set_same c.args.files.now.items c.args.file c.push.new.self (seals_of (kept_of c.args.files.now.items) c.args.file ++ c.args.seal ∷ []) c.requires
    (c.in_ok-push.ensures.items ∙ ap (λ seals. seals ++ c.args.seal ∷ []) (sym (read_is c.args.files.now.items c.args.file c.index_mut-seals.result.now c.requires c.index_mut-seals.ensures.value)))

pub returns-clause-others : goal.returns-clause-others
returns-clause-others c = λ n other. set_other c.args.files.now.items c.args.file c.push.new.self n other
