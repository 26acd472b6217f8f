use Rattle.std.proofs.Common.{◌≡◌, drop, map}
use Rattle.vx_json.specs.Words.{named}
use Rattle.vx_json.proofs.words.named.Given as goal

abbrev pub invariant-loop-name : goal.invariant-loop-name
invariant-loop-name g l =
    let texts = map (λ e. (e.0.now, e.1)) in
    named (texts (drop l.name-index l.table)) l.word ≡ named (texts l.table) l.word
