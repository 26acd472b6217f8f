use Rattle.std.proofs.Common.{◌≡◌, ◌∙◌, true, rules}
use Rattle.vx_words.proofs.NumberLaws.{parsed}
use Rattle.vx_words.specs.Numbers.{is_number}
use Rattle.vx_words.proofs.numbers.number_of.Goals as goal

pub returns : goal.returns
returns c =
    let is : is_number c.args.text.now ≡ true = search rules in
    c.ok.ensures.value ∙ parsed c.args.text.now c.parse.result is c.parse.ensures.value.0
