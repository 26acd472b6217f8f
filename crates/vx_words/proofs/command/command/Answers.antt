use Rattle.std.proofs.Common.{◌≡◌, ◌∙◌, ap, codes}
use Rattle.std.proofs.lemmas.Result.{IfOk-weaker}
use Rattle.clap.specs.Words.{App, Rule, with_rule}
use Rattle.vx_words.specs.Command.{command_line, flag_rule, option_rule, words_rule}
use Rattle.vx_words.proofs.command.command.Goals as goal

with_more : (r : Rule) (a b c : App) → a ≡ with_rule b r → b ≡ c → a ≡ with_rule c r
with_more r a b c more same = more ∙ ap (λ app. with_rule app r) same

pub returns : goal.returns
unfolding command_line
returns c =
    let e0 = c.new-command.ensures.app in
    let e1 = with_more (option_rule (codes "capacity")) _ _ _ c.in_ok-command.ensures e0 in
    let e2 = with_more (option_rule (codes "max")) _ _ _ c.in_ok-command-2.ensures e1 in
    let e3 = with_more (option_rule (codes "unit")) _ _ _ c.in_ok-command-3.ensures e2 in
    let e4 = with_more (option_rule (codes "batch")) _ _ _ c.in_ok-command-4.ensures e3 in
    let e5 = with_more (option_rule (codes "drivers")) _ _ _ c.in_ok-command-5.ensures e4 in
    let e6 = with_more (option_rule (codes "workers")) _ _ _ c.in_ok-command-6.ensures e5 in
    let e7 = with_more (option_rule (codes "mode")) _ _ _ c.in_ok-command-7.ensures e6 in
    let e8 = with_more (flag_rule (codes "log")) _ _ _ c.in_ok-command-8.ensures e7 in
    let e9 = with_more (flag_rule (codes "stats")) _ _ _ c.in_ok-command-9.ensures e8 in
    IfOk-weaker c.with_words.result _ _ (λ command more. with_more (words_rule (codes "WORDS")) _ _ _ more e9) c.with_words.ensures
