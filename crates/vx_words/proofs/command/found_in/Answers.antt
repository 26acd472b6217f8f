use Rattle.std.proofs.Common.{map, string_bytes}
use Rattle.clap.specs.Words.{app_of}
use Rattle.vx_words.proofs.CommandLaws.{found_whole, is_exact_for, refused}
use Rattle.vx_words.proofs.command.found_in.Goals as goal

pub returns-in-Ok : goal.returns-in-Ok
returns-in-Ok c =
    let same = c.in_ok-command.ensures in
    found_whole (map string_bytes c.args.words.now) (app_of c.in_ok-command.command) c.in-Ok.matches same
    c.in-Ok.ensures.matches (c.in-Ok.ensures.kinds (is_exact_for _ same))

pub returns-in-Err : goal.returns-in-Err
returns-in-Err c =
    let same = c.in_ok-command.ensures in
    refused (map string_bytes c.args.words.now) (app_of c.in_ok-command.command) c.in-Err.error c.cause_of.result same
    (c.in-Err.ensures.kinds (is_exact_for _ same)) c.cause_of.ensures
