-- What `clap` says of its parse of the command line is what `found` says of the words.
use Rattle.std.proofs.Common.{◌≡◌, ◌∙◌, List, [], ◌∷◌, true, Some, None, Err, refl, sym, subst, ap, ap₂, inl, inr}
use Rattle.clap.specs.Words.{App, HasKind, HasMatchesOf, IsAmong, Kinds, Row, Text, fault_of, is_simple, is_simple_and_free, kind_of, matches_of}
use Rattle.clap.specs.declared.error.Error.{Error}
use Rattle.clap.specs.declared.error.kind.ErrorKind.{ErrorKind}
use Rattle.clap.specs.declared.parser.matches.ArgMatches.{ArgMatches}
use Rattle.vx_words.specs.Command.{command_line, found, rows_in, unless}
use Rattle.vx_words.specs.Outcome.{IsCause, ReadsRows}
use Rattle.vx_words.specs.declared.error.WordsError.{WordsError}
use Rattle.vx_words.specs.declared.error.WordsError.TheVariants.{Refused, NoMemory}

-- `clap`'s clauses are exact for this command
is_exact : is_simple_and_free command_line ≡ true
unfolding command_line
is_exact = refl

pub is_exact_for : (app : App) → app ≡ command_line → is_simple_and_free app ≡ true
is_exact_for app same = ap is_simple_and_free same ∙ is_exact

is_plain : is_simple command_line ≡ true
unfolding command_line
is_plain = refl

pub found_whole : (words : List Text) (app : App) (m : ArgMatches) → app ≡ command_line
    → HasMatchesOf app words m → fault_of app words ≡ [] → found words ≡ Some (rows_in m)
unfolding found
found_whole words app m same has faultless =
    let rows : rows_in m ≡ matches_of command_line words = (has (ap is_simple same ∙ is_plain)).0 ∙ ap (λ a. matches_of a words) same in
    let none : fault_of command_line words ≡ [] = sym (ap (λ a. fault_of a words) same) ∙ faultless in
    ap₂ unless none (sym rows)

unless-faulty : (kind : ErrorKind) (kinds : Kinds) (rows : List Row) → IsAmong kind kinds → unless kinds rows ≡ None
unless-faulty kind [] rows among = absurd among
unless-faulty kind (k ∷ ks) rows among = refl

found_none : (words : List Text) (kind : ErrorKind) → IsAmong kind (fault_of command_line words) → found words ≡ None
unfolding found
found_none words kind among = unless-faulty kind (fault_of command_line words) (matches_of command_line words) among

pub refused : (words : List Text) (app : App) (e : Error) (cause : WordsError) → app ≡ command_line
    → HasKind (fault_of app words) e → IsCause e cause → ReadsRows (found words) (Err cause)
refused words app e NoMemory same has is = tt
refused words app e Refused same (inl memory) is = absurd (is memory)
refused words app e Refused same (inr among) is = found_none words (kind_of e) (subst (λ (a : App). IsAmong (kind_of e) (fault_of a words)) same among)
