-- What a reader's answer says of the definition that it reads by. Want of memory says nothing.
use Rattle.std.specs.Prelude.{◌≡◌, ⊤, ℕ, List, map, string_bytes, Vec, String, Option, Some, None, Result, Ok, Err}
use Rattle.std.specs.declared.alloc.Global.{Global}
use Rattle.clap.specs.Words.{Row, kind_of}
use Rattle.clap.specs.declared.error.Error.{Error}
use Rattle.clap.specs.declared.error.kind.ErrorKind.TheVariants.{OutOfMemory}
use Rattle.clap.specs.declared.parser.matches.ArgMatches.{ArgMatches}
use Rattle.vx_words.specs.declared.error.WordsError.{WordsError}
use Rattle.vx_words.specs.declared.error.WordsError.TheVariants.{Refused, NoMemory}
use Rattle.vx_words.specs.Command.{rows_in}

-- it is what is read, or nothing is read and it is refused
abbrev pub Reads : {A : Type 0} → Option A → Result A WordsError → Type 0
Reads read (Ok thing) = read ≡ Some thing
Reads read (Err Refused) = read ≡ None
Reads read (Err NoMemory) = ⊤

-- the same of what `clap` found
abbrev pub ReadsRows : Option (List Row) → Result ArgMatches WordsError → Type 0
ReadsRows read (Ok matches) = read ≡ Some (rows_in matches)
ReadsRows read (Err Refused) = read ≡ None
ReadsRows read (Err NoMemory) = ⊤

-- the same of texts
abbrev pub ReadsTexts : Option (List (List ℕ)) → Result (Vec (String Global) Global) WordsError → Type 0
ReadsTexts read (Ok words) = read ≡ Some (map string_bytes words.items)
ReadsTexts read (Err Refused) = read ≡ None
ReadsTexts read (Err NoMemory) = ⊤

-- the cause of an error of `clap`: memory, or the words
abbrev pub IsCause : Error → WordsError → Type 0
IsCause e Refused = ¬ (kind_of e ≡ OutOfMemory)
IsCause e NoMemory = kind_of e ≡ OutOfMemory
