-- The words of a command line, as they were read.
use Rattle.std.specs.Prelude.{List, [], String, Result, Ok, Err}
use Rattle.std.specs.Vec.Iter.{into_iter_items}
use Rattle.std.specs.declared.alloc.Global.{Global}
use Rattle.std.specs.declared.vec.IntoIter.{IntoIter}
use Rattle.std.specs.declared.io.Error.{Error}

-- the words; none where they can't be read as text
abbrev pub words_in : Result (IntoIter (String Global) Global) Error → List (String Global)
words_in (Ok words) = into_iter_items words
words_in (Err e) = []
