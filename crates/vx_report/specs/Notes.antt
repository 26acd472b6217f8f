-- What is printed of the request that aborted a job.
use Rattle.std.specs.Prelude.{List, ◌++◌, ℕ, codes, decimal}
use Rattle.vx_arb.specs.declared.entries.AbortNote.{AbortNote}
use Rattle.vx_arb.specs.declared.entries.NoteCause.{NoteCause}
use Rattle.vx_arb.specs.declared.entries.NoteCause.TheVariants.{Total, Own}

-- the name of the capacity that a request would have passed: the total of all jobs, or the job's own max
abbrev pub cause_name : NoteCause → List ℕ
cause_name Total = codes "total"
cause_name Own = codes "own"

-- the request's number, the job that made it, why it couldn't be met, what it needed and what was free
abbrev pub note_text : AbortNote → List ℕ
note_text note =
    codes " request=" ++ decimal note.request ++ codes " by=" ++ decimal note.by
    ++ codes " cause=" ++ cause_name note.cause
    ++ codes " need=" ++ decimal note.need ++ codes " free=" ++ decimal note.free
