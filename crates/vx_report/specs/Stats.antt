-- The line of a query's tally.
use Rattle.std.specs.Prelude.{List, ◌++◌, ℕ, codes, decimal}
use Rattle.vx_report.specs.declared.tallies.Tally.{Tally}

-- what a query took and gave back; one that has ended has nothing reserved
abbrev pub stats_text : Tally → ℕ → List ℕ
stats_text tally posted =
    codes "stats taken=" ++ decimal tally.taken ++ codes " given=" ++ decimal tally.given
    ++ codes " reserved=0 peak=" ++ decimal tally.peak ++ codes " posted=" ++ decimal posted
    ++ codes " spilled=" ++ decimal tally.spilled ++ codes "\n"
