-- The bytes of readers and writers, where they are known.
use Rattle.std.proofs.Common.{◌≡◌, ℕ, ◌<◌, ◌≤◌, min, List, [], ◌++◌, length, take, Option, Some, None, IfSome, option_map, ap, subst, ◌∙◌, arith}
use Rattle.std.proofs.lemmas.List.{take_all, length-take, append-nil}
use Rattle.std.specs.Io.KnownBytes.{Keeps, Appends}
use Rattle.std.specs.Io.Take.{take_remaining}
use Rattle.std.specs.declared.io.traits.Take.{Take}
use Rattle.vx_host.specs.Reading.{IsAllOf}

-- a front that is shorter than it might be is all
pub all_read : (known : Option (List ℕ)) (most : ℕ) (old bytes : List ℕ) → old ≡ []
    → IfSome (option_map (take most) known) (λ front. bytes ≡ old ++ front) → length bytes < most → IsAllOf known bytes
all_read None most old bytes empty is short = tt
all_read (Some all) most old bytes empty is short =
    let front : bytes ≡ take most all = is ∙ ap (λ (l : List ℕ). l ++ take most all) empty in
    let len : length bytes ≡ min most (length all) = ap length front ∙ length-take most all in
    let within : length all ≤ most = omega arith in
    front ∙ take_all most all within

-- what was read to the end of a reader's front, if it is shorter than that might be, is all of the reader
pub all_of_reader : {R : Type 0} (remaining : R → Option (List ℕ)) (front : Take R) (reader : R) (old bytes : List ℕ) → front.inner ≡ reader → old ≡ []
    → IfSome (take_remaining remaining front) (λ xs. bytes ≡ old ++ xs) → length bytes < front.limit → IsAllOf (remaining reader) bytes
all_of_reader {R = R} remaining front reader old bytes inner empty is short =
    subst (λ (r : R). IsAllOf (remaining r) bytes) inner (all_read (remaining front.inner) front.limit old bytes empty is short)

-- what was kept twice was kept
pub Keeps-Keeps : (before now after : Option (List ℕ)) → Keeps before now → Keeps now after → Keeps before after
Keeps-Keeps None now after kept again = tt
Keeps-Keeps (Some bytes) None after kept again = absurd kept
Keeps-Keeps (Some bytes) (Some now) None kept again = again
Keeps-Keeps (Some bytes) (Some now) (Some after) kept again = again ∙ kept

-- what was kept and then grew, grew
pub Keeps-Appends : (before now after : Option (List ℕ)) (piece : List ℕ) → Keeps before now → Appends now after piece → Appends before after piece
Keeps-Appends None now after piece kept grew = tt
Keeps-Appends (Some bytes) None after piece kept grew = absurd kept
Keeps-Appends (Some bytes) (Some now) None piece kept grew = grew
Keeps-Appends (Some bytes) (Some now) (Some after) piece kept grew = grew ∙ ap (λ (l : List ℕ). l ++ piece) kept

-- what grew by nothing was kept
pub Appends-nil : (before after : Option (List ℕ)) → Appends before after [] → Keeps before after
Appends-nil None after grew = tt
Appends-nil (Some bytes) None grew = grew
Appends-nil (Some bytes) (Some after) grew = grew ∙ append-nil bytes
