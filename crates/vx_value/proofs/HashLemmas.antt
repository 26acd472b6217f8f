-- The hash of a key goes on value by value.
use Rattle.std.proofs.Common.{◌≡◌, ℕ, List, [], ◌∷◌, ◌++◌, refl, ◌∙◌}
use Rattle.std.specs.List.{fold}
use Rattle.std.proofs.lemmas.List.Sums.{fold-append}
use Rattle.vx_value.specs.Row.{Row, value_at}
use Rattle.vx_value.specs.KeyBytes.{value_bytes, key_bytes}
use Rattle.vx_value.specs.Hash.{hash_step, hash_from}

pub hash_from-append : (hash : ℕ) (front back : List ℕ) → hash_from hash (front ++ back) ≡ hash_from (hash_from hash front) back
hash_from-append = fold-append hash_step

-- what a loop of `hash_value` over the columns computes
pub hash_from-key_bytes : (columns : List ℕ) (row : Row) (hash : ℕ)
    → hash_from hash (key_bytes columns row) ≡ fold (λ h column. hash_from h (value_bytes (value_at row column))) hash columns
hash_from-key_bytes [] row hash = refl
hash_from-key_bytes (column ∷ columns) row hash =
    hash_from-append hash (value_bytes (value_at row column)) (key_bytes columns row) ∙ hash_from-key_bytes columns row _
