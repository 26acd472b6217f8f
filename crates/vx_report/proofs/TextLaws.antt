-- How the text of a list is put together.
use Rattle.std.proofs.Common.{◌≡◌, ℕ, ◌+◌, ◌<◌, List, [], ◌∷◌, ◌++◌, length, take, get_or, decimal, sym, ap, ◌∙◌, append_assoc, arith}
use Rattle.std.specs.List.{flat_map, enumerate_from}
use Rattle.std.specs.Str.{byte}
use Rattle.std.proofs.lemmas.List.{append-nil}
use Rattle.vx_report.specs.Logs.{listed, listed_after}
use Prim.Native.Nat.{zero, suc}

-- numbers are the first, and the others with a comma before each
pub listed-cons : (first : ℕ) (rest : List ℕ) → listed (first ∷ rest) ≡ decimal first ++ listed_after rest
listed-cons first [] = sym (append-nil (decimal first))
listed-cons first (second ∷ rest) = ap (λ text. decimal first ++ (byte "," ∷ text)) (listed-cons second rest)

-- one item more of a list whose items are numbered
pub numbered_more : {X : Type 0} (f : ℕ × X → List ℕ) (n : ℕ) (xs : List X) (i : ℕ) (x : X) → i < length xs → x ≡ get_or xs i x
    → flat_map f (enumerate_from n (take (i + 1) xs)) ≡ flat_map f (enumerate_from n (take i xs)) ++ f (n + i, x)
numbered_more f n [] i x within is = absurd (omega arith)
numbered_more f n (y ∷ xs) zero x within is =
    let here : n + 0 ≡ n = omega arith in
    rw here (append-nil (f (n, y)) ∙ ap (λ z. f (n, z)) (sym is))
numbered_more f n (y ∷ xs) (suc i) x within is =
    let more : suc i + 1 ≡ suc (i + 1) = omega arith in
    let at : n + suc i ≡ (n + 1) + i = omega arith in
    rw (more, at) (ap (λ text. f (n, y) ++ text) (numbered_more f (n + 1) xs i x (omega arith) is) ∙ sym (append_assoc (f (n, y)) (flat_map f (enumerate_from (n + 1) (take i xs))) (f ((n + 1) + i, x))))
