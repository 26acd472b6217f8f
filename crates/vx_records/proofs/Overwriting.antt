-- What stands at a place of bytes after others were put over some of them.
use Rattle.std.proofs.Common.{◌≡◌, ℕ, ◌+◌, ◌-◌, ◌≤◌, List, ◌++◌, length, take, drop, sym, ap, ◌∙◌, arith}
use Rattle.std.proofs.Math.Seq.{take-append-add, drop-append-add}
use Rattle.std.proofs.lemmas.List.{append_assoc, length-append, length-drop, length-take-le, take-append-drop, take-append-le, drop-append-le, take-take, drop-drop, drop-take, take_at, drop_at}
use Rattle.vx_raw.specs.Region.{written}

pub length-written : (bytes : List ℕ) (at : ℕ) (from : List ℕ) → at + length from ≤ length bytes → length (written bytes at from) ≡ length bytes
length-written bytes at from inside =
    let near : length (take at bytes) ≡ at = length-take-le at bytes (omega arith) in
    rw (length-append (take at bytes ++ from) (drop (at + length from) bytes), length-append (take at bytes) from, length-drop (at + length from) bytes, near) (omega arith)

pub written_front : (s rest from : List ℕ) (off : ℕ) → off + length from ≤ length s → written (s ++ rest) off from ≡ written s off from ++ rest
written_front s rest from off inside =
    let near : off ≤ length s = omega arith in
    rw (take-append-le off s rest near) (rw (drop-append-le (off + length from) s rest inside) (sym (append_assoc (take off s ++ from) (drop (off + length from) s) rest)))

pub written_back : (s rest from : List ℕ) (k : ℕ) → written (s ++ rest) (length s + k) from ≡ s ++ written rest k from
written_back s rest from k =
    let moved : length s + k + length from ≡ length s + (k + length from) = omega arith in
    rw moved (rw (take-append-add s rest k) (rw (drop-append-add s rest (k + length from)) (rw (append_assoc s (take k rest) from) (append_assoc s (take k rest ++ from) (drop (k + length from) rest)))))

-- what lies before the bytes that were put
pub part_before : (bytes from : List ℕ) (at p len : ℕ) → p + len ≤ at → at + length from ≤ length bytes → take len (drop p (written bytes at from)) ≡ take len (drop p bytes)
part_before bytes from at p len before inside =
    let near : length (take at bytes) ≡ at = length-take-le at bytes (omega arith) in
    let fits : p + len ≤ length (take at bytes) = omega (arith, near) in
    let fits_more : p + len ≤ length (take at bytes ++ from) = rw (length-append (take at bytes) from) (omega (arith, fits)) in
    let front : take (p + len) (written bytes at from) ≡ take (p + len) bytes =
    take-append-le (p + len) (take at bytes ++ from) (drop (at + length from) bytes) fits_more
    ∙ (take-append-le (p + len) (take at bytes) from fits
    ∙ take-take (p + len) at bytes before) in
    sym (drop-take p len (written bytes at from)) ∙ (ap (λ (x : List ℕ). drop p x) front ∙ drop-take p len bytes)

-- what lies behind them
pub part_behind : (bytes from : List ℕ) (at p : ℕ) → at + length from ≤ p → at + length from ≤ length bytes → drop p (written bytes at from) ≡ drop p bytes
part_behind bytes from at p behind inside =
    let near : length (take at bytes) ≡ at = length-take-le at bytes (omega arith) in
    let long : length (take at bytes ++ from) ≡ at + length from = rw (length-append (take at bytes) from) (omega (arith, near)) in
    let place : p ≡ length (take at bytes ++ from) + (p - (at + length from)) = omega (arith, long, behind) in
    let rest : at + length from + (p - (at + length from)) ≡ p = omega (arith, behind) in
    ap (λ (n : ℕ). drop n (written bytes at from)) place
    ∙ (drop-append-add (take at bytes ++ from) (drop (at + length from) bytes) (p - (at + length from))
    ∙ (drop-drop (p - (at + length from)) (at + length from) bytes
    ∙ ap (λ (n : ℕ). drop n bytes) rest))

-- where the bytes lie inside a part, they are put over those of the part
pub part_of : (bytes from : List ℕ) (p len off : ℕ) → off + length from ≤ len → p + len ≤ length bytes → take len (drop p (written bytes (p + off) from)) ≡ written (take len (drop p bytes)) off from
part_of bytes from p len off inside fits =
    let front : List ℕ = take p bytes in
    let mid : List ℕ = take len (drop p bytes) in
    let back : List ℕ = drop len (drop p bytes) in
    let front_long : length (take p bytes) ≡ p = length-take-le p bytes (omega arith) in
    let rest_long : length (drop p bytes) ≡ length bytes - p = length-drop p bytes in
    let mid_long : length (take len (drop p bytes)) ≡ len = length-take-le len (drop p bytes) (omega (arith, rest_long)) in
    let inner : off + length from ≤ length (take len (drop p bytes)) = omega (arith, mid_long, inside) in
    let split : take p bytes ++ (take len (drop p bytes) ++ drop len (drop p bytes)) ≡ bytes =
    ap (λ (x : List ℕ). take p bytes ++ x) (take-append-drop len (drop p bytes)) ∙ take-append-drop p bytes in
    let wrote : written bytes (p + off) from ≡ take p bytes ++ (written (take len (drop p bytes)) off from ++ drop len (drop p bytes)) =
    ap (λ (x : List ℕ). written x (p + off) from) (sym split)
    ∙ (ap (λ (n : ℕ). written (take p bytes ++ (take len (drop p bytes) ++ drop len (drop p bytes))) (n + off) from) (sym front_long)
    ∙ (written_back (take p bytes) (take len (drop p bytes) ++ drop len (drop p bytes)) from off
    ∙ ap (λ (x : List ℕ). take p bytes ++ x) (written_front (take len (drop p bytes)) (drop len (drop p bytes)) from off inner))) in
    let new_long : length (written (take len (drop p bytes)) off from) ≡ len = length-written (take len (drop p bytes)) off from inner ∙ mid_long in
    ap (λ (x : List ℕ). take len (drop p x)) wrote
    ∙ (ap (λ (x : List ℕ). take len x) (drop_at (take p bytes) (written (take len (drop p bytes)) off from ++ drop len (drop p bytes)) p front_long)
    ∙ take_at (written (take len (drop p bytes)) off from) (drop len (drop p bytes)) len new_long)

-- bytes put behind a front change what lies behind it
pub drop_written : (bytes from : List ℕ) (n off : ℕ) → n ≤ length bytes → drop n (written bytes (n + off) from) ≡ written (drop n bytes) off from
drop_written bytes from n off inside =
    let long : length (take n bytes) ≡ n = length-take-le n bytes inside in
    ap (λ (x : List ℕ). drop n (written x (n + off) from)) (sym (take-append-drop n bytes))
    ∙ (ap (λ (k : ℕ). drop n (written (take n bytes ++ drop n bytes) (k + off) from)) (sym long)
    ∙ (ap (λ (x : List ℕ). drop n x) (written_back (take n bytes) (drop n bytes) from off)
    ∙ drop_at (take n bytes) (written (drop n bytes) off from) n long))
