-- Draws and rows, one more at a time.
use Rattle.std.proofs.Common.{◌≡◌, ℕ, zero, suc, ◌+◌, ◌*◌, ◌%◌, ◌^◌, ◌<◌, ◌≤◌, ℤ, pos, ◌-ℤ◌, List, [], ◌∷◌, ◌++◌, length, codes, refl, sym, ap, ap₂, ◌∙◌, arith, add-one}
use Rattle.std.specs.Fmt.{decimal}
use Rattle.std.proofs.Math.Nat.{mod-add-mod}
use Rattle.std.proofs.lemmas.Fmt.{length-decimal-le}
use Rattle.std.proofs.lemmas.List.FromFn.{map-range_with_len_more}
use Rattle.vx_value.specs.declared.value.Value.{Value}
use Rattle.vx_value.specs.declared.value.Value.TheVariants.{Int}
use Rattle.vx_gen.specs.Draws.{next_state, state_after, drawn, draw}
use Rattle.vx_gen.specs.Rows.{row_of, row_at, row_from, drawn_rows, group_row, group_rows}

-- a product that wraps, and then a sum that wraps
pub next_state-wraps : (x : ℕ) → ((x * 6364136223846793005) % 2 ^ 64 + 1442695040888963407) % 2 ^ 64 ≡ next_state x
next_state-wraps x = mod-add-mod (x * 6364136223846793005) (2 ^ 64) 1442695040888963407

pub state_after-zero : (number : ℕ) → state_after number 0 ≡ number
unfolding state_after
state_after-zero number = refl

state_after-suc : (number k : ℕ) → state_after number (suc k) ≡ next_state (state_after number k)
unfolding state_after
state_after-suc number k = refl

pub state_after-more : (number k : ℕ) → state_after number (k + 1) ≡ next_state (state_after number k)
state_after-more number k = ap (state_after number) (add-one k) ∙ state_after-suc number k

-- the state after a row more
pub state_after-row : (number i : ℕ) → state_after number (2 * (i + 1)) ≡ next_state (next_state (state_after number (2 * i)))
state_after-row number i =
    let two : 2 * (i + 1) ≡ 2 * i + 1 + 1 = omega arith in
    ap (state_after number) two ∙ (state_after-more number (2 * i + 1) ∙ ap next_state (state_after-more number (2 * i)))

row_at-from : (number i : ℕ) → row_at number i ≡ row_from (state_after number (2 * i)) i
row_at-from number i =
    ap₂ (λ a b. row_of i (drawn a) (drawn b)) (state_after-more number (2 * i)) (state_after-more number (2 * i + 1) ∙ ap next_state (state_after-more number (2 * i)))

pub drawn_rows-none : (number : ℕ) → drawn_rows number 0 ≡ []
unfolding drawn_rows
drawn_rows-none number = refl

-- the rows with one more, from the state after those before it
pub drawn_rows-more : (number i : ℕ) → drawn_rows number (i + 1) ≡ drawn_rows number i ++ row_from (state_after number (2 * i)) i ∷ []
unfolding drawn_rows
drawn_rows-more number i =
    map-range_with_len_more (row_at number) 0 i i (omega arith) ∙ ap (λ (row : List Value). drawn_rows number i ++ row ∷ []) (row_at-from number i)

pub group_rows-none : group_rows 0 ≡ []
unfolding group_rows
group_rows-none = refl

pub group_rows-more : (j : ℕ) → group_rows (j + 1) ≡ group_rows j ++ group_row j ∷ []
unfolding group_rows
group_rows-more j = map-range_with_len_more group_row 0 j j (omega arith)

-- ---- as the loops have them

-- a row of two draws
pub row_is : (row cells : List Value) (i : ℕ) (x y z : ℤ) (state a b g m : ℕ) → row ≡ cells → cells ≡ Int x ∷ Int y ∷ Int (z -ℤ pos 500) ∷ [] → x ≡ pos i → y ≡ pos (g % 500) → z ≡ pos (m % 1001)
    → a ≡ next_state state → g ≡ drawn a → b ≡ next_state a → m ≡ drawn b → row ≡ row_from state i
row_is row cells i x y z state a b g m er ec ex ey ez ea eg eb em =
    let first : y ≡ pos (drawn (next_state state) % 500) = ey ∙ ap (λ (n : ℕ). pos (n % 500)) (eg ∙ ap drawn ea) in
    let second : z ≡ pos (drawn (next_state (next_state state)) % 1001) = ez ∙ ap (λ (n : ℕ). pos (n % 1001)) (em ∙ ap drawn (eb ∙ ap next_state ea)) in
    er ∙ (ec ∙ (λ k. Int (ex k) ∷ Int (first k) ∷ Int (second k -ℤ pos 500) ∷ []))

pub row_more : (rows next : List (List Value)) (row : List Value) (number i state : ℕ) → next ≡ rows ++ row ∷ [] → row ≡ row_from state i → state ≡ state_after number (2 * i) → rows ≡ drawn_rows number i → next ≡ drawn_rows number (i + 1)
row_more rows next row number i state en er es ed =
    en ∙ (λ k. ed k ++ (er ∙ ap (λ (s : ℕ). row_from s i) es) k ∷ []) ∙ sym (drawn_rows-more number i)

pub group_more : (rows next : List (List Value)) (row : List Value) (j : ℕ) → next ≡ rows ++ row ∷ [] → row ≡ group_row j → rows ≡ group_rows j → next ≡ group_rows (j + 1)
group_more rows next row j en er ed = en ∙ (λ k. ed k ++ er k ∷ []) ∙ sym (group_rows-more j)

-- the name of a group is short
pub short_name : (j : ℕ) (bytes now : List ℕ) → now ≡ bytes → bytes ≡ codes "group-" ++ decimal j → j < 2 ^ 32 → length now ≤ 65535
short_name j bytes now same is h =
    let short : length (decimal j) ≤ 10 = length-decimal-le 10 j (omega arith) (omega (arith, h)) (omega (arith, h)) in
    omega (arith, short, ap length (same ∙ is))
