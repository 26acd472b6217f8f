-- Without chunks there is no block, and each list is empty.
use Rattle.std.proofs.Common.{◌≡◌, ℕ, ◌^◌, ◌<◌, None, List, [], ◌∷◌, get_or, refl, ap, ◌∙◌, arith}
use Rattle.std.proofs.lemmas.List.{get_or_past}
use Rattle.vx_arena.specs.Block.{Block, found}
use Rattle.vx_arena.specs.Names.{none, place_of, block_of, live_in, live_at, lives}
use Rattle.vx_arena.specs.Free.{IsListed}
use Rattle.vx_arena.specs.Text.{IsArena}
use Rattle.vx_arena.proofs.Chaining.{not_gone}
use Rattle.vx_arena.proofs.Classes.{below_8}
use Rattle.vx_arena.proofs.Linking.{not_found}

no_blocks : (n : ℕ) → found [] n ≡ None
unfolding found
no_blocks n = refl

pub block_of_empty : (n : ℕ) → block_of [] n ≡ None
unfolding block_of
block_of_empty n = ap (λ (bs : List Block). found bs (place_of n).at) (get_or_past [] (place_of n).chunk [] (omega arith)) ∙ no_blocks (place_of n).at

pub listed_empty : IsListed [] (18446744073709551615 ∷ 18446744073709551615 ∷ 18446744073709551615 ∷ 18446744073709551615 ∷ 18446744073709551615 ∷ 18446744073709551615 ∷ 18446744073709551615 ∷ 18446744073709551615 ∷ [])
listed_empty = record {
  count = refl;
  lists = λ _. [];
  linked = λ _ _. tt;
  first = below_8 (λ k. get_or (18446744073709551615 ∷ 18446744073709551615 ∷ 18446744073709551615 ∷ 18446744073709551615 ∷ 18446744073709551615 ∷ 18446744073709551615 ∷ 18446744073709551615 ∷ 18446744073709551615 ∷ []) k 0 ≡ none) refl refl refl refl refl refl refl refl;
  all = λ n b is free. not_found [] n b (block_of_empty n) is;
  long = λ n b is. absurd (not_found [] n b (block_of_empty n) is);
  none_is = block_of_empty none;
  held = refl;
}

no_lives : lives [] ≡ 0
unfolding lives
no_lives = refl

live_at_empty : (n : ℕ) → live_at [] n ≡ None
unfolding live_at
live_at_empty n = ap live_in (block_of_empty n)

pub arena_cleared : (taken : ℕ) → taken < 2 ^ 64 → IsArena [] taken taken
arena_cleared taken fits =
    let zero_lives : lives [] ≡ 0 = no_lives in
    record {
      counted = omega (arith, zero_lives, fits);
      fits = fits;
      chained = record {
        closed = λ n stands some. absurd (not_gone [] n stands (live_at_empty n));
        alone = λ m n one two same some. absurd (not_gone [] m one (live_at_empty m));
      };
    }

pub arena_empty : IsArena [] 0 0
arena_empty = arena_cleared 0 (omega arith)
