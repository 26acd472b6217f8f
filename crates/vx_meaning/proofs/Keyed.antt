-- A finite map from the key of each item to a function of the items with that key.
use Rattle.std.proofs.Common.{◌≡◌, ◌≢◌, ℕ, suc, ◌+◌, ◌-◌, ◌<◌, Bool, true, false, ◌&&◌, ◌||◌, cond, List, [], ◌∷◌, ◌++◌, length, map, drop, get_or, All, Some, None, refl, sym, ap, ◌∙◌, subst, arith, Ordering, Less, Equal, Greater, true≢false}
use Rattle.std.specs.Prelude.{filter, T, is_some}
use Rattle.std.specs.List.{list_any}
use Rattle.std.specs.List.Sorted.{IsPermutation, IsSorted}
use Rattle.std.specs.Ordering.{eq_by_cmp, is_eq, is_lt, ordering_reverse}
use Rattle.std.specs.Cmp.{IsTotalOrder}
use Rattle.std.specs.FinMap.{FinMap, find, is_sorted, from_entries, from_sorted, entries, entries_sorted, get, get-entries, get-from_entries, get-from_sorted, entries-from_sorted, same_map}
use Rattle.std.specs.FinMap.Entries.{below_all}
use Rattle.std.proofs.lemmas.Cmp.{tied_itself}
use Rattle.std.proofs.lemmas.List.{get_or-drop, length-drop, append-nil, map-append}
use Rattle.std.proofs.lemmas.List.Elements.{filter-append}
use Rattle.std.proofs.lemmas.List.Folds.{list_any-append}
use Rattle.std.proofs.lemmas.List.Sorted.{sorted_far, ranks_by, IsPermutation-map, list_any-IsPermutation}
use Rattle.vx_meaning.proofs.PlusLaws.{by_test}
use Rattle.vx_meaning.proofs.Shuffles.{filter-shuffled}

first-is : {X : Type 0} (P : X → Type 0) (x : X) (xs : List X) → All P (x ∷ xs) → P x
first-is P x xs h = h 0 x (omega arith)

later-are : {X : Type 0} (P : X → Type 0) (x : X) (xs : List X) → All P (x ∷ xs) → All P xs
later-are P x xs h k d within = h (suc k) d (omega arith)

pub filter-none : {X : Type 0} (test : X → Bool) (xs : List X) → All (λ x. test x ≡ false) xs → filter test xs ≡ []
filter-none test [] h = refl
filter-none test (x ∷ xs) h = ap (λ b. cond b (x ∷ filter test xs) (filter test xs)) (first-is (λ x. test x ≡ false) x xs h) ∙ filter-none test xs (later-are (λ x. test x ≡ false) x xs h)

pub filter-all : {X : Type 0} (test : X → Bool) (xs : List X) → All (λ x. test x ≡ true) xs → filter test xs ≡ xs
filter-all test [] h = refl
filter-all test (x ∷ xs) h = ap (λ b. cond b (x ∷ filter test xs) (filter test xs)) (first-is (λ x. test x ≡ true) x xs h) ∙ ap (λ rest. x ∷ rest) (filter-all test xs (later-are (λ x. test x ≡ true) x xs h))

any-none : {X K : Type 0} (test : K → Bool) (key : X → K) (xs : List X) → All (λ x. test (key x) ≡ false) xs → list_any test (map key xs) ≡ false
any-none test key [] h = refl
any-none test key (x ∷ xs) h = ap (λ b. b || list_any test (map key xs)) (first-is (λ x. test (key x) ≡ false) x xs h) ∙ any-none test key xs (later-are (λ x. test (key x) ≡ false) x xs h)

any-first : {X K : Type 0} (test : K → Bool) (key : X → K) (xs : List X) → All (λ x. test (key x) ≡ true) xs → 0 < length xs → list_any test (map key xs) ≡ true
any-first test key [] h some = absurd (omega arith)
any-first test key (x ∷ xs) h some = ap (λ b. b || list_any test (map key xs)) (first-is (λ x. test (key x) ≡ true) x xs h)

pub equal_of : (r : Ordering) → is_eq r ≡ true → r ≡ Equal
equal_of Less h = absurd (true≢false (sym h))
equal_of Equal h = refl
equal_of Greater h = absurd (true≢false (sym h))

T_of : (b : Bool) → b ≡ true → T b
T_of b h = subst T (sym h) tt

both_of : (a b : Bool) → T a → T b → T (a && b)
both_of true b p q = q
both_of false b p q = p

module _ {X K V : Type 0} {R : K → K → Ordering} (o : IsTotalOrder R) (tied : (x y : K) → R x y ≡ Equal → x ≡ y) (key : X → K) (f : List X → V) where
  abbrev pub having : K → List X → List X
  having q xs = filter (λ x. eq_by_cmp R q (key x)) xs

  abbrev pub entry : List X → K → K × V
  entry xs q = (q, f (having q xs))

  abbrev pub by_key : List X → FinMap R V
  by_key xs = from_entries (map (entry xs) (map key xs))

  pub find-tabled : (g : K → V) (q : K) (ks : List K) → find R q (map (λ k. (k, g k)) ks) ≡ cond (list_any (eq_by_cmp R q) ks) (Some (g q)) None
  find-tabled g q [] = refl
  find-tabled g q (k ∷ ks) = by_test (eq_by_cmp R q k)
      (λ h. ap (λ b. cond b (Some (g k)) (find R q (map (λ k. (k, g k)) ks))) h ∙ ap (λ x. Some (g x)) (sym (tied q k (equal_of (R q k) h))) ∙ sym (ap (λ b. cond (b || list_any (eq_by_cmp R q) ks) (Some (g q)) None) h))
      (λ h. ap (λ b. cond b (Some (g k)) (find R q (map (λ k. (k, g k)) ks))) h ∙ find-tabled g q ks ∙ sym (ap (λ b. cond (b || list_any (eq_by_cmp R q) ks) (Some (g q)) None) h))

  pub get-by_key : (xs : List X) (q : K) → get (by_key xs) q ≡ cond (list_any (eq_by_cmp R q) (map key xs)) (Some (f (having q xs))) None
  get-by_key xs q = get-from_entries o (map (entry xs) (map key xs)) q ∙ find-tabled (λ k. f (having k xs)) q (map key xs)

  -- the order of the items doesn't matter
  pub by_key-shuffled : ((xs ys : List X) → IsPermutation xs ys → f xs ≡ f ys) → (xs ys : List X) → IsPermutation xs ys → by_key xs ≡ by_key ys
  by_key-shuffled same xs ys h = same_map o tied (by_key xs) (by_key ys) (λ q.
      get-by_key xs q
      ∙ ap (λ b. cond b (Some (f (having q xs))) None) (list_any-IsPermutation (eq_by_cmp R q) (map key xs) (map key ys) (IsPermutation-map key xs ys h))
      ∙ ap (λ v. cond (list_any (eq_by_cmp R q) (map key ys)) (Some v) None) (same (having q xs) (having q ys) (filter-shuffled (λ x. eq_by_cmp R q (key x)) xs ys h))
      ∙ sym (get-by_key ys q))

  below_all-from : (q : K) (es : List (K × V)) → ((k : K) → is_some (find R k es) ≡ true → R q k ≡ Less) → T (below_all R q es)
  below_all-from q [] h = tt
  below_all-from q (e ∷ es) h = both_of (is_lt (R q e.0)) (below_all R q es)
      (T_of (is_lt (R q e.0)) (ap is_lt (h e.0 (ap (λ r. is_some (cond (is_eq r) (Some e.1) (find R e.0 es))) (tied_itself o e.0)))))
      (below_all-from q es (λ k there. h k (by_test (eq_by_cmp R k e.0)
      (λ same. ap (λ b. is_some (cond b (Some e.1) (find R k es))) same)
      (λ other. ap (λ b. is_some (cond b (Some e.1) (find R k es))) other ∙ there))))

  some-any : (b : Bool) (v : V) → is_some (cond b (Some v) None) ≡ b
  some-any true v = refl
  some-any false v = refl

  above-any : (q : K) (xs : List X) → All (λ x. R q (key x) ≡ Less) xs → (k : K) → list_any (eq_by_cmp R k) (map key xs) ≡ true → R q k ≡ Less
  above-any q [] h k there = absurd (true≢false (sym there))
  above-any q (x ∷ xs) h k there = by_test (eq_by_cmp R k (key x))
      (λ same. ap (R q) (tied k (key x) (equal_of (R k (key x)) same)) ∙ first-is (λ x. R q (key x) ≡ Less) x xs h)
      (λ other. above-any q xs (later-are (λ x. R q (key x) ≡ Less) x xs h) k (sym (ap (λ b. b || list_any (eq_by_cmp R k) (map key xs)) other) ∙ there))

  rest-find : (later : List X) (k : K) → find R k (entries (by_key later)) ≡ cond (list_any (eq_by_cmp R k) (map key later)) (Some (f (having k later))) None
  rest-find later k = sym (get-entries (by_key later) k) ∙ get-by_key later k

  run-sorted : (q : K) (run later : List X) → All (λ x. R q (key x) ≡ Less) later → T (is_sorted R ((q, f run) ∷ entries (by_key later)))
  run-sorted q run later above = both_of (below_all R q (entries (by_key later))) (is_sorted R (entries (by_key later)))
      (below_all-from q (entries (by_key later)) (λ k there. above-any q later above k (sym (some-any (list_any (eq_by_cmp R k) (map key later)) (f (having k later))) ∙ sym (ap is_some (rest-find later k)) ∙ there)))
      (entries_sorted (by_key later))

  -- a key that ties with q ties with all that q ties with
  tie-true : (k q : K) (xs : List X) → R k q ≡ Equal → All (λ x. R q (key x) ≡ Equal) xs → All (λ x. eq_by_cmp R k (key x) ≡ true) xs
  tie-true k q xs same h i d within = ap is_eq (o.congr k q (key (get_or xs i d)) same ∙ h i d within)

  tie-false : (k q : K) (xs : List X) → eq_by_cmp R k q ≡ false → All (λ x. R q (key x) ≡ Equal) xs → All (λ x. eq_by_cmp R k (key x) ≡ false) xs
  tie-false k q xs other h i d within = ap (λ y. eq_by_cmp R k y) (sym (tied q (key (get_or xs i d)) (h i d within))) ∙ other

  above-false : (k q : K) (xs : List X) → R k q ≡ Equal → All (λ x. R q (key x) ≡ Less) xs → All (λ x. eq_by_cmp R k (key x) ≡ false) xs
  above-false k q xs same h i d within = ap is_eq (o.congr k q (key (get_or xs i d)) same ∙ h i d within)

  any-parts : (k : K) (run later : List X) → list_any (eq_by_cmp R k) (map key (run ++ later)) ≡ (list_any (eq_by_cmp R k) (map key run) || list_any (eq_by_cmp R k) (map key later))
  any-parts k run later = ap (list_any (eq_by_cmp R k)) (map-append key run later) ∙ list_any-append (eq_by_cmp R k) (map key run) (map key later)

  run-alike : (q : K) (run later : List X) → 0 < length run → All (λ x. R q (key x) ≡ Equal) run → All (λ x. R q (key x) ≡ Less) later
      → (k : K) → get (by_key (run ++ later)) k ≡ find R k ((q, f run) ∷ entries (by_key later))
  run-alike q run later some same above k = get-by_key (run ++ later) k ∙ by_test (eq_by_cmp R k q)
      (λ h. let tie = equal_of (R k q) h in
      ap (λ b. cond b (Some (f (having k (run ++ later)))) None) (any-parts k run later ∙ ap (λ b. b || list_any (eq_by_cmp R k) (map key later)) (any-first (eq_by_cmp R k) key run (tie-true k q run tie same) some))
      ∙ ap (λ xs. Some (f xs)) (filter-append (λ x. eq_by_cmp R k (key x)) run later
      ∙ ap (λ xs. xs ++ having k later) (filter-all (λ x. eq_by_cmp R k (key x)) run (tie-true k q run tie same))
      ∙ ap (λ xs. run ++ xs) (filter-none (λ x. eq_by_cmp R k (key x)) later (above-false k q later tie above)) ∙ append-nil run)
      ∙ sym (ap (λ b. cond b (Some (f run)) (find R k (entries (by_key later)))) h))
      (λ h.
      ap (λ b. cond b (Some (f (having k (run ++ later)))) None) (any-parts k run later ∙ ap (λ b. b || list_any (eq_by_cmp R k) (map key later)) (any-none (eq_by_cmp R k) key run (tie-false k q run h same)))
      ∙ ap (λ xs. cond (list_any (eq_by_cmp R k) (map key later)) (Some (f xs)) None) (filter-append (λ x. eq_by_cmp R k (key x)) run later
      ∙ ap (λ xs. xs ++ having k later) (filter-none (λ x. eq_by_cmp R k (key x)) run (tie-false k q run h same)))
      ∙ sym (rest-find later k)
      ∙ sym (ap (λ b. cond b (Some (f run)) (find R k (entries (by_key later)))) h))

  -- items with one key before items with greater ones: an entry of its own, and then theirs
  pub entries-run : (q : K) (run later : List X) → 0 < length run → All (λ x. R q (key x) ≡ Equal) run → All (λ x. R q (key x) ≡ Less) later
      → entries (by_key (run ++ later)) ≡ (q, f run) ∷ entries (by_key later)
  entries-run q run later some same above =
      let sorted = run-sorted q run later above in
      ap entries (same_map o tied (by_key (run ++ later)) (from_sorted ((q, f run) ∷ entries (by_key later))) (λ k.
      run-alike q run later some same above k ∙ sym (get-from_sorted R ((q, f run) ∷ entries (by_key later)) k sorted)))
      ∙ entries-from_sorted R ((q, f run) ∷ entries (by_key later)) sorted

  -- ---- runs of a sorted list

  greater_not : (q : K) (x y : X) → key x ≡ q → is_lt (R (key y) (key x)) ≡ false → R q (key y) ≢ Greater
  greater_not q x y is h e = absurd (true≢false (sym (ap is_lt (o.antisymm (key y) (key x) ∙ ap ordering_reverse (ap (λ z. R z (key y)) is ∙ e))) ∙ h))

  less_or : (r : Ordering) → r ≢ Equal → r ≢ Greater → r ≡ Less
  less_or Less p q = refl
  less_or Equal p q = absurd (p refl)
  less_or Greater p q = absurd (q refl)

  -- behind the first item with another key than the first one's all keys are greater
  pub above-run : (xs : List X) (q : K) (n : ℕ) → IsSorted (λ x y. R (key x) (key y)) xs → ((d : X) → key (get_or xs 0 d) ≡ q)
      → ((d : X) → n < length xs → R q (key (get_or xs n d)) ≢ Equal) → All (λ x. R q (key x) ≡ Less) (drop n xs)
  above-run xs q n sorted first ends j d within =
      let far = sorted_far (λ x y. is_lt (R (key x) (key y))) (ranks_by o key) xs sorted in
      let len : length (drop n xs) ≡ length xs - n = length-drop n xs in
      let below : n + j < length xs = omega arith in
      let next = less_or (R q (key (get_or xs n d))) (ends d (omega arith)) (greater_not q (get_or xs 0 d) (get_or xs n d) (first d) (far 0 n d (omega arith) (omega arith))) in
      subst (λ x. R q (key x) ≡ Less) (sym (get_or-drop n xs j d))
      (less_or (R q (key (get_or xs (n + j) d)))
      (λ e. absurd (true≢false (sym (ap is_lt (sym (o.congr q (key (get_or xs (n + j) d)) (key (get_or xs n d)) e) ∙ next)) ∙ far n (n + j) d (omega arith) below)))
      (greater_not q (get_or xs 0 d) (get_or xs (n + j) d) (first d) (far 0 (n + j) d (omega arith) below)))

  pub sorted-drop : (xs : List X) (n : ℕ) → IsSorted (λ x y. R (key x) (key y)) xs → IsSorted (λ x y. R (key x) (key y)) (drop n xs)
  sorted-drop xs n sorted k d low within =
      let len : length (drop n xs) ≡ length xs - n = length-drop n xs in
      let at : n + (k + 1) ≡ (n + k) + 1 = omega arith in
      subst (λ x. is_lt (R (key x) (key (get_or (drop n xs) k d))) ≡ false) (sym (get_or-drop n xs (k + 1) d ∙ ap (λ i. get_or xs i d) at))
      (subst (λ x. is_lt (R (key (get_or xs ((n + k) + 1) d)) (key x)) ≡ false) (sym (get_or-drop n xs k d)) (sorted (n + k) d (omega arith) (omega arith)))
