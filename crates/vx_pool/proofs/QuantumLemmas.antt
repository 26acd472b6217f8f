-- Quantums: enough, close, in order, and the same for all amounts up to the quantum.
use Rattle.std.proofs.Common.{refl, ◌≡◌, ℕ, ◌+◌, ◌-◌, ◌*◌, ◌/◌, ◌%◌, ◌<◌, ◌≤◌, inl, inr, arith, ap}
use Rattle.std.specs.Int.{next_multiple_of}
use Rattle.std.proofs.lemmas.Bool.{cases_lt, cases_eq}
use Rattle.std.proofs.lemmas.Bool.Decides.{nat_tests}
use Rattle.std.proofs.Math.Nat.{mul-le-mul_left, mod_self, mod-eq_of_lt}
use Rattle.vx_pool.specs.Quantum.{quantum, IsUnit}

-- a multiple that is enough, and the least of these
record IsRounded (size step rounded : ℕ) : Type 0 where
  times : ℕ
  multiple : rounded ≡ step * times
  enough : size ≤ rounded
  close : rounded < size + step
  least : (m : ℕ) → size ≤ step * m → times ≤ m

rounded_is : (size step : ℕ) → 0 < step → IsRounded size step (next_multiple_of size step)
rounded_is size step lt =
    elim (cases_eq (size % step) 0) [
      | inl none ↦
          (let whole : next_multiple_of size step ≡ size =
          rw none (let self : (step - 0) % step ≡ 0 = (let e : step - 0 ≡ step = omega arith in rw e (mod_self step)) in omega (arith, self)) in
          record {
            times = size / step;
            multiple = omega (arith, whole);
            enough = omega (arith, whole);
            close = omega (arith, whole);
            least = (λ m le. elim (cases_lt m (size / step)) [
              | inl less ↦
                  (let more : m + 1 ≤ size / step = omega arith in
                  let products : step * (m + 1) ≤ step * (size / step) = mul-le-mul_left step more in
                  absurd (omega arith))
              | inr most ↦ most
            ]);
          })
      | inr some ↦
          (let short : step - size % step < step = omega arith in
          let rest : (step - size % step) % step ≡ step - size % step = mod-eq_of_lt short in
          let more : next_multiple_of size step ≡ size + (step - size % step) = ap (λ k. size + k) rest in
          record {
            times = size / step + 1;
            multiple = omega (arith, more);
            enough = omega (arith, more);
            close = omega (arith, more);
            least = (λ m le. elim (cases_lt m (size / step + 1)) [
              | inl less ↦
                  (let few : m ≤ size / step = omega arith in
                  let products : step * m ≤ step * (size / step) = mul-le-mul_left step few in
                  absurd (omega arith))
              | inr most ↦ most
            ]);
          })
    ]

-- what is enough of a multiple bounds the rounding
rounded_least : (size step m : ℕ) → 0 < step → size ≤ step * m → next_multiple_of size step ≤ step * m
rounded_least size step m lt le =
    let is : IsRounded size step (next_multiple_of size step) = rounded_is size step lt in
    let products : step * is.times ≤ step * m = mul-le-mul_left step (is.least m le) in
    let multiple : next_multiple_of size step ≡ step * is.times = is.multiple in
    omega (arith, products, multiple)

-- no more is reserved for any amount up to what is reserved
rounded_flat : (size more step : ℕ) → 0 < step → more ≤ next_multiple_of size step → next_multiple_of more step ≤ next_multiple_of size step
rounded_flat size more step lt le =
    let is : IsRounded size step (next_multiple_of size step) = rounded_is size step lt in
    let multiple : next_multiple_of size step ≡ step * is.times = is.multiple in
    let within : next_multiple_of more step ≤ step * is.times =
    rounded_least more step is.times lt (omega (arith, multiple)) in
    omega (arith, within, multiple)

module _ (unit : ℕ) (is_unit : 0 < unit) where
  fine : (size : ℕ) → size < 16 * unit → quantum unit size ≡ next_multiple_of size unit
  fine size lt = grind (arith, nat_tests)

  coarse : (size : ℕ) → 16 * unit ≤ size → size < 64 * unit → quantum unit size ≡ next_multiple_of size (4 * unit)
  coarse size le lt = grind (arith, nat_tests)

  coarsest : (size : ℕ) → 64 * unit ≤ size → quantum unit size ≡ next_multiple_of size (8 * unit)
  coarsest size le = grind (arith, nat_tests)

  -- the bounds at which a step begins are multiples of both steps there
  fine_most : (size : ℕ) → size < 16 * unit → quantum unit size ≤ 16 * unit
  fine_most size lt =
      let is : quantum unit size ≡ next_multiple_of size unit = fine size lt in
      let most : next_multiple_of size unit ≤ unit * 16 = rounded_least size unit 16 is_unit (omega arith) in
      omega (arith, is, most)

  coarse_most : (size m : ℕ) → 16 * unit ≤ size → size < 64 * unit → size ≤ 4 * unit * m → quantum unit size ≤ 4 * unit * m
  coarse_most size m le lt enough =
      let is : quantum unit size ≡ next_multiple_of size (4 * unit) = coarse size le lt in
      let most : next_multiple_of size (4 * unit) ≤ 4 * unit * m = rounded_least size (4 * unit) m (omega arith) enough in
      omega (arith, is, most)

  pub quantum_none : quantum unit 0 ≡ 0
  quantum_none =
      let is : quantum unit 0 ≡ next_multiple_of 0 unit = fine 0 (omega arith) in
      let most : next_multiple_of 0 unit ≤ unit * 0 = rounded_least 0 unit 0 is_unit (omega arith) in
      omega (arith, is, most)

  -- enough is reserved, and less than eight units more
  pub quantum_enough : (size : ℕ) → size ≤ quantum unit size
  quantum_enough size =
      elim (cases_lt size (16 * unit)) [
        | inl low ↦
            (let is : quantum unit size ≡ next_multiple_of size unit = fine size low in
            let rounded = rounded_is size unit is_unit in
            let enough : size ≤ next_multiple_of size unit = rounded.enough in
            omega (arith, is, enough))
        | inr high ↦
            elim (cases_lt size (64 * unit)) [
              | inl middle ↦
                  (let is : quantum unit size ≡ next_multiple_of size (4 * unit) = coarse size high middle in
                  let rounded = rounded_is size (4 * unit) (omega arith) in
                  let enough : size ≤ next_multiple_of size (4 * unit) = rounded.enough in
                  omega (arith, is, enough))
              | inr highest ↦
                  (let is : quantum unit size ≡ next_multiple_of size (8 * unit) = coarsest size highest in
                  let rounded = rounded_is size (8 * unit) (omega arith) in
                  let enough : size ≤ next_multiple_of size (8 * unit) = rounded.enough in
                  omega (arith, is, enough))
            ]
      ]

  pub quantum_close : (size : ℕ) → quantum unit size < size + 8 * unit
  quantum_close size =
      elim (cases_lt size (16 * unit)) [
        | inl low ↦
            (let is : quantum unit size ≡ next_multiple_of size unit = fine size low in
            let rounded = rounded_is size unit is_unit in
            let close : next_multiple_of size unit < size + unit = rounded.close in
            omega (arith, is, close))
        | inr high ↦
            elim (cases_lt size (64 * unit)) [
              | inl middle ↦
                  (let is : quantum unit size ≡ next_multiple_of size (4 * unit) = coarse size high middle in
                  let rounded = rounded_is size (4 * unit) (omega arith) in
                  let close : next_multiple_of size (4 * unit) < size + 4 * unit = rounded.close in
                  omega (arith, is, close))
              | inr highest ↦
                  (let is : quantum unit size ≡ next_multiple_of size (8 * unit) = coarsest size highest in
                  let rounded = rounded_is size (8 * unit) (omega arith) in
                  let close : next_multiple_of size (8 * unit) < size + 8 * unit = rounded.close in
                  omega (arith, is, close))
            ]
      ]

  -- no more is reserved for any amount up to the quantum
  pub quantum_flat : (size more : ℕ) → more ≤ quantum unit size → quantum unit more ≤ quantum unit size
  quantum_flat size more le =
      elim (cases_lt size (16 * unit)) [
        | inl low ↦
            (let is : quantum unit size ≡ next_multiple_of size unit = fine size low in
            let most : quantum unit size ≤ 16 * unit = fine_most size low in
            elim (cases_lt more (16 * unit)) [
              | inl more_low ↦
                  (let more_is : quantum unit more ≡ next_multiple_of more unit = fine more more_low in
                  let flat : next_multiple_of more unit ≤ next_multiple_of size unit = rounded_flat size more unit is_unit (omega arith) in
                  omega (arith, is, more_is, flat))
              | inr more_high ↦
                  (let flat : quantum unit more ≤ 4 * unit * 4 = coarse_most more 4 more_high (omega arith) (omega arith) in
                  omega arith)
            ])
        | inr high ↦
            elim (cases_lt size (64 * unit)) [
              | inl middle ↦
                  (let is : quantum unit size ≡ next_multiple_of size (4 * unit) = coarse size high middle in
                  let most : quantum unit size ≤ 4 * unit * 16 = coarse_most size 16 high middle (omega arith) in
                  let enough : size ≤ quantum unit size = quantum_enough size in
                  elim (cases_lt more (16 * unit)) [
                    | inl more_low ↦
                        (let flat : quantum unit more ≤ 16 * unit = fine_most more more_low in omega arith)
                    | inr more_high ↦
                        elim (cases_lt more (64 * unit)) [
                          | inl more_middle ↦
                              (let more_is : quantum unit more ≡ next_multiple_of more (4 * unit) = coarse more more_high more_middle in
                              let flat : next_multiple_of more (4 * unit) ≤ next_multiple_of size (4 * unit) = rounded_flat size more (4 * unit) (omega arith) (omega arith) in
                              omega (arith, is, more_is, flat))
                          | inr more_highest ↦
                              (let more_is : quantum unit more ≡ next_multiple_of more (8 * unit) = coarsest more more_highest in
                              let flat : next_multiple_of more (8 * unit) ≤ 8 * unit * 8 = rounded_least more (8 * unit) 8 (omega arith) (omega arith) in
                              omega (arith, more_is, flat))
                        ]
                  ])
              | inr highest ↦
                  (let is : quantum unit size ≡ next_multiple_of size (8 * unit) = coarsest size highest in
                  let enough : size ≤ quantum unit size = quantum_enough size in
                  elim (cases_lt more (16 * unit)) [
                    | inl more_low ↦
                        (let flat : quantum unit more ≤ 16 * unit = fine_most more more_low in omega arith)
                    | inr more_high ↦
                        elim (cases_lt more (64 * unit)) [
                          | inl more_middle ↦
                              (let flat : quantum unit more ≤ 4 * unit * 16 = coarse_most more 16 more_high more_middle (omega arith) in
                              omega arith)
                          | inr more_highest ↦
                              (let more_is : quantum unit more ≡ next_multiple_of more (8 * unit) = coarsest more more_highest in
                              let flat : next_multiple_of more (8 * unit) ≤ next_multiple_of size (8 * unit) = rounded_flat size more (8 * unit) (omega arith) (omega arith) in
                              omega (arith, is, more_is, flat))
                        ]
                  ])
            ]
      ]

  -- for more no less is reserved
  pub quantum_rises : (size more : ℕ) → size ≤ more → quantum unit size ≤ quantum unit more
  quantum_rises size more le =
      let enough : more ≤ quantum unit more = quantum_enough more in
      quantum_flat more size (omega arith)

  -- the same is reserved for all amounts from one up to its quantum
  pub quantum_same : (size more : ℕ) → size ≤ more → more ≤ quantum unit size → quantum unit more ≡ quantum unit size
  quantum_same size more le within =
      let rises : quantum unit size ≤ quantum unit more = quantum_rises size more le in
      let flat : quantum unit more ≤ quantum unit size = quantum_flat size more within in
      omega (arith, rises, flat)

-- the least unit, and the one that a command line has by default
pub IsUnit-4096 : IsUnit 4096
unfolding lib.Count.ones
IsUnit-4096 = record { low = omega arith; high = omega arith; power = refl }

pub IsUnit-65536 : IsUnit 65536
unfolding lib.Count.ones
IsUnit-65536 = record { low = omega arith; high = omega arith; power = refl }
