-- Content that an object tells or doesn't: an object in memory tells its bytes, a real one doesn't.
use Rattle.std.specs.Prelude.{◌≡◌, ℕ, ◌≤◌, List, length, take, ◌++◌, Option, option_map}

-- content that has gained these items at its end; whether it is told stays as it was
abbrev pub gained : {T : Type 0} → Option (List T) → List T → Option (List T)
gained told items = option_map (λ before. before ++ items) told

-- the content gained exactly these items
abbrev pub Gains : {T : Type 0} → Option (List T) → Option (List T) → List T → Type 0
Gains before now items = now ≡ gained before items

-- the content gained the first so many of these items, maybe none or all
pub record GainsSome {T : Type 0} (before now : Option (List T)) (items : List T) : Type 0 where
  pub count : ℕ
  pub within : count ≤ length items
  pub front : now ≡ gained before (take count items)
