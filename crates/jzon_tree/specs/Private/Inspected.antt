-- What an inspection of a value found.
use Rattle.std.specs.Prelude.{ℕ, ◌-◌, ◌<◌, ◌≤◌, ◌^◌}
use Rattle.jzon_tree.specs.Lawful.{IsValue}
use Rattle.jzon_tree.specs.Value.{Value, nest}

-- the value is valid, and `deep` is its nesting depth, saturating at `u128::MAX`
pub record IsInspected (v : Value) (deep : ℕ) : Type 0 where
  pub value : IsValue v
  pub within : (room : ℕ) → room < 2 ^ 128 - 1 → deep ≤ room → nest v ≤ room
  pub reached : (room : ℕ) → room < 2 ^ 128 - 1 → nest v ≤ room → deep ≤ room
