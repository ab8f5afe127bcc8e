-- Where values that are read go, and how the automaton goes on after them.
use Rattle.std.specs.Prelude.{◌≡◌, ◌≢◌, ℕ, ◌<◌, List, Bool, true, false, None, Result, MatchResult, slice_index, length}
use Rattle.jzon_base.specs.Tokens.{end_array}
use Rattle.jzon_tree.specs.View.{view}
use Rattle.jzon_tree.specs.Writing.{is_whitespace}
use Rattle.jzon_tree.specs.declared.value.JsonValue.{JsonValue}
use Rattle.jzon.specs.Reading.{Reading}
use Rattle.jzon.specs.declared.stop.Stop.{Stop}
use Rattle.jzon.specs.Private.Machine.{Frames, State, is_fresh, value_mark, after_value, from, ReportsUnlessMemory}

-- A value may begin at byte i inside of the containers fs, in a reading that is exact or not: they are not too many, and
-- neither whitespace nor the end of an empty array is there.
pub record MayBegin (r : Reading) (fs : Frames) (bytes : List ℕ) (i : ℕ) (exact : Bool) : Type 0 where
  pub exactness : r.exact ≡ exact
  pub shallow : value_mark r fs ≡ None
  pub no_space : i < length bytes → is_whitespace r.strict (slice_index bytes i) ≡ false
  pub no_end : is_fresh fs ≡ true → slice_index bytes i ≢ end_array

-- A value was put into a target, and for each reading and containers for which `allowed` holds, the outcome from byte i
-- on in the state `start` is the outcome after the value. Or the target was left as it was, and the error reports the
-- outcome, or an allocation failed.
abbrev pub Puts : {P : Type 0} → (JsonValue → P → Type 0) → P → P → Result ℕ Stop → List ℕ → ℕ → (Frames → State)
    → (Reading → Frames → Type 0) → Type 0
Puts takes old new result bytes i start allowed =
    MatchResult result
    (λ end. (v : JsonValue) × takes v new
    × ((r : Reading) (fs : Frames) → allowed r fs
    → from r bytes (start fs) i ≡ from r bytes (after_value fs (view v)) end))
    (λ e. (new ≡ old)
    × ((r : Reading) (fs : Frames) → allowed r fs → ReportsUnlessMemory bytes e (from r bytes (start fs) i)))
