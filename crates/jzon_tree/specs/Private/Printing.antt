-- The parts of a written value, as the functions that write values add them.
use Rattle.std.specs.Prelude.{◌≡◌, ℕ, ◌+◌, ◌<◌, ◌≤◌, Bool, true, false, IsTrue, List, [], ◌∷◌, ◌++◌, length, map, take}
use Rattle.std.specs.Prelude.{MatchResult, Result, slice_index_or}
use Rattle.std.specs.List.{prefix_len}
use Rattle.jzon_base.specs.Private.PlainBytes.{is_plain}
use Rattle.jzon_tree.specs.DisplayText.{comma_text}
use Rattle.jzon_tree.specs.Generator.{Emitted, Added, Stopped}
use Rattle.jzon_tree.specs.Lawful.{IsValue}
use Rattle.jzon_tree.specs.Text.{quoted}
use Rattle.jzon_tree.specs.Value.{Value, null, values_of}
use Rattle.jzon_tree.specs.Writing.{Style, IsAllowedWhitespace, Writes, WritesEach, text_at, colon_text}

-- a comma, but none before the first element or entry, and whitespace
abbrev pub IsBetween : Style → ℕ → Bool → List ℕ → Type 0
IsBetween s dent comma b = (w : List ℕ) × IsAllowedWhitespace s dent w
    × (b ≡ comma_text comma ++ w)

-- whitespace and the closing bracket
abbrev pub IsClosing : Style → ℕ → ℕ → List ℕ → Type 0
IsClosing s dent bracket b = (w : List ℕ) × IsAllowedWhitespace s dent w × (b ≡ w ++ bracket ∷ [])

-- these texts in order, each after whitespace, and a comma before each but the first
abbrev pub Items : Style → ℕ → Bool → List (List ℕ) → List ℕ → Type 0
Items s dent comma [] b = b ≡ []
Items s dent comma (t ∷ ts) b = (w rest : List ℕ) × IsBetween s dent comma w × Items s dent true ts rest
    × (b ≡ w ++ (t ++ rest))

-- the values in order, without the brackets
abbrev pub ArePrintedItems : Style → ℕ → List Value → List ℕ → Type 0
ArePrintedItems s dent vs b = (ts : List (List ℕ)) × WritesEach s dent (values_of vs) ts × Items s dent false ts b

-- an entry: its key, a colon and its value
abbrev pub IsEntry : Style → ℕ → List ℕ × Value → List ℕ → Type 0
IsEntry s dent e t = (wide : Bool) × (x : List ℕ) × IsTrue (s.colon wide) × Writes s dent e.1 x
    × (t ≡ quoted e.0 ++ (colon_text wide ++ x))

-- the entry at a position
abbrev pub pair_at : List (List ℕ × Value) → ℕ → List ℕ × Value
pair_at es p = slice_index_or es p ([], null)

-- the entries at these positions, in order, without the brackets
abbrev pub ArePrintedMembers : Style → ℕ → List (List ℕ × Value) → List ℕ → List ℕ → Type 0
ArePrintedMembers s dent es ps b =
    (ts : List (List ℕ)) × (length ts ≡ length es) × ((k : ℕ) → k < length ps
    → IsEntry s dent (pair_at es (slice_index_or ps k 0)) (text_at ts (slice_index_or ps k 0)))
    × Items s dent false (map (text_at ts) ps) b

-- the effect of writing a text that P allows; at `Err` the prefix is promised only if K holds (a part that isn't read,
-- because a hook failed before, isn't known to keep what its type promises)
abbrev pub PrintsIf : {E : Type 0} → Type 0 → (List ℕ → Type 0) → Emitted → Emitted → Result (Unit {0}) E → Type 0
PrintsIf K P old new r = MatchResult r (λ _. Added P old new) (λ _. K → Stopped P old new)

-- the effect of writing this value in the style; at `Err` the prefix is promised only if the value is valid
abbrev pub PrintsValue : {E : Type 0} → Value → Emitted → Emitted → Result (Unit {0}) E → Type 0
PrintsValue v old new r = PrintsIf (IsValue v) (Writes old.style old.dent v) old new r

-- a string that needs no escape was put at this offset, and the byte after it is as before; or all bytes are
pub record PutsPlain (offset : ℕ) (string old new : List ℕ) (done : Bool) : Type 0 where
  pub plain : IsTrue done → length string ≤ prefix_len is_plain string
  pub text : IsTrue done → take (offset + length string) new ≡ take offset old ++ string
  pub next : IsTrue done
      → slice_index_or new (offset + length string) 0 ≡ slice_index_or old (offset + length string) 0
  pub left : done ≡ false → new ≡ old
  pub len : length new ≡ length old
