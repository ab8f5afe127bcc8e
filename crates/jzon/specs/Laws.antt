-- Laws on the definitions alone.
use Rattle.std.specs.Prelude.{◌≡◌, ◌⊎◌, ℕ, ℤ, ◌≤◌, ◌<◌, ◌^◌, List, [], ◌∷◌, length, Bool, true, IsTrue, IsUtf8, chars}
use Rattle.std.specs.Prelude.{FitsSigned, suc, map, take, false, Option, Some, slice_get}
use Rattle.std.specs.Char.{is_ascii_digit}
use Rattle.std.specs.Int.{w16}
use Rattle.jzon_base.specs.Decimal.{parts, same_decimal}
use Rattle.jzon_base.specs.NumberText.{number_text, decimal_text}
use Rattle.jzon_tree.specs.Value.{Value, nest}
use Rattle.jzon_tree.specs.Text.{compact}
use Rattle.jzon_tree.specs.Same.{same}
use Rattle.jzon_tree.specs.Lawful.{IsValue, HasNoNan}
use Rattle.jzon_tree.specs.Styles.{compact_style, pretty_style}
use Rattle.jzon_tree.specs.Writing.{Style, IsAllowedWhitespace, Writes, is_all_whitespace}
use Rattle.jzon.specs.Reading.{Reading}
use Rattle.jzon.specs.Grammar.{Numeral, Node, Document}
use Rattle.jzon_base.specs.LostDigits.{loses_last}
use Rattle.jzon.specs.Spelling.{Breach, Cell, spell, drops_too_many, whole_breach, fraction_breach, whole_cells, fraction_cells}
use Rattle.jzon.specs.Meaning.{number_of, meaning}
use Rattle.jzon.specs.Fault.{Spells, Parses, Fault, IsFault, IsFirstFault}

-- two trees that spell the same text are equal
abbrev pub OneReading : Type 0
OneReading = (r : Reading) (t : List ℕ) (d e : Document) → Spells r t d → Spells r t e → d ≡ e

-- the text of a tree is the same in each reading
abbrev pub OneText : Type 0
OneText = (r s : Reading) (d : Document) → spell r d ≡ spell s d

-- the mark of the cell at an index
abbrev pub mark_at : List Cell → ℕ → Option (Option Breach)
mark_at cs i = slice_get (map (λ c. c.mark) cs) i

-- A cell has one mark, and the first digit of a number may have that of a container too many. It hides no other: one
-- digit is never too many and never lost, and if the digits up to a later one break a limit, the mark there says so.
abbrev pub DigitBreaches : Type 0
DigitBreaches =
    ((d : ℕ) → drops_too_many (d ∷ []) ≡ false)
    × ((d : ℕ) → IsTrue (is_ascii_digit d) → loses_last (d ∷ []) ≡ false)
    × ((r : Reading) (whole : List ℕ) (m : Option Breach) (k : List Cell) (i : ℕ) → suc i < length whole
    → mark_at (whole_cells r whole m k) (suc i) ≡ Some (whole_breach r (take (suc (suc i)) whole)))
    × ((r : Reading) (whole fraction : List ℕ) (k : List Cell) (i : ℕ) → i < length fraction
    → mark_at (fraction_cells r whole fraction k) (suc i) ≡ Some (fraction_breach r whole (take (suc i) fraction)))

-- one tree spells the text, it breaks no limit, and the text has no fault
abbrev pub HasOneTree : Reading → List ℕ → Type 0
HasOneTree r t = (d : Document) × Parses r t d × ((e : Document) → Spells r t e → e ≡ d)
    × ((i : ℕ) (f : Fault) → IsFault r t i f → ⊥)

-- no tree within the limits spells the text, and exactly one fault is its first
abbrev pub HasOneFault : Reading → List ℕ → Type 0
HasOneFault r t =
    ((d : Document) → Parses r t d → ⊥)
    × ((i : ℕ) × (f : Fault) × IsFirstFault r t i f × ((j : ℕ) (g : Fault) → IsFirstFault r t j g → (j ≡ i) × (g ≡ f)))

-- each text has one tree and no fault, or no tree within the limits and one first fault
abbrev pub OneFault : Type 0
OneFault = (r : Reading) (t : List ℕ) → HasOneTree r t ⊎ HasOneFault r t

-- ---- what is written can be read back

-- a text that is one value, with no whitespace around it
abbrev pub alone : Node → Document
alone n = record { before = []; node = n; after = [] }

-- The printed text of a sign, a mantissa and an exponent is a number of the grammar within the limits on digits. It
-- means an equal number, which prints this text again. The text has at most 29 bytes.
abbrev pub NumberText : Type 0
NumberText =
    (positive : Bool) (m : ℕ) (e : ℤ) → m < 2 ^ 64 → FitsSigned w16 e
    → ((n : Numeral)
    × ((r : Reading) → Parses r (chars (number_text positive m e)) (alone (Node.number n)))
    × IsTrue (same_decimal (number_of n) (parts positive m e))
    × (decimal_text (number_of n) ≡ number_text positive m e))
    × (length (number_text positive m e) ≤ 29)

-- the bytes are UTF-8, and a tree that breaks no limit spells their characters and means such a value
abbrev pub IsReadAs : Reading → List ℕ → (Value → Type 0) → Type 0
IsReadAs r bytes P = IsUtf8 bytes × (d : Document) × Parses r (chars bytes) d × P (meaning d.node)

-- The compact text of a value, which may hold NaN, is read as a value that has the same compact text.
abbrev pub Redump : Type 0
Redump = (r : Reading) (v : Value) → IsValue v → nest v ≤ r.depth → IsReadAs r (compact v) (λ w. compact w ≡ compact v)

-- the style allows only whitespace of a strict reading
abbrev pub AllowsStrictAlone : Style → Type 0
AllowsStrictAlone s = (dent : ℕ) (w : List ℕ) → IsAllowedWhitespace s dent w → IsTrue (is_all_whitespace true w)

-- the two styles of the four generators, compact and one line per element or entry, allow no other whitespace
abbrev pub StrictStyles : Type 0
StrictStyles = AllowsStrictAlone compact_style × ((spaces : ℕ) → AllowsStrictAlone (pretty_style spaces))

-- Each text that is written for a value without NaN, in whatever style, is read as an equal value. For a strict reading
-- the style must allow strict whitespace only.
abbrev pub ReadsBack : Type 0
ReadsBack =
    (r : Reading) (s : Style) (dent : ℕ) (v : Value) (b : List ℕ)
    → (IsTrue r.strict → AllowsStrictAlone s) → IsValue v → HasNoNan v → nest v ≤ r.depth → Writes s dent v b
    → IsReadAs r b (λ w. IsTrue (same w v))
