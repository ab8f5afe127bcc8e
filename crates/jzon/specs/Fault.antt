-- Which prefixes can be completed to a text, where a text has a fault, and the one error of a text (docs/RULES.md,
-- "Errors").
use Rattle.std.specs.Prelude.{◌≡◌, ℕ, suc, ◌+◌, ◌-◌, ◌<◌, ◌≤◌, List, ◌++◌, length, take, not, ◌==◌, count_by}
use Rattle.std.specs.Prelude.{slice_index}
use Rattle.std.specs.List.{suffix_len}
use Rattle.jzon_base.specs.declared.error.Error.{Error}
use Rattle.jzon_base.specs.declared.error.Error.TheVariants.{UnexpectedCharacter, UnexpectedEndOfJson}
use Rattle.jzon_base.specs.declared.error.Error.TheVariants.{ExceededDepthLimit, FailedUtf8Parsing, DuplicateKey}
use Rattle.jzon_base.specs.declared.error.Error.TheVariants.{InexactNumber}
use Rattle.jzon.specs.Reading.{Reading}
use Rattle.jzon.specs.Grammar.{Document, IsDocument}
use Rattle.jzon.specs.Spelling.{Breach, deep, pair, digit, duplicate, inexact, spell, BreachAt, HasNoBreach}

-- ---- completion

-- the tree spells the text
abbrev pub Spells : Reading → List ℕ → Document → Type 0
Spells r t d = IsDocument r d × (spell r d ≡ t)

-- the tree's text begins with the prefix
abbrev pub Completes : Reading → List ℕ → Document → Type 0
Completes r prefix d = IsDocument r d × (rest : List ℕ) × (spell r d ≡ prefix ++ rest)

-- some text of the grammar begins with the prefix; it may exceed limits
abbrev pub HasCompletion : Reading → List ℕ → Type 0
HasCompletion r prefix = (d : Document) × Completes r prefix d

-- each tree whose text begins with the prefix breaks this limit at offset i
abbrev pub AllBreakAt : Reading → List ℕ → Breach → ℕ → Type 0
AllBreakAt r prefix b i = (d : Document) → Completes r prefix d → BreachAt r b d i

-- the tree spells the text, and breaks no limit
abbrev pub Parses : Reading → List ℕ → Document → Type 0
Parses r t d = Spells r t d × HasNoBreach r d

-- ---- faults

-- what is wrong with a text at an offset
pub data Fault : Type 0 where
  -- a limit is broken
  limit : Breach → Fault
  -- no text of the grammar goes on with this character
  character : Fault
  -- the text ends too early
  end : Fault

-- The characters before i have a completion with one open container too many at i, and every completion that includes
-- character i has one there too; there may be no such completion.
abbrev pub IsDepthFault : Reading → List ℕ → ℕ → Type 0
IsDepthFault r t i =
    (i < length t)
    × ((d : Document) × Completes r (take i t) d × BreachAt r deep d i)
    × AllBreakAt r (take (suc i) t) deep i

-- the fault is at offset i of the text
abbrev pub IsFault : Reading → List ℕ → ℕ → Fault → Type 0
IsFault r t i (limit deep) = IsDepthFault r t i
IsFault r t i (limit b) = (i < length t) × HasCompletion r (take (suc i) t) × AllBreakAt r (take (suc i) t) b i
IsFault r t i character =
    (i < length t)
    × HasCompletion r (take i t)
    × (HasCompletion r (take (suc i) t) → ⊥)
    × (IsDepthFault r t i → ⊥)
IsFault r t i Fault.end =
    (i ≡ length t)
    × HasCompletion r t
    × ((d : Document) → Spells r t d → ⊥)

-- the fault is at offset i, and no fault is at a smaller offset
abbrev pub IsFirstFault : Reading → List ℕ → ℕ → Fault → Type 0
IsFirstFault r t i f = IsFault r t i f × ((j : ℕ) (g : Fault) → IsFault r t j g → i ≤ j)

-- ---- errors

-- the offset that is reported for a fault at offset i: the opening quote of a repeated key, else that of the fault
abbrev pub reported_offset : ℕ → Fault → ℕ
reported_offset i (limit (duplicate back)) = i - back
reported_offset i f = i

-- the line of the character after a prefix: 1 plus the newlines of the prefix
abbrev pub line : List ℕ → ℕ
line prefix = count_by (λ c. c == 10) prefix + 1

-- its column: 1 plus the characters of the prefix after the last newline
abbrev pub column : List ℕ → ℕ
column prefix = suffix_len (λ c. not (c == 10)) prefix + 1

-- the error that reports a fault at offset i of a text
abbrev pub error_at : List ℕ → ℕ → Fault → Error
error_at t i (limit deep) = ExceededDepthLimit
error_at t i (limit pair) = FailedUtf8Parsing
error_at t i (limit digit) = ExceededDepthLimit
error_at t i (limit inexact) = InexactNumber (line (take i t)) (column (take i t))
error_at t i (limit (duplicate back)) = DuplicateKey (line (take (i - back) t)) (column (take (i - back) t))
error_at t i character = UnexpectedCharacter (slice_index t i) (line (take i t)) (column (take i t))
error_at t i Fault.end = UnexpectedEndOfJson

-- the error of the first fault of a text
abbrev pub IsErrorOf : Reading → List ℕ → Error → Type 0
IsErrorOf r t e = (i : ℕ) × (f : Fault) × IsFirstFault r t i f × (e ≡ error_at t i f)
