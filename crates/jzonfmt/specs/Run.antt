-- What a run does (docs/JZONFMT.md).
use Rattle.std.specs.Prelude.{ℕ, List, [], ◌∷◌, ◌++◌, Result, Ok, Err, Option, IsUtf8, MatchResult, chars, ⊤}
use Rattle.std.specs.Io.KnownBytes.{Appends, Keeps, Consumes, IsAtEnd}
use Rattle.jzon.specs.Error.{Error}
use Rattle.jzon.specs.Error.TheVariants.{OutOfMemory}
use Rattle.jzon.specs.PartialWrites.{AppendsBeginning}
use Rattle.jzon.specs.Text.{compact, pretty}
use Rattle.jzon.specs.Value.{Value}
use Rattle.jzon.specs.Reading.{Reading}
use Rattle.jzon.specs.Grammar.{Document}
use Rattle.jzon.specs.Meaning.{meaning}
use Rattle.jzon.specs.Fault.{Parses, IsErrorOf}
use Rattle.jzonfmt.specs.declared.engine.Layout.{Layout}
use Rattle.jzonfmt.specs.declared.engine.Layout.TheVariants.{Compact, Pretty}
use Rattle.jzonfmt.specs.declared.engine.RunFault.{RunFault}
use Rattle.jzonfmt.specs.declared.engine.RunFault.TheVariants.{Read, NotUtf8, Json, Write, Memory}

-- the fault for an error of the library
abbrev pub fault_of : Error → RunFault
fault_of OutOfMemory = Memory
fault_of e = Json e

-- ---- what is read

-- these bytes are read: all of the reader's, unless it fails or an allocation fails
abbrev pub ReadsInput : {T : Type 0} → Result T RunFault → Option (List ℕ) → Option (List ℕ) → List ℕ → Type 0
ReadsInput (Err (Read e)) old new input = Consumes old new input
ReadsInput (Err Memory) old new input = Consumes old new input
ReadsInput _ old new input = Consumes old new input × IsAtEnd new

-- the reader failed, or an allocation did
abbrev pub IsReadFault : RunFault → Type 0
IsReadFault (Read e) = ⊤
IsReadFault Memory = ⊤
IsReadFault _ = ⊥

-- ---- what is printed

-- the bytes are the text of the tree, in this reading
abbrev pub IsTextOf : Reading → List ℕ → Document → Type 0
IsTextOf reading input d = IsUtf8 input × Parses reading (chars input) d

-- the text of a value in the layout
abbrev pub text : Layout → Value → List ℕ
text Compact v = compact v
text (Pretty spaces) v = pretty v spaces 0

-- the text of a value in the layout, and a newline
abbrev pub output_line : Layout → Value → List ℕ
output_line layout v = text layout v ++ 10 ∷ []

-- the line printed for a tree: that of the value it means
abbrev pub printed : Layout → Document → List ℕ
printed layout d = output_line layout (meaning d.node)

-- these bytes are written, or after an error a prefix of them
abbrev pub WritesWhole : {E : Type 0} → List ℕ → Result (Unit {0}) E → Option (List ℕ) → Option (List ℕ) → Type 0
WritesWhole bs r old new = MatchResult r (λ _. Appends old new bs) (λ _. AppendsBeginning old new bs)

-- ---- the result

-- The result for the input, and what the writer holds before and after. After a fault nothing is written, except after
-- a fault of the writer: then a prefix of what was to be printed is.
abbrev pub Answers : {T : Type 0} → Reading → Layout → List ℕ → Result T RunFault → Option (List ℕ) → Option (List ℕ)
    → Type 0
Answers reading layout input (Ok _) old new = (d : Document) × IsTextOf reading input d
    × Appends old new (printed layout d)
Answers reading layout input (Err (Write e)) old new = (d : Document) × IsTextOf reading input d
    × AppendsBeginning old new (printed layout d)
Answers reading layout input (Err NotUtf8) old new = (¬ (IsUtf8 input)) × Keeps old new
Answers reading layout input (Err (Json e)) old new = (IsUtf8 input × IsErrorOf reading (chars input) e) × Keeps old new
Answers reading layout input (Err _) old new = Keeps old new

-- what is left in the reader and what the writer holds, if they report it
pub record Streams : Type 0 where
  pub unread : Option (List ℕ)
  pub written : Option (List ℕ)

-- some bytes are read, and the result is the one for them
abbrev pub Runs : {T : Type 0} → Reading → Layout → Result T RunFault → Streams → Streams → Type 0
Runs reading layout result before after =
    (input : List ℕ) × ReadsInput result before.unread after.unread input
    × Answers reading layout input result before.written after.written
