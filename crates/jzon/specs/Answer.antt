-- What a parser returns for a text.
use Rattle.std.specs.Prelude.{◌≡◌, ◌⊎◌, ℕ, ◌≤◌, List, Contains}
use Rattle.jzon_base.specs.declared.error.Error.{Error}
use Rattle.jzon_base.specs.declared.error.Error.TheVariants.{OutOfMemory}
use Rattle.jzon_base.specs.Tokens.{begin_array, begin_object, quotation_mark}
use Rattle.jzon_tree.specs.Value.{Value, nest}
use Rattle.jzon_tree.specs.Lawful.{IsValue, HasNoNan}
use Rattle.jzon_tree.specs.View.{view}
use Rattle.jzon_tree.specs.declared.value.JsonValue.{JsonValue}
use Rattle.jzon.specs.Reading.{Reading}
use Rattle.jzon.specs.Grammar.{Document}
use Rattle.jzon.specs.Meaning.{meaning}
use Rattle.jzon.specs.Fault.{Parses, IsErrorOf}

-- the value is the meaning, part for part, of a tree that spells the text and breaks no limit
abbrev pub IsMeaningOf : Reading → List ℕ → JsonValue → Type 0
IsMeaningOf r t v = (d : Document) × Parses r t d × (view v ≡ meaning d.node)

-- The values that the law `reads_back` speaks of: a program can hold it, it contains no NaN, and its non-empty
-- containers nest no deeper than allowed.
abbrev pub IsReadable : Reading → Value → Type 0
IsReadable r v = IsValue v × HasNoNan v × (nest v ≤ r.depth)

-- an allocation failed, or the error is that of the text's first fault
abbrev pub IsErrorUnlessMemory : Reading → List ℕ → Error → Type 0
IsErrorUnlessMemory r t e = (e ≡ OutOfMemory) ⊎ IsErrorOf r t e

-- the text contains a quote, a `[` or a `{`; reading any other text allocates nothing
abbrev pub TakesMemory : List ℕ → Type 0
TakesMemory t = Contains t quotation_mark ⊎ (Contains t begin_array ⊎ Contains t begin_object)
