-- The position that an error carries (docs/RULES.md, "Errors").
use Rattle.std.specs.Prelude.{ℕ, Option, None, Some}
use Rattle.jzon_base.specs.declared.error.Error.{Error}
use Rattle.jzon_base.specs.declared.error.Error.TheVariants.{UnexpectedCharacter, DuplicateKey, InexactNumber}

-- its line, counted from 1
abbrev pub line_in : Error → Option ℕ
line_in (UnexpectedCharacter ch line column) = Some line
line_in (DuplicateKey line column) = Some line
line_in (InexactNumber line column) = Some line
line_in _ = None

-- its column, counted from 1 in characters
abbrev pub column_in : Error → Option ℕ
column_in (UnexpectedCharacter ch line column) = Some column
column_in (DuplicateKey line column) = Some column
column_in (InexactNumber line column) = Some column
column_in _ = None
