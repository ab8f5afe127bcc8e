-- The message of each error, and its kind as an `io::Error` (docs/RULES.md, "Errors").
use Rattle.std.specs.Prelude.{◌≡◌, ℕ, List, ◌++◌, codes, decimal, encode_utf8, string_bytes}
use Rattle.std.specs.declared.io.ErrorKind.{ErrorKind}
use Rattle.std.specs.declared.io.ErrorKind.TheVariants as kind
use Rattle.jzon_base.specs.declared.error.Error.{Error}
use Rattle.jzon_base.specs.declared.error.Error.TheVariants.{UnexpectedCharacter, UnexpectedEndOfJson}
use Rattle.jzon_base.specs.declared.error.Error.TheVariants.{ExceededDepthLimit, FailedUtf8Parsing, WrongType}
use Rattle.jzon_base.specs.declared.error.Error.TheVariants.{OutOfMemory, DuplicateKey, InexactNumber}

-- a line and a column, both counted from 1
abbrev pub place_text : ℕ → ℕ → List ℕ
place_text line column = codes "(" ++ decimal line ++ codes ":" ++ decimal column ++ codes ")"

-- what `Display` shows; the character itself, without escaping
abbrev pub error_text : Error → List ℕ
error_text (UnexpectedCharacter ch line column) = codes "Unexpected character: " ++ encode_utf8 ch ++ codes " at " ++
    place_text line column
error_text UnexpectedEndOfJson = codes "Unexpected end of JSON"
error_text ExceededDepthLimit = codes "Exceeded depth limit"
error_text FailedUtf8Parsing = codes "Failed to parse UTF-8 bytes"
error_text (WrongType expected) = codes "Wrong type, expected: " ++ string_bytes expected
error_text OutOfMemory = codes "Out of memory"
error_text (DuplicateKey line column) = codes "Duplicate key at " ++ place_text line column
error_text (InexactNumber line column) = codes "Number is not exact at " ++ place_text line column

-- the kind of the `io::Error` that it becomes
abbrev pub io_kind : Error → ErrorKind
io_kind OutOfMemory = kind.OutOfMemory
io_kind UnexpectedEndOfJson = kind.UnexpectedEof
io_kind _ = kind.InvalidData

-- the error names the kind with these bytes
abbrev pub IsWrongType : List ℕ → Error → Type 0
IsWrongType kind (WrongType expected) = string_bytes expected ≡ kind
IsWrongType kind _ = ⊥
