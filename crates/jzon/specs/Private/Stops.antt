-- Why the parser stops before the end of a text, and the error that is returned for it.
use Rattle.std.specs.Prelude.{ℕ, Option, None, Some, List, [], ◌∷◌, ⊤, take, drop, chars}
use Rattle.std.specs.Str.{IsCharBoundary}
use Rattle.jzon_base.specs.declared.error.Error.{Error}
use Rattle.jzon_base.specs.declared.error.Error.TheVariants.{OutOfMemory, UnexpectedCharacter, UnexpectedEndOfJson}
use Rattle.jzon_base.specs.declared.error.Error.TheVariants.{ExceededDepthLimit, FailedUtf8Parsing, DuplicateKey}
use Rattle.jzon_base.specs.declared.error.Error.TheVariants.{InexactNumber}
use Rattle.jzon.specs.Fault.{line, column}
use Rattle.jzon.specs.Located.{place_at}
use Rattle.jzon.specs.declared.stop.Stop.{Stop}
use Rattle.jzon.specs.declared.place.Place.{Place}
use Rattle.jzon.specs.declared.stop.Stop.TheVariants.{Memory, Limit, Surrogates, At, Duplicate, Inexact}

-- the offset of a stop, if it has one, is that of a character or of the end of the text
abbrev pub IsAtBoundary : List ℕ → Stop → Type 0
IsAtBoundary bytes Memory = ⊤
IsAtBoundary bytes (Limit i) = IsCharBoundary bytes i
IsAtBoundary bytes (Surrogates i) = IsCharBoundary bytes i
IsAtBoundary bytes (At i) = IsCharBoundary bytes i
IsAtBoundary bytes (Duplicate i) = IsCharBoundary bytes i
IsAtBoundary bytes (Inexact i) = IsCharBoundary bytes i

-- the offset of a stop, which has one unless an allocation failed
abbrev pub stop_offset : Stop → ℕ
stop_offset Memory = 0
stop_offset (Limit i) = i
stop_offset (Surrogates i) = i
stop_offset (At i) = i
stop_offset (Duplicate i) = i
stop_offset (Inexact i) = i

-- the place that a stop reports: none if memory ran out
abbrev pub stop_place : List ℕ → Stop → Option Place
stop_place bytes Memory = None
stop_place bytes e = Some (place_at bytes (stop_offset e))

-- the error of a text that is valid as far as the characters `before`, but not with the character after them, or if it
-- ends there
abbrev pub error_between : List ℕ → List ℕ → Error
error_between before [] = UnexpectedEndOfJson
error_between before (c ∷ cs) = UnexpectedCharacter c (line before) (column before)

-- the error that is returned if the parser stops for this reason
abbrev pub reported_error : List ℕ → Stop → Error
reported_error bytes Memory = OutOfMemory
reported_error bytes (Limit i) = ExceededDepthLimit
reported_error bytes (Surrogates i) = FailedUtf8Parsing
reported_error bytes (At i) = error_between (chars (take i bytes)) (chars (drop i bytes))
reported_error bytes (Duplicate i) = DuplicateKey (line (chars (take i bytes))) (column (chars (take i bytes)))
reported_error bytes (Inexact i) = InexactNumber (line (chars (take i bytes))) (column (chars (take i bytes)))
