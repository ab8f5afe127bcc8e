-- Which members a merge patch removes.
use Rattle.std.specs.Prelude.{Bool, false, Option, None, Some}
use Rattle.jzon.specs.Readers.{is_null}
use Rattle.jzon.specs.Value.{Value}

-- whether a patch has null for a key, given what is found under it
abbrev pub is_null_found : Option Value → Bool
is_null_found None = false
is_null_found (Some v) = is_null v
