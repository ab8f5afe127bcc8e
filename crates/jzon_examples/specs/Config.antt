-- What a configuration holds, and what an error reports.
use Rattle.std.specs.Prelude.{◌≡◌, ◌⊎◌, ℕ, List, Option, Some, None, Result, MatchResult, codes}
use Rattle.jzon.specs.Error.{Error}
use Rattle.jzon.specs.Error.TheVariants.{OutOfMemory, UnexpectedCharacter, DuplicateKey, InexactNumber}
use Rattle.jzon.specs.PairList.{find}
use Rattle.jzon.specs.Readers.{entries, or_null}
use Rattle.jzon.specs.Value.{Value}

-- the member of this name, or null
abbrev pub member : List ℕ → Value → Value
member k v = or_null (find k (entries v))

-- the port of the server, or null
abbrev pub port_value : Value → Value
port_value v = member (codes "port") (member (codes "server") v)

-- the line and the column
abbrev pub position_in : Error → Option (ℕ × ℕ)
position_in (UnexpectedCharacter c line column) = Some (line, column)
position_in (DuplicateKey line column) = Some (line, column)
position_in (InexactNumber line column) = Some (line, column)
position_in _ = None

-- an allocation failed, or it is this error
abbrev pub Rejects : {T : Type 0} → Error → Result T Error → Type 0
Rejects e r = MatchResult r (λ _. ⊥) (λ f. (f ≡ OutOfMemory) ⊎ (f ≡ e))
