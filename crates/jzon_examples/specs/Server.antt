-- A server's record.
use Rattle.std.specs.Prelude.{ℕ, List, pos, codes}
use Rattle.jzon.specs.Decimal.{integer_parts}
use Rattle.jzon.specs.Value.{Value, text, number, array, object, no_values, no_pairs, pair, kind_of}

-- the record of a server that has no tags
abbrev pub server_value : List ℕ → ℕ → Value
server_value host port =
    object (pair (codes "host") (text (kind_of host) host)
    (pair (codes "port") (number (integer_parts (pos port))) (pair (codes "tags") (array no_values) no_pairs)))
