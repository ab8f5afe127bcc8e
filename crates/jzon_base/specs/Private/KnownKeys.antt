-- What `KnownKeys` says of keys that are in a vector of somebody else.
use Rattle.std.specs.Prelude.{ℕ, List}
use Rattle.std.specs.List.{IsDistinct}
use Rattle.std.specs.Str.{bytes_eq}
use Rattle.jzon_base.specs.declared.keys.known.KnownKeys.{KnownKeys}
use Rattle.jzon_base.specs.declared.keys.known.KnownKeys.TheVariants.{Few, Indexed}
use Rattle.jzon_base.specs.Private.Filter.{HaveBits}
use Rattle.jzon_base.specs.Private.Runs.{IsTable}

-- exactly these keys are known: few are distinct, and the bit of each is set in the filter; more have an index
abbrev pub Knows : List (List ℕ) → KnownKeys → Type 0
Knows ks (Few filter) = IsDistinct bytes_eq ks × HaveBits ks filter.words
Knows ks (Indexed index) = IsTable ks index.value
