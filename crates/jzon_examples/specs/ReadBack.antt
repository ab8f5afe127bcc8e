-- The fields of a server: its keys, and how each field is written and read.
use Rattle.std.specs.Prelude.{codes}
use Rattle.jzon_typed.specs.Codec.{Codec, bool, field, last, string, struct_of, u16, vec}
use Rattle.jzon_examples.specs.declared.cookbook.read_back.Server.{Server}

-- an object of four entries, as the derived `PartialEq` compares the fields
abbrev pub server : Codec Server
server = struct_of
    (field (codes "host") (λ s. s.host) string
    (field (codes "port") (λ s. s.port) u16
    (field (codes "secure") (λ s. s.secure) bool
    (last (codes "tags") (λ s. s.tags) (vec string)))))
