-- The text of a key.
use Rattle.std.specs.Prelude.{ℕ, List, string_bytes}
use Rattle.jzon_base.specs.declared.key.Text.{Text}
use Rattle.jzon_base.specs.declared.key.Text.TheVariants.{Inline, Owned}

-- its bytes, wherever they are stored
abbrev pub key_bytes : Text → List ℕ
key_bytes (Inline text) = text.bytes
key_bytes (Owned text) = string_bytes text
