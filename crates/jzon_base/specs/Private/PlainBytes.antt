-- Bytes that are written unescaped in a string (RFC 8259, section 7).
use Rattle.std.specs.Prelude.{ℕ, Bool, not, ◌&&◌, ◌||◌, ◌==◌, nat_le}
use Rattle.jzon_base.specs.Tokens.{escape, quotation_mark}

-- no control character, no quote, no backslash
abbrev pub is_plain : ℕ → Bool
is_plain c = nat_le 32 c && not (c == quotation_mark || c == escape)
