-- The bytes in a buffer of fixed size.
use Rattle.std.specs.Prelude.{ℕ, List, take}
use Rattle.jzon_tree.specs.declared.codegen.buffer.Buffer.{Buffer}

-- the bytes that are held
abbrev pub buffer_items : Buffer → List ℕ
buffer_items b = take b.len b.bytes
