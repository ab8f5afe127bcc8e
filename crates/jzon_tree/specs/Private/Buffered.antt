-- What a buffered writer holds: the bytes that its writer got, and those still in the buffer.
use Rattle.std.specs.Prelude.{ℕ, List, ◌∷◌, ◌++◌, length, drop, nat_le, Option, None, Some, if◌then◌else◌}
use Rattle.jzon_tree.specs.Private.Buffer.{buffer_items}
use Rattle.jzon_tree.specs.declared.codegen.buffered.Buffered.{Buffered}

-- the name of the reference to the writer, and the writer's bytes with those that are left after them
pub record Held : Type 0 where
  pub writer : ℕ
  pub bytes : List ℕ

-- both in one list, so that std's words for known bytes speak of them
abbrev pub listed : Held → List ℕ
listed h = h.writer ∷ h.bytes

-- What is held, where the writer's bytes are known and are at least as many as at first, so none of those was lost.
abbrev pub held_since : ℕ → ℕ → List ℕ → Option (List ℕ) → Option (List ℕ)
held_since start name rest None = None
held_since start name rest (Some xs) =
    if nat_le start (length xs) then Some (listed (record { writer = name; bytes = xs ++ rest })) else None

-- how many bytes there are, 0 where they are unknown
abbrev pub known_len : Option (List ℕ) → ℕ
known_len None = 0
known_len (Some xs) = length xs

-- the bytes that the writer didn't take yet
abbrev pub untaken : {W : Type 0} {S : Type 0} → Buffered W S → List ℕ
untaken b = drop b.taken (buffer_items b.buffer)

-- What the buffer holds, where its writer had `start` bytes at first. The name of the reference is part of it: a call
-- that only keeps what is held, or appends to it, has not put another writer in its place.
abbrev pub held : {W : Type 0} {S : Type 0} → (W → Option (List ℕ)) → ℕ → Buffered W S → Option (List ℕ)
held contents start b = held_since start b.inner.ghost_name (untaken b) (contents b.inner.now)
