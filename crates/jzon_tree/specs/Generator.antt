-- The state that the contracts of a generator speak of, and what its hooks do to it (docs/GENERATORS.md, "Hooks").
use Rattle.std.specs.Prelude.{◌≡◌, ℕ, ◌+◌, ◌-◌, ◌^◌, ◌≤◌, min, Bool, true, false, IsTrue, List, [], ◌∷◌, ◌++◌, ◌⊎◌, ⊤, length}
use Rattle.std.specs.Prelude.{MatchResult, Option, Result, Some, None}
use Rattle.std.specs.Borrow.{GName}
use Rattle.std.specs.List.{range_with_len}
use Rattle.std.specs.declared.vec.Vec.{Vec}
use Rattle.std.specs.declared.alloc.Global.{Global}
use Rattle.jzon_tree.specs.Text.{quoted}
use Rattle.jzon_tree.specs.Writing.{Style, IsOrder, colon_text}

-- known bytes grow by bytes that P allows
abbrev pub Adds : (List ℕ → Type 0) → Option (List ℕ) → Option (List ℕ) → Type 0
Adds P None new = ⊤
Adds P (Some xs) None = ⊥
Adds P (Some xs) (Some ys) = (b : List ℕ) × (ys ≡ xs ++ b) × P b

-- b is a prefix of bytes that P allows
abbrev pub Begins : (List ℕ → Type 0) → List ℕ → Type 0
Begins P b = (rest : List ℕ) × P (b ++ rest)

-- these bytes, and no others
abbrev pub Just : List ℕ → List ℕ → Type 0
Just bs b = b ≡ bs

-- a writer receives bytes that P allows at `Ok`, and a prefix of such bytes at `Err`
abbrev pub Sends : {E : Type 0} → (List ℕ → Type 0) → Option (List ℕ) → Option (List ℕ) → Result (Unit {0}) E → Type 0
Sends P old new r = MatchResult r (λ _. Adds P old new) (λ _. Adds (Begins P) old new)

-- The bytes written so far, if the writer reports them; the open indents; the faults so far; the style; and the
-- reference that is written through, if there is one.
pub record Emitted : Type 0 where
  pub out : Option (List ℕ)
  pub dent : ℕ
  pub faults : ℕ
  pub style : Style
  pub lender : Option GName

-- one more fault, saturating at `u64::MAX`
abbrev pub noted : ℕ → ℕ
noted n = min (n + 1) (2 ^ 64 - 1)

-- an error is counted as a fault, and nothing else changes
abbrev pub Counts : {E : Type 0} → Result (Unit {0}) E → Emitted → Emitted → Type 0
Counts r old new = MatchResult r (λ _. new ≡ old) (λ _. new ≡ record old { faults = noted old.faults })

-- The bytes grow by bytes that P allows, and nothing else changes.
pub record Added (P : List ℕ → Type 0) (old new : Emitted) : Type 0 where
  pub bytes : Adds P old.out new.out
  pub dent : new.dent ≡ old.dent
  pub faults : new.faults ≡ old.faults
  pub style : new.style ≡ old.style
  pub lender : new.lender ≡ old.lender

-- The bytes grow by a prefix of bytes that P allows, and one more fault is counted.
pub record Failed (P : List ℕ → Type 0) (old new : Emitted) : Type 0 where
  pub bytes : Adds (Begins P) old.out new.out
  pub dent : new.dent ≡ old.dent
  pub faults : new.faults ≡ noted old.faults
  pub style : new.style ≡ old.style
  pub lender : new.lender ≡ old.lender

-- As `Failed`, for a call that may leave more indents open.
pub record Stopped (P : List ℕ → Type 0) (old new : Emitted) : Type 0 where
  pub bytes : Adds (Begins P) old.out new.out
  pub dent : old.dent ≤ new.dent
  pub faults : new.faults ≡ noted old.faults
  pub style : new.style ≡ old.style
  pub lender : new.lender ≡ old.lender

-- a hook adds bytes that P allows; after an error a prefix of such bytes, and one fault is counted
abbrev pub Emits : {E : Type 0} → (List ℕ → Type 0) → Emitted → Emitted → Result (Unit {0}) E → Type 0
Emits P old new r = MatchResult r (λ _. Added P old new) (λ _. Failed P old new)

-- the effect of writing a value
abbrev pub Prints : {E : Type 0} → (List ℕ → Type 0) → Emitted → Emitted → Result (Unit {0}) E → Type 0
Prints P old new r = MatchResult r (λ _. Added P old new) (λ _. Stopped P old new)

-- `slice` if the style allows a space after a colon, or `min` if it allows a bare colon
abbrev pub IsForm : Style → List ℕ → ℕ → List ℕ → Type 0
IsForm s slice min b = ((b ≡ slice) × IsTrue (s.colon true)) ⊎ ((b ≡ min ∷ []) × IsTrue (s.colon false))

-- a key in quotes, and a colon as the style allows
abbrev pub IsPrintedKey : Style → List ℕ → List ℕ → Type 0
IsPrintedKey s key b = (wide : Bool) × IsTrue (s.colon wide) × (b ≡ quoted key ++ colon_text wide)

-- the positions 0 to n - 1
abbrev pub insertion : ℕ → List ℕ
insertion n = range_with_len 0 n

-- the order of n entries that `order` returns: `None` is the order of insertion
abbrev pub positions : ℕ → Option (Vec ℕ Global) → List ℕ
positions n None = insertion n
positions n (Some answer) = answer.items

-- the returned order has each position once, and the style allows it for these keys
abbrev pub IsAnswer : Style → List (List ℕ) → Option (Vec ℕ Global) → Type 0
IsAnswer s ks None = IsTrue (s.order ks (insertion (length ks)))
IsAnswer s ks (Some answer) = IsOrder (length ks) answer.items × IsTrue (s.order ks answer.items)
