-- How the parser's offset in a text relates to the automaton.
use Rattle.std.specs.Prelude.{◌≡◌, ℕ, ◌<◌, ◌≤◌, List, Bool, true, Some, Result, MatchResult, slice_index}
use Rattle.std.specs.Prelude.{if◌then◌else◌}
use Rattle.jzon_tree.specs.Value.{Value}
use Rattle.jzon.specs.Reading.{Reading}
use Rattle.jzon.specs.declared.stop.Stop.{Stop}
use Rattle.jzon.specs.Private.Brackets.{innermost_kind, after_closer, after_comma}
use Rattle.jzon.specs.Private.Machine.{EntriesSoFar, Frames, State, Outcome, object_frame, before, after_key, after_value}
use Rattle.jzon.specs.Private.Machine.{allows_whitespace, from, ReportsUnlessMemory}
use Rattle.jzon.specs.declared.container_kind.ContainerKind.{ContainerKind}
use Rattle.jzon.specs.declared.cursor.Cursor.{Cursor}

-- the outcome of the rest of the text from this state of the automaton
abbrev pub left : Cursor → State → Outcome
left t p = from t.reading t.source.now p t.index

-- the next byte, 0 at the end
abbrev pub next_byte : Cursor → ℕ
next_byte t = slice_index t.source.now t.index

-- the cursor is after the bytes of a text before offset `end` and the whitespace that follows them
pub record IsPast (r : Reading) (bytes : List ℕ) (end : ℕ) (t : Cursor) : Type 0 where
  pub text : t.source.now ≡ bytes
  pub reading : t.reading ≡ r
  pub within : end ≤ t.index
  pub same : (p : State) → allows_whitespace p ≡ true → from r bytes p end ≡ left t p

-- the cursor u is further on than t in the same text, in the same reading
pub record IsAfter (t u : Cursor) : Type 0 where
  pub text : u.source.now ≡ t.source.now
  pub reading : u.reading ≡ t.reading
  pub index : t.index < u.index

-- Reading went on from t to u: what the rest of the text from t means in state p, it means from u in the state that
-- the result gives. Or the error is the one that this rest of the text has, or an allocation failed.
abbrev pub GoesOn : {A : Type 0} → Cursor → State → Result A Stop → Cursor → (A → State) → Type 0
GoesOn t p result u next =
    MatchResult result (λ x. IsAfter t u × (left t p ≡ left u (next x)))
    (λ e. ReportsUnlessMemory t.source.now e (left t p))

-- What goes on to cursor t in state p goes on by this result too.
abbrev pub PassesOn : {A : Type 0} → Cursor → State → Result A Stop → Cursor → (A → State) → Type 0
PassesOn t p result u next =
    (s : Cursor) (o : State) → IsAfter s t × (left s o ≡ left t p) → GoesOn s o result u next

-- What leads to the end of an element or entry at offset `end` goes on after the closing bracket or the comma that follows it.
abbrev pub EndsItem : Cursor → ℕ → ContainerKind → Result Bool Stop → Cursor → Type 0
EndsItem t end kind result u =
    (p : State) (fs : Frames) (v : Value) → innermost_kind fs ≡ Some kind
    → left t p ≡ from t.reading t.source.now (after_value fs v) end
    → GoesOn t p result u (λ ends. if ends then after_closer fs v else after_comma fs v)

-- What leads to the end of a key at offset `end` goes on after the colon that follows it.
abbrev pub EndsKey : {A : Type 0} → Cursor → ℕ → Result A Stop → Cursor → Type 0
EndsKey t end result u =
    (p : State) (fs : Frames) (es : EntriesSoFar) (k : List ℕ)
    → left t p ≡ from t.reading t.source.now (after_key fs es k) end
    → GoesOn t p result u (λ _. before (object_frame fs es k))
