-- From one offset of the parser's cursor to a later one: the outcome of the rest of the text in the old state is the
-- outcome of what is left now in the new state.
use Rattle.jzon_base.proofs.Common.{◌≡◌, ℕ, ◌<◌, ◌≤◌, List, true, refl, sym, subst, ◌∙◌, arith, Result, Ok, Err}
use Rattle.jzon_base.proofs.Common.{IsErrAnd, IsUtf8, IsCharBoundary}
use Rattle.std.proofs.lemmas.Str.{IsUtf8-had}
use Rattle.jzon.specs.declared.stop.Stop.{Stop}
use Rattle.jzon_tree.specs.declared.value.JsonValue.{JsonValue}
use Rattle.jzon.specs.Private.Cursor.{left, IsPast, IsAfter, GoesOn}
use Rattle.jzon.specs.Private.Machine.{State, Outcome, allows_whitespace, from, Reads, ReportsUnlessMemory}
use Rattle.jzon.specs.declared.cursor.Cursor.{Cursor}
use Rattle.jzon.proofs.Texts.ReportedErrors.{reported_again}

pub utf8_of : (t : Cursor) → IsUtf8 t.source.now
utf8_of t = IsUtf8-had _ t.utf8

-- after a token over which the automaton goes from p to q
pub token_goes : (t u : Cursor) (p q : State) (end : ℕ) → IsPast t.reading t.source.now end u → t.index < end
    → allows_whitespace q ≡ true → left t p ≡ from t.reading t.source.now q end → IsAfter t u × (left t p ≡ left u q)
token_goes t u p q end past lt allows e =
    (record { text = past.text; reading = past.reading; index = omega (arith, past.within) }, e ∙ past.same q allows)

-- The outcome of what was left of a text in state o is the outcome from `end` on in state p.
pub record ReadTo (t : Cursor) (o p : State) (end : ℕ) : Type 0 where
  pub boundary : IsCharBoundary t.source.now end
  pub within : t.index ≤ end
  pub same : left t o ≡ from t.reading t.source.now p end

pub read_to_here : (t : Cursor) (p : State) → ReadTo t p p t.index
read_to_here t p = record { boundary = t.boundary; within = omega arith; same = refl }

-- The outcome of what was left of a text is the outcome of what is left here, at the old offset or after it.
pub record Reached (t : Cursor) (o : State) (m : Cursor) (p : State) : Type 0 where
  pub text : m.source.now ≡ t.source.now
  pub reading : m.reading ≡ t.reading
  pub within : t.index ≤ m.index
  pub same : left t o ≡ left m p

pub reached_start : {t : Cursor} {o : State} → Reached t o t o
reached_start = record { text = refl; reading = refl; within = omega arith; same = refl }

pub reached : {t m : Cursor} {o p : State} → IsAfter t m × (left t o ≡ left m p) → Reached t o m p
reached h = record { text = h.0.text; reading = h.0.reading; within = omega (arith, h.0.index); same = h.1 }

-- one more step
pub goes_after : {t m u : Cursor} {o p : State} (q : State) → Reached t o m p → IsAfter m u × (left m p ≡ left u q)
    → IsAfter t u × (left t o ≡ left u q)
goes_after q h k = (
  record { text = k.0.text ∙ h.text; reading = k.0.reading ∙ h.reading; index = omega (arith, h.within, k.0.index) },
  h.same ∙ k.1,
)

pub reported_on : {t m : Cursor} {o p : State} (e : Stop) → Reached t o m p
    → ReportsUnlessMemory m.source.now e (left m p) → ReportsUnlessMemory t.source.now e (left t o)
reported_on {t} {m} {o} {p} e h k = reported_again t.source.now e _ _ h.same
    (subst (λ bs. ReportsUnlessMemory bs e (left m p)) h.text k)

-- an error that is propagated
pub fails_on : {A : Type 0} {t m : Cursor} {o p : State} {e : Stop} (u : Cursor) (result : Result A Stop)
    (next : A → State) → IsErrAnd result (λ x. x ≡ e) → Reached t o m p
    → ReportsUnlessMemory m.source.now e (left m p) → GoesOn t o result u next
fails_on u (Ok x) next is h k = absurd is
fails_on u (Err x) next is h k = rw is (reported_on _ h k)

pub reads_from : (bytes : List ℕ) (o : Outcome) (m : Cursor) (p : State) (result : Result JsonValue Stop)
    → m.source.now ≡ bytes → o ≡ left m p → Reads m.source.now result (left m p) → Reads bytes result o
reads_from bytes o m p result text same k =
    subst (λ z. Reads bytes result z) (sym same) (subst (λ bs. Reads bs result (left m p)) text k)
