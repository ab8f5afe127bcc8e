-- Values that are put into targets, after another step of the automaton; and errors that are propagated.
use Rattle.jzon_base.proofs.Common.{◌≡◌, ◌∙◌, ℕ, List, refl, Result, Ok, Err, IsErrAnd, MatchResult}
use Rattle.jzon.specs.declared.stop.Stop.{Stop}
use Rattle.jzon_tree.specs.declared.value.JsonValue.{JsonValue}
use Rattle.jzon.specs.Reading.{Reading}
use Rattle.jzon.specs.Private.Machine.{Frames, Outcome, State, from, Reports, ReportsUnlessMemory}
use Rattle.jzon.specs.Private.Targets.{Puts}
use Rattle.jzon.proofs.Texts.ReportedErrors.{reported, reported_again}

-- the value begins at byte i, and is put from byte j on
pub puts_from : {P : Type 0} (takes : JsonValue → P → Type 0) (old new : P) (result : Result ℕ Stop) (bs : List ℕ)
    (i j : ℕ) (p q : Frames → State) (G H : Reading → Frames → Type 0)
    → ((r : Reading) (fs : Frames) → G r fs → H r fs × (from r bs (p fs) i ≡ from r bs (q fs) j))
    → Puts takes old new result bs j q H → Puts takes old new result bs i p G
puts_from takes old new (Ok end) bs i j p q G H step put =
    (put.0, put.1, λ r fs g. (step r fs g).1 ∙ put.2 r fs (step r fs g).0)
puts_from takes old new (Err e) bs i j p q G H step put = (
  put.0,
  λ r fs g. reported_again bs e _ _ (step r fs g).1 (put.1 r fs (step r fs g).0),
)

-- an error that is propagated
pub puts_none : {P : Type 0} (takes : JsonValue → P → Type 0) (old new : P) (result : Result ℕ Stop) (bs : List ℕ)
    (i : ℕ) (p : Frames → State) (G : Reading → Frames → Type 0) (e : Stop) → IsErrAnd result (λ x. x ≡ e)
    → new ≡ old
    → ((r : Reading) (fs : Frames) → G r fs → ReportsUnlessMemory bs e (from r bs (p fs) i))
    → Puts takes old new result bs i p G
puts_none takes old new (Ok end) bs i p G e is kept h = absurd is
puts_none takes old new (Err x) bs i p G e is kept h = rw is (kept, h)

-- no value begins there
pub puts_fault : {P : Type 0} (takes : JsonValue → P → Type 0) (old : P) (result : Result ℕ Stop) (bs : List ℕ)
    (i : ℕ) (p : Frames → State) (G : Reading → Frames → Type 0) (o : Outcome)
    → ((r : Reading) (fs : Frames) → G r fs → from r bs (p fs) i ≡ o)
    → MatchResult result (λ _. ⊥) (λ e. Reports bs e o) → Puts takes old old result bs i p G
puts_fault takes old (Ok end) bs i p G o stops h = absurd h
puts_fault takes old (Err e) bs i p G o stops h = (refl, λ r fs g. reported bs e _ o (stops r fs g) h)
