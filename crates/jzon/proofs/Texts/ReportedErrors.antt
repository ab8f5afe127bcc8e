-- From the automaton's outcome of a text to what reports it; that is never `Memory`, which is returned if an allocation
-- fails.
use Rattle.jzon_base.proofs.Common.{◌≡◌, ◌≢◌, inl, inr, ℕ, suc, ◌-◌, ◌<◌, ◌≤◌, List, [], ◌∷◌, ◌++◌, length, take, drop}
use Rattle.jzon_base.proofs.Common.{drop-cons, get_or, refl, sym, ap, subst, ◌∙◌, arith, Result, Ok, Err, Contains}
use Rattle.jzon_base.proofs.Common.{chars, IsErrAnd, IsUtf8, MatchResult, IsCharBoundary, get_or-append_seam}
use Rattle.jzon_base.proofs.Common.{IsUtf8-drop, IsCharBoundary-before_ascii, length-drop, nil_from_length}
use Rattle.std.proofs.lemmas.List.{length-append}
use Rattle.std.proofs.lemmas.Str.{chars-nil}
use Rattle.jzon_base.specs.declared.error.Error.TheVariants.{OutOfMemory}
use Rattle.jzon.specs.Reading.{Reading}
use Rattle.jzon.specs.Spelling.{deep}
use Rattle.jzon.specs.Fault.{Fault, limit, error_at}
use Rattle.jzon.specs.Private.Machine.{State, Outcome, meant, refused, last, from, fault_here, Reports}
use Rattle.jzon.specs.Private.Machine.{ReportsUnlessMemory}
use Rattle.jzon.specs.declared.stop.Stop.{Stop}
use Rattle.jzon.specs.declared.stop.Stop.TheVariants.{Memory, Limit}
use Rattle.jzon.proofs.Texts.FaultOffsets.{chars_split, reports_limit}
use Rattle.jzon.proofs.Texts.AsciiRuns.{chars-ascii}
use Rattle.jzon.proofs.Texts.StepsByByte.{from_end}

-- what reports an outcome reports an equal outcome
pub reported : (t : List ℕ) (e : Stop) (o p : Outcome) → o ≡ p → Reports t e p → ReportsUnlessMemory t e o
reported t e o p q h = inr (subst (Reports t e) (sym q) h)

pub reported_again : (t : List ℕ) (e : Stop) (o p : Outcome) → o ≡ p → ReportsUnlessMemory t e p
    → ReportsUnlessMemory t e o
reported_again t e o p q h = subst (ReportsUnlessMemory t e) (sym q) h

-- the end of a text, where it may not end
pub reported_end : (r : Reading) (bs : List ℕ) (i : ℕ) (p : State) (e : Stop) → length bs ≤ i
    → last p ≡ refused Fault.end [] → Reports bs e (fault_here (chars (drop i bs)))
    → ReportsUnlessMemory bs e (from r bs p i)
reported_end r bs i p e le h = reported bs e (from r bs p i) (fault_here (chars (drop i bs)))
    (from_end r bs i p le ∙ h ∙ sym (ap fault_here
    (ap chars (nil_from_length (drop i bs) (omega (arith, length-drop i bs))) ∙ chars-nil)))

pub reported_deep : (bs : List ℕ) (i : ℕ) (o : Outcome) → IsUtf8 bs → IsCharBoundary bs i
    → o ≡ refused (limit deep) (chars (drop i bs)) → ReportsUnlessMemory bs (Limit i) o
reported_deep bs i o u at q = inr (reports_limit bs i o u at (inl q))

-- ---- memory

-- the error of a text is never `OutOfMemory`
error_at_memory : (t : List ℕ) (i : ℕ) (f : Fault) → OutOfMemory ≡ error_at t i f → ⊥
error_at_memory t i (limit deep) e = cc
error_at_memory t i _ e = cc

pub reports_no_memory : (bs : List ℕ) (o : Outcome) → Reports bs Memory o → ⊥
reports_no_memory bs (meant v) h = h
reports_no_memory bs (refused f rest) h = error_at_memory (chars bs) (length (chars bs) - length rest) f h.1

pub never_memory : {T : Type 0} (P : T → Type 0) (t : List ℕ) (o : Outcome) (result : Result T Stop)
    → MatchResult result P (λ e. Reports t e o) → result ≢ Err Memory
never_memory P t o (Ok v) h e = cc
never_memory P t o (Err x) h e = let same : x ≡ Memory = cc in reports_no_memory t o
    (subst (λ z. Reports t z o) same h)

-- an error that is propagated
pub fails_without_memory : {T : Type 0} (t : List ℕ) (o : Outcome) (e : Stop) (result : Result T Stop)
    → IsErrAnd result (λ x. x ≡ e) → Reports t e o → result ≢ Err Memory
fails_without_memory t o e (Ok v) is h = absurd is
fails_without_memory t o e (Err x) is h = never_memory (λ _. ⊥) t o (Err x) (rw is h)

-- an ASCII byte of a text is one of its characters
pub has_character : (bs : List ℕ) (i b : ℕ) → IsUtf8 bs → i < length bs → get_or bs i 0 ≡ b → b < 128
    → Contains (chars bs) b
has_character bs i b u lt e ascii =
    let at : IsCharBoundary bs i = IsCharBoundary-before_ascii bs i lt (omega (arith, e)) in
    let split : drop i bs ≡ b ∷ drop (suc i) bs = rw (drop-cons bs i 0 lt, e) refl in
    let whole : chars bs ≡ chars (take i bs) ++ (b ∷ chars (drop (suc i) bs)) =
    chars_split bs i u at ∙ ap (λ z. chars (take i bs) ++ z)
    (ap chars split ∙ chars-ascii b (drop (suc i) bs) (subst IsUtf8 split (IsUtf8-drop bs i u at)) ascii) in
    let within = length-append (chars (take i bs)) (b ∷ chars (drop (suc i) bs)) in
    rw whole (length (chars (take i bs)), omega (arith, within), get_or-append_seam (chars (take i bs)) b _ b)
