-- The result of a parser that returns the automaton's outcome (`answers_of`): the value that the text means, or its
-- error. And the error of one text, by computation (`refused_error`).
use Rattle.jzon_base.proofs.Common.{inl, inr, ◌≡◌, ℕ, ◌-◌, List, length, Result, Ok, Err, subst, sym, ◌∙◌, refl, chars}
use Rattle.jzon_base.specs.declared.error.Error.{Error}
use Rattle.jzon_base.specs.declared.error.Error.TheVariants.{ExceededDepthLimit}
use Rattle.jzon_tree.specs.View.{view}
use Rattle.jzon_tree.specs.declared.value.JsonValue.{JsonValue}
use Rattle.jzon.specs.Reading.{Reading}
use Rattle.jzon.specs.Spelling.{deep, digit}
use Rattle.jzon.specs.Fault.{Fault, limit, error_at, IsErrorOf}
use Rattle.jzon.specs.Private.Machine.{no_frames, before, Outcome, meant, refused, outcome, from, Reads}
use Rattle.jzon.specs.Private.Stops.{reported_error}
use Rattle.jzon.specs.declared.stop.Stop.{Stop}
use Rattle.jzon.specs.Answer.{IsMeaningOf, IsReadable, IsErrorUnlessMemory}
use Rattle.jzon.proofs.Texts.Verdict.{Verdict, answers}
use Rattle.jzon.proofs.ReadBack.MeaningHeld.{meaning_held}

-- the text means the value, or has the error, unless an allocation failed
abbrev pub Answers : Reading → List ℕ → Result JsonValue Error → Type 0
Answers r t (Ok v) = IsMeaningOf r t v
Answers r t (Err e) = IsErrorUnlessMemory r t e

-- the result of the parser, whose errors have no line and column yet, as that of a call
abbrev pub with_errors : List ℕ → Result JsonValue Stop → Result JsonValue Error
with_errors bytes (Ok v) = Ok v
with_errors bytes (Err e) = Err (reported_error bytes e)

answers_by : (r : Reading) (bytes : List ℕ) (result : Result JsonValue Stop) (o : Outcome)
    → Verdict r (chars bytes) o → Reads bytes result o → Answers r (chars bytes) (with_errors bytes result)
answers_by r bytes (Ok v) (meant w) verdict read =
    let same : w ≡ view v = cc in (verdict.0, verdict.1, sym (verdict.2 ∙ same))
answers_by r bytes (Ok v) (refused f rest) verdict read = absurd (cc)
answers_by r bytes (Err e) o verdict (inl memory) = rw memory (inl refl)
answers_by r bytes (Err e) (meant w) verdict (inr reports) = absurd reports
answers_by r bytes (Err e) (refused f rest) verdict (inr reports) =
    inr (length (chars bytes) - length rest, f, verdict, reports.1)

pub answers_of : (r : Reading) (bytes : List ℕ) (result : Result JsonValue Stop)
    → Reads bytes result (from r bytes (before no_frames) 0) → Answers r (chars bytes) (with_errors bytes result)
unfolding from
answers_of r bytes result read =
    answers_by r bytes result (outcome r (chars bytes) (before no_frames)) (answers r (chars bytes)) read

-- an accepted text means the value, which can be read back
pub accepted : (r : Reading) (bytes : List ℕ) (v : JsonValue) → Reads bytes (Ok v) (from r bytes (before no_frames) 0)
    → IsMeaningOf r (chars bytes) v × IsReadable r (view v)
accepted r bytes v read =
    let h = answers_of r bytes (Ok v) read in
    (h, subst (λ w. IsReadable r w) (sym h.2) (meaning_held r (chars bytes) h.0 h.1))

-- the error of one text, by computation
pub refused_error : (r : Reading) (t rest : List ℕ) (f : Fault) (e : Error)
    → outcome r t (before no_frames) ≡ refused f rest → e ≡ error_at t (length t - length rest) f → IsErrorOf r t e
refused_error r t rest f e h g = (length t - length rest, f, subst (λ z. Verdict r t z) h (answers r t), g)

pub too_deep : (r : Reading) (t rest : List ℕ) → outcome r t (before no_frames) ≡ refused (limit deep) rest
    → IsErrorOf r t ExceededDepthLimit
too_deep r t rest h = refused_error r t rest (limit deep) ExceededDepthLimit h refl

pub too_many_digits : (r : Reading) (t rest : List ℕ) → outcome r t (before no_frames) ≡ refused (limit digit) rest
    → IsErrorOf r t ExceededDepthLimit
too_many_digits r t rest h = refused_error r t rest (limit digit) ExceededDepthLimit h refl
