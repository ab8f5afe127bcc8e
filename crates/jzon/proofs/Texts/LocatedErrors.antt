-- The error of a text with its place, from where the parser stopped.
use Rattle.jzon_base.proofs.Common.{◌≡◌, inl, inr, ℕ, ◌-◌, List, length, take, sym, ap, refl}
use Rattle.jzon_base.proofs.Common.{chars, IsUtf8, IsCharBoundary}
use Rattle.jzon.specs.Reading.{Reading}
use Rattle.jzon.specs.Fault.{Fault, line, column}
use Rattle.jzon.specs.Located.{IsPlaceOf, IsLocated, place_at}
use Rattle.jzon.specs.Private.Machine.{no_frames, before, Outcome, meant, refused, outcome, from, Reports}
use Rattle.jzon.specs.Private.Machine.{ReportsUnlessMemory}
use Rattle.jzon.specs.Private.Stops.{stop_place, reported_error}
use Rattle.jzon.specs.declared.stop.Stop.{Stop}
use Rattle.jzon.specs.declared.stop.Stop.TheVariants.{Memory, Limit, Surrogates, At, Duplicate, Inexact}
use Rattle.jzon.specs.declared.located.LocatedError.{LocatedError}
use Rattle.jzon.proofs.Texts.FaultOffsets.{prefix_at}
use Rattle.jzon.proofs.Texts.ReportedErrors.{reports_no_memory}
use Rattle.jzon.proofs.Texts.Verdict.{Verdict, answers}

abbrev pub located : List ℕ → Stop → LocatedError
located bytes e = record { error = reported_error bytes e; place = stop_place bytes e }

place_of : (bytes : List ℕ) (i n : ℕ) → IsUtf8 bytes → IsCharBoundary bytes i → length (chars (take i bytes)) ≡ n
    → IsPlaceOf bytes n (place_at bytes i)
place_of bytes i n u at e =
    let before = prefix_at bytes i n u at (sym e) in
    record { boundary = at; before = e; line = ap line (sym before); column = ap column (sym before) }

located_at : (r : Reading) (bytes : List ℕ) (e : Stop) (f : Fault) (rest : List ℕ) → IsUtf8 bytes
    → Verdict r (chars bytes) (refused f rest) → Reports bytes e (refused f rest) → IsLocated r bytes (located bytes e)
located_at r bytes Memory f rest u verdict h = absurd (reports_no_memory bytes (refused f rest) h)
located_at r bytes (Limit i) f rest u verdict h =
    inr (place_at bytes i, refl, (length (chars bytes) - length rest, f, verdict, h.1, place_of bytes i _ u h.0 h.2))
located_at r bytes (Surrogates i) f rest u verdict h =
    inr (place_at bytes i, refl, (length (chars bytes) - length rest, f, verdict, h.1, place_of bytes i _ u h.0 h.2))
located_at r bytes (At i) f rest u verdict h =
    inr (place_at bytes i, refl, (length (chars bytes) - length rest, f, verdict, h.1, place_of bytes i _ u h.0 h.2))
located_at r bytes (Inexact i) f rest u verdict h =
    inr (place_at bytes i, refl, (length (chars bytes) - length rest, f, verdict, h.1, place_of bytes i _ u h.0 h.2))
located_at r bytes (Duplicate i) f rest u verdict h =
    inr (place_at bytes i, refl, (length (chars bytes) - length rest, f, verdict, h.1, place_of bytes i _ u h.0 h.2))

located_by : (r : Reading) (bytes : List ℕ) (e : Stop) (o : Outcome) → IsUtf8 bytes → Verdict r (chars bytes) o
    → ReportsUnlessMemory bytes e o → IsLocated r bytes (located bytes e)
located_by r bytes e o u verdict (inl memory) = rw memory (inl (refl, refl))
located_by r bytes e (meant w) u verdict (inr h) = absurd h
located_by r bytes e (refused f rest) u verdict (inr h) = located_at r bytes e f rest u verdict h

pub located_of : (r : Reading) (bytes : List ℕ) (e : Stop) → IsUtf8 bytes
    → ReportsUnlessMemory bytes e (from r bytes (before no_frames) 0) → IsLocated r bytes (located bytes e)
unfolding from
located_of r bytes e u h = located_by r bytes e (outcome r (chars bytes) (before no_frames)) u (answers r (chars bytes)) h
