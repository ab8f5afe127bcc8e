-- The first digit after a minus, by the byte there.
use Rattle.jzon_base.proofs.Common.{◌≡◌, ℕ, ◌+◌, ◌<◌, true, List, length, get_or, refl, ap, ◌∙◌, IsUtf8, IsTrue, ◌==◌}
use Rattle.jzon_base.proofs.Common.{is_ascii_digit, IsCharBoundary}
use Rattle.jzon.specs.Reading.{Reading}
use Rattle.jzon.specs.Private.Classes.{Class, digits, class_of, after_minus, after_first_digit}
use Rattle.jzon.specs.Private.Machine.{Frames, numeral, bad, move_numeral, from}
use Rattle.jzon.proofs.Texts.ClassesOfCharacters.{class-says, digits-class}
use Rattle.jzon.proofs.Texts.StepsByByte.{StopsAt, from_step, digit_is_ascii}

no_digit_on : (r : Reading) (fs : Frames) (c : ℕ) (k : Class) → (IsTrue (is_ascii_digit c) → ⊥)
    → class_of r.strict c ≡ k → move_numeral r after_minus k fs true c ≡ bad
no_digit_on r fs c digits h e = absurd (h (class-says r.strict c e))
no_digit_on r fs c _ h e = refl

pub no_digit_stops : (r : Reading) (bs : List ℕ) (i : ℕ) (fs : Frames)
    → ((i < length bs) × IsTrue (is_ascii_digit (get_or bs i 0)) → ⊥) → StopsAt r (numeral fs true after_minus) bs i
no_digit_stops r bs i fs none = record {
  ends = refl;
  bad = λ c there. no_digit_on r fs c (class_of r.strict c)
      (λ d. let h = there (digit_is_ascii c d) in none (h.0, ap is_ascii_digit h.1 ∙ d)) refl;
}

pub digit_goes : (r : Reading) (bs : List ℕ) (i : ℕ) (fs : Frames) → IsUtf8 bs → IsCharBoundary bs i → (i < length bs)
    × IsTrue (is_ascii_digit (get_or bs i 0))
    → from r bs (numeral fs true after_minus) i
    ≡ from r bs (numeral fs true (after_first_digit (get_or bs i 0 == 48) (get_or bs i 0)))
    (i + 1)
digit_goes r bs i fs u at (lt, d) =
    from_step r bs i (numeral fs true after_minus) _ (get_or bs i 0) u at lt refl (digit_is_ascii (get_or bs i 0) d)
    (ap (λ k. move_numeral r after_minus k fs true (get_or bs i 0)) (digits-class r.strict (get_or bs i 0) d))
