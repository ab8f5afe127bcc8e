-- The text of a number is read as an equal number.
use Rattle.jzon_base.proofs.Common.{◌≡◌, ◌∙◌, ℕ, suc, zero, ℤ, pos, negsuc, ◌+◌, ◌*◌, ◌^◌, ◌≤◌, ◌<◌, None, List, []}
use Rattle.jzon_base.proofs.Common.{length, Bool, sym, ap, subst, arith, decimal, FitsSigned, inl, inr, chars, w16}
use Rattle.jzon_base.proofs.Common.{IsAscii, cases_lt, chars-IsAscii}
use Rattle.jzon_base.specs.Decimal.{parts}
use Rattle.jzon_base.specs.NumberText.{number_text}
use Rattle.jzon_tree.proofs.Printing.PrintedUtf8.{IsAscii-written}
use Rattle.jzon.specs.Reading.{Reading}
use Rattle.jzon.specs.Grammar.{Numeral, Node}
use Rattle.jzon.specs.Spelling.{Cell, plain, numeral_cells}
use Rattle.jzon.specs.Fault.{Parses}
use Rattle.jzon.specs.Laws.{NumberText, alone}
use Rattle.jzon.proofs.ReadBack.NumeralTexts.{numeral_spelled, numeral-plain}
use Rattle.jzon.proofs.ReadBack.NumberTextLengths.{length-number}
use Rattle.jzon.proofs.ReadBack.PrintedParts.{IsPrintedAs, HasNumeral}
use Rattle.jzon.proofs.ReadBack.PrintedForms.{digits_alone, zero_alone, pointed, after_zeros, small_power, large_power}
use Rattle.jzon.proofs.ReadBack.TrailingZeros.{zeros_kept, zero_dropped}
use Rattle.jzon.proofs.ReadBack.Unbroken.{parses_plain}

-- ---- all cases

pub printed_numeral : (s : Bool) (m : ℕ) (e : ℤ) → m < 2 ^ 64 → FitsSigned w16 e → HasNumeral s m e
printed_numeral s zero e fits small = zero_alone s e
printed_numeral s (suc m) (pos zero) fits small = digits_alone s (suc m) (omega arith) fits
printed_numeral s (suc m) (pos (suc k)) fits small =
    elim (cases_lt 20 (length (decimal (suc m)) + suc k)) [
      | inl far ↦ large_power s (suc m) (suc k) (omega arith) fits small (omega arith) far
      | inr room ↦ elim (cases_lt (suc m * 10 ^ suc k) (2 ^ 64)) [
        | inl all ↦ zeros_kept s (suc m) (suc k) (omega arith) fits room all
        | inr over ↦ zero_dropped s (suc m) k (omega arith) fits room over
      ]
    ]
printed_numeral s (suc m) (negsuc k) fits small =
    elim (cases_lt 17 (k + 1)) [
      | inl far ↦ small_power s (suc m) k (omega arith) fits small far
      | inr near ↦ elim (cases_lt (k + 1) (length (decimal (suc m)))) [
        | inl inside ↦ pointed s (suc m) k (omega arith) fits small near inside
        | inr out ↦ after_zeros s (suc m) k (omega arith) fits small near out
      ]
    ]

-- ---- the text

spelled_short : (s : Bool) (m : ℕ) (e : ℤ) (n : Numeral) → m < 2 ^ 64 → FitsSigned w16 e → IsPrintedAs s m e n
    → length (numeral_spelled n) ≤ 29
spelled_short s m e n fits small h = omega (arith, ap length h.spelled, length-number s m e fits small)

-- it has no breach
pub printed-plain : (r : Reading) (s : Bool) (m : ℕ) (e : ℤ) (n : Numeral) (k : List Cell) → m < 2 ^ 64 → FitsSigned w16 e
    → IsPrintedAs s m e n → numeral_cells r n None k ≡ plain (number_text s m e) k
printed-plain r s m e n k fits small h =
    numeral-plain r n k (omega (arith, spelled_short s m e n fits small h)) h.loses_nothing ∙ ap (λ t. plain t k) h.spelled

pub IsAscii-number : (s : Bool) (m : ℕ) (e : ℤ) → m < 2 ^ 64 → FitsSigned w16 e → IsAscii (number_text s m e)
IsAscii-number s m e fits small = IsAscii-written (parts s m e) (fits, small)

printed_parses : (s : Bool) (m : ℕ) (e : ℤ) (n : Numeral) → m < 2 ^ 64 → FitsSigned w16 e → IsPrintedAs s m e n
    → (r : Reading) → Parses r (chars (number_text s m e)) (alone (Node.number n))
printed_parses s m e n fits small h r =
    let text : chars (number_text s m e) ≡ number_text s m e = chars-IsAscii _
    (IsAscii-number s m e fits small) in
    subst (λ t. Parses r t (alone (Node.number n))) (sym text)
    (parses_plain r (number_text s m e) (alone (Node.number n)) (tt, h.in_grammar, tt)
    (printed-plain r s m e n [] fits small h))

pub number_read_back : NumberText
number_read_back s m e fits small =
    let n = printed_numeral s m e fits small in
    ((n.0, printed_parses s m e n.0 fits small n.1, n.1.alike, n.1.prints), length-number s m e fits small)
