-- The text of a number of the grammar that has few digits.
use Rattle.jzon_base.proofs.Common.{◌≡◌, ℕ, ◌+◌, ◌<◌, ◌≤◌, List, [], ◌∷◌, ◌++◌, length, Bool, true, false, codes}
use Rattle.jzon_base.proofs.Common.{Option, Some, None, refl, sym, ap, ◌∙◌, arith, length-append, ⊤}
use Rattle.jzon_base.specs.Digits.{dropped, kept_fraction}
use Rattle.jzon_base.specs.LostDigits.{HoldsOfNone, loses_last, leaves_range}
use Rattle.jzon_base.proofs.Numbers.DigitPrefixes.{kept_len_is_longest}
use Rattle.jzon.specs.Grammar.{Sign, unsigned, plus, minus, Exponent, Numeral}
use Rattle.jzon.specs.Reading.{Reading}
use Rattle.jzon.specs.Meaning.{signed_exponent}
use Rattle.jzon.specs.Spelling.{Breach, Cell, cell, plain, onto, digits_cells, whole_breach, fraction_breach, fraction_cells}
use Rattle.jzon.specs.Spelling.{exponent_breach, exponent_cells, sign_cells, whole_cells, magnitude_cells, numeral_cells}
use Rattle.jzon.proofs.Numbers.NumberLimits.{AreUnmarked, next_clear, length-onto, up_to, whole_unmarked, fraction_unmarked}
use Rattle.jzon.proofs.Numbers.NumberLimits.{exponent_unmarked, LosesNoneIn}
use Rattle.jzon.proofs.Texts.Cells.{plain-append}

-- ---- the text

abbrev pub minus_spelled : Bool → List ℕ
minus_spelled negative = elim negative [ true ↦ codes "-" | false ↦ [] ]

abbrev pub fraction_spelled : List ℕ → List ℕ
fraction_spelled [] = []
fraction_spelled (d ∷ ds) = 46 ∷ d ∷ ds

abbrev pub sign_spelled : Sign → List ℕ
sign_spelled unsigned = []
sign_spelled plus = codes "+"
sign_spelled minus = codes "-"

abbrev pub exponent_spelled : Option Exponent → List ℕ
exponent_spelled None = []
exponent_spelled (Some e) = e.letter ∷ (sign_spelled e.sign ++ e.digits)

abbrev pub magnitude_spelled : List ℕ → List ℕ → Option Exponent → List ℕ
magnitude_spelled whole fraction e = whole ++ (fraction_spelled fraction ++ exponent_spelled e)

abbrev pub numeral_spelled : Numeral → List ℕ
numeral_spelled n = minus_spelled n.negative ++ magnitude_spelled n.whole n.fraction n.exponent

-- ---- it has no breach

-- No digit but 0 is dropped, and the exponent isn't clamped.
abbrev pub StaysExponent : List ℕ → List ℕ → Option Exponent → Type 0
StaysExponent whole fraction None = ⊤
StaysExponent whole fraction (Some e) = HoldsOfNone (leaves_range whole fraction (signed_exponent e.sign)) e.digits

abbrev pub LosesNothing : Numeral → Type 0
LosesNothing n = HoldsOfNone loses_last (n.whole ++ n.fraction) × StaysExponent n.whole n.fraction n.exponent

digits-plain : (breach : List ℕ → Option Breach) (prefix ds : List ℕ) (k : List Cell)
    → AreUnmarked breach (onto prefix ds) → digits_cells breach prefix ds k ≡ plain ds k
digits-plain breach prefix [] k h = refl
digits-plain breach prefix (d ∷ ds) k h = rw (
  next_clear breach prefix d ds _ h (omega (arith, length-onto prefix (d ∷ ds))),
  digits-plain breach (d ∷ prefix) ds k h,
) refl

module _ (r : Reading) where
  whole-plain : (ws fs : List ℕ) (k : List Cell) → dropped ws fs < 32768 → LosesNoneIn r (ws ++ fs)
      → whole_cells r ws None k ≡ plain ws k
  whole-plain [] fs k h none = refl
  whole-plain (d ∷ ds) fs k h none = ap (λ q. cell d None ∷ q) (digits-plain (whole_breach r) (d ∷ []) ds k
      (whole_unmarked r (d ∷ ds) fs h (up_to r (d ∷ ds) fs none)))

  fraction-plain : (ws fs : List ℕ) (k : List Cell) → kept_fraction ws fs < 32769 → LosesNoneIn r (ws ++ fs)
      → fraction_cells r ws fs k ≡ plain (fraction_spelled fs) k
  fraction-plain ws [] k h none = refl
  fraction-plain ws (d ∷ ds) k h none = ap (λ q. cell 46 None ∷ q)
      (digits-plain (fraction_breach r ws) [] (d ∷ ds) k (fraction_unmarked r ws (d ∷ ds) h none))

  sign-plain : (s : Sign) (k : List Cell) → sign_cells s k ≡ plain (sign_spelled s) k
  sign-plain unsigned k = refl
  sign-plain _ k = refl

  exponent-plain : (ws fs : List ℕ) (x : Option Exponent) (k : List Cell) → (r.exact ≡ true → StaysExponent ws fs x)
      → exponent_cells r ws fs x k ≡ plain (exponent_spelled x) k
  exponent-plain ws fs None k stays = refl
  exponent-plain ws fs (Some e) k stays =
      let digits : digits_cells (exponent_breach r ws fs e.sign) [] e.digits k ≡ plain e.digits k =
      digits-plain (exponent_breach r ws fs e.sign) [] e.digits k
      (exponent_unmarked r ws fs e.sign e.digits stays) in
      ap (λ q. cell e.letter None ∷ q) (sign-plain e.sign _ ∙ ap (plain (sign_spelled e.sign)) digits
      ∙ sym (plain-append (sign_spelled e.sign) e.digits k))

  pub magnitude-plain : (n : Numeral) (k : List Cell) → dropped n.whole n.fraction < 32768
      → kept_fraction n.whole n.fraction < 32769 → (r.exact ≡ true → LosesNothing n)
      → magnitude_cells r n None k ≡ plain (magnitude_spelled n.whole n.fraction n.exponent) k
  magnitude-plain n k few fewer none =
      whole-plain n.whole n.fraction _ few (λ exact. (none exact).0)
      ∙ ap (plain n.whole) (fraction-plain n.whole n.fraction _ fewer (λ exact. (none exact).0)
      ∙ ap (plain (fraction_spelled n.fraction))
      (exponent-plain n.whole n.fraction n.exponent k (λ exact. (none exact).1))
      ∙ sym (plain-append (fraction_spelled n.fraction) (exponent_spelled n.exponent) k))
      ∙ sym (plain-append n.whole (fraction_spelled n.fraction ++ exponent_spelled n.exponent) k)

length-fraction_spelled : (fs : List ℕ) → length fs ≤ length (fraction_spelled fs)
length-fraction_spelled [] = omega arith
length-fraction_spelled (d ∷ ds) = omega arith

pub numeral-plain : (r : Reading) (n : Numeral) (k : List Cell) → length (numeral_spelled n) < 32768
    → LosesNothing n → numeral_cells r n None k ≡ plain (numeral_spelled n) k
numeral-plain r n k h none = by_sign n.negative refl
  where
    size : length (minus_spelled n.negative) + (length n.whole +
        (length (fraction_spelled n.fraction) + length (exponent_spelled n.exponent))) < 32768
    size = simp length-append at h

    magnitude : magnitude_cells r n None k ≡ plain (magnitude_spelled n.whole n.fraction n.exponent) k
    magnitude = magnitude-plain r n k (omega (arith, size)) (omega (
      arith,
      size,
      length-fraction_spelled n.fraction,
      (kept_len_is_longest (n.whole ++ n.fraction)).within,
      length-append n.whole n.fraction,
    )) (λ exact. none)

    by_sign : (b : Bool) → n.negative ≡ b → numeral_cells r n None k ≡ plain (numeral_spelled n) k
    by_sign true e = rw e (ap (λ q. cell 45 None ∷ q) magnitude)
    by_sign false e = rw e magnitude
