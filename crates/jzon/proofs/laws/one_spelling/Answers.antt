use Rattle.jzon_base.proofs.Common.{◌≡◌, ◌∙◌, ◌<◌, ℕ, zero, suc, List, [], ◌∷◌, length, take, Option, Some, refl}
use Rattle.jzon_base.proofs.Common.{sym, arith, nat_tests, false, is_ascii_digit, IsTrue}
use Rattle.jzon_base.specs.Digits.{kept_len}
use Rattle.jzon_base.proofs.Numbers.DigitPrefixes.{kept_all}
use Rattle.jzon_base.specs.LostDigits.{loses_last}
use Rattle.jzon.specs.Reading.{Reading}
use Rattle.jzon.specs.Laws.{mark_at}
use Rattle.jzon.specs.Spelling.{Breach, Cell, onto, drops_too_many, whole_breach, fraction_breach, digits_cells, whole_cells}
use Rattle.jzon.specs.Spelling.{fraction_cells}
use Rattle.jzon.proofs.Texts.TreeCharacters.{spells}
use Rattle.jzon.proofs.Texts.ClassesOfCharacters.{digit_below}
use Rattle.jzon.proofs.laws.one_spelling.Goals as goal

pub returns-clause-text : goal.returns-clause-text
returns-clause-text c = λ r s d. spells r d ∙ sym (spells s d)

-- the digits in `prefix`, in reverse order, precede ds
marked : (breach : List ℕ → Option Breach) (prefix ds : List ℕ) (k : List Cell) (i : ℕ) → i < length ds
    → mark_at (digits_cells breach prefix ds k) i ≡ Some (breach (onto prefix (take (suc i) ds)))
marked breach prefix [] k i lt = absurd (omega arith)
marked breach prefix (d ∷ ds) k zero lt = refl
marked breach prefix (d ∷ ds) k (suc i) lt = marked breach (d ∷ prefix) ds k i (omega arith)

one_digit : (d : ℕ) → drops_too_many (d ∷ []) ≡ false
unfolding drops_too_many
one_digit d = grind (arith, nat_tests)

one_kept : (d : ℕ) → IsTrue (is_ascii_digit d) → loses_last (d ∷ []) ≡ false
unfolding loses_last
one_kept d h =
    let kept : kept_len (d ∷ []) ≡ 1 = kept_all (d ∷ []) (omega (arith, digit_below d h)) in
    rw kept refl

whole_marked : (r : Reading) (whole : List ℕ) (m : Option Breach) (k : List Cell) (i : ℕ) → suc i < length whole
    → mark_at (whole_cells r whole m k) (suc i) ≡ Some (whole_breach r (take (suc (suc i)) whole))
whole_marked r [] m k i lt = absurd (omega arith)
whole_marked r (d ∷ ds) m k i lt = marked (whole_breach r) (d ∷ []) ds k i (omega arith)

fraction_marked : (r : Reading) (whole fraction : List ℕ) (k : List Cell) (i : ℕ) → i < length fraction
    → mark_at (fraction_cells r whole fraction k) (suc i) ≡ Some (fraction_breach r whole (take (suc i) fraction))
fraction_marked r whole [] k i lt = absurd (omega arith)
fraction_marked r whole (d ∷ ds) k i lt = marked (fraction_breach r whole) [] (d ∷ ds) k i lt

pub returns-clause-breach : goal.returns-clause-breach
returns-clause-breach c = (one_digit, one_kept, whole_marked, fraction_marked)
