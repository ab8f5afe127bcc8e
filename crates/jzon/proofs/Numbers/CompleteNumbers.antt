-- Complete, for numbers (`complete_number`): over the cells of a number the automaton goes from before it to after it,
-- each move with its cell's mark. The end of a number is decided by what follows it, so nothing is required of that.
use Rattle.jzon_base.proofs.Common.{◌≡◌, ℕ, List, [], ◌∷◌, Bool, true, false, ◌==◌, Option, Some, None, refl}
use Rattle.jzon_base.proofs.Common.{sym, subst, eqb-true, ◌∙◌, and_parts, not-true, true≢false}
use Rattle.jzon_tree.specs.Value as value
use Rattle.jzon.specs.Reading.{Reading}
use Rattle.jzon.specs.Grammar.{Sign, unsigned, plus, minus, Exponent, Numeral, AreDigits, IsDigits, IsWhole, IsExponent}
use Rattle.jzon.specs.Grammar.{IsNumeral}
use Rattle.jzon.specs.Spelling.{Cell, cell, onto, digits_cells, whole_breach, fraction_breach, exponent_breach, sign_cells}
use Rattle.jzon.specs.Spelling.{exponent_cells, fraction_cells, numeral_cells}
use Rattle.jzon.specs.Meaning.{number_of}
use Rattle.jzon.specs.Private.Classes.{Class, digits, point, letter_e, class_of, NumberState, zero_read, whole}
use Rattle.jzon.specs.Private.Classes.{fraction, after_letter, exponent, after_first_digit, minus_char, plus_char}
use Rattle.jzon.specs.Private.Machine.{Frames, Move, before, numeral, after_value, Outcome, meant_at, last_numeral}
use Rattle.jzon.specs.Private.Machine.{value_mark, number_value, exponent_of, move_after_value, move_after_whole}
use Rattle.jzon.specs.Private.Machine.{move_numeral}
use Rattle.jzon.proofs.Texts.ClassesOfCharacters.{digits-class, letter_e-class, class-char, whole_digits}
use Rattle.jzon.proofs.Numbers.NumberLimits.{in_order}
use Rattle.jzon.proofs.Texts.Runs.{Meets, Follows}

module _ (r : Reading) (G : Outcome → Type 0) (fs : Frames) (negative : Bool) where
  abbrev F : List Cell → NumberState → Type 0
  F q x = Follows r G q (numeral fs negative x)

  -- from the state after a number of these parts
  abbrev B : List ℕ → List ℕ → Option Exponent → List Cell → Type 0
  B ws ds x q = Follows r G q (after_value fs (number_value negative ws ds x))

  -- the cell y is read by this move, and k follows
  abbrev Reads : Cell → List Cell → Move → Type 0
  Reads y k z = Meets z y.mark (λ p. Follows r G k p)

  -- ---- the exponent

  past_exponent : (class : Class) (ws ds : List ℕ) (l : ℕ) (s : Sign) (xs : List ℕ) (y : Cell) (k : List Cell)
      → Reads y k (move_after_value class fs (number_value negative ws ds (exponent_of l s (onto xs []))))
      → Reads y k (move_numeral r (exponent ws ds l s xs) class fs negative y.char)
  past_exponent digits ws ds l s xs y k h = absurd h
  past_exponent _ ws ds l s xs y k h = h

  read_exponent : (ws ds : List ℕ) (l : ℕ) (s : Sign) (xs es : List ℕ) (k : List Cell) → AreDigits es
      → B ws ds (exponent_of l s (onto xs es)) k → F (digits_cells (exponent_breach r ws ds s) xs es k) (exponent ws ds l s xs)
  read_exponent ws ds l s xs [] [] ok h = h
  read_exponent ws ds l s xs [] (y ∷ k) ok h = past_exponent (class_of r.strict y.char) ws ds l s xs y k h
  read_exponent ws ds l s xs (e ∷ es) k ok h =
      rw (digits-class r.strict e ok.0) (refl, read_exponent ws ds l s (e ∷ xs) es k ok.1 h)

  read_letter : (ws ds : List ℕ) (l : ℕ) (s : Sign) (es : List ℕ) (k : List Cell) → IsDigits es
      → B ws ds (exponent_of l s es) k
      → F (sign_cells s (digits_cells (exponent_breach r ws ds s) [] es k)) (after_letter ws ds l)
  read_letter ws ds l s [] k ok h = absurd ok
  read_letter ws ds l unsigned (e ∷ es) k ok h =
      rw (digits-class r.strict e ok.0) (refl, read_exponent ws ds l unsigned (e ∷ []) es k ok.1 h)
  read_letter ws ds l plus (e ∷ es) k ok h =
      rw (class-char r.strict plus_char)
      (refl, rw (digits-class r.strict e ok.0) (refl, read_exponent ws ds l plus (e ∷ []) es k ok.1 h))
  read_letter ws ds l minus (e ∷ es) k ok h =
      rw (class-char r.strict minus_char)
      (refl, rw (digits-class r.strict e ok.0) (refl, read_exponent ws ds l minus (e ∷ []) es k ok.1 h))

  -- ---- the fraction

  past_fraction : (class : Class) (ws ds : List ℕ) (y : Cell) (k : List Cell)
      → Reads y k (move_after_value class fs (number_value negative ws (onto ds []) None))
      → Reads y k (move_numeral r (fraction ws ds) class fs negative y.char)
  past_fraction digits ws ds y k h = absurd h
  past_fraction letter_e ws ds y k h = absurd h
  past_fraction _ ws ds y k h = h

  read_fraction : (ws ds es : List ℕ) (x : Option Exponent) (k : List Cell) → AreDigits es → IsExponent x
      → B ws (onto ds es) x k → F (digits_cells (fraction_breach r ws) ds es (exponent_cells r ws (onto ds es) x k)) (fraction ws ds)
  read_fraction ws ds [] None [] ok x_ok h = h
  read_fraction ws ds [] None (y ∷ k) ok x_ok h = past_fraction (class_of r.strict y.char) ws ds y k h
  read_fraction ws ds [] (Some x) k ok x_ok h =
      rw (letter_e-class r.strict x.letter x_ok.0)
      (refl, read_letter ws (onto ds []) x.letter x.sign x.digits k x_ok.1 h)
  read_fraction ws ds (e ∷ es) x k ok x_ok h =
      rw (digits-class r.strict e ok.0) (refl, read_fraction ws (e ∷ ds) es x k ok.1 x_ok h)

  -- ---- whole digits

  -- in this state the whole digits ws are read, and what follows isn't another digit
  record EndsWhole (x : NumberState) (ws : List ℕ) : Type 0 where
    past : (class : Class) (y : Cell) (k : List Cell) → Reads y k (move_after_whole class fs negative ws y.char)
        → Reads y k (move_numeral r x class fs negative y.char)
    ends : G (meant_at fs (number_value negative ws [] None)) → G (last_numeral x fs negative)

  past_digits : (class : Class) (ds : List ℕ) (y : Cell) (k : List Cell)
      → Reads y k (move_after_whole class fs negative (onto ds []) y.char)
      → Reads y k (move_numeral r (whole ds) class fs negative y.char)
  past_digits digits ds y k h = absurd h
  past_digits _ ds y k h = h

  digits_end : (ds : List ℕ) → EndsWhole (whole ds) (onto ds [])
  digits_end ds = record { past = λ class y k h. past_digits class ds y k h; ends = λ h. h }

  past_whole : (class : Class) (ws : List ℕ) (y : Cell) (k : List Cell)
      → Reads y k (move_after_value class fs (number_value negative ws [] None))
      → Reads y k (move_after_whole class fs negative ws y.char)
  past_whole point ws y k h = absurd h
  past_whole letter_e ws y k h = absurd h
  past_whole _ ws y k h = h

  read_after_whole : (x : NumberState) (ws ds : List ℕ) (e : Option Exponent) (k : List Cell) → EndsWhole x ws
      → AreDigits ds → IsExponent e → B ws ds e k → F (fraction_cells r ws ds (exponent_cells r ws ds e k)) x
  read_after_whole x ws [] None [] end ok e_ok h = end.ends h
  read_after_whole x ws [] None (y ∷ k) end ok e_ok h =
      end.past (class_of r.strict y.char) y k (past_whole (class_of r.strict y.char) ws y k h)
  read_after_whole x ws [] (Some e) k end ok e_ok h =
      end.past (class_of r.strict e.letter) (cell e.letter None)
      (sign_cells e.sign (digits_cells (exponent_breach r ws [] e.sign) [] e.digits k))
      (rw (letter_e-class r.strict e.letter e_ok.0)
      (refl, read_letter ws [] e.letter e.sign e.digits k e_ok.1 h))
  read_after_whole x ws (d ∷ ds) e k end ok e_ok h =
      end.past (class_of r.strict 46) (cell 46 None) (digits_cells (fraction_breach r ws) [] (d ∷ ds)
      (exponent_cells r ws (d ∷ ds) e k))
      (rw (class-char r.strict point)
      (refl, rw (digits-class r.strict d ok.0) (refl, read_fraction ws (d ∷ []) ds e k ok.1 e_ok h)))

  read_whole : (ds es : List ℕ) (k : List Cell) → AreDigits es → F k (whole (onto es ds))
      → F (digits_cells (whole_breach r) ds es k) (whole ds)
  read_whole ds [] k ok h = h
  read_whole ds (e ∷ es) k ok h = rw (digits-class r.strict e ok.0) (refl, read_whole (e ∷ ds) es k ok.1 h)

  read_first : (is_zero : Bool) (d : ℕ) (es : List ℕ) (k : List Cell) → d == 48 ≡ is_zero → IsWhole (d ∷ es)
      → ((x : NumberState) → EndsWhole x (d ∷ es) → F k x)
      → F (digits_cells (whole_breach r) (d ∷ []) es k) (after_first_digit is_zero d)
  read_first true d [] k e ok h =
      h zero_read (subst (λ z. EndsWhole zero_read (z ∷ [])) (sym (eqb-true d 48 e))
      (record { past = λ class y k h. h; ends = λ h. h }))
  read_first true d (x ∷ es) k e ok h = absurd (true≢false (sym e ∙ not-true _ (and_parts _ _ ok.0).1))
  read_first false d [] k e ok h = h (whole (d ∷ [])) (digits_end (d ∷ []))
  read_first false d (x ∷ es) k e ok h =
      read_whole (d ∷ []) (x ∷ es) k ok.1 (h (whole (onto (x ∷ es) (d ∷ [])))
      (subst (EndsWhole (whole (onto (x ∷ es) (d ∷ [])))) (in_order d (x ∷ es)) (digits_end (onto (x ∷ es) (d ∷ [])))))

  read_magnitude : (d : ℕ) (es ds : List ℕ) (x : Option Exponent) (k : List Cell) → IsWhole (d ∷ es) → AreDigits ds
      → IsExponent x → B (d ∷ es) ds x k
      → F (digits_cells (whole_breach r) (d ∷ []) es (fraction_cells r (d ∷ es) ds (exponent_cells r (d ∷ es) ds x k)))
      (after_first_digit (d == 48) d)
  read_magnitude d es ds x k ok ds_ok x_ok h =
      read_first (d == 48) d es _ refl ok (λ p end. read_after_whole p (d ∷ es) ds x k end ds_ok x_ok h)

module _ (r : Reading) (G : Outcome → Type 0) (fs : Frames) where
  read_signed : (negative : Bool) (ws ds : List ℕ) (x : Option Exponent) (k : List Cell) → IsWhole ws → AreDigits ds
      → IsExponent x → Follows r G k (after_value fs (number_value negative ws ds x))
      → Follows r G (numeral_cells r (record { negative = negative; whole = ws; fraction = ds; exponent = x })
      (value_mark r fs) k) (before fs)
  read_signed negative [] ds x k ok ds_ok x_ok h = absurd ok
  read_signed true (d ∷ es) ds x k ok ds_ok x_ok h =
      rw (class-char r.strict minus_char) (
        refl,
        rw (digits-class r.strict d (whole_digits (d ∷ es) ok).0)
            (refl, read_magnitude r G fs true d es ds x k ok ds_ok x_ok h),
      )
  read_signed false (d ∷ es) ds x k ok ds_ok x_ok h =
      rw (digits-class r.strict d (whole_digits (d ∷ es) ok).0)
      (refl, read_magnitude r G fs false d es ds x k ok ds_ok x_ok h)

  pub complete_number : (n : Numeral) (k : List Cell) → IsNumeral n
      → Follows r G k (after_value fs (value.number (number_of n)))
      → Follows r G (numeral_cells r n (value_mark r fs) k) (before fs)
  complete_number n k ok h = read_signed n.negative n.whole n.fraction n.exponent k ok.0 ok.1 ok.2 h
