-- Which bytes begin a value, whatever containers are open.
use Rattle.jzon_base.proofs.Common.{◌≡◌, ◌≢◌, ℕ, ◌+◌, ◌<◌, ◌≤◌, Bool, true, false, List, [], length, get_or, refl, ap}
use Rattle.jzon_base.proofs.Common.{◌∙◌, arith, None, IsUtf8, IsTrue, ◌==◌, is_ascii_digit, IsCharBoundary, nat_tests}
use Rattle.jzon_tree.specs.Writing.{is_whitespace}
use Rattle.jzon.specs.Reading.{Reading}
use Rattle.jzon.specs.Private.Classes.{Class, whitespace, digits, minus_char, quote, opens_array, closes_array}
use Rattle.jzon.specs.Private.Classes.{opens_object, begins_null, begins_true, begins_false, class_of}
use Rattle.jzon.specs.Private.Classes.{after_first_digit}
use Rattle.jzon.specs.Private.Machine.{Frames, array_frame, is_fresh, numeral, before, go, bad, bad_at, value_mark}
use Rattle.jzon.specs.Private.Machine.{move_before, move_empty_array, from, State}
use Rattle.jzon.proofs.Texts.ClassesOfCharacters.{char_of, class-says, class-char, digits-class, no_space, no_digit}
use Rattle.jzon.proofs.Texts.AsciiRuns.{wide_is_no_space}
use Rattle.jzon.proofs.Texts.StepsByByte.{StopsAt, from_step, stops_by, digit_is_ascii}

-- the character neither begins a value nor closes an empty array
pub record BeginsNothing (strict : Bool) (fs : Frames) (c : ℕ) : Type 0 where
  pub no_space : is_whitespace strict c ≡ false
  pub no_digit : is_ascii_digit c ≡ false
  pub no_minus : c ≢ 45
  pub no_quote : c ≢ 34
  pub no_array : c ≢ 91
  pub no_object : c ≢ 123
  pub no_null : c ≢ 110
  pub no_true : c ≢ 116
  pub no_false : c ≢ 102
  pub no_end : is_fresh fs ≡ true → c ≢ 93

full_array_on : (fs : Frames) → (is_fresh fs ≡ true → ⊥) → move_empty_array fs ≡ bad
full_array_on (array_frame fs []) h = absurd (h refl)
full_array_on _ h = refl

begins_nothing_on : (r : Reading) (fs : Frames) (c : ℕ) (k : Class) → value_mark r fs ≡ None
    → BeginsNothing r.strict fs c → class_of r.strict c ≡ k → move_before r k fs c ≡ bad
begins_nothing_on r fs c whitespace m h e = absurd (no_space r.strict c h.no_space e)
begins_nothing_on r fs c digits m h e = absurd (no_digit r.strict c h.no_digit e)
begins_nothing_on r fs c minus_char m h e = absurd (h.no_minus (class-says r.strict c e))
begins_nothing_on r fs c quote m h e = absurd (h.no_quote (class-says r.strict c e))
begins_nothing_on r fs c opens_array m h e = absurd (h.no_array (class-says r.strict c e))
begins_nothing_on r fs c opens_object m h e = absurd (h.no_object (class-says r.strict c e))
begins_nothing_on r fs c begins_null m h e = absurd (h.no_null (class-says r.strict c e))
begins_nothing_on r fs c begins_true m h e = absurd (h.no_true (class-says r.strict c e))
begins_nothing_on r fs c begins_false m h e = absurd (h.no_false (class-says r.strict c e))
begins_nothing_on r fs c closes_array m h e = full_array_on fs (λ f. h.no_end f (class-says r.strict c e))
begins_nothing_on r fs c _ m h e = ap bad_at m

-- no character past ASCII begins a value
wide_begins_nothing : (strict : Bool) (fs : Frames) (c : ℕ) → 128 ≤ c → BeginsNothing strict fs c
wide_begins_nothing strict fs c le = search (arith, nat_tests, wide_is_no_space)

pub stops_before : (r : Reading) (bs : List ℕ) (i : ℕ) (fs : Frames) → value_mark r fs ≡ None
    → (i < length bs → BeginsNothing r.strict fs (get_or bs i 0)) → StopsAt r (before fs) bs i
stops_before r bs i fs m h =
    stops_by r (before fs) bs i refl
    (λ lt. begins_nothing_on r fs (get_or bs i 0) (class_of r.strict (get_or bs i 0)) m (h lt) refl)
    (λ c wide. begins_nothing_on r fs c (class_of r.strict c) m (wide_begins_nothing r.strict fs c wide) refl)

-- ---- the first byte of a value

-- a character of this class
pub begin_by : (r : Reading) (bs : List ℕ) (i : ℕ) (fs : Frames) (k : Class) (p : State)
    → move_before r k fs (char_of k) ≡ go (value_mark r fs) p → IsUtf8 bs → IsCharBoundary bs i → i < length bs
    → get_or bs i 0 ≡ char_of k → char_of k < 128 → value_mark r fs ≡ None
    → from r bs (before fs) i ≡ from r bs p (i + 1)
begin_by r bs i fs k p move u at lt e small m =
    from_step r bs i (before fs) p (char_of k) u at lt e small
    (ap (λ x. move_before r x fs (char_of k)) (class-char r.strict k) ∙ move ∙ ap (λ b. go b p) m)

pub begin_digit : (r : Reading) (bs : List ℕ) (i : ℕ) (fs : Frames) → IsUtf8 bs → IsCharBoundary bs i → i < length bs
    → IsTrue (is_ascii_digit (get_or bs i 0)) → value_mark r fs ≡ None
    → from r bs (before fs) i
    ≡ from r bs (numeral fs false (after_first_digit (get_or bs i 0 == 48) (get_or bs i 0))) (i + 1)
begin_digit r bs i fs u at lt d m =
    from_step r bs i (before fs) _ (get_or bs i 0) u at lt refl (digit_is_ascii (get_or bs i 0) d)
    (ap (λ k. move_before r k fs (get_or bs i 0)) (digits-class r.strict (get_or bs i 0) d)
    ∙ ap (λ b. go b (numeral fs false (after_first_digit (get_or bs i 0 == 48) (get_or bs i 0)))) m)
