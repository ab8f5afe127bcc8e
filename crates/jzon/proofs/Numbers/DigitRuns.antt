-- The automaton on a whole run of digits: it reads the run, or stops at the first digit that has a breach.
use Rattle.jzon_base.proofs.Common.{◌≡◌, ◌∙◌, ℕ, zero, suc, List, [], ◌∷◌, ◌++◌, length, drop, Option, Bool}
use Rattle.jzon_base.proofs.Common.{refl, IsTrue, is_ascii_digit, ap, arith, take, ◌+◌}
use Rattle.jzon.specs.Reading.{Reading}
use Rattle.jzon.specs.Grammar.{Sign, unsigned, AreDigits, IsDigits}
use Rattle.jzon.specs.Spelling.{Breach, onto, whole_breach, fraction_breach, exponent_breach}
use Rattle.jzon.specs.Fault.{limit}
use Rattle.jzon.specs.Private.Classes.{NumberState, whole, pointed, fraction, after_letter, signed_exponent, exponent}
use Rattle.jzon.specs.Private.Machine.{Frames, State, numeral, go, move, refused, outcome}
use Rattle.jzon.proofs.Texts.ClassesOfCharacters.{digits-class}
use Rattle.jzon.proofs.Numbers.NumberLimits.{AreUnmarked, IsFirstMarked, next_clear, up_to_next, length-onto}

pub AreDigits-append : (xs ys : List ℕ) → AreDigits xs → AreDigits ys → AreDigits (xs ++ ys)
AreDigits-append [] ys h k = k
AreDigits-append (x ∷ xs) ys h k = (h.0, AreDigits-append xs ys h.1 k)

-- ---- digits in a state that collects them

-- Each digit is put before those that the state has, with the breach of the digits up to it.
abbrev Collects : Reading → (List ℕ → State) → (List ℕ → Option Breach) → Type 0
Collects r at breach =
    (ds : List ℕ) (c left : ℕ) → IsTrue (is_ascii_digit c) → move r (at ds) c left
    ≡ go (breach (onto (c ∷ ds) [])) (at (c ∷ ds))

module _ (r : Reading) (at : List ℕ → State) (breach : List ℕ → Option Breach) (collects : Collects r at breach) where
  collect_all : (ds es rest : List ℕ) → AreDigits es → AreUnmarked breach (onto ds es)
      → outcome r (es ++ rest) (at ds) ≡ outcome r rest (at (onto es ds))
  collect_all ds [] rest ok h = refl
  collect_all ds (e ∷ es) rest ok h =
      rw (
        collects ds e (suc (length (es ++ rest))) ok.0,
        next_clear breach ds e es _ h (omega (arith, length-onto ds (e ∷ es))),
      ) (collect_all (e ∷ ds) es rest ok.1 h)

  collect_up_to : (b : Breach) (ds es rest : List ℕ) (p i : ℕ) → AreDigits es → IsFirstMarked breach b (onto ds es) p
      → length ds + i ≡ p → outcome r (es ++ rest) (at ds) ≡ refused (limit b) (drop i es ++ rest)
  collect_up_to b ds [] rest p i ok h at_p = absurd (omega (arith, h.0, at_p, length-onto ds []))
  collect_up_to b ds (e ∷ es) rest p zero ok h at_p =
      let here : length ds ≡ p = omega (arith, at_p) in
      rw (
        collects ds e (suc (length (es ++ rest))) ok.0,
        ap breach (up_to_next ds e es) ∙ ap (λ n. breach (take (suc n) (onto ds (e ∷ es)))) here ∙ h.1,
      ) refl
  collect_up_to b ds (e ∷ es) rest p (suc i) ok h at_p =
      rw (
        collects ds e (suc (length (es ++ rest))) ok.0,
        next_clear breach ds e es p h.2 (omega (arith, at_p)),
      ) (collect_up_to b (e ∷ ds) es rest p i ok.1 h (omega (arith, at_p)))

  -- from a state that goes on to the first digit as if it had collected none
  module _ (p : State) (begins : (c : ℕ) (rest : List ℕ) → IsTrue (is_ascii_digit c)
      → outcome r (c ∷ rest) p ≡ outcome r (c ∷ rest) (at [])) where
    read_from : (es rest : List ℕ) → IsDigits es → AreUnmarked breach es
        → outcome r (es ++ rest) p ≡ outcome r rest (at (onto es []))
    read_from [] rest ok h = absurd ok
    read_from (e ∷ es) rest ok h = begins e (es ++ rest) ok.0 ∙ collect_all [] (e ∷ es) rest ok h

    refuse_from : (b : Breach) (es rest : List ℕ) (i : ℕ) → IsDigits es → IsFirstMarked breach b es i
        → outcome r (es ++ rest) p ≡ refused (limit b) (drop i es ++ rest)
    refuse_from b [] rest i ok h = absurd ok
    refuse_from b (e ∷ es) rest i ok h =
        begins e (es ++ rest) ok.0 ∙ collect_up_to b [] (e ∷ es) rest i i ok h (omega arith)

module _ (r : Reading) (fs : Frames) (negative : Bool) where
  abbrev N : NumberState → State
  N x = numeral fs negative x

  -- ---- whole digits

  pub read_whole : (ds es rest : List ℕ) → AreDigits es → AreUnmarked (whole_breach r) (onto ds es)
      → outcome r (es ++ rest) (N (whole ds)) ≡ outcome r rest (N (whole (onto es ds)))
  read_whole = collect_all r (λ ds. N (whole ds)) (whole_breach r) (λ xs c left h. rw (digits-class r.strict c h) refl)

  pub refuse_whole : (b : Breach) (ds es rest : List ℕ) (p i : ℕ) → AreDigits es
      → IsFirstMarked (whole_breach r) b (onto ds es) p → length ds + i ≡ p
      → outcome r (es ++ rest) (N (whole ds)) ≡ refused (limit b) (drop i es ++ rest)
  refuse_whole =
      collect_up_to r (λ ds. N (whole ds)) (whole_breach r) (λ xs c left h. rw (digits-class r.strict c h) refl)

  -- ---- fraction digits

  pub read_fraction : (ws es rest : List ℕ) → IsDigits es → AreUnmarked (fraction_breach r ws) es
      → outcome r (es ++ rest) (N (pointed ws)) ≡ outcome r rest (N (fraction ws (onto es [])))
  read_fraction ws = read_from r (λ ds. N (fraction ws ds)) (fraction_breach r ws)
      (λ xs c left h. rw (digits-class r.strict c h) refl) (N (pointed ws)) (λ c rest h. rw (digits-class r.strict c h) refl)

  pub refuse_fraction : (b : Breach) (ws es rest : List ℕ) (i : ℕ) → IsDigits es
      → IsFirstMarked (fraction_breach r ws) b es i
      → outcome r (es ++ rest) (N (pointed ws)) ≡ refused (limit b) (drop i es ++ rest)
  refuse_fraction b ws = refuse_from r (λ ds. N (fraction ws ds)) (fraction_breach r ws)
      (λ xs c left h. rw (digits-class r.strict c h) refl) (N (pointed ws))
      (λ c rest h. rw (digits-class r.strict c h) refl) b

  -- ---- exponent digits, after the letter or after a sign

  abbrev E : List ℕ → List ℕ → ℕ → Sign → List ℕ → State
  E ws gs l s ds = N (exponent ws gs l s ds)

  pub read_unsigned_exponent : (ws gs : List ℕ) (l : ℕ) (es rest : List ℕ) → IsDigits es
      → AreUnmarked (exponent_breach r ws gs unsigned) es
      → outcome r (es ++ rest) (N (after_letter ws gs l)) ≡ outcome r rest (E ws gs l unsigned (onto es []))
  read_unsigned_exponent ws gs l = read_from r (E ws gs l unsigned) (exponent_breach r ws gs unsigned)
      (λ xs c left h. rw (digits-class r.strict c h) refl) (N (after_letter ws gs l))
      (λ c rest h. rw (digits-class r.strict c h) refl)

  pub refuse_unsigned_exponent : (b : Breach) (ws gs : List ℕ) (l : ℕ) (es rest : List ℕ) (i : ℕ) → IsDigits es
      → IsFirstMarked (exponent_breach r ws gs unsigned) b es i
      → outcome r (es ++ rest) (N (after_letter ws gs l)) ≡ refused (limit b) (drop i es ++ rest)
  refuse_unsigned_exponent b ws gs l = refuse_from r (E ws gs l unsigned) (exponent_breach r ws gs unsigned)
      (λ xs c left h. rw (digits-class r.strict c h) refl) (N (after_letter ws gs l))
      (λ c rest h. rw (digits-class r.strict c h) refl) b

  pub read_signed_exponent : (ws gs : List ℕ) (l : ℕ) (s : Sign) (es rest : List ℕ) → IsDigits es
      → AreUnmarked (exponent_breach r ws gs s) es
      → outcome r (es ++ rest) (N (signed_exponent ws gs l s)) ≡ outcome r rest (E ws gs l s (onto es []))
  read_signed_exponent ws gs l s = read_from r (E ws gs l s) (exponent_breach r ws gs s)
      (λ xs c left h. rw (digits-class r.strict c h) refl) (N (signed_exponent ws gs l s))
      (λ c rest h. rw (digits-class r.strict c h) refl)

  pub refuse_signed_exponent : (b : Breach) (ws gs : List ℕ) (l : ℕ) (s : Sign) (es rest : List ℕ) (i : ℕ)
      → IsDigits es → IsFirstMarked (exponent_breach r ws gs s) b es i
      → outcome r (es ++ rest) (N (signed_exponent ws gs l s)) ≡ refused (limit b) (drop i es ++ rest)
  refuse_signed_exponent b ws gs l s = refuse_from r (E ws gs l s) (exponent_breach r ws gs s)
      (λ xs c left h. rw (digits-class r.strict c h) refl) (N (signed_exponent ws gs l s))
      (λ c rest h. rw (digits-class r.strict c h) refl) b
