-- Sound, for numbers (`number_on`, `number_ends`): if the automaton goes to a value from inside a number, the rest of
-- the text begins with the rest of a number, `InNumeral`, and continues with what is allowed after it. Shown for one
-- more character, given the statement for the text after it.
use Rattle.jzon_base.proofs.Common.{◌≡◌, ℕ, List, [], ◌∷◌, ◌++◌, Bool, true, false, not, ◌==◌, Option, None, refl}
use Rattle.jzon_base.proofs.Common.{sym, subst, ap, eqb-true, IsTrue, is_ascii_digit, and_from}
use Rattle.jzon_tree.specs.Value.{Value}
use Rattle.jzon_tree.specs.Value as value
use Rattle.jzon.specs.Reading.{Reading}
use Rattle.jzon.specs.Grammar.{Sign, unsigned, plus, minus, Exponent, Numeral, AreDigits, IsDigits, IsWhole, IsExponent}
use Rattle.jzon.specs.Grammar.{IsNumeral}
use Rattle.jzon.specs.Spelling.{onto}
use Rattle.jzon.specs.Meaning.{number_of}
use Rattle.jzon.specs.Private.Classes.{Class, digits, minus_char, plus_char, point, letter_e, class_of, NumberState}
use Rattle.jzon.specs.Private.Classes.{after_minus, zero_read, whole, pointed, fraction, after_letter, signed_exponent}
use Rattle.jzon.specs.Private.Classes.{exponent, after_first_digit}
use Rattle.jzon.specs.Private.Machine.{Frames, numeral, number_value, exponent_of, move_after_value, meant_at}
use Rattle.jzon.specs.Private.Machine.{move_after_whole, move_numeral, last_numeral, meant}
use Rattle.jzon.proofs.Texts.ClassesOfCharacters.{class-says}
use Rattle.jzon.proofs.Texts.Runs.{On, Goes}
use Rattle.jzon.specs.TreeCharacters.{fraction_chars, sign_chars, exponent_chars, numeral_chars}

-- Beh V t: the text t is what may follow the value V.
module _ (r : Reading) (v : Value) (fs : Frames) (Beh : Value → List ℕ → Type 0) where
  abbrev B : Bool → List ℕ → List ℕ → Option Exponent → List ℕ → Type 0
  B negative ws ds x t = Beh (number_value negative ws ds x) t

  -- ---- what is left of a number

  -- after the whole digits
  abbrev TailLeft : Bool → List ℕ → List ℕ → Type 0
  TailLeft negative ws t = (ds : List ℕ) × (x : Option Exponent) × (u : List ℕ) × AreDigits ds × IsExponent x
      × (t ≡ fraction_chars ds (exponent_chars x u)) × B negative ws ds x u

  -- after the first digit
  abbrev pub MagnitudeLeft : Bool → ℕ → List ℕ → Type 0
  MagnitudeLeft negative c t = (es : List ℕ) × (u : List ℕ) × IsWhole (c ∷ es) × (t ≡ es ++ u)
      × TailLeft negative (c ∷ es) u

  -- inside a number; after a minus it is negative
  abbrev pub InNumeral : Bool → NumberState → List ℕ → Type 0
  InNumeral negative after_minus t = (c : ℕ) × (u : List ℕ) × (t ≡ c ∷ u) × MagnitudeLeft true c u
  InNumeral negative zero_read t = TailLeft negative (48 ∷ []) t
  InNumeral negative (whole ds) t = (es : List ℕ) × (u : List ℕ) × AreDigits es × (t ≡ es ++ u)
      × TailLeft negative (onto ds es) u
  InNumeral negative (pointed ws) t = (es : List ℕ) × (x : Option Exponent) × (u : List ℕ) × IsDigits es × IsExponent x
      × (t ≡ es ++ exponent_chars x u) × B negative ws es x u
  InNumeral negative (fraction ws ds) t = (es : List ℕ) × (x : Option Exponent) × (u : List ℕ) × AreDigits es
      × IsExponent x × (t ≡ es ++ exponent_chars x u) × B negative ws (onto ds es) x u
  InNumeral negative (after_letter ws ds l) t = (s : Sign) × (es : List ℕ) × (u : List ℕ) × IsDigits es
      × (t ≡ sign_chars s (es ++ u)) × B negative ws ds (exponent_of l s es) u
  InNumeral negative (signed_exponent ws ds l s) t = (es : List ℕ) × (u : List ℕ) × IsDigits es × (t ≡ es ++ u)
      × B negative ws ds (exponent_of l s es) u
  InNumeral negative (exponent ws ds l s xs) t = (es : List ℕ) × (u : List ℕ) × AreDigits es × (t ≡ es ++ u)
      × B negative ws ds (exponent_of l s (onto xs es)) u

  -- ---- the first digit

  pub magnitude_left : (is_zero negative : Bool) (c : ℕ) (t : List ℕ) → IsTrue (is_ascii_digit c) → c == 48 ≡ is_zero
      → InNumeral negative (after_first_digit is_zero c) t → MagnitudeLeft negative c t
  magnitude_left true negative c t ok e h =
      ([], t, ok, refl, subst (λ z. TailLeft negative (z ∷ []) t) (sym (eqb-true c 48 e)) h)
  magnitude_left false negative c t ok e ([], u, es_ok, f, h) = ([], u, ok, f, h)
  magnitude_left false negative c t ok e (x ∷ es, u, es_ok, f, h) =
      (x ∷ es, u, (and_from _ _ ok (ap not e), es_ok), f, h)

  -- ---- the end of the text

  pub number_ends : (ends : (x : Value) → meant_at fs x ≡ meant v → Beh x []) (x : NumberState) (negative : Bool)
      → last_numeral x fs negative ≡ meant v → InNumeral negative x []
  number_ends ends zero_read negative h = ([], None, [], tt, tt, refl, ends _ h)
  number_ends ends (whole ds) negative h = ([], [], tt, refl, ([], None, [], tt, tt, refl, ends _ h))
  number_ends ends (fraction ws ds) negative h = ([], None, [], tt, tt, refl, ends _ h)
  number_ends ends (exponent ws ds l s xs) negative h = ([], [], tt, refl, ends _ h)
  number_ends ends _ negative h = absurd (cc)

  -- ---- one character, of this class

  module _ (c : ℕ) (cs : List ℕ)
      (ih : (b : Bool) (y : NumberState) → Goes r v cs (numeral fs b y) → InNumeral b y cs) where
    abbrev C : Class → Bool → NumberState → Type 0
    C k negative x = On (move_numeral r x k fs negative c) (λ p. Goes r v cs p)

    abbrev After : Class → Type 0
    After k = (x : Value) → On (move_after_value k fs x) (λ p. Goes r v cs p) → Beh x (c ∷ cs)

    exponent_on : (k : Class) (negative : Bool) (ws ds : List ℕ) (l : ℕ) (s : Sign) (xs : List ℕ)
        → class_of r.strict c ≡ k → After k → C k negative (exponent ws ds l s xs)
        → InNumeral negative (exponent ws ds l s xs) (c ∷ cs)
    exponent_on digits negative ws ds l s xs e b h =
        let g = ih negative (exponent ws ds l s (c ∷ xs)) h in
        (c ∷ g.0, g.1, (class-says r.strict c e, g.2), ap (λ z. c ∷ z) g.3, g.4)
    exponent_on _ negative ws ds l s xs e b h =
        ([], c ∷ cs, tt, refl, b (number_value negative ws ds (exponent_of l s (onto xs []))) h)

    signed_on : (k : Class) (negative : Bool) (ws ds : List ℕ) (l : ℕ) (s : Sign) → class_of r.strict c ≡ k
        → C k negative (signed_exponent ws ds l s) → InNumeral negative (signed_exponent ws ds l s) (c ∷ cs)
    signed_on digits negative ws ds l s e h =
        let g = ih negative (exponent ws ds l s (c ∷ [])) h in
        (c ∷ g.0, g.1, (class-says r.strict c e, g.2), ap (λ z. c ∷ z) g.3, g.4)
    signed_on _ negative ws ds l s e h = absurd h

    letter_on : (k : Class) (negative : Bool) (ws ds : List ℕ) (l : ℕ) → class_of r.strict c ≡ k
        → C k negative (after_letter ws ds l) → InNumeral negative (after_letter ws ds l) (c ∷ cs)
    letter_on digits negative ws ds l e h =
        let g = ih negative (exponent ws ds l unsigned (c ∷ [])) h in
        (unsigned, c ∷ g.0, g.1, (class-says r.strict c e, g.2), ap (λ z. c ∷ z) g.3, g.4)
    letter_on plus_char negative ws ds l e h =
        let g = ih negative (signed_exponent ws ds l plus) h in
        (plus, g.0, g.1, g.2, rw (class-says r.strict c e) (ap (λ z. 43 ∷ z) g.3), g.4)
    letter_on minus_char negative ws ds l e h =
        let g = ih negative (signed_exponent ws ds l minus) h in
        (minus, g.0, g.1, g.2, rw (class-says r.strict c e) (ap (λ z. 45 ∷ z) g.3), g.4)
    letter_on _ negative ws ds l e h = absurd h

    -- the letter of an exponent
    exponent_part : (negative : Bool) (ws ds : List ℕ) → class_of r.strict c ≡ letter_e
        → Goes r v cs (numeral fs negative (after_letter ws ds c))
        → (x : Option Exponent) × (u : List ℕ) × IsExponent x × (c ∷ cs ≡ exponent_chars x u) × B negative ws ds x u
    exponent_part negative ws ds e h =
        let g = ih negative (after_letter ws ds c) h in
        (exponent_of c g.0 g.1, g.2, (class-says r.strict c e, g.3), ap (λ z. c ∷ z) g.4, g.5)

    fraction_on : (k : Class) (negative : Bool) (ws ds : List ℕ) → class_of r.strict c ≡ k → After k
        → C k negative (fraction ws ds) → InNumeral negative (fraction ws ds) (c ∷ cs)
    fraction_on digits negative ws ds e b h =
        let g = ih negative (fraction ws (c ∷ ds)) h in
        (c ∷ g.0, g.1, g.2, (class-says r.strict c e, g.3), g.4, ap (λ z. c ∷ z) g.5, g.6)
    fraction_on letter_e negative ws ds e b h =
        let g = exponent_part negative ws (onto ds []) e h in ([], g.0, g.1, tt, g.2, g.3, g.4)
    fraction_on _ negative ws ds e b h =
        ([], None, c ∷ cs, tt, tt, refl, b (number_value negative ws (onto ds []) None) h)

    point_on : (k : Class) (negative : Bool) (ws : List ℕ) → class_of r.strict c ≡ k → C k negative (pointed ws)
        → InNumeral negative (pointed ws) (c ∷ cs)
    point_on digits negative ws e h =
        let g = ih negative (fraction ws (c ∷ [])) h in
        (c ∷ g.0, g.1, g.2, (class-says r.strict c e, g.3), g.4, ap (λ z. c ∷ z) g.5, g.6)
    point_on _ negative ws e h = absurd h

    fraction_part : (negative : Bool) (ws : List ℕ) → c ≡ 46 → InNumeral negative (pointed ws) cs
        → TailLeft negative ws (c ∷ cs)
    fraction_part negative ws e ([], x, u, ok, x_ok, f, h) = absurd ok
    fraction_part negative ws e (d ∷ ds, x, u, ok, x_ok, f, h) =
        (d ∷ ds, x, u, ok, x_ok, rw e (ap (λ z. 46 ∷ z) f), h)

    tail_on : (k : Class) (negative : Bool) (ws : List ℕ) → class_of r.strict c ≡ k → After k
        → On (move_after_whole k fs negative ws c) (λ p. Goes r v cs p) → TailLeft negative ws (c ∷ cs)
    tail_on point negative ws e b h =
        fraction_part negative ws (class-says r.strict c e) (ih negative (pointed ws) h)
    tail_on letter_e negative ws e b h =
        let g = exponent_part negative ws [] e h in ([], g.0, g.1, tt, g.2, g.3, g.4)
    tail_on _ negative ws e b h = ([], None, c ∷ cs, tt, tt, refl, b (number_value negative ws [] None) h)

    whole_on : (k : Class) (negative : Bool) (ds : List ℕ) → class_of r.strict c ≡ k → After k
        → C k negative (whole ds) → InNumeral negative (whole ds) (c ∷ cs)
    whole_on digits negative ds e b h =
        let g = ih negative (whole (c ∷ ds)) h in
        (c ∷ g.0, g.1, (class-says r.strict c e, g.2), ap (λ z. c ∷ z) g.3, g.4)
    whole_on k negative ds e b h = ([], c ∷ cs, tt, refl, tail_on k negative (onto ds []) e b h)

    minus_on : (k : Class) (negative : Bool) → class_of r.strict c ≡ k → C k negative after_minus
        → InNumeral negative after_minus (c ∷ cs)
    minus_on digits negative e h =
        let ok = class-says r.strict c e in
        (c, cs, refl, magnitude_left (c == 48) true c cs ok refl (ih true (after_first_digit (c == 48) c) h))
    minus_on _ negative e h = absurd h

    pub number_on : (x : NumberState) (k : Class) (negative : Bool) → class_of r.strict c ≡ k → After k
        → C k negative x → InNumeral negative x (c ∷ cs)
    number_on after_minus k negative e b h = minus_on k negative e h
    number_on zero_read k negative e b h = tail_on k negative (48 ∷ []) e b h
    number_on (whole ds) k negative e b h = whole_on k negative ds e b h
    number_on (pointed ws) k negative e b h = point_on k negative ws e h
    number_on (fraction ws ds) k negative e b h = fraction_on k negative ws ds e b h
    number_on (after_letter ws ds l) k negative e b h = letter_on k negative ws ds l e h
    number_on (signed_exponent ws ds l s) k negative e b h = signed_on k negative ws ds l s e h
    number_on (exponent ws ds l s xs) k negative e b h = exponent_on k negative ws ds l s xs e b h

  -- ---- a whole number

  abbrev pub NumberLeft : List ℕ → Type 0
  NumberLeft t = (n : Numeral) × (u : List ℕ) × IsNumeral n × (t ≡ numeral_chars n.negative n u)
      × Beh (value.number (number_of n)) u

  pub digit_sound : (c : ℕ) (cs : List ℕ) → class_of r.strict c ≡ digits
      → InNumeral false (after_first_digit (c == 48) c) cs
      → NumberLeft (c ∷ cs)
  digit_sound c cs e h =
      let (es, u, ok, f, (ds, x, u', ds_ok, x_ok, g, k)) =
      magnitude_left (c == 48) false c cs (class-says r.strict c e) refl h in
      (record { negative = false; whole = c ∷ es; fraction = ds; exponent = x }, u', (ok, ds_ok, x_ok), (cc), k)

  pub minus_sound : (t : List ℕ) → InNumeral true after_minus t → NumberLeft (45 ∷ t)
  minus_sound t (c, u, e, (es, u1, ok, f, (ds, x, u', ds_ok, x_ok, g, k))) =
      (record { negative = true; whole = c ∷ es; fraction = ds; exponent = x }, u', (ok, ds_ok, x_ok), (cc), k)
