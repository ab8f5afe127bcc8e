-- The digits of a number and its exponent, by offsets of the text's bytes.
use Rattle.jzon_base.proofs.Common.{◌≡◌, ◌∙◌, ℕ, zero, suc, ◌+◌, ◌+ℤ◌, ◌-◌, ◌<◌, ◌≤◌, Bool, true, false, cond, ◌==◌, List, [], ◌∷◌, ◌++◌}
use Rattle.jzon_base.proofs.Common.{length, take, drop, get_or, refl, sym, ap, subst, arith, eqb-true, not, chars}
use Rattle.jzon_base.proofs.Common.{IsUtf8, is_ascii_digit, IsCharBoundary, All, take_while, prefix_len, ne_eqb}
use Rattle.jzon_base.proofs.Common.{nat_tests, drop-drop, length-drop, All-nil, All-cons, prefix_len-le-length}
use Rattle.jzon_base.proofs.Common.{IsUtf8-drop, IsCharBoundary-from_drop, IsCharBoundary-after_ascii}
use Rattle.std.proofs.lemmas.List.Folds.{length-prefix_len}
use Rattle.jzon_base.specs.Decimal.{signed}
use Rattle.jzon_base.specs.Digits.{IsDigit, digits_number, kept, own_power, number_read}
use Rattle.jzon_base.specs.LostDigits.{HoldsOfNone, IsFirst, is_out_of_range, leaves_range}
use Rattle.jzon_base.proofs.Numbers.LostDigits.{none_by, first_by}
use Rattle.jzon_tree.specs.Value as value
use Rattle.jzon.specs.Reading.{Reading}
use Rattle.jzon.specs.Grammar.{Sign, unsigned, plus, minus, AreDigits, IsDigits}
use Rattle.jzon.specs.Spelling.{inexact}
use Rattle.jzon.specs.Meaning as meaning
use Rattle.jzon.specs.Private.Classes.{after_letter, signed_exponent, plus_char, minus_char}
use Rattle.jzon.specs.Private.Machine.{Frames, numeral, after_value, Outcome, refused, outcome, from, fault_here, Reports}
use Rattle.jzon.specs.Fault.{limit}
use Rattle.jzon.specs.declared.stop.Stop.TheVariants.{Inexact}
use Rattle.jzon.proofs.Texts.FaultOffsets.{reports_inexact}
use Rattle.jzon.proofs.Texts.ClassesOfCharacters.{class-char}
use Rattle.jzon.proofs.Texts.AsciiRuns.{chars-ascii, IsUtf8-past_ascii, stops_run}
use Rattle.jzon.proofs.Texts.StepsByByte.{digit_is_ascii, next_is, byte_there}
use Rattle.jzon.proofs.Numbers.NumberLimits.{exponent_unmarked, exponent_marked}
use Rattle.jzon.proofs.Numbers.DigitRuns.{refuse_unsigned_exponent, refuse_signed_exponent}
use Rattle.jzon.proofs.Numbers.NumeralOutcomes.{NextFails, stop_after_letter, stop_signed, unsigned_to_end, signed_to_end}

-- ---- one byte

-- A test that only ASCII characters pass fails for the next character if it fails for the next byte.
pub next_fails : (test : ℕ → Bool) (bs : List ℕ) (i : ℕ) → ((c : ℕ) → test c ≡ true → c < 128) → IsUtf8 bs
    → IsCharBoundary bs i → (i < length bs → test (get_or bs i 0) ≡ false) → NextFails test (chars (drop i bs))
next_fails test bs i ascii u at h = over (chars (drop i bs)) refl
  where
    at_first : (v : Bool) (c : ℕ) (cs : List ℕ) → chars (drop i bs) ≡ c ∷ cs → test c ≡ v → v ≡ false
    at_first false c cs e t = refl
    at_first true c cs e t =
        let k = byte_there bs i c cs u at e (ascii c t) in sym t ∙ ap test (sym k.1) ∙ h k.0

    over : (cs : List ℕ) → chars (drop i bs) ≡ cs → NextFails test cs
    over [] e = tt
    over (c ∷ cs) e = at_first (test c) c cs e refl

-- ---- digits

pub digit_bounds : (c : ℕ) → is_ascii_digit c ≡ true → IsDigit c
digit_bounds c e = (grind (arith, nat_tests), grind (arith, nat_tests))

-- the text begins with the digits ds, and no digit follows them
record Begins (bs ds : List ℕ) : Type 0 where
  split : chars bs ≡ ds ++ chars (drop (length ds) bs)
  digits : AreDigits ds
  all : All IsDigit ds
  utf8 : IsUtf8 (drop (length ds) bs)
  from : (n : ℕ) → n ≤ length ds
      → IsUtf8 (drop n bs) × (chars (drop n bs) ≡ drop n ds ++ chars (drop (length ds) bs))

begins_none : (bs : List ℕ) → IsUtf8 bs → Begins bs []
begins_none bs u =
    record { split = refl; digits = tt; all = All-nil IsDigit; utf8 = u; from = none }
  where
    none : (n : ℕ) → n ≤ 0 → IsUtf8 (drop n bs) × (chars (drop n bs) ≡ drop n [] ++ chars bs)
    none zero le = (u, refl)
    none (suc n) le = absurd (omega arith)

begins_one : (b : ℕ) (bs : List ℕ) (v : Bool) (n : ℕ) → is_ascii_digit b ≡ v → IsUtf8 (b ∷ bs)
    → (IsUtf8 bs → Begins bs (take n bs)) → Begins (b ∷ bs) (take (cond v (1 + n) 0) (b ∷ bs))
begins_one b bs false n e u ih = begins_none (b ∷ bs) u
begins_one b bs true n e u ih =
    let k = ih (IsUtf8-past_ascii b bs u (digit_is_ascii b e)) in
    let m : suc n ≡ 1 + n = omega arith in
    subst (λ j. Begins (b ∷ bs) (take j (b ∷ bs))) m (record {
      split = chars-ascii b bs u (digit_is_ascii b e) ∙ ap (λ cs. b ∷ cs) k.split;
      digits = (e, k.digits);
      all = All-cons IsDigit b (take n bs) (digit_bounds b e) k.all;
      utf8 = k.utf8;
      from = later k;
    })
  where
    later : Begins bs (take n bs) → (j : ℕ) → j ≤ suc (length (take n bs)) → IsUtf8 (drop j (b ∷ bs))
        × (chars (drop j (b ∷ bs)) ≡ drop j (b ∷ take n bs) ++ chars (drop (length (take n bs)) bs))
    later k zero le = (u, chars-ascii b bs u (digit_is_ascii b e) ∙ ap (λ cs. b ∷ cs) k.split)
    later k (suc j) le = k.from j (omega arith)

begins : (bs : List ℕ) → IsUtf8 bs → Begins bs (take_while is_ascii_digit bs)
begins [] u = begins_none [] u
begins (b ∷ bs) u = begins_one b bs (is_ascii_digit b) (prefix_len is_ascii_digit bs) refl u (λ w. begins bs w)

-- The digits ds are at offset i of the text, and no digit follows them.
pub record AreDigitsAt (bs : List ℕ) (i : ℕ) (ds : List ℕ) : Type 0 where
  pub split : chars (drop i bs) ≡ ds ++ chars (drop (i + length ds) bs)
  pub digits : AreDigits ds
  pub all : All IsDigit ds
  pub boundary : IsCharBoundary bs (i + length ds)
  pub next : NextFails is_ascii_digit (chars (drop (i + length ds) bs))
  -- from the digit at position n on
  pub from : (n : ℕ) → n ≤ length ds → IsCharBoundary bs (i + n)
      × (chars (drop (i + n) bs) ≡ drop n ds ++ chars (drop (i + length ds) bs))

pub digits_stand : (bs : List ℕ) (i : ℕ) (ds : List ℕ) → IsUtf8 bs → IsCharBoundary bs i
    → ds ≡ take_while is_ascii_digit (drop i bs) → AreDigitsAt bs i ds
digits_stand bs i ds u at e =
    let k : Begins (drop i bs) ds = subst (Begins (drop i bs)) (sym e) (begins (drop i bs) (IsUtf8-drop bs i u at)) in
    let n : length ds ≡ prefix_len is_ascii_digit (drop i bs) = ap length e
    ∙ length-prefix_len is_ascii_digit (drop i bs) in
    let after_value : drop (length ds) (drop i bs) ≡ drop (i + length ds) bs = drop-drop (length ds) i bs in
    let at_end : IsCharBoundary bs (i + length ds) =
    IsCharBoundary-from_drop bs (i + length ds) (omega (
      arith,
      n,
      prefix_len-le-length is_ascii_digit (drop i bs),
      length-drop i bs,
      at.0,
    )) (subst IsUtf8 after_value k.utf8) in
    record {
      split = k.split ∙ ap (λ z. ds ++ chars z) after_value;
      digits = k.digits;
      all = k.all;
      boundary = at_end;
      next = next_fails is_ascii_digit bs (i + length ds) digit_is_ascii u at_end
          (stops_run is_ascii_digit bs i (length ds) n);
      from = λ j le.
          let after : drop j (drop i bs) ≡ drop (i + j) bs = drop-drop j i bs in (
            IsCharBoundary-from_drop bs (i + j) (omega (arith, at_end.0)) (subst IsUtf8 after (k.from j le).0),
            ap chars (sym after) ∙ (k.from j le).1 ∙ ap (λ z. drop j ds ++ chars z) after_value,
          );
    }

-- an exact reading stops at the digit at position n of these digits, which are at offset i
pub reports_lost : (bs : List ℕ) (i n : ℕ) (ds rest : List ℕ) (o : Outcome) → IsUtf8 bs
    → IsCharBoundary bs (i + n) × (chars (drop (i + n) bs) ≡ drop n ds ++ rest)
    → o ≡ refused (limit inexact) (drop n ds ++ rest) → Reports bs (Inexact (i + n)) o
reports_lost bs i n ds rest o u h e =
    reports_inexact bs (i + n) o u h.0 (e ∙ ap (λ cs. refused (limit inexact) cs) (sym h.1))

-- ---- exponents

-- After the letter of an exponent its digits xs are read up to offset e, with this sign. An exact reading stops at the
-- first that clamps the exponent.
pub record ReadsExponent (bs : List ℕ) (i : ℕ) (positive : Bool) (xs : List ℕ) (e : ℕ) : Type 0 where
  pub after : i ≤ e
  pub room : length xs ≤ e
  pub boundary : IsCharBoundary bs e
  pub all : All IsDigit xs
  pub number : 0 < length xs → (r : Reading) (fs : Frames) (negative : Bool) (ws ds : List ℕ) (l : ℕ)
      → (r.exact ≡ true → HoldsOfNone (leaves_range ws ds (signed positive)) xs)
      → from r bs (numeral fs negative (after_letter ws ds l)) i
      ≡ from r bs
      (after_value fs (value.number (number_read (not negative) ws ds (signed positive (digits_number xs))))) e
  pub missing : length xs ≡ 0 → (r : Reading) (fs : Frames) (negative : Bool) (ws ds : List ℕ) (l : ℕ)
      → from r bs (numeral fs negative (after_letter ws ds l)) i ≡ fault_here (chars (drop e bs))
  pub leaves : (n : ℕ) (r : Reading) (fs : Frames) (negative : Bool) (ws ds : List ℕ) (l : ℕ) → r.exact ≡ true
      → IsFirst (leaves_range ws ds (signed positive)) xs n
      → Reports bs (Inexact (e - length xs + n)) (from r bs (numeral fs negative (after_letter ws ds l)) i)

pub some_digits : (ds : List ℕ) → AreDigits ds → 0 < length ds → IsDigits ds
some_digits [] ok some = absurd (omega arith)
some_digits (d ∷ ds) ok some = ok

pub no_digits : (ds cs : List ℕ) → length ds ≡ 0 → ds ++ cs ≡ cs
no_digits [] cs none = refl
no_digits (d ∷ ds) cs none = absurd (omega arith)

pub reads_unsigned : (bs : List ℕ) (i : ℕ) (xs : List ℕ) → IsUtf8 bs → IsCharBoundary bs i
    → ((i < length bs) × (get_or bs i 0 ≡ 45) → ⊥) → ((i < length bs) × (get_or bs i 0 ≡ 43) → ⊥)
    → xs ≡ take_while is_ascii_digit (drop i bs) → ReadsExponent bs i true xs (i + length xs)
unfolding from
reads_unsigned bs i xs u at no_minus no_plus e =
    let k = digits_stand bs i xs u at e in
    record {
      after = omega arith;
      room = omega arith;
      boundary = k.boundary;
      all = k.all;
      number = λ some r fs negative ws ds l stays.
          ap (λ cs. outcome r cs (numeral fs negative (after_letter ws ds l))) k.split
          ∙ unsigned_to_end r fs negative ws ds l xs (chars (drop (i + length xs) bs)) (some_digits xs k.digits some)
          (exponent_unmarked r ws ds unsigned xs stays) k.next;
      missing = λ none r fs negative ws ds l.
          let here : chars (drop i bs) ≡ chars (drop (i + length xs) bs) = k.split
          ∙ no_digits xs (chars (drop (i + length xs) bs)) none in
          stop_after_letter r fs negative ws ds l (chars (drop i bs)) (subst (NextFails is_ascii_digit) (sym here) k.next)
          (next_fails (λ c. c == 43) bs i (λ c e. omega (arith, eqb-true c 43 e)) u at
          (λ lt. ne_eqb (get_or bs i 0) 43 (λ same. no_plus (lt, same))))
          (next_fails (λ c. c == 45) bs i (λ c e. omega (arith, eqb-true c 45 e)) u at
          (λ lt. ne_eqb (get_or bs i 0) 45 (λ same. no_minus (lt, same))))
          ∙ ap fault_here here;
      leaves = λ n r fs negative ws ds l exact out.
          let at : i + length xs - length xs + n ≡ i + n = omega arith in
          rw at (reports_lost bs i n xs (chars (drop (i + length xs) bs)) _ u (k.from n (omega (arith, out.0)))
          (ap (λ cs. outcome r cs (numeral fs negative (after_letter ws ds l))) k.split
          ∙ refuse_unsigned_exponent r fs negative inexact ws ds l xs (chars (drop (i + length xs) bs)) n
          (some_digits xs k.digits (omega (arith, out.0))) (exponent_marked r ws ds unsigned xs n exact out)));
    }

-- after a sign at offset i
reads_signed : (bs : List ℕ) (i : ℕ) (xs : List ℕ) (s : Sign) (b : ℕ) (positive : Bool) → IsUtf8 bs
    → IsCharBoundary bs i → i < length bs
    → get_or bs i 0 ≡ b → b < 128 → ((ws ds : List ℕ) (l : ℕ) (cs : List ℕ) (r : Reading) (fs : Frames)
    (negative : Bool)
    → outcome r (b ∷ cs) (numeral fs negative (after_letter ws ds l))
    ≡ outcome r cs (numeral fs negative (signed_exponent ws ds l s)))
    → ((n : ℕ) → signed positive n ≡ meaning.signed_exponent s n)
    → xs ≡ take_while is_ascii_digit (drop (i + 1) bs) → ReadsExponent bs i positive xs (i + 1 + length xs)
unfolding from
reads_signed bs i xs s b positive u at lt here ascii step sign e =
    let next_at = IsCharBoundary-after_ascii bs i u lt (omega arith) in
    let k = digits_stand bs (i + 1) xs u next_at e in
    let rest = chars (drop (i + 1 + length xs) bs) in
    let to_sign : (r : Reading) (fs : Frames) (negative : Bool) (ws ds : List ℕ) (l : ℕ)
    → outcome r (chars (drop i bs)) (numeral fs negative (after_letter ws ds l))
    ≡ outcome r (xs ++ rest) (numeral fs negative (signed_exponent ws ds l s)) =
    λ r fs negative ws ds l. ap (λ cs. outcome r cs (numeral fs negative (after_letter ws ds l)))
    (next_is bs i b u at lt here ascii ∙ ap (λ cs. b ∷ cs) k.split)
    ∙ step ws ds l (xs ++ rest) r fs negative in
    record {
      after = omega arith;
      room = omega arith;
      boundary = k.boundary;
      all = k.all;
      number = λ some r fs negative ws ds l stays. to_sign r fs negative ws ds l
          ∙ signed_to_end r fs negative ws ds l s xs rest (some_digits xs k.digits some)
          (exponent_unmarked r ws ds s xs (λ exact. none_by (leaves_range ws ds (signed positive))
          (leaves_range ws ds (meaning.signed_exponent s)) xs (length xs) (same ws ds) (stays exact))) k.next
          ∙ ap (λ z. outcome r rest (after_value fs (value.number (number_read (not negative) ws ds z))))
          (sym (sign (digits_number xs)));
      missing = λ none r fs negative ws ds l. to_sign r fs negative ws ds l
          ∙ ap (λ cs. outcome r cs (numeral fs negative (signed_exponent ws ds l s))) (no_digits xs rest none)
          ∙ stop_signed r fs negative ws ds l s rest k.next;
      leaves = λ n r fs negative ws ds l exact out.
          let at : i + 1 + length xs - length xs + n ≡ i + 1 + n = omega arith in
          rw at (reports_lost bs (i + 1) n xs rest _ u (k.from n (omega (arith, out.0)))
          (to_sign r fs negative ws ds l
          ∙ refuse_signed_exponent r fs negative inexact ws ds l s xs rest n
          (some_digits xs k.digits (omega (arith, out.0)))
          (exponent_marked r ws ds s xs n exact (first_by (leaves_range ws ds (signed positive))
          (leaves_range ws ds (meaning.signed_exponent s)) xs n (same ws ds) out))));
    }
  where
    same : (ws ds xs : List ℕ) → leaves_range ws ds (meaning.signed_exponent s) xs ≡ leaves_range ws ds (signed positive) xs
    same ws ds xs = ap (λ z. is_out_of_range (digits_number (kept (ws ++ ds))) (own_power ws ds +ℤ z)) (sym (sign (digits_number xs)))

pub reads_minus : (bs : List ℕ) (i : ℕ) (xs : List ℕ) → IsUtf8 bs → IsCharBoundary bs i → i < length bs
    → get_or bs i 0 ≡ 45
    → xs ≡ take_while is_ascii_digit (drop (i + 1) bs) → ReadsExponent bs i false xs (i + 1 + length xs)
reads_minus bs i xs u at lt here e =
    reads_signed bs i xs minus 45 false u at lt here (omega arith)
    (λ ws ds l cs r fs negative. rw (class-char r.strict minus_char) refl) (λ n. refl) e

pub reads_plus : (bs : List ℕ) (i : ℕ) (xs : List ℕ) → IsUtf8 bs → IsCharBoundary bs i → i < length bs
    → get_or bs i 0 ≡ 43
    → xs ≡ take_while is_ascii_digit (drop (i + 1) bs) → ReadsExponent bs i true xs (i + 1 + length xs)
reads_plus bs i xs u at lt here e =
    reads_signed bs i xs plus 43 true u at lt here (omega arith)
    (λ ws ds l cs r fs negative. rw (class-char r.strict plus_char) refl) (λ n. refl) e
