-- The digits of a number before its exponent, by offsets of the text's bytes: `reads_whole_alone` without a fraction,
-- `reads_whole_and_fraction` with one.
use Rattle.jzon_base.proofs.Common.{◌≡◌, ◌∙◌, inl, inr, cases_lt, ℕ, zero, suc, ◌+◌, ◌-◌, ◌<◌, ◌≤◌, Bool, true, false, not, if◌then◌else◌, ◌==◌, List, []}
use Rattle.jzon_base.proofs.Common.{◌∷◌, ◌++◌, append-nil, length, drop, get_or, pos, refl, sym, ap, subst, arith, eqb-true}
use Rattle.jzon_base.proofs.Common.{true≢false, length-append, chars, IsUtf8, IsTrue, is_ascii_digit, IsCharBoundary}
use Rattle.jzon_base.proofs.Common.{All, take_while, ne_eqb, nat_tests, All-nil, All-cons, IsCharBoundary-before_ascii}
use Rattle.jzon_base.proofs.Common.{IsCharBoundary-after_ascii}
use Rattle.jzon_base.specs.Digits.{IsDigit, kept_len, dropped, kept_fraction, number_read}
use Rattle.jzon_base.specs.DigitLimits.{IsFirstTooMany}
use Rattle.jzon_base.specs.LostDigits.{IsFirstLost}
use Rattle.jzon_base.proofs.Numbers.LostDigits.{lost_so}
use Rattle.jzon_base.proofs.Numbers.DigitPrefixes.{kept_len_is_longest, if-lt, if-ge}
use Rattle.jzon_tree.specs.Value as value
use Rattle.jzon.specs.Reading.{Reading, usual}
use Rattle.jzon.specs.Grammar.{AreDigits, IsDigits, is_exponent_letter}
use Rattle.jzon.specs.Spelling.{digit, inexact}
use Rattle.jzon.specs.Fault.{limit}
use Rattle.jzon.specs.Private.Classes.{pointed, after_letter}
use Rattle.jzon.specs.declared.stop.Stop.TheVariants.{Limit, Inexact}
use Rattle.jzon.specs.Private.Machine.{Frames, numeral, after_value, Outcome, refused, outcome, from, Reports}
use Rattle.jzon.specs.Private.Numerals.{after_first, LeadsTo, MissesDigit, HasTooMany}
use Rattle.jzon.specs.Private.Numerals.{LosesDigit, digit_offset}
use Rattle.jzon.proofs.Texts.FaultOffsets.{reports_limit}
use Rattle.jzon.proofs.Numbers.NumberLimits.{LosesNoneUpTo, up_to, fraction_marked, fraction_lost}
use Rattle.jzon.proofs.Numbers.DigitRuns.{refuse_fraction}
use Rattle.jzon.proofs.Numbers.NumeralOutcomes.{NextFails, ReadsWhole, reads_zero, reads_digits, whole_to_point}
use Rattle.jzon.proofs.Numbers.NumeralOutcomes.{whole_to_letter, whole_to_end, fraction_to_letter, fraction_to_end}
use Rattle.jzon.proofs.Numbers.NumeralOutcomes.{stop_pointed, first_kept}
use Rattle.jzon.proofs.Texts.StepsByByte.{digit_is_ascii, next_is}
use Rattle.jzon.proofs.Texts.ClassesOfCharacters.{digit_below}
use Rattle.jzon.proofs.Numbers.NumeralOffsets.{next_fails, AreDigitsAt, digits_stand, some_digits, no_digits}
use Rattle.jzon.proofs.Numbers.NumeralOffsets.{reports_lost}

-- ---- whole digits

-- all digits that are there, of which d is the first
all_digits : (r : Reading) (d : ℕ) (ws cs rest : List ℕ) → (d == 48) ≡ false → IsTrue (is_ascii_digit d) → AreDigits ws
    → NextFails is_ascii_digit rest
    → d ∷ cs ≡ ws ++ rest → ReadsWhole r d ws cs rest
all_digits r d [] cs rest some is_digit ok stop e =
    let no_more : is_ascii_digit d ≡ false = subst (NextFails is_ascii_digit) (sym e) stop in
    absurd (true≢false (sym is_digit ∙ no_more))
all_digits r d (w ∷ es) cs rest some is_digit ok stop e =
    let first : d ≡ w = cc in
    let others : cs ≡ es ++ rest = cc in
    rw (others, ← first) (reads_digits r d es rest some (digit_below d is_digit) ok.1 stop)

pub record WholeStands (bs : List ℕ) (i : ℕ) (ws : List ℕ) : Type 0 where
  pub all : All IsDigit ws
  pub boundary : IsCharBoundary bs (i + length ws)
  pub reads : (r : Reading) → ReadsWhole r (get_or bs i 0) ws (chars (drop (i + 1) bs))
      (chars (drop (i + length ws) bs))
  -- from the digit at position n on, if there is more than one
  pub from : (n : ℕ) → n ≤ length ws → 1 < length ws → IsCharBoundary bs (i + n)
      × (chars (drop (i + n) bs) ≡ drop n ws ++ chars (drop (i + length ws) bs))

pub whole_stands : (bs : List ℕ) (i : ℕ) (ws : List ℕ) → IsUtf8 bs → i < length bs
    → IsTrue (is_ascii_digit (get_or bs i 0))
    → ws ≡ (if get_or bs i 0 == 48 then 48 ∷ [] else take_while is_ascii_digit (drop i bs)) → WholeStands bs i ws
whole_stands bs i ws u lt is_digit e = by_first (get_or bs i 0 == 48) refl e
  where
    here : IsCharBoundary bs i
    here = IsCharBoundary-before_ascii bs i lt (digit_is_ascii (get_or bs i 0) is_digit)

    after : IsCharBoundary bs (i + 1)
    after = IsCharBoundary-after_ascii bs i u lt (digit_is_ascii (get_or bs i 0) is_digit)

    by_first : (t : Bool) → (get_or bs i 0 == 48) ≡ t → ws ≡
        (if t then 48 ∷ [] else take_while is_ascii_digit (drop i bs)) → WholeStands bs i ws
    by_first true is_zero e = subst (WholeStands bs i) (sym e) (record {
      all = All-cons IsDigit 48 [] (omega arith, omega arith) (All-nil IsDigit);
      boundary = after;
      reads = λ r. reads_zero r (get_or bs i 0) (chars (drop (i + 1) bs)) is_zero;
      from = λ n le more. absurd (omega arith);
    })
    by_first false other e =
        let k = digits_stand bs i ws u here e in
        let first : get_or bs i 0 ∷ chars (drop (i + 1) bs) ≡ ws ++ chars (drop (i + length ws) bs) =
        sym (next_is bs i (get_or bs i 0) u here lt refl (digit_is_ascii (get_or bs i 0) is_digit)) ∙ k.split in
        record {
          all = k.all;
          boundary = k.boundary;
          reads = λ r. all_digits r (get_or bs i 0) ws (chars (drop (i + 1) bs)) (chars (drop (i + length ws) bs)) other
              is_digit k.digits k.next first;
          from = λ n le more. k.from n le;
        }

-- ---- whole digits and fraction digits

-- After the first digit, at offset i, the digits ws and ds are read up to offset e, where a digit may be missing.
pub record ReadsMagnitude (bs : List ℕ) (i : ℕ) (ws ds : List ℕ) (e : ℕ) (missing : Bool) : Type 0 where
  pub after : i < e
  pub boundary : IsCharBoundary bs e
  pub all_whole : All IsDigit ws
  pub all_fraction : All IsDigit ds
  pub to_letter : missing ≡ false → e < length bs → IsTrue (is_exponent_letter (get_or bs e 0))
      → LeadsTo ws ds bs i (e + 1) (λ fs negative. numeral fs negative (after_letter ws ds (get_or bs e 0)))
  pub to_end : missing ≡ false → (e < length bs → is_exponent_letter (get_or bs e 0) ≡ false)
      → LeadsTo ws ds bs i e (λ fs negative. after_value fs (value.number (number_read (not negative) ws ds (pos 0))))
  pub stops : missing ≡ true → MissesDigit ws ds bs i e
  pub refuses : (n : ℕ) → IsFirstTooMany ws ds n → HasTooMany ws ds n bs i
  pub loses : (n : ℕ) → IsFirstLost ws ds n → LosesDigit ws ds n bs i

-- this error reports a fault at the digit at position n of these digits, which are at offset i
reports_digit : (bs : List ℕ) (i n : ℕ) (ds rest : List ℕ) (o : Outcome) → IsUtf8 bs
    → IsCharBoundary bs (i + n) × (chars (drop (i + n) bs) ≡ drop n ds ++ rest)
    → o ≡ refused (limit digit) (drop n ds ++ rest) → Reports bs (Limit (i + n)) o
reports_digit bs i n ds rest o u h e =
    reports_limit bs (i + n) o u h.0 (inr (e ∙ ap (λ cs. refused (limit digit) cs) (sym h.1)))

pub letter_is_ascii : (c : ℕ) → is_exponent_letter c ≡ true → c < 128
letter_is_ascii c h = grind (arith, nat_tests)

keeps_no_fraction : (ws : List ℕ) → kept_fraction ws [] ≡ 0
keeps_no_fraction ws = omega (arith, (kept_len_is_longest (ws ++ [])).within, length-append ws [])

offset_before : (start whole i : ℕ) → i < whole → digit_offset start whole i ≡ start + i
offset_before start whole i h = if-lt i whole (start + i) (start + i + 1) h

offset_after : (start whole i : ℕ) → whole ≤ i → digit_offset start whole i ≡ start + i + 1
offset_after start whole i h = if-ge i whole (start + i) (start + i + 1) h

whole_too_many : (bs : List ℕ) (i : ℕ) (ws ds : List ℕ) → IsUtf8 bs → WholeStands bs i ws → 32768 ≤ dropped ws ds
    → HasTooMany ws ds (kept_len (ws ++ ds) + 32767) bs i
unfolding from
whole_too_many bs i ws ds u w many r fs negative none = rw (offset_before i (length ws) (kept_len (ws ++ ds) + 32767) (omega arith))
    (reports_digit bs i (kept_len (ws ++ ds) + 32767) ws (chars (drop (i + length ws) bs)) _ u
    (w.from (kept_len (ws ++ ds) + 32767) (omega arith) (omega arith)) ((w.reads r).refuses fs negative ds many none))

-- a lost digit before the point
lost_before_limit : (ws ds : List ℕ) (n : ℕ) → IsFirstLost ws ds n → n < length ws → n < kept_len (ws ++ ds) + 32767
lost_before_limit ws ds n h within =
    let past : kept_len (ws ++ ds) + 32767 ≤ n → ⊥ = λ le.
    omega (arith, h.1 (kept_len (ws ++ ds) + 32767) (inl (omega (arith, le, within), refl))) in omega (arith, past)

kept_above_zero : (bs : List ℕ) (i : ℕ) (ws ds : List ℕ) (n : ℕ) → WholeStands bs i ws → IsFirstLost ws ds n
    → n < length ws → 1 < length ws
kept_above_zero bs i ws ds n w h within =
    let one : length ws ≤ 1 → ⊥ = λ le.
    not_first ws n le within (w.all 0 0 (omega arith)) (lost_so (ws ++ ds) n h.0.0 h.0.1).0 in omega (arith, one)
  where
    not_first : (ws : List ℕ) (n : ℕ) → length ws ≤ 1 → n < length ws → IsDigit (get_or ws 0 0)
        → kept_len (ws ++ ds) ≤ n → ⊥
    not_first [] n le within bounds past = absurd (omega arith)
    not_first (d ∷ rest) zero le within bounds past =
        absurd (omega (arith, past, first_kept d (rest ++ ds) (omega (arith, bounds))))
    not_first (d ∷ rest) (suc n) le within bounds past = absurd (omega arith)

whole_lost_at : (bs : List ℕ) (i : ℕ) (ws ds : List ℕ) (n : ℕ) → IsUtf8 bs → WholeStands bs i ws
    → IsFirstLost ws ds n → n < length ws → (r : Reading) (fs : Frames) (negative : Bool) → r.exact ≡ true
    → Reports bs (Inexact (i + n)) (after_first r fs negative bs i)
unfolding from
whole_lost_at bs i ws ds n u w h within r fs negative exact =
    reports_lost bs i n ws (chars (drop (i + length ws) bs)) _ u
    (w.from n (omega arith) (kept_above_zero bs i ws ds n w h within))
    ((w.reads r).loses fs negative ds n exact h.0 within (lost_before_limit ws ds n h within))

pub reads_whole_alone : (bs : List ℕ) (i : ℕ) (ws : List ℕ) → IsUtf8 bs → WholeStands bs i ws
    → ((i + length ws < length bs) × (get_or bs (i + length ws) 0 ≡ 46) → ⊥)
    → ReadsMagnitude bs i ws [] (i + length ws) false
unfolding from
reads_whole_alone bs i ws u w no_point =
    let e = i + length ws in record {
      after = omega (arith, (w.reads usual).some);
      boundary = w.boundary;
      all_whole = w.all;
      all_fraction = All-nil IsDigit;
      to_letter = λ has lt letter r fs negative few. whole_to_letter r fs negative (get_or bs i 0) ws
          (chars (drop (i + 1) bs)) (get_or bs e 0) (chars (drop (e + 1) bs))
          (rw (next_is bs e (get_or bs e 0) u w.boundary lt refl (letter_is_ascii _ letter)) at (w.reads r))
          (omega (arith, few.0)) (up_to r ws [] few.1) letter;
      to_end = λ has no_letter r fs negative few. whole_to_end r fs negative (get_or bs i 0) ws
          (chars (drop (i + 1) bs)) (chars (drop e bs)) (w.reads r) (omega (arith, few.0))
          (up_to r ws [] few.1)
          (next_fails (λ c. c == 46) bs e (λ c h. omega (arith, eqb-true c 46 h)) u w.boundary
          (λ lt. ne_eqb (get_or bs e 0) 46 (λ same. no_point (lt, same))))
          (next_fails is_exponent_letter bs e letter_is_ascii u w.boundary no_letter);
      stops = λ lacks r fs negative few. absurd (true≢false (sym lacks));
      refuses = too_many;
      loses = λ n h r fs negative exact.
          let within : n < length ws = omega (arith, h.0.0, ap length (append-nil ws)) in
          rw (offset_before i (length ws) n within) (whole_lost_at bs i ws [] n u w h within r fs negative exact);
    }
  where
    too_many : (n : ℕ) → IsFirstTooMany ws [] n → HasTooMany ws [] n bs i
    too_many n (inl h) = rw (h.1) (whole_too_many bs i ws [] u w h.0)
    too_many n (inr h) = absurd (omega (arith, h.0, keeps_no_fraction ws))

-- With a point at offset p: what is left is the text after it.
to_point : (bs : List ℕ) (i p : ℕ) (ws ds : List ℕ) → IsUtf8 bs → WholeStands bs i ws → p ≡ i + length ws
    → p < length bs → get_or bs p 0 ≡ 46
    → dropped ws ds < 32768 → (r : Reading) (fs : Frames) (negative : Bool)
    → LosesNoneUpTo r (ws ++ ds) (length ws)
    → after_first r fs negative bs i ≡ from r bs (numeral fs negative (pointed ws)) (p + 1)
unfolding from
to_point bs i p ws ds u w at lt is_point few r fs negative none =
    let reads = rw (← at) at (w.reads r) in
    let boundary = rw (← at) at w.boundary in
    whole_to_point r fs negative (get_or bs i 0) ws (chars (drop (i + 1) bs)) (chars (drop (p + 1) bs)) ds
    (rw (next_is bs p 46 u boundary lt is_point (omega arith)) at reads) few none

fraction_too_many : (bs : List ℕ) (j : ℕ) (ws ds : List ℕ) → IsUtf8 bs → AreDigitsAt bs j ds
    → 32769 ≤ kept_fraction ws ds → (r : Reading) (fs : Frames) (negative : Bool)
    → Reports bs (Limit (j + 32768)) (from r bs (numeral fs negative (pointed ws)) j)
unfolding from
fraction_too_many bs j ws ds u k many r fs negative =
    let some : 32768 < length ds = omega (arith, (kept_len_is_longest (ws ++ ds)).within, length-append ws ds) in
    reports_digit bs j 32768 ds (chars (drop (j + length ds) bs)) _ u (k.from 32768 (omega arith))
    (ap (λ cs. outcome r cs (numeral fs negative (pointed ws))) k.split
    ∙ refuse_fraction r fs negative digit ws ds (chars (drop (j + length ds) bs)) 32768
    (some_digits ds k.digits (omega arith)) (fraction_marked r ws ds many))

fraction_lost_at : (bs : List ℕ) (j : ℕ) (ws ds : List ℕ) (n : ℕ) → IsUtf8 bs → AreDigitsAt bs j ds
    → IsFirstLost ws ds (length ws + n) → kept_fraction ws ds < 32769 → (r : Reading) (fs : Frames) (negative : Bool)
    → r.exact ≡ true → Reports bs (Inexact (j + n)) (from r bs (numeral fs negative (pointed ws)) j)
unfolding from
fraction_lost_at bs j ws ds n u k h few r fs negative exact =
    let within : n < length ds = omega (arith, h.0.0, length-append ws ds) in
    reports_lost bs j n ds (chars (drop (j + length ds) bs)) _ u (k.from n (omega arith))
    (ap (λ cs. outcome r cs (numeral fs negative (pointed ws))) k.split
    ∙ refuse_fraction r fs negative inexact ws ds (chars (drop (j + length ds) bs)) n
    (some_digits ds k.digits (omega arith)) (fraction_lost r ws ds n exact h.0 few))

-- The digits after it are ds, and none is missing if ds isn't empty.
pub reads_whole_and_fraction : (bs : List ℕ) (i p : ℕ) (ws ds : List ℕ) → IsUtf8 bs → WholeStands bs i ws
    → p ≡ i + length ws → p < length bs → get_or bs p 0 ≡ 46 → ds ≡ take_while is_ascii_digit (drop (p + 1) bs)
    → ReadsMagnitude bs i ws ds (p + 1 + length ds) (length ds == 0)
unfolding from
reads_whole_and_fraction bs i p ws ds u w at lt is_point same =
    let k : AreDigitsAt bs (p + 1) ds = digits_stand bs (p + 1) ds u
    (IsCharBoundary-after_ascii bs p u lt (omega (arith, is_point))) same in
    let e : ℕ = p + 1 + length ds in
    let there : (length ds == 0) ≡ false → IsDigits ds =
    λ has. some_digits ds k.digits (not_none (length ds) has) in
    let begins : dropped ws ds < 32768 → (r : Reading) (fs : Frames) (negative : Bool)
    → LosesNoneUpTo r (ws ++ ds) (length ws)
    → after_first r fs negative bs i ≡ outcome r (ds ++ chars (drop e bs)) (numeral fs negative (pointed ws)) =
    λ few r fs negative none. to_point bs i p ws ds u w at lt is_point few r fs negative none
    ∙ ap (λ cs. outcome r cs (numeral fs negative (pointed ws))) k.split in
    record {
      after = omega (arith, at);
      boundary = k.boundary;
      all_whole = w.all;
      all_fraction = k.all;
      to_letter = λ has below letter r fs negative few. begins (omega (arith, few.0)) r fs negative
          (up_to r ws ds few.1)
          ∙ ap (λ cs. outcome r (ds ++ cs) (numeral fs negative (pointed ws)))
          (next_is bs e (get_or bs e 0) u k.boundary below refl (letter_is_ascii (get_or bs e 0) letter))
          ∙ fraction_to_letter r fs negative (get_or bs e 0) ws ds (chars (drop (e + 1) bs)) (there has)
          (omega (arith, few.0)) few.1 letter;
      to_end = λ has no_letter r fs negative few. begins (omega (arith, few.0)) r fs negative
          (up_to r ws ds few.1)
          ∙ fraction_to_end r fs negative ws ds (chars (drop e bs)) (there has) (omega (arith, few.0)) few.1 k.next
          (next_fails is_exponent_letter bs e letter_is_ascii u k.boundary no_letter);
      stops = λ lacks r fs negative few. begins (omega (arith, few.0)) r fs negative
          (up_to r ws ds few.1)
          ∙ ap (λ cs. outcome r cs (numeral fs negative (pointed ws)))
          (no_digits ds (chars (drop e bs)) (eqb-true (length ds) 0 lacks))
          ∙ stop_pointed r fs negative ws (chars (drop e bs)) k.next;
      refuses = too_many k;
      loses = loses k;
    }
  where
    not_none : (n : ℕ) → (n == 0) ≡ false → 0 < n
    not_none n h = grind (arith, nat_tests)

    too_many : AreDigitsAt bs (p + 1) ds → (n : ℕ) → IsFirstTooMany ws ds n → HasTooMany ws ds n bs i
    too_many k n (inl h) = rw (h.1) (whole_too_many bs i ws ds u w h.0)
    too_many k n (inr h) = λ r fs negative none.
        let offset : digit_offset i (length ws) n ≡ p + 1 + 32768 =
        offset_after i (length ws) n (omega (arith, h.1)) ∙ omega (arith, at, h.1) in
        rw offset (subst (Reports bs (Limit (p + 1 + 32768)))
        (sym (to_point bs i p ws ds u w at lt is_point (omega (arith, h.0))
        r fs negative (λ e j below. none e j (omega (arith, h.1)))))
        (fraction_too_many bs (p + 1) ws ds u k h.0 r fs negative))

    loses : AreDigitsAt bs (p + 1) ds → (n : ℕ) → IsFirstLost ws ds n → LosesDigit ws ds n bs i
    loses k n h r fs negative exact =
        elim (cases_lt n (length ws)) [
          | inl before ↦ rw (offset_before i (length ws) n before) (whole_lost_at bs i ws ds n u w h before r fs negative exact)
          | inr after ↦
              (let m : ℕ = n - length ws in
              let here : length ws + m ≡ n = omega arith in
              let offset : digit_offset i (length ws) n ≡ p + 1 + m =
              offset_after i (length ws) n after ∙ omega (arith, at) in
              let few : kept_fraction ws ds < 32769 = few_kept_before h after in
              rw offset (subst (Reports bs (Inexact (p + 1 + m)))
              (sym (to_point bs i p ws ds u w at lt is_point (few_dropped_before h after) r fs negative
              (λ e j below. h.0.2 j (omega arith))))
              (fraction_lost_at bs (p + 1) ws ds m u k (rw here h) few r fs negative exact)))
        ]
      where
        few_kept_before : IsFirstLost ws ds n → length ws ≤ n → kept_fraction ws ds < 32769
        few_kept_before h after =
            let no : 32769 ≤ kept_fraction ws ds → ⊥ = λ many.
            omega (arith, (lost_so (ws ++ ds) n h.0.0 h.0.1).0, h.1 (length ws + 32768) (inr (many, refl))) in omega (arith, no)

        few_dropped_before : IsFirstLost ws ds n → length ws ≤ n → dropped ws ds < 32768
        few_dropped_before h after =
            let no : 32768 ≤ dropped ws ds → ⊥ = λ many.
            omega (arith, h.1 (kept_len (ws ++ ds) + 32767) (inl (many, refl))) in omega (arith, no)
