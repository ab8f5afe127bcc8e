-- The outcome of the rest of the text after each part of a number: another part, the end, or a missing digit.
use Rattle.jzon_base.proofs.Common.{◌≡◌, suc, ◌∙◌, ℕ, ◌+◌, ◌<◌, ◌≤◌, List, [], ◌∷◌, ◌++◌, length, drop, Bool, true, false}
use Rattle.jzon_base.proofs.Common.{◌==◌, zero, Option, None, refl, sym, ap, arith, true≢false, append-nil, IsTrue, ⊤}
use Rattle.jzon_base.proofs.Common.{is_ascii_digit, eqb-false}
use Rattle.jzon_base.specs.Digits.{kept_len, dropped, kept_fraction}
use Rattle.jzon_base.specs.LostDigits.{IsFirst, loses_last}
use Rattle.jzon_base.proofs.Numbers.LostDigits.{lost_so}
use Rattle.jzon_base.proofs.Numbers.DigitPrefixes.{kept_len_is_longest}
use Rattle.jzon.specs.Reading.{Reading}
use Rattle.jzon.specs.Grammar.{Sign, unsigned, AreDigits, IsDigits, is_exponent_letter, Exponent}
use Rattle.jzon.specs.Spelling.{digit, inexact, onto, exponent_breach}
use Rattle.jzon.specs.Fault.{limit}
use Rattle.jzon.specs.Private.Classes.{Class, digits, minus_char, plus_char, point, letter_e, class_of, NumberState}
use Rattle.jzon.specs.Private.Classes.{zero_read, whole, pointed, fraction, after_letter, signed_exponent, exponent}
use Rattle.jzon.specs.Private.Classes.{after_first_digit}
use Rattle.jzon.specs.Private.Machine.{Frames, State, numeral, after_value, Move, bad, move, move_after_value, Outcome}
use Rattle.jzon.specs.Private.Machine.{move_after_whole, move_numeral, number_value, exponent_of, last, meant_at}
use Rattle.jzon.specs.Private.Machine.{refused, outcome_on, outcome, fault_here}
use Rattle.jzon.proofs.Texts.ClassesOfCharacters.{letter_e-class, class-char, class-says, no_digit}
use Rattle.jzon.proofs.Numbers.NumberLimits.{onto-onto, in_order, LosesNoneIn, LosesNoneUpTo, AreUnmarked}
use Rattle.jzon.proofs.Numbers.NumberLimits.{whole_unmarked, whole_marked, whole_lost, fraction_unmarked}
use Rattle.jzon.proofs.Numbers.DigitRuns.{read_whole, refuse_whole, read_fraction, read_unsigned_exponent}
use Rattle.jzon.proofs.Numbers.DigitRuns.{read_signed_exponent}

-- the next character, if there is one, fails the test
abbrev pub NextFails : (ℕ → Bool) → List ℕ → Type 0
NextFails test [] = ⊤
NextFails test (c ∷ cs) = test c ≡ false

-- ---- characters that aren't in a class

no_letter : (s : Bool) (c : ℕ) → is_exponent_letter c ≡ false → class_of s c ≡ letter_e → ⊥
no_letter s c fails e = true≢false (sym (class-says s c e) ∙ fails)

same_order : (ds : List ℕ) → onto (onto ds []) [] ≡ ds
same_order ds = onto-onto ds [] [] ∙ append-nil ds

module _ (r : Reading) (fs : Frames) (negative : Bool) where
  abbrev N : NumberState → State
  N x = numeral fs negative x

  -- after a number of these parts
  abbrev V : List ℕ → List ℕ → Option Exponent → State
  V ws ds x = after_value fs (number_value negative ws ds x)

  by_move : (c : ℕ) (cs : List ℕ) (m n : Move) → m ≡ n
      → outcome_on m (λ x. outcome r cs x) (c ∷ cs) ≡ outcome_on n (λ x. outcome r cs x) (c ∷ cs)
  by_move c cs m n e = ap (λ z. outcome_on z (λ x. outcome r cs x) (c ∷ cs)) e

  -- ---- a missing digit

  pointed_stops : (k : Class) (ws : List ℕ) (c : ℕ) → (k ≡ digits → ⊥) → move_numeral r (pointed ws) k fs negative c ≡ bad
  pointed_stops digits ws c fails = absurd (fails refl)
  pointed_stops k ws c fails = refl

  pub stop_pointed : (ws cs : List ℕ) → NextFails is_ascii_digit cs → outcome r cs (N (pointed ws)) ≡ fault_here cs
  stop_pointed ws [] h = refl
  stop_pointed ws (c ∷ cs) h = by_move c cs _ bad (pointed_stops _ ws c (no_digit r.strict c h))

  after_letter_stops : (k : Class) (ws ds : List ℕ) (l c : ℕ) → (k ≡ digits → ⊥) → (k ≡ plus_char → ⊥)
      → (k ≡ minus_char → ⊥) → move_numeral r (after_letter ws ds l) k fs negative c ≡ bad
  after_letter_stops digits ws ds l c fails no_cross no_dash = absurd (fails refl)
  after_letter_stops plus_char ws ds l c fails no_cross no_dash = absurd (no_cross refl)
  after_letter_stops minus_char ws ds l c fails no_cross no_dash = absurd (no_dash refl)
  after_letter_stops k ws ds l c fails no_cross no_dash = refl

  pub stop_after_letter : (ws ds : List ℕ) (l : ℕ) (cs : List ℕ) → NextFails is_ascii_digit cs
      → NextFails (λ c. c == 43) cs → NextFails (λ c. c == 45) cs → outcome r cs (N (after_letter ws ds l)) ≡ fault_here cs
  stop_after_letter ws ds l [] h p m = refl
  stop_after_letter ws ds l (c ∷ cs) h p m = by_move c cs _ bad (after_letter_stops _ ws ds l c (no_digit r.strict c h)
      (λ e. eqb-false c 43 p (class-says r.strict c e)) (λ e. eqb-false c 45 m (class-says r.strict c e)))

  signed_stops : (k : Class) (ws ds : List ℕ) (l : ℕ) (s : Sign) (c : ℕ) → (k ≡ digits → ⊥)
      → move_numeral r (signed_exponent ws ds l s) k fs negative c ≡ bad
  signed_stops digits ws ds l s c fails = absurd (fails refl)
  signed_stops k ws ds l s c fails = refl

  pub stop_signed : (ws ds : List ℕ) (l : ℕ) (s : Sign) (cs : List ℕ) → NextFails is_ascii_digit cs
      → outcome r cs (N (signed_exponent ws ds l s)) ≡ fault_here cs
  stop_signed ws ds l s [] h = refl
  stop_signed ws ds l s (c ∷ cs) h = by_move c cs _ bad (signed_stops _ ws ds l s c (no_digit r.strict c h))

  -- ---- whole digits

  -- In this state the whole digits ws are read; a character that passes the test would be one more.
  record IsAfterWhole (x : NumberState) (ws : List ℕ) (more : ℕ → Bool) : Type 0 where
    moves : (c : ℕ) → more c ≡ false → move r (N x) c 0 ≡ move_after_whole (class_of r.strict c) fs negative ws c
    ends : last (N x) ≡ meant_at fs (number_value negative ws [] None)

  whole_moves : (k : Class) (ds : List ℕ) (c : ℕ) → (k ≡ digits → ⊥)
      → move_numeral r (whole ds) k fs negative c ≡ move_after_whole k fs negative (onto ds []) c
  whole_moves digits ds c fails = absurd (fails refl)
  whole_moves k ds c fails = refl

  whole_is_after : (d : ℕ) (es : List ℕ) → IsAfterWhole (whole (onto es (d ∷ []))) (d ∷ es) is_ascii_digit
  whole_is_after d es = record {
    moves = λ c fails. whole_moves (class_of r.strict c) (onto es (d ∷ [])) c (no_digit r.strict c fails)
        ∙ ap (λ ws. move_after_whole (class_of r.strict c) fs negative ws c) (in_order d es);
    ends = ap (λ ws. meant_at fs (number_value negative ws [] None)) (in_order d es);
  }

-- After the first digit d the whole digits are read: ws are all of them, cs is the text after d, and rest is the text
-- after them. Digits gs of a fraction may follow.
pub record ReadsWhole (r : Reading) (d : ℕ) (ws cs rest : List ℕ) : Type 0 where
  pub some : 0 < length ws
  place : NumberState
  more : ℕ → Bool
  is_after : (fs : Frames) (negative : Bool) → IsAfterWhole r fs negative place ws more
  next : NextFails more rest
  reads : (fs : Frames) (negative : Bool) (gs : List ℕ) → dropped ws gs < 32768
      → LosesNoneUpTo r (ws ++ gs) (length ws)
      → outcome r cs (numeral fs negative (after_first_digit (d == 48) d)) ≡ outcome r rest (numeral fs negative place)
  pub refuses : (fs : Frames) (negative : Bool) (gs : List ℕ) → 32768 ≤ dropped ws gs
      → LosesNoneUpTo r (ws ++ gs) (kept_len (ws ++ gs) + 32767)
      → outcome r cs (numeral fs negative (after_first_digit (d == 48) d))
      ≡ refused (limit digit) (drop (kept_len (ws ++ gs) + 32767) ws ++ rest)
  pub loses : (fs : Frames) (negative : Bool) (gs : List ℕ) (p : ℕ) → r.exact ≡ true
      → IsFirst loses_last (ws ++ gs) p → p < length ws → p < kept_len (ws ++ gs) + 32767
      → outcome r cs (numeral fs negative (after_first_digit (d == 48) d))
      ≡ refused (limit inexact) (drop p ws ++ rest)

pub reads_zero : (r : Reading) (d : ℕ) (cs : List ℕ) → (d == 48) ≡ true → ReadsWhole r d (48 ∷ []) cs cs
reads_zero r d cs is_zero = record {
  some = omega arith;
  place = zero_read;
  more = λ c. false;
  is_after = λ fs negative. record { moves = λ c fails. refl; ends = refl };
  next = nothing cs;
  reads = λ fs negative gs few none. ap (λ t. outcome r cs (numeral fs negative (after_first_digit t d))) is_zero;
  refuses = λ fs negative gs many none. absurd (omega arith);
  loses = λ fs negative gs p exact lost within few. absurd (not_first gs p lost within);
}
  where
    nothing : (cs : List ℕ) → NextFails (λ c. false) cs
    nothing [] = tt
    nothing (c ∷ cs) = refl

    not_first : (gs : List ℕ) (p : ℕ) → IsFirst loses_last (48 ∷ gs) p → p < 1 → ⊥
    not_first gs zero lost within = (lost_so (48 ∷ gs) 0 lost.0 lost.1).1 refl
    not_first gs (suc p) lost within = absurd (omega arith)

-- the first digit is kept
pub first_kept : (d : ℕ) (ds : List ℕ) → d < 58 → 1 ≤ kept_len (d ∷ ds)
first_kept d ds below =
    let none : kept_len (d ∷ ds) < 1 → ⊥ = λ h. omega (arith, (kept_len_is_longest (d ∷ ds)).longest 1 h (omega arith)) in
    omega (arith, none)

pub reads_digits : (r : Reading) (d : ℕ) (es rest : List ℕ) → (d == 48) ≡ false → d < 58 → AreDigits es
    → NextFails is_ascii_digit rest → ReadsWhole r d (d ∷ es) (es ++ rest) rest
reads_digits r d es rest some below ok stop = record {
  some = omega arith;
  place = whole (onto es (d ∷ []));
  more = is_ascii_digit;
  is_after = λ fs negative. whole_is_after r fs negative d es;
  next = stop;
  reads = λ fs negative gs few none. begins fs negative
      ∙ read_whole r fs negative (d ∷ []) es rest ok (whole_unmarked r (d ∷ es) gs few none);
  refuses = λ fs negative gs many none.
      let n : suc (kept_len (d ∷ es ++ gs) + 32766) ≡ kept_len (d ∷ es ++ gs) + 32767 = omega arith in
      begins fs negative
      ∙ refuse_whole r fs negative digit (d ∷ []) es rest (kept_len (d ∷ es ++ gs) + 32767)
      (kept_len (d ∷ es ++ gs) + 32766) ok (whole_marked r (d ∷ es) gs many none) (omega arith)
      ∙ ap (λ k. refused (limit digit) (drop k (d ∷ es) ++ rest)) n;
  loses = λ fs negative gs p exact lost within few. begins fs negative
      ∙ lost_at fs negative gs p exact lost within few;
}
  where
    begins : (fs : Frames) (negative : Bool)
        → outcome r (es ++ rest) (numeral fs negative (after_first_digit (d == 48) d))
        ≡ outcome r (es ++ rest) (numeral fs negative (whole (d ∷ [])))
    begins fs negative = ap (λ t. outcome r (es ++ rest) (numeral fs negative (after_first_digit t d))) some

    lost_at : (fs : Frames) (negative : Bool) (gs : List ℕ) (p : ℕ) → r.exact ≡ true
        → IsFirst loses_last (d ∷ es ++ gs) p → p < length (d ∷ es) → p < kept_len (d ∷ es ++ gs) + 32767
        → outcome r (es ++ rest) (numeral fs negative (whole (d ∷ [])))
        ≡ refused (limit inexact) (drop p (d ∷ es) ++ rest)
    lost_at fs negative gs zero exact lost within few =
        absurd (omega (arith, (lost_so (d ∷ es ++ gs) 0 lost.0 lost.1).0, first_kept d (es ++ gs) below))
    lost_at fs negative gs (suc i) exact lost within few =
        refuse_whole r fs negative inexact (d ∷ []) es rest (suc i) i ok
        (whole_lost r (d ∷ es) gs (suc i) exact lost within few) (omega arith)

module _ (r : Reading) (fs : Frames) (negative : Bool) where
  module _ (d : ℕ) (ws cs : List ℕ) where
    -- after the first digit
    abbrev first : Outcome
    first = outcome r cs (N r fs negative (after_first_digit (d == 48) d))

    pub whole_to_point : (rest gs : List ℕ) → ReadsWhole r d ws cs (46 ∷ rest) → dropped ws gs < 32768
        → LosesNoneUpTo r (ws ++ gs) (length ws) → first ≡ outcome r rest (N r fs negative (pointed ws))
    whole_to_point rest gs h few none =
        h.reads fs negative gs few none ∙ by_move r fs negative 46 rest _ _ ((h.is_after fs negative).moves 46 h.next
        ∙ ap (λ k. move_after_whole k fs negative ws 46) (class-char r.strict point))

    pub whole_to_letter : (l : ℕ) (rest : List ℕ) → ReadsWhole r d ws cs (l ∷ rest) → dropped ws [] < 32768
        → LosesNoneUpTo r (ws ++ []) (length ws) → IsTrue (is_exponent_letter l) → first ≡ outcome r rest (N r fs negative (after_letter ws [] l))
    whole_to_letter l rest h few none letter =
        h.reads fs negative [] few none ∙ by_move r fs negative l rest _ _ ((h.is_after fs negative).moves l h.next
        ∙ ap (λ k. move_after_whole k fs negative ws l) (letter_e-class r.strict l letter))

  whole_ends : (k : Class) (ws : List ℕ) (c : ℕ) → (k ≡ point → ⊥) → (k ≡ letter_e → ⊥)
      → move_after_whole k fs negative ws c ≡ move_after_value k fs (number_value negative ws [] None)
  whole_ends point ws c no_dot no_e = absurd (no_dot refl)
  whole_ends letter_e ws c no_dot no_e = absurd (no_e refl)
  whole_ends k ws c no_dot no_e = refl

  after_whole : (x : NumberState) (ws : List ℕ) (more : ℕ → Bool) (cs : List ℕ) → IsAfterWhole r fs negative x ws more
      → NextFails more cs → NextFails (λ c. c == 46) cs → NextFails is_exponent_letter cs
      → outcome r cs (N r fs negative x) ≡ outcome r cs (V r fs negative ws [] None)
  after_whole x ws more [] h stop no_dot no_e = h.ends
  after_whole x ws more (c ∷ cs) h stop no_dot no_e =
      by_move r fs negative c cs _ _ (h.moves c stop ∙ whole_ends (class_of r.strict c) ws c
      (λ e. eqb-false c 46 no_dot (class-says r.strict c e)) (no_letter r.strict c no_e))

  pub whole_to_end : (d : ℕ) (ws cs rest : List ℕ) → ReadsWhole r d ws cs rest → dropped ws [] < 32768
      → LosesNoneUpTo r (ws ++ []) (length ws) → NextFails (λ c. c == 46) rest → NextFails is_exponent_letter rest
      → first d ws cs ≡ outcome r rest (V r fs negative ws [] None)
  whole_to_end d ws cs rest h few none no_dot no_e =
      h.reads fs negative [] few none ∙ after_whole h.place ws h.more rest (h.is_after fs negative) h.next no_dot no_e

  -- ---- fraction digits

  fraction_ends : (k : Class) (ws ds : List ℕ) (c : ℕ) → (k ≡ digits → ⊥) → (k ≡ letter_e → ⊥)
      → move_numeral r (fraction ws ds) k fs negative c
      ≡ move_after_value k fs (number_value negative ws (onto ds []) None)
  fraction_ends digits ws ds c no_more no_e = absurd (no_more refl)
  fraction_ends letter_e ws ds c no_more no_e = absurd (no_e refl)
  fraction_ends k ws ds c no_more no_e = refl

  after_fraction : (ws ds cs : List ℕ) → NextFails is_ascii_digit cs → NextFails is_exponent_letter cs
      → outcome r cs (N r fs negative (fraction ws ds)) ≡ outcome r cs (V r fs negative ws (onto ds []) None)
  after_fraction ws ds [] stop no_e = refl
  after_fraction ws ds (c ∷ cs) stop no_e = by_move r fs negative c cs _ _
      (fraction_ends _ ws ds c (no_digit r.strict c stop) (no_letter r.strict c no_e))

  pub fraction_to_end : (ws ds rest : List ℕ) → IsDigits ds → kept_fraction ws ds < 32769
      → LosesNoneIn r (ws ++ ds) → NextFails is_ascii_digit rest → NextFails is_exponent_letter rest
      → outcome r (ds ++ rest) (N r fs negative (pointed ws)) ≡ outcome r rest (V r fs negative ws ds None)
  fraction_to_end ws ds rest ok few none stop no_e =
      read_fraction r fs negative ws ds rest ok (fraction_unmarked r ws ds few none) ∙ after_fraction ws (onto ds []) rest stop no_e
      ∙ ap (λ xs. outcome r rest (V r fs negative ws xs None)) (same_order ds)

  pub fraction_to_letter : (l : ℕ) (ws ds rest : List ℕ) → IsDigits ds → kept_fraction ws ds < 32769
      → LosesNoneIn r (ws ++ ds) → IsTrue (is_exponent_letter l)
      → outcome r (ds ++ l ∷ rest) (N r fs negative (pointed ws)) ≡ outcome r rest (N r fs negative (after_letter ws ds l))
  fraction_to_letter l ws ds rest ok few none letter =
      read_fraction r fs negative ws ds (l ∷ rest) ok (fraction_unmarked r ws ds few none)
      ∙ by_move r fs negative l rest _ _
      (ap (λ k. move_numeral r (fraction ws (onto ds [])) k fs negative l) (letter_e-class r.strict l letter))
      ∙ ap (λ xs. outcome r rest (N r fs negative (after_letter ws xs l))) (same_order ds)

  -- ---- exponent digits

  exponent_ends : (k : Class) (ws ds : List ℕ) (l : ℕ) (s : Sign) (xs : List ℕ) (c : ℕ) → (k ≡ digits → ⊥)
      → move_numeral r (exponent ws ds l s xs) k fs negative c
      ≡ move_after_value k fs (number_value negative ws ds (exponent_of l s (onto xs [])))
  exponent_ends digits ws ds l s xs c no_more = absurd (no_more refl)
  exponent_ends k ws ds l s xs c no_more = refl

  after_exponent : (ws ds : List ℕ) (l : ℕ) (s : Sign) (xs cs : List ℕ) → NextFails is_ascii_digit cs
      → outcome r cs (N r fs negative (exponent ws ds l s xs))
      ≡ outcome r cs (V r fs negative ws ds (exponent_of l s (onto xs [])))
  after_exponent ws ds l s xs [] stop = refl
  after_exponent ws ds l s xs (c ∷ cs) stop =
      by_move r fs negative c cs _ _ (exponent_ends _ ws ds l s xs c (no_digit r.strict c stop))

  collected_to_end : (ws ds : List ℕ) (l : ℕ) (s : Sign) (xs rest : List ℕ) → NextFails is_ascii_digit rest
      → outcome r rest (N r fs negative (exponent ws ds l s (onto xs [])))
      ≡ outcome r rest (V r fs negative ws ds (exponent_of l s xs))
  collected_to_end ws ds l s xs rest stop =
      after_exponent ws ds l s (onto xs []) rest stop
      ∙ ap (λ ys. outcome r rest (V r fs negative ws ds (exponent_of l s ys))) (same_order xs)

  pub unsigned_to_end : (ws ds : List ℕ) (l : ℕ) (xs rest : List ℕ) → IsDigits xs
      → AreUnmarked (exponent_breach r ws ds unsigned) xs → NextFails is_ascii_digit rest
      → outcome r (xs ++ rest) (N r fs negative (after_letter ws ds l))
      ≡ outcome r rest (V r fs negative ws ds (exponent_of l unsigned xs))
  unsigned_to_end ws ds l xs rest ok clear stop =
      read_unsigned_exponent r fs negative ws ds l xs rest ok clear ∙ collected_to_end ws ds l unsigned xs rest stop

  pub signed_to_end : (ws ds : List ℕ) (l : ℕ) (s : Sign) (xs rest : List ℕ) → IsDigits xs
      → AreUnmarked (exponent_breach r ws ds s) xs → NextFails is_ascii_digit rest
      → outcome r (xs ++ rest) (N r fs negative (signed_exponent ws ds l s))
      ≡ outcome r rest (V r fs negative ws ds (exponent_of l s xs))
  signed_to_end ws ds l s xs rest ok clear stop =
      read_signed_exponent r fs negative ws ds l s xs rest ok clear ∙ collected_to_end ws ds l s xs rest stop
