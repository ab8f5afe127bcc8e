-- Closing: from each state some text leads to an end (`closes`). The text is computed by `closer` from the state alone:
-- the missing digit or letter, a quote, a value, and the brackets that close the open containers. It may break limits.
use Rattle.jzon_base.proofs.Common.{◌≡◌, ℕ, zero, suc, List, [], ◌∷◌, ◌++◌, codes, refl, Bool, true, false, Option, ◌&&◌}
use Rattle.std.proofs.Common.{eq-eqb}
use Rattle.jzon_base.specs.PairList.{put}
use Rattle.jzon_tree.specs.Value as value
use Rattle.jzon_tree.specs.Value.{Value, values_of, pairs_of, kind_of}
use Rattle.jzon.specs.Reading.{Reading}
use Rattle.jzon.specs.Grammar.{is_surrogate, is_high, is_low, unsigned}
use Rattle.jzon.specs.Spelling.{Breach}
use Rattle.jzon.specs.Private.Classes.{NumberState, after_minus, zero_read, whole, pointed, fraction, after_letter}
use Rattle.jzon.specs.Private.Classes.{signed_exponent, exponent, digits, closes_array, closes_object, quote, colon}
use Rattle.jzon.specs.Private.Classes.{begins_null}
use Rattle.jzon.specs.Private.Machine.{Frames, no_frames, array_frame, object_frame, Role, as_value, as_key}
use Rattle.jzon.specs.Private.Machine.{StringState, between, after_backslash, code, second, second_backslash, second_code, State}
use Rattle.jzon.specs.Private.Machine.{before, before_key, word, numeral, string, after_key, after_value, add_hex}
use Rattle.jzon.specs.Private.Machine.{EntriesSoFar, go, last_numeral, meant_at, move_numeral, move_after_value, move_pair}
use Rattle.jzon.specs.Private.Machine.{after_unit, past_letter}
use Rattle.jzon.proofs.Texts.ClassesOfCharacters.{class-char, digits-class}
use Rattle.jzon.proofs.Texts.Runs.{On, Goes}

abbrev pub brackets : Frames → List ℕ
brackets no_frames = []
brackets (array_frame fs vs) = 93 ∷ brackets fs
brackets (object_frame fs es k) = 125 ∷ brackets fs

abbrev pub digit_closer : NumberState → List ℕ → List ℕ
digit_closer after_minus t = 48 ∷ t
digit_closer (pointed ws) t = 48 ∷ t
digit_closer (after_letter ws ds l) t = 48 ∷ t
digit_closer (signed_exponent ws ds l s) t = 48 ∷ t
digit_closer _ t = t

-- n zeros
abbrev pub zeros : ℕ → List ℕ → List ℕ
zeros zero t = t
zeros (suc n) t = 48 ∷ zeros n t

-- the code unit with n more zeros
abbrev pub with_zeros : ℕ → ℕ → ℕ
with_zeros zero u = u
with_zeros (suc n) u = with_zeros n (add_hex u 48)

abbrev pub surrogate_closer : Bool → List ℕ → List ℕ
surrogate_closer true t = codes "\\u0000" ++ t
surrogate_closer false t = t

abbrev pub item_closer : StringState → List ℕ → List ℕ
item_closer between t = t
item_closer after_backslash t = 110 ∷ t
item_closer (code n u) t = zeros (suc n) (surrogate_closer (is_surrogate (with_zeros (suc n) u)) t)
item_closer (second u) t = codes "\\u0000" ++ t
item_closer (second_backslash u) t = codes "u0000" ++ t
item_closer (second_code u n v) t = zeros (suc n) t

abbrev pub role_closer : Role → List ℕ
role_closer (as_value fs) = brackets fs
role_closer (as_key fs es opened) = codes ":null}" ++ brackets fs

abbrev pub closer : State → List ℕ
closer (before fs) = codes "null" ++ brackets fs
closer (before_key fs es) = codes "\"\":null}" ++ brackets fs
closer (word fs v l ls) = l ∷ (ls ++ brackets fs)
closer (numeral fs negative x) = digit_closer x (brackets fs)
closer (string role bs x) = item_closer x (34 ∷ role_closer role)
closer (after_key fs es k) = codes ":null}" ++ brackets fs
closer (after_value fs v) = brackets fs

module _ (r : Reading) where
  -- the outcome of the text is some value
  abbrev Ends : List ℕ → State → Type 0
  Ends t p = (v : Value) × Goes r v t p

  ends_after : (fs : Frames) (x : Value) → Ends (brackets fs) (after_value fs x)
  ends_after no_frames x = (x, refl)
  ends_after (array_frame fs vs) x =
      let h = ends_after fs (value.array (values_of (vs ++ x ∷ []))) in
      (h.0, rw (class-char r.strict closes_array) h.1)
  ends_after (object_frame fs es k) x =
      let h = ends_after fs (value.object (pairs_of (put k x es))) in (h.0, rw (class-char r.strict closes_object) h.1)

  ends_after_key : (fs : Frames) (es : EntriesSoFar) (k : List ℕ) → Ends (codes ":null}" ++ brackets fs) (after_key fs es k)
  ends_after_key fs es k =
      let h = ends_after fs (value.object (pairs_of (put k value.null es))) in (
        h.0,
        rw (class-char r.strict colon) (rw (class-char r.strict begins_null)
            (rw (class-char r.strict closes_object) h.1)),
      )

  -- ---- numbers

  -- a state where a number may end, with this value
  ends_number : (fs : Frames) (negative : Bool) (x : NumberState) (v : Value)
      → last_numeral x fs negative ≡ meant_at fs v
      → move_numeral r x closes_array fs negative 93 ≡ move_after_value closes_array fs v
      → move_numeral r x closes_object fs negative 125 ≡ move_after_value closes_object fs v
      → Ends (brackets fs) (numeral fs negative x)
  ends_number no_frames negative x v e f g = (v, e)
  ends_number (array_frame fs vs) negative x v e f g =
      let h = ends_after fs (value.array (values_of (vs ++ v ∷ []))) in
      (h.0, rw (class-char r.strict closes_array) (rw f h.1))
  ends_number (object_frame fs es k) negative x v e f g =
      let h = ends_after fs (value.object (pairs_of (put k v es))) in
      (h.0, rw (class-char r.strict closes_object) (rw g h.1))

  -- a digit is missing
  ends_zero : (fs : Frames) (negative : Bool) (x : NumberState) (m : Option Breach) (p : State)
      → move_numeral r x digits fs negative 48 ≡ go m p → Ends (brackets fs) p
      → Ends (48 ∷ brackets fs) (numeral fs negative x)
  ends_zero fs negative x m p e h = (h.0, rw (digits-class r.strict 48 refl) (rw e h.1))

  ends_numeral : (fs : Frames) (negative : Bool) (x : NumberState)
      → Ends (digit_closer x (brackets fs)) (numeral fs negative x)
  ends_numeral fs negative after_minus =
      ends_zero fs negative after_minus _ (numeral fs true zero_read) refl
      (ends_number fs true zero_read _ refl refl refl)
  ends_numeral fs negative zero_read = ends_number fs negative zero_read _ refl refl refl
  ends_numeral fs negative (whole ds) = ends_number fs negative (whole ds) _ refl refl refl
  ends_numeral fs negative (pointed ws) =
      (let x : NumberState = fraction ws (48 ∷ []) in
      let h = ends_number fs negative x _ refl refl refl in (h.0, rw (digits-class r.strict 48 refl) h.1))
  ends_numeral fs negative (fraction ws ds) = ends_number fs negative (fraction ws ds) _ refl refl refl
  ends_numeral fs negative (after_letter ws ds l) =
      let x : NumberState = exponent ws ds l unsigned (48 ∷ []) in
      ends_zero fs negative (after_letter ws ds l) _ (numeral fs negative x) refl (ends_number fs negative x _ refl refl refl)
  ends_numeral fs negative (signed_exponent ws ds l s) =
      let x : NumberState = exponent ws ds l s (48 ∷ []) in
      ends_zero fs negative (signed_exponent ws ds l s) _ (numeral fs negative x) refl
      (ends_number fs negative x _ refl refl refl)
  ends_numeral fs negative (exponent ws ds l s xs) = ends_number fs negative (exponent ws ds l s xs) _ refl refl refl

  -- ---- strings

  ends_between : (role : Role) (bs : List ℕ) → Ends (34 ∷ role_closer role) (string role bs between)
  ends_between (as_value fs) bs = ends_after fs (value.text (kind_of bs) bs)
  ends_between (as_key fs es opened) bs = ends_after_key fs es bs

  ends_paired : (t : Bool) (role : Role) (bs : List ℕ) (w u : ℕ)
      → (v : Value) × On (move_pair t role bs w u) (λ p. Goes r v (34 ∷ role_closer role) p)
  ends_paired true role bs w u = ends_between role _
  ends_paired false role bs w u = ends_between role bs

  ends_second_code : (role : Role) (bs : List ℕ) (w n u : ℕ)
      → Ends (zeros (suc n) (34 ∷ role_closer role)) (string role bs (second_code w n u))
  ends_second_code role bs w zero u = ends_paired (is_high w && is_low (add_hex u 48)) role bs w (add_hex u 48)
  ends_second_code role bs w (suc n) u = ends_second_code role bs w n (add_hex u 48)

  ends_coded : (t : Bool) (role : Role) (bs : List ℕ) (w : ℕ)
      → Ends (surrogate_closer t (34 ∷ role_closer role)) (after_unit t role bs w)
  ends_coded true role bs w = ends_second_code role bs w 3 0
  ends_coded false role bs w = ends_between role _

  ends_code : (role : Role) (bs : List ℕ) (n u : ℕ)
      → Ends (item_closer (code n u) (34 ∷ role_closer role)) (string role bs (code n u))
  ends_code role bs zero u = ends_coded (is_surrogate (add_hex u 48)) role bs (add_hex u 48)
  ends_code role bs (suc n) u = ends_code role bs n (add_hex u 48)

  ends_string : (x : StringState) (role : Role) (bs : List ℕ)
      → Ends (item_closer x (34 ∷ role_closer role)) (string role bs x)
  ends_string between role bs = ends_between role bs
  ends_string after_backslash role bs = ends_between role _
  ends_string (code n u) role bs = ends_code role bs n u
  ends_string (second w) role bs = ends_second_code role bs w 3 0
  ends_string (second_backslash w) role bs = ends_second_code role bs w 3 0
  ends_string (second_code w n u) role bs = ends_second_code role bs w n u

  -- ---- literals

  ends_word : (fs : Frames) (x : Value) (ls : List ℕ) → Ends (ls ++ brackets fs) (past_letter fs x ls)
  ends_word fs x [] = ends_after fs x
  ends_word fs x (l ∷ ls) = let h = ends_word fs x ls in (h.0, rw (eq-eqb l l refl) h.1)

  pub closes : (p : State) → Ends (closer p) p
  closes (before fs) = let h = ends_after fs value.null in (h.0, rw (class-char r.strict begins_null) h.1)
  closes (before_key fs es) = let h = ends_after_key fs es [] in (h.0, rw (class-char r.strict quote) h.1)
  closes (word fs v l ls) = ends_word fs v (l ∷ ls)
  closes (numeral fs negative x) = ends_numeral fs negative x
  closes (string role bs x) = ends_string x role bs
  closes (after_key fs es k) = ends_after_key fs es k
  closes (after_value fs v) = ends_after fs v
