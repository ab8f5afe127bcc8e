-- Alike states. A state inside a member's name keeps how many characters were left at its opening quote, so two texts
-- of different lengths with a common prefix lead to states that differ in that count only: they are `Alike`, have the
-- same closing text (`closer-alike`), and move alike (`moves_alike`).
-- And depth: a depth breach is at the first element or name in a container too many, so the state before that decides
-- whether there can be one (`IsDeep`). There can if a move has that mark (`deep_of_go`) or is `bad_deep`
-- (`deep_of_bad_deep`); then no move is `bad` (`deep_not_bad`), and some move has that mark (`deep_some`).
use Rattle.jzon_base.proofs.Common.{◌≡◌, ℕ, zero, suc, ◌+◌, ◌-◌, List, [], ◌∷◌, Bool, true, false, cond, ◌==◌, nat_le}
use Rattle.jzon_base.proofs.Common.{Option, Some, None, if◌then◌else◌, refl, subst, ap, ◌∙◌, arith, ⊤, is_ascii_hexdigit}
use Rattle.jzon_tree.specs.Value.{Value}
use Rattle.jzon_tree.specs.Value as value
use Rattle.jzon.specs.Reading.{Reading}
use Rattle.jzon.specs.Grammar.{is_unescaped, is_simple, is_surrogate}
use Rattle.jzon.specs.Spelling.{Breach, deep, pair, digit, inexact, breach_if, onto}
use Rattle.jzon.specs.Private.Classes.{Class, whitespace, digits, minus_char, plus_char, point, letter_e, quote}
use Rattle.jzon.specs.Private.Classes.{opens_array, closes_array, opens_object, closes_object, comma, colon}
use Rattle.jzon.specs.Private.Classes.{begins_null, begins_true, begins_false, class_of, NumberState, after_minus}
use Rattle.jzon.specs.Private.Classes.{zero_read, whole, pointed, fraction, after_letter, signed_exponent, exponent}
use Rattle.jzon.specs.Private.Machine.{EntriesSoFar, Frames, array_frame, object_frame, Role, as_value, as_key, StringState}
use Rattle.jzon.specs.Private.Machine.{between, after_backslash, code, second, second_backslash, second_code, State, before}
use Rattle.jzon.specs.Private.Machine.{before_key, word, numeral, string, after_key, after_value, Move, go, bad}
use Rattle.jzon.specs.Private.Machine.{bad_deep, move, value_mark, key_mark, last, frames_depth, bad_at}
use Rattle.jzon.specs.Private.Machine.{move_empty_array, move_before, move_empty_object, move_before_key}
use Rattle.jzon.specs.Private.Machine.{move_after_key, move_after_value, move_after_whole, move_after_fraction}
use Rattle.jzon.specs.Private.Machine.{move_numeral, repeated_if, closed_string, move_string, add_hex, after_unit}
use Rattle.jzon.specs.Private.Machine.{move_code, move_pair, move_second_code, past_letter, number_value, exponent_of}
use Rattle.jzon.proofs.Texts.ClassesOfCharacters.{class-char}
use Rattle.jzon.proofs.Texts.Closing.{closer}

-- the same state, of a text that has i characters left and of one that has j
abbrev pub AlikeKey : ℕ → ℕ → Role → List ℕ → StringState → State → Type 0
AlikeKey i j (as_value fs) bs x q = string (as_value fs) bs x ≡ q
AlikeKey i j (as_key fs es opened) bs x q =
    (back : ℕ) × (opened ≡ back + i) × (string (as_key fs es (back + j)) bs x ≡ q)

abbrev pub Alike : ℕ → ℕ → State → State → Type 0
Alike i j (string role bs x) q = AlikeKey i j role bs x q
Alike i j p q = p ≡ q

abbrev pub AlikeMove : ℕ → ℕ → Move → Move → Type 0
AlikeMove i j (go m p) z = (q : State) × (z ≡ go m q) × Alike i j p q
AlikeMove i j bad z = z ≡ bad
AlikeMove i j bad_deep z = z ≡ bad_deep

-- the mark of the first character of the value or key that may come next in this state; none in other states
abbrev pub next_mark : Reading → State → Option Breach
next_mark r (before fs) = value_mark r fs
next_mark r (before_key fs es) = key_mark r fs es
next_mark r _ = None

abbrev pub IsDeep : Reading → State → Type 0
IsDeep r p = next_mark r p ≡ Some deep

-- a function that doesn't depend on how many characters are left is the same on alike states
role_same : {A : Type 0} (f : State → A) (i j : ℕ) (role : Role) (bs : List ℕ) (x : StringState) (q : State)
    → ((fs : Frames) (es : EntriesSoFar) (m n : ℕ) → f (string (as_key fs es m) bs x) ≡ f (string (as_key fs es n) bs x))
    → AlikeKey i j role bs x q → f (string role bs x) ≡ f q
role_same f i j (as_value fs) bs x q same h = ap f h
role_same f i j (as_key fs es opened) bs x q same h = same fs es opened (h.0 + j) ∙ ap f h.2

pub closer-alike : (i j : ℕ) (p q : State) → Alike i j p q → closer p ≡ closer q
closer-alike i j (string role bs x) q h = role_same closer i j role bs x q (λ fs es m n. refl) h
closer-alike i j _ q h = ap closer h

pub last-alike : (i j : ℕ) (p q : State) → Alike i j p q → last p ≡ last q
last-alike i j (string role bs x) q h = role_same last i j role bs x q (λ fs es m n. refl) h
last-alike i j _ q h = ap last h

pub mark-alike : (r : Reading) (i j : ℕ) (p q : State) → Alike i j p q → next_mark r p ≡ next_mark r q
mark-alike r i j (string role bs x) q h = role_same (next_mark r) i j role bs x q (λ fs es m n. refl) h
mark-alike r i j _ q h = ap (next_mark r) h

-- ---- what each move says of the state's mark

-- the state isn't inside a key
abbrev Keyless : State → Type 0
Keyless (string (as_key fs es opened) bs x) = ⊥
Keyless _ = ⊤

-- For a state with this mark: a move has a depth breach or is `bad_deep` only if the mark is one, it is `bad` only if
-- the mark is none, and K holds of the next state.
abbrev Reports : (State → Type 0) → Option Breach → Move → Type 0
Reports K m (go m' p) = (m' ≡ Some deep → m ≡ Some deep) × K p
Reports K m bad = m ≡ Some deep → ⊥
Reports K m bad_deep = m ≡ Some deep

unmarked : (m : Option Breach) → None ≡ Some deep → m ≡ Some deep
unmarked m e = absurd (cc)

shut : None ≡ Some deep → ⊥
shut e = cc

other_mark : (v : Bool) (b : Breach) (m : Option Breach) → (b ≡ deep → ⊥) → breach_if v b ≡ Some deep → m ≡ Some deep
other_mark true b m other e = absurd (other (let f : b ≡ deep = cc in f))
other_mark false b m other e = absurd (cc)

digit_mark : (t v : Bool) → (if t then Some digit else breach_if v inexact) ≡ Some deep → None ≡ Some deep
digit_mark true v = other_mark true digit None (λ e. cc)
digit_mark false v = other_mark v inexact None (λ e. cc)

exponent_mark : (v : Bool) → breach_if v inexact ≡ Some deep → None ≡ Some deep
exponent_mark v = other_mark v inexact None (λ e. cc)

bad_reports : (K : State → Type 0) (v : Bool) → Reports K (breach_if v deep) (bad_at (breach_if v deep))
bad_reports K true = refl
bad_reports K false = λ e. cc

value_bad : (r : Reading) (fs : Frames) → Reports Keyless (value_mark r fs) (bad_at (value_mark r fs))
value_bad r (array_frame fs []) = bad_reports Keyless (nat_le r.depth (frames_depth fs))
value_bad r _ = λ e. cc

key_bad : (r : Reading) (fs : Frames) (es : EntriesSoFar) → Reports (λ p. ⊤) (key_mark r fs es) (bad_at (key_mark r fs es))
key_bad r fs [] = bad_reports (λ p. ⊤) (nat_le r.depth (frames_depth fs))
key_bad r fs (e ∷ es) = λ e. cc

-- an empty array may close where a value may begin
array_reports : (r : Reading) (fs : Frames) → Reports Keyless (value_mark r fs) (move_empty_array fs)
array_reports r (array_frame fs []) = (unmarked _, tt)
array_reports r _ = λ e. cc

before_reports : (r : Reading) (class : Class) (fs : Frames) (c : ℕ)
    → Reports Keyless (value_mark r fs) (move_before r class fs c)
before_reports r whitespace fs c = (unmarked _, tt)
before_reports r closes_array fs c = array_reports r fs
before_reports r digits fs c = (λ e. e, tt)
before_reports r minus_char fs c = (λ e. e, tt)
before_reports r quote fs c = (λ e. e, tt)
before_reports r opens_array fs c = (λ e. e, tt)
before_reports r opens_object fs c = (λ e. e, tt)
before_reports r begins_null fs c = (λ e. e, tt)
before_reports r begins_true fs c = (λ e. e, tt)
before_reports r begins_false fs c = (λ e. e, tt)
before_reports r _ fs c = value_bad r fs

object_reports : (r : Reading) (fs : Frames) (es : EntriesSoFar)
    → Reports (λ p. ⊤) (key_mark r fs es) (move_empty_object fs es)
object_reports r fs [] = (unmarked _, tt)
object_reports r fs (e ∷ es) = λ e. cc

key_reports : (r : Reading) (class : Class) (fs : Frames) (es : EntriesSoFar) (left : ℕ)
    → Reports (λ p. ⊤) (key_mark r fs es) (move_before_key r class fs es left)
key_reports r whitespace fs es left = (unmarked _, tt)
key_reports r quote fs es left = (λ e. e, tt)
key_reports r closes_object fs es left = object_reports r fs es
key_reports r _ fs es left = key_bad r fs es

after_key_reports : (class : Class) (fs : Frames) (es : EntriesSoFar) (k : List ℕ)
    → Reports Keyless None (move_after_key class fs es k)
after_key_reports whitespace fs es k = (unmarked _, tt)
after_key_reports colon fs es k = (unmarked _, tt)
after_key_reports _ fs es k = shut

after_reports : (class : Class) (fs : Frames) (v : Value) → Reports Keyless None (move_after_value class fs v)
after_reports whitespace fs v = (unmarked _, tt)
after_reports comma (array_frame fs vs) v = (unmarked _, tt)
after_reports comma (object_frame fs es k) v = (unmarked _, tt)
after_reports closes_array (array_frame fs vs) v = (unmarked _, tt)
after_reports closes_object (object_frame fs es k) v = (unmarked _, tt)
after_reports _ fs v = shut

whole_reports : (class : Class) (fs : Frames) (negative : Bool) (ws : List ℕ) (c : ℕ)
    → Reports Keyless None (move_after_whole class fs negative ws c)
whole_reports point fs negative ws c = (unmarked _, tt)
whole_reports letter_e fs negative ws c = (unmarked _, tt)
whole_reports class fs negative ws c = after_reports class fs (number_value negative ws [] None)

fraction_reports : (class : Class) (fs : Frames) (negative : Bool) (ws ds : List ℕ) (c : ℕ)
    → Reports Keyless None (move_after_fraction class fs negative ws ds c)
fraction_reports letter_e fs negative ws ds c = (unmarked _, tt)
fraction_reports class fs negative ws ds c = after_reports class fs (number_value negative ws ds None)

numeral_reports : (r : Reading) (x : NumberState) (class : Class) (fs : Frames) (negative : Bool) (c : ℕ)
    → Reports Keyless None (move_numeral r x class fs negative c)
numeral_reports r after_minus digits fs negative c = (unmarked _, tt)
numeral_reports r after_minus _ fs negative c = shut
numeral_reports r zero_read class fs negative c = whole_reports class fs negative (48 ∷ []) c
numeral_reports r (whole ds) digits fs negative c = (digit_mark _ _, tt)
numeral_reports r (whole ds) class fs negative c = whole_reports class fs negative (onto ds []) c
numeral_reports r (pointed ws) digits fs negative c = (digit_mark _ _, tt)
numeral_reports r (pointed ws) _ fs negative c = shut
numeral_reports r (fraction ws ds) digits fs negative c = (digit_mark _ _, tt)
numeral_reports r (fraction ws ds) class fs negative c = fraction_reports class fs negative ws (onto ds []) c
numeral_reports r (after_letter ws ds l) digits fs negative c = (exponent_mark _, tt)
numeral_reports r (after_letter ws ds l) plus_char fs negative c = (unmarked _, tt)
numeral_reports r (after_letter ws ds l) minus_char fs negative c = (unmarked _, tt)
numeral_reports r (after_letter ws ds l) _ fs negative c = shut
numeral_reports r (signed_exponent ws ds l s) digits fs negative c = (exponent_mark _, tt)
numeral_reports r (signed_exponent ws ds l s) _ fs negative c = shut
numeral_reports r (exponent ws ds l s xs) digits fs negative c = (exponent_mark _, tt)
numeral_reports r (exponent ws ds l s xs) class fs negative c =
    after_reports class fs (number_value negative ws ds (exponent_of l s (onto xs [])))

-- ---- strings

-- A relation of moves that holds of two roles' moves inside a string, and of two bad moves, holds of how the automaton
-- moves inside a string in the two roles, if it holds of what the closing quote does.
module _ (r : Reading) (Both : Move → Move → Type 0) (one two : Role) (fails : Both bad bad)
    (inside : (m : Option Breach) → (m ≡ Some deep → ⊥) → (bs : List ℕ) (x : StringState)
    → Both (go m (string one bs x)) (go m (string two bs x))) where
  by_test : (t : Bool) (x y z w : Move) → Both x z → Both y w → Both (cond t x y) (cond t z w)
  by_test true x y z w h k = h
  by_test false x y z w h k = k

  code_both : (bs : List ℕ) (n u c : ℕ) → Both (move_code one bs n u c) (move_code two bs n u c)
  code_both bs zero u c = unit_both (is_surrogate (add_hex u c))
    where
      unit_both : (t : Bool)
          → Both (go None (after_unit t one bs (add_hex u c))) (go None (after_unit t two bs (add_hex u c)))
      unit_both true = inside None shut bs _
      unit_both false = inside None shut _ between
  code_both bs (suc n) u c = inside None shut bs _

  pair_both : (t : Bool) (bs : List ℕ) (u v : ℕ) → Both (move_pair t one bs u v) (move_pair t two bs u v)
  pair_both true bs u v = inside None shut _ between
  pair_both false bs u v = inside (Some pair) (λ e. cc) bs between

  second_both : (bs : List ℕ) (u n v c : ℕ) → Both (move_second_code one bs u n v c) (move_second_code two bs u n v c)
  second_both bs u zero v c = pair_both _ bs u _
  second_both bs u (suc n) v c = inside None shut bs _

  string_both : (x : StringState) (bs : List ℕ) (c i j : ℕ) → Both (closed_string r one bs i) (closed_string r two bs j)
      → Both (move_string r x one bs c i) (move_string r x two bs c j)
  string_both between bs c i j h =
      by_test (c == 34) _ _ _ _ h (by_test (c == 92) _ _ _ _ (inside None shut bs _)
      (by_test (is_unescaped c) _ _ _ _ (inside None shut _ between) fails))
  string_both after_backslash bs c i j h =
      by_test (c == 117) _ _ _ _ (inside None shut bs _)
      (by_test (is_simple c) _ _ _ _ (inside None shut _ between) fails)
  string_both (code n u) bs c i j h = by_test (is_ascii_hexdigit c) _ _ _ _ (code_both bs n u c) fails
  string_both (second u) bs c i j h = by_test (c == 92) _ _ _ _ (inside None shut bs _) fails
  string_both (second_backslash u) bs c i j h = by_test (c == 117) _ _ _ _ (inside None shut bs _) fails
  string_both (second_code u n v) bs c i j h = by_test (is_ascii_hexdigit c) _ _ _ _ (second_both bs u n v c) fails

-- K holds of each state inside the string and after it
string_reports : (r : Reading) (K : State → Type 0) (role : Role) (x : StringState) (bs : List ℕ) (c left : ℕ)
    → ((bs : List ℕ) (y : StringState) → K (string role bs y)) → Reports K None (closed_string r role bs left)
    → Reports K None (move_string r x role bs c left)
string_reports r K role x bs c left inside h =
    string_both r (λ z w. Reports K None z) role role shut (λ m other bs y. ((λ e. absurd (other e)), inside bs y))
    x bs c left left h

value_string_reports : (r : Reading) (fs : Frames) (x : StringState) (bs : List ℕ) (c left : ℕ)
    → Reports Keyless None (move_string r x (as_value fs) bs c left)
value_string_reports r fs x bs c left = string_reports r Keyless (as_value fs) x bs c left (λ b y. tt) (unmarked _, tt)

word_reports : (t : Bool) (fs : Frames) (v : Value) (ls : List ℕ)
    → Reports Keyless None (cond t (go None (past_letter fs v ls)) bad)
word_reports true fs v [] = (unmarked _, tt)
word_reports true fs v (l ∷ ls) = (unmarked _, tt)
word_reports false fs v ls = shut

loose : (K : State → Type 0) (m : Option Breach) (z : Move) → Reports K m z → Reports (λ p. ⊤) m z
loose K m (go v p) h = (h.0, tt)
loose K m _ h = h

reports : (r : Reading) (p : State) (c left : ℕ) → Reports (λ q. ⊤) (next_mark r p) (move r p c left)
reports r (before fs) c left = loose _ _ _ (before_reports r (class_of r.strict c) fs c)
reports r (before_key fs es) c left = key_reports r (class_of r.strict c) fs es left
reports r (word fs v l ls) c left = loose _ _ _ (word_reports (c == l) fs v ls)
reports r (numeral fs negative x) c left = loose _ _ _ (numeral_reports r x (class_of r.strict c) fs negative c)
reports r (string (as_value fs) bs x) c left = loose _ _ _ (value_string_reports r fs x bs c left)
reports r (string (as_key fs es opened) bs x) c left =
    string_reports r (λ q. ⊤) (as_key fs es opened) x bs c left (λ b y. tt) (other_mark _ _ None (λ e. cc), tt)
reports r (after_key fs es k) c left = loose _ _ _ (after_key_reports (class_of r.strict c) fs es k)
reports r (after_value fs v) c left = loose _ _ _ (after_reports (class_of r.strict c) fs v)

pub deep_of_go : (r : Reading) (p s : State) (c left : ℕ) → move r p c left ≡ go (Some deep) s → IsDeep r p
deep_of_go r p s c left e = (subst (λ z. Reports (λ q. ⊤) (next_mark r p) z) e (reports r p c left)).0 refl

pub deep_of_bad_deep : (r : Reading) (p : State) (c left : ℕ) → move r p c left ≡ bad_deep → IsDeep r p
deep_of_bad_deep r p c left e = subst (λ z. Reports (λ q. ⊤) (next_mark r p) z) e (reports r p c left)

pub deep_not_bad : (r : Reading) (p : State) (c left : ℕ) → IsDeep r p → move r p c left ≡ bad → ⊥
deep_not_bad r p c left h e = subst (λ z. Reports (λ q. ⊤) (next_mark r p) z) e (reports r p c left) h

-- with some character the text goes on with one container too many
pub deep_some : (r : Reading) (p : State) (left : ℕ) → IsDeep r p
    → (c : ℕ) × (s : State) × (move r p c left ≡ go (Some deep) s)
deep_some r (before fs) left h =
    let s : State = word fs value.null 117 (108 ∷ 108 ∷ []) in
    (110, s, rw (class-char r.strict begins_null) (ap (λ m. go m s) h))
deep_some r (before_key fs es) left h =
    let s : State = string (as_key fs es left) [] between in
    (34, s, rw (class-char r.strict quote) (ap (λ m. go m s) h))
deep_some r _ left h = absurd (cc)

-- ---- alike states move alike

keyless_alike : (i j : ℕ) (p : State) → Keyless p → Alike i j p p
keyless_alike i j (string (as_key fs es opened) bs x) h = absurd h
keyless_alike i j _ h = refl

same_move : (i j : ℕ) (m : Option Breach) (z : Move) → Reports Keyless m z → AlikeMove i j z z
same_move i j m (go v p) h = (p, refl, keyless_alike i j p h.1)
same_move i j m _ h = refl

-- inside a key
key_string_alike : (r : Reading) (i j : ℕ) (fs : Frames) (es : EntriesSoFar) (opened back : ℕ) → opened ≡ back + suc i
    → (x : StringState) (bs : List ℕ) (c : ℕ) → AlikeMove i j (move_string r x (as_key fs es opened) bs c (suc i))
    (move_string r x (as_key fs es (back + suc j)) bs c (suc j))
key_string_alike r i j fs es opened back e x bs c =
    let f : suc back + j ≡ back + suc j = omega arith in
    let g : back + suc j - suc j ≡ opened - suc i = omega (arith, e) in
    string_both r (AlikeMove i j) (as_key fs es opened) (as_key fs es (back + suc j)) refl
    (λ m other bs y. (_, refl, (suc back, omega (arith, e), ap (λ n. string (as_key fs es n) bs y) f))) x bs c
    (suc i) (suc j) (after_key fs es bs, ap (λ n. go (repeated_if r es bs n) (after_key fs es bs)) g, refl)

bad_alike : (i j : ℕ) (m : Option Breach) → AlikeMove i j (bad_at m) (bad_at m)
bad_alike i j None = refl
bad_alike i j (Some b) = refl

key_alike : (r : Reading) (i j : ℕ) (class : Class) (fs : Frames) (es : EntriesSoFar)
    → AlikeMove i j (move_before_key r class fs es (suc i)) (move_before_key r class fs es (suc j))
key_alike r i j whitespace fs es = (before_key fs es, refl, refl)
key_alike r i j quote fs es =
    let f : 1 + j ≡ suc j = omega arith in
    (string (as_key fs es (suc j)) [] between, refl, (1, omega arith, ap (λ n. string (as_key fs es n) [] between) f))
key_alike r i j closes_object fs [] = (after_value fs (value.object value.no_pairs), refl, refl)
key_alike r i j closes_object fs (e ∷ es) = refl
key_alike r i j _ fs es = bad_alike i j (key_mark r fs es)

alike_value_string : (r : Reading) (i j : ℕ) (fs : Frames) (x : StringState) (bs : List ℕ) (c : ℕ)
    → AlikeMove i j (move_string r x (as_value fs) bs c (suc i)) (move_string r x (as_value fs) bs c (suc j))
alike_value_string r i j fs between bs c = same_move i j None _ (value_string_reports r fs between bs c 0)
alike_value_string r i j fs x bs c = same_move i j None _ (value_string_reports r fs x bs c 0)

same_alike : (r : Reading) (i j c : ℕ) (p : State) → Keyless p → AlikeMove i j (move r p c (suc i)) (move r p c (suc j))
same_alike r i j c (before fs) h = same_move i j (value_mark r fs) _ (before_reports r (class_of r.strict c) fs c)
same_alike r i j c (before_key fs es) h = key_alike r i j (class_of r.strict c) fs es
same_alike r i j c (word fs v l ls) h = same_move i j None _ (word_reports (c == l) fs v ls)
same_alike r i j c (numeral fs negative x) h =
    same_move i j None _ (numeral_reports r x (class_of r.strict c) fs negative c)
same_alike r i j c (string (as_value fs) bs x) h = alike_value_string r i j fs x bs c
same_alike r i j c (string (as_key fs es opened) bs x) h = absurd h
same_alike r i j c (after_key fs es k) h = same_move i j None _ (after_key_reports (class_of r.strict c) fs es k)
same_alike r i j c (after_value fs v) h = same_move i j None _ (after_reports (class_of r.strict c) fs v)

pub moves_alike : (r : Reading) (i j c : ℕ) (p q : State) → Alike (suc i) (suc j) p q
    → AlikeMove i j (move r p c (suc i)) (move r q c (suc j))
moves_alike r i j c (string (as_key fs es opened) bs x) q h =
    subst (λ z. AlikeMove i j (move_string r x (as_key fs es opened) bs c (suc i)) (move r z c (suc j))) h.2
    (key_string_alike r i j fs es opened h.0 h.1 x bs c)
moves_alike r i j c p q h =
    subst (λ z. AlikeMove i j (move r p c (suc i)) (move r z c (suc j))) h (same_alike r i j c p tt)
