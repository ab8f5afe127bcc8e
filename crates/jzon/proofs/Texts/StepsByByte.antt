-- One move of the automaton, by the byte at an offset of a text: it goes on, stops, reports a depth limit, or the text
-- ends.
use Rattle.jzon_base.proofs.Common.{◌≡◌, inl, inr, ℕ, ◌+◌, ◌<◌, ◌≤◌, List, [], ◌∷◌, length, drop, get_or}
use Rattle.jzon_base.proofs.Common.{refl, sym, ap, subst, ◌∙◌, arith, drop-cons, add-one, None, chars, IsUtf8}
use Rattle.jzon_base.proofs.Common.{encode_utf8, encode_utf8_all, ◌++◌, IsTrue, is_ascii_digit, IsCharBoundary}
use Rattle.jzon_base.proofs.Common.{cases_lt, nat_tests, length-drop, get_or-drop, nil_from_length, IsUtf8-drop}
use Rattle.jzon_base.proofs.Common.{encodes-chars}
use Rattle.std.proofs.lemmas.Str.{chars-nil, byte_from_char}
use Rattle.jzon.specs.Reading.{Reading}
use Rattle.jzon.specs.Spelling.{deep}
use Rattle.jzon.specs.Fault.{Fault, limit}
use Rattle.jzon.specs.Private.Machine.{State, Move, go, bad, move, last, outcome, outcome_on, from, left_at, fault_here}
use Rattle.jzon.specs.Private.Machine.{Outcome, refused}
use Rattle.jzon.proofs.Texts.AsciiRuns.{chars-ascii}

pub digit_is_ascii : (c : ℕ) → IsTrue (is_ascii_digit c) → c < 128
digit_is_ascii c h = grind (arith, nat_tests)

-- a text, by its first character
pub text_of_first : (bs : List ℕ) (c : ℕ) (cs : List ℕ) → IsUtf8 bs → chars bs ≡ c ∷ cs
    → bs ≡ encode_utf8 c ++ encode_utf8_all cs
text_of_first bs c cs u e = sym (encodes-chars bs u) ∙ ap encode_utf8_all e

-- an ASCII character is the byte there
pub first_byte : (bs : List ℕ) (c : ℕ) (cs : List ℕ) → IsUtf8 bs → chars bs ≡ c ∷ cs → c < 128 → get_or bs 0 0 ≡ c
first_byte bs c cs u e lt = byte_from_char bs (encode_utf8_all cs) c (text_of_first bs c cs u e) lt

pub some_byte : (bs : List ℕ) (c : ℕ) (cs : List ℕ) → chars bs ≡ c ∷ cs → 0 < length bs
some_byte [] c cs e = let none : [] ≡ c ∷ cs = sym chars-nil ∙ e in absurd (cc)
some_byte (b ∷ bs) c cs e = omega arith

-- an ASCII byte is the next character
pub next_is : (bs : List ℕ) (i b : ℕ) → IsUtf8 bs → IsCharBoundary bs i → i < length bs → get_or bs i 0 ≡ b → b < 128
    → chars (drop i bs) ≡ b ∷ chars (drop (i + 1) bs)
next_is bs i b u at lt e ascii =
    let split : drop i bs ≡ b ∷ drop (i + 1) bs = rw (drop-cons bs i 0 lt, e, add-one i) refl in
    ap chars split ∙ chars-ascii b (drop (i + 1) bs) (subst IsUtf8 split (IsUtf8-drop bs i u at)) ascii

-- and the automaton moves by it
pub byte_moves : (r : Reading) (p : State) (bs : List ℕ) (i b : ℕ) → IsUtf8 bs → IsCharBoundary bs i → i < length bs
    → get_or bs i 0 ≡ b → b < 128
    → from r bs p i ≡ outcome_on (move r p b (left_at bs i)) (λ q. from r bs q (i + 1)) (chars (drop i bs))
unfolding from
byte_moves r p bs i b u at lt e ascii =
    let first = next_is bs i b u at lt e ascii in
    ap (λ cs. outcome r cs p) first ∙ ap (λ rest. outcome_on (move r p b (length rest))
    (λ q. outcome r (chars (drop (i + 1) bs)) q) rest) (sym first)

-- an ASCII byte with which the automaton goes on
pub from_step : (r : Reading) (bs : List ℕ) (i : ℕ) (p q : State) (c : ℕ) → IsUtf8 bs → IsCharBoundary bs i
    → i < length bs → get_or bs i 0 ≡ c → c < 128
    → move r p c (left_at bs i) ≡ go None q → from r bs p i ≡ from r bs q (i + 1)
from_step r bs i p q c u at lt e ascii m =
    byte_moves r p bs i c u at lt e ascii ∙ ap (λ z. outcome_on z (λ x. from r bs x (i + 1)) (chars (drop i bs))) m

-- A state in which no text goes on with the character c or ends.
pub record StopsAt (r : Reading) (p : State) (bs : List ℕ) (i : ℕ) : Type 0 where
  pub ends : last p ≡ refused Fault.end []
  pub bad : (c : ℕ) → (c < 128 → (i < length bs) × (get_or bs i 0 ≡ c)) → move r p c (left_at bs i) ≡ bad

pub stop_on : (r : Reading) (cs : List ℕ) (p : State) → last p ≡ refused Fault.end []
    → ((c : ℕ) (ds : List ℕ) → cs ≡ c ∷ ds → move r p c (length cs) ≡ bad) → outcome r cs p ≡ fault_here cs
stop_on r [] p e h = e
stop_on r (c ∷ cs) p e h = ap (λ m. outcome_on m (λ q. outcome r cs q) (c ∷ cs)) (h c cs refl)

-- the character at an offset, if it is ASCII
pub byte_there : (bs : List ℕ) (i c : ℕ) (cs : List ℕ) → IsUtf8 bs → IsCharBoundary bs i → chars (drop i bs) ≡ c ∷ cs
    → c < 128 → (i < length bs) × (get_or bs i 0 ≡ c)
byte_there bs i c cs u at e lt =
    let w = IsUtf8-drop bs i u at in
    let some : 0 < length (drop i bs) = some_byte (drop i bs) c cs e in
    let here : get_or (drop i bs) 0 0 ≡ get_or bs i 0 = get_or-drop i bs 0 0 ∙ ap (λ n. get_or bs n 0) (omega arith) in
    (omega (arith, some, length-drop i bs), sym here ∙ first_byte (drop i bs) c cs w e lt)

-- what holds of the byte at an offset, and of each character past ASCII, holds of the character there
pub by_character : (P : ℕ → Type 0) (bs : List ℕ) (i c : ℕ) → (i < length bs → P (get_or bs i 0))
    → ((x : ℕ) → 128 ≤ x → P x) → (c < 128 → (i < length bs) × (get_or bs i 0 ≡ c)) → P c
by_character P bs i c here wide there = elim (cases_lt c 128) [
  | inl lt ↦ (let k = there lt in subst P k.1 (here k.0))
  | inr le ↦ wide c le
]

pub stops_by : (r : Reading) (p : State) (bs : List ℕ) (i : ℕ) → last p ≡ refused Fault.end []
    → (i < length bs → move r p (get_or bs i 0) (left_at bs i) ≡ bad)
    → ((c : ℕ) → 128 ≤ c → move r p c (left_at bs i) ≡ bad) → StopsAt r p bs i
stops_by r p bs i e here wide =
    record { ends = e; bad = λ c there. by_character (λ x. move r p x (left_at bs i) ≡ bad) bs i c here wide there }

pub from_stop : (r : Reading) (bs : List ℕ) (i : ℕ) (p : State) → IsUtf8 bs → IsCharBoundary bs i → StopsAt r p bs i
    → from r bs p i ≡ fault_here (chars (drop i bs))
unfolding from
from_stop r bs i p u at h = stop_on r (chars (drop i bs)) p h.ends (λ c cs e. h.bad c (byte_there bs i c cs u at e))

-- the result of reading a character that opens one container too many
abbrev pub IsDeep : Move → Type 0
IsDeep m = (f : State → Outcome) (rest : List ℕ) → outcome_on m f rest ≡ refused (limit deep) rest

deep_on : (r : Reading) (cs : List ℕ) (p : State) → (cs ≡ [] → ⊥)
    → ((c : ℕ) (ds : List ℕ) → cs ≡ c ∷ ds → IsDeep (move r p c (length cs))) → outcome r cs p ≡ refused (limit deep) cs
deep_on r [] p some h = absurd (some refl)
deep_on r (c ∷ cs) p some h = h c cs refl (λ q. outcome r cs q) (c ∷ cs)

-- there is some character before the end of a text
pub some_character : (bs : List ℕ) (i : ℕ) → IsUtf8 bs → IsCharBoundary bs i → i < length bs → chars (drop i bs) ≡ []
    → ⊥
some_character bs i u at lt e =
    let none : drop i bs ≡ [] = sym (encodes-chars (drop i bs) (IsUtf8-drop bs i u at)) ∙ ap encode_utf8_all e in
    absurd (omega (arith, lt, length-drop i bs, ap length none))

pub from_deep : (r : Reading) (bs : List ℕ) (i : ℕ) (p : State) → IsUtf8 bs → IsCharBoundary bs i → i < length bs
    → IsDeep (move r p (get_or bs i 0) (left_at bs i)) → ((c : ℕ) → 128 ≤ c → IsDeep (move r p c (left_at bs i)))
    → from r bs p i ≡ refused (limit deep) (chars (drop i bs))
unfolding from
from_deep r bs i p u at lt here wide =
    deep_on r (chars (drop i bs)) p (some_character bs i u at lt)
    (λ c cs e. by_character (λ x. IsDeep (move r p x (left_at bs i))) bs i c (λ _. here) wide
    (byte_there bs i c cs u at e))

-- the end of the text
pub from_end : (r : Reading) (bs : List ℕ) (i : ℕ) (p : State) → length bs ≤ i → from r bs p i ≡ last p
unfolding from
from_end r bs i p le = ap (λ cs. outcome r cs p)
    (ap chars (nil_from_length (drop i bs) (omega (arith, length-drop i bs))) ∙ chars-nil)
