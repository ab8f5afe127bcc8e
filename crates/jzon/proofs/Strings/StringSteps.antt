-- One move by the character at an offset, which may be past ASCII: it goes on with an ASCII character (`byte_moves`),
-- with the only one that the state expects (`expected_byte`), or with none (`byte_stops`).
use Rattle.jzon_base.proofs.Common.{◌≡◌, ℕ, ◌+◌, ◌<◌, cond, List, [], ◌∷◌, length, drop, get_or, refl, ap, subst, sym}
use Rattle.jzon_base.proofs.Common.{◌∙◌, arith, None, eqb-true, chars, IsUtf8, encode_utf8_all, ◌==◌, IsCharBoundary}
use Rattle.jzon_base.proofs.Common.{false_from_ne_true, length-drop, get_or-drop, IsUtf8-drop}
use Rattle.std.proofs.Common.{eq-eqb}
use Rattle.std.proofs.lemmas.Str.{char_from_byte}
use Rattle.jzon.specs.Reading.{Reading}
use Rattle.jzon.specs.Fault as fault
use Rattle.jzon.specs.Private.Machine.{State, go, move, bad, last, refused, outcome_on, from, left_at, fault_here}
pub use Rattle.jzon.proofs.Texts.StepsByByte.{byte_moves}
use Rattle.jzon.proofs.Texts.StepsByByte.{stop_on, text_of_first, some_byte, byte_there}

-- the character that begins at byte i, by that byte
pub record Begins (bs : List ℕ) (i c : ℕ) : Type 0 where
  pub within : i < length bs
  pub byte : c < 128 → get_or bs i 0 ≡ c
  pub char : get_or bs i 0 < 128 → c ≡ get_or bs i 0

begins : (bs : List ℕ) (i c : ℕ) (cs : List ℕ) → IsUtf8 bs → IsCharBoundary bs i → chars (drop i bs) ≡ c ∷ cs
    → Begins bs i c
begins bs i c cs u at e =
    let text = text_of_first (drop i bs) c cs (IsUtf8-drop bs i u at) e in
    let some : 0 < length (drop i bs) = some_byte (drop i bs) c cs e in
    let here : get_or (drop i bs) 0 0 ≡ get_or bs i 0 = get_or-drop i bs 0 0 ∙ ap (λ n. get_or bs n 0) (omega arith) in
    record {
      within = omega (arith, some, length-drop i bs);
      byte = λ lt. (byte_there bs i c cs u at e lt).1;
      char = λ lt. char_from_byte (drop i bs) (encode_utf8_all cs) c text (subst (λ z. z < 128) (sym here) lt) some
          ∙ here;
    }

-- no character that may begin there lets the text go on
pub byte_stops : (r : Reading) (p : State) (bs : List ℕ) (i : ℕ) → IsUtf8 bs → IsCharBoundary bs i
    → last p ≡ refused fault.end []
    → ((c : ℕ) → Begins bs i c → move r p c (left_at bs i) ≡ bad) → from r bs p i ≡ fault_here (chars (drop i bs))
unfolding from
byte_stops r p bs i u at end h = stop_on r (chars (drop i bs)) p end (λ c cs e. h c (begins bs i c cs u at e))

-- a state in which only one ASCII character lets the text go on
pub record Expects (r : Reading) (p : State) (b : ℕ) (q : State) : Type 0 where
  pub ascii : b < 128
  pub moves : (c n : ℕ) → move r p c n ≡ cond (c == b) (go None q) bad
  pub unfinished : last p ≡ refused fault.end []

-- that character is there
pub expected_byte : (r : Reading) (p q : State) (bs : List ℕ) (i b : ℕ) → Expects r p b q → IsUtf8 bs
    → IsCharBoundary bs i → i < length bs → get_or bs i 0 ≡ b → from r bs p i ≡ from r bs q (i + 1)
expected_byte r p q bs i b h u at lt e =
    byte_moves r p bs i b u at lt e h.ascii
    ∙ ap (λ m. outcome_on m (λ z. from r bs z (i + 1)) (chars (drop i bs)))
    (h.moves b (left_at bs i) ∙ ap (λ t. cond t (go None q) bad) (eq-eqb b b refl))

-- another one is, or none
pub unexpected_byte : (r : Reading) (p q : State) (bs : List ℕ) (i b : ℕ) → Expects r p b q → IsUtf8 bs
    → IsCharBoundary bs i → ((i < length bs) × (get_or bs i 0 ≡ b) → ⊥) → from r bs p i ≡ fault_here (chars (drop i bs))
unexpected_byte r p q bs i b h u at none =
    byte_stops r p bs i u at h.unfinished (λ c here. h.moves c (left_at bs i)
    ∙ ap (λ t. cond t (go None q) bad) (false_from_ne_true (c == b) (λ e.
    let same : c ≡ b = eqb-true c b e in
    none (here.within, here.byte (subst (λ z. z < 128) (sym same) h.ascii) ∙ same))))
