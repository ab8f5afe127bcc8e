-- What may follow the value of a whole text: only whitespace.
use Rattle.jzon_base.proofs.Common.{◌≡◌, ℕ, ◌<◌, true, false, List, [], ◌∷◌, length, drop, get_or, refl, ap, chars}
use Rattle.jzon_base.proofs.Common.{IsUtf8, IsCharBoundary}
use Rattle.jzon_tree.specs.Value.{Value}
use Rattle.jzon_tree.specs.Writing.{is_whitespace}
use Rattle.jzon.specs.Reading.{Reading}
use Rattle.jzon.specs.Private.Classes.{Class, whitespace, class_of}
use Rattle.jzon.specs.Private.Machine.{no_frames, after_value, bad, move_after_value, outcome, outcome_on, from}
use Rattle.jzon.specs.Private.Machine.{fault_here}
use Rattle.jzon.proofs.Texts.ClassesOfCharacters.{class-says}
use Rattle.jzon.proofs.Texts.AsciiRuns.{wide_is_no_space}
use Rattle.jzon.proofs.Texts.StepsByByte.{byte_there, by_character, some_character}

trailing_on : (r : Reading) (v : Value) (c : ℕ) (k : Class) → is_whitespace r.strict c ≡ false → class_of r.strict c ≡ k
    → move_after_value k no_frames v ≡ bad
trailing_on r v c whitespace h e = let yes : is_whitespace r.strict c ≡ true = class-says r.strict c e in absurd (cc)
trailing_on r v c _ h e = refl

fault_here_on : (r : Reading) (cs : List ℕ) (v : Value) → (cs ≡ [] → ⊥)
    → ((c : ℕ) (ds : List ℕ) → cs ≡ c ∷ ds → is_whitespace r.strict c ≡ false)
    → outcome r cs (after_value no_frames v) ≡ fault_here cs
fault_here_on r [] v some h = absurd (some refl)
fault_here_on r (c ∷ cs) v some h =
    ap (λ m. outcome_on m (λ q. outcome r cs q) (c ∷ cs)) (trailing_on r v c (class_of r.strict c) (h c cs refl) refl)

-- another character after the value of a text
pub trailing_stops : (r : Reading) (bs : List ℕ) (i : ℕ) (v : Value) → IsUtf8 bs → IsCharBoundary bs i → i < length bs
    → is_whitespace r.strict (get_or bs i 0) ≡ false
    → from r bs (after_value no_frames v) i ≡ fault_here (chars (drop i bs))
unfolding from
trailing_stops r bs i v u at lt h =
    fault_here_on r (chars (drop i bs)) v (some_character bs i u at lt)
    (λ c cs e. by_character (λ x. is_whitespace r.strict x ≡ false) bs i c (λ _. h) (wide_is_no_space r.strict)
    (byte_there bs i c cs u at e))
