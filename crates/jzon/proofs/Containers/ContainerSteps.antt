-- Moves of the automaton at the tokens of arrays and objects, by the byte at an offset of a text.
use Rattle.jzon_base.proofs.Common.{◌≡◌, ◌≢◌, ℕ, ◌+◌, ◌<◌, true, false, List, [], ◌∷◌, length, drop, get_or, refl, ap}
use Rattle.jzon_base.proofs.Common.{sym, ◌∙◌, arith, Some, None, lit<, chars, IsUtf8, IsTrue, nat_le, IsCharBoundary}
use Rattle.jzon_tree.specs.Value.{Value}
use Rattle.jzon_tree.specs.Writing.{is_whitespace}
use Rattle.jzon.specs.Reading.{Reading}
use Rattle.jzon.specs.Spelling.{deep, breach_if}
use Rattle.jzon.specs.Fault.{Fault, limit}
use Rattle.jzon.specs.Private.Brackets.{closer, innermost_kind, after_opener}
use Rattle.jzon.specs.Private.Classes.{Class, whitespace, quote, closes_array, closes_object, comma, colon, class_of}
use Rattle.jzon.specs.Private.Machine.{EntriesSoFar, Frames, no_frames, frames_depth, array_frame, object_frame, as_key}
use Rattle.jzon.specs.Private.Machine.{between, before_key, string, after_key, after_value, allows_whitespace, go, bad}
use Rattle.jzon.specs.Private.Machine.{bad_at, value_mark, key_mark, move_before, move_before_key, move_after_key}
use Rattle.jzon.specs.Private.Machine.{move_empty_object, move_after_value, refused, State, from, left_at, last, move}
use Rattle.jzon.specs.declared.container_kind.ContainerKind.{ContainerKind}
use Rattle.jzon.specs.declared.container_kind.ContainerKind.TheVariants.{Array, Object}
use Rattle.jzon.proofs.Texts.ClassesOfCharacters.{class-says, class-char, no_space}
use Rattle.jzon.proofs.Texts.Runs.{stays}
use Rattle.jzon.proofs.Texts.AsciiRuns.{Skips, space_is_ascii, wide_is_no_space}
use Rattle.jzon.proofs.Texts.StepsByByte.{StopsAt, from_step, stops_by, IsDeep, from_deep}

pub closer_bounds : (b : ContainerKind) → (0 < closer b) × (closer b < 128)
closer_bounds Array = (omega arith, omega arith)
closer_bounds Object = (omega arith, omega arith)

pub same_closer : (b d : ContainerKind) → Some b ≡ Some d → closer d ≡ closer b
same_closer b d e = cc

-- ---- a container too many

deep_element_on : (r : Reading) (fs : Frames) (c : ℕ) (k : Class) → value_mark r fs ≡ Some deep
    → is_whitespace r.strict c ≡ false → c ≢ 93 → class_of r.strict c ≡ k → IsDeep (move_before r k fs c)
deep_element_on r fs c whitespace h s n e = absurd (no_space r.strict c s e)
deep_element_on r fs c closes_array h s n e = absurd (n (class-says r.strict c e))
deep_element_on r fs c _ h s n e = λ f rest. rw h refl

deep_key_on : (r : Reading) (fs : Frames) (c n : ℕ) (k : Class) → key_mark r fs [] ≡ Some deep
    → is_whitespace r.strict c ≡ false → c ≢ 125 → class_of r.strict c ≡ k → IsDeep (move_before_key r k fs [] n)
deep_key_on r fs c left whitespace h s n e = absurd (no_space r.strict c s e)
deep_key_on r fs c left closes_object h s n e = absurd (n (class-says r.strict c e))
deep_key_on r fs c left _ h s n e = λ f rest. rw h refl

deep_item_on : (r : Reading) (b : ContainerKind) (fs : Frames) (c left : ℕ) → IsTrue (nat_le r.depth (frames_depth fs))
    → is_whitespace r.strict c ≡ false → c ≢ closer b → IsDeep (move r (after_opener b fs) c left)
deep_item_on r Array fs c left h s n =
    deep_element_on r (array_frame fs []) c _ (ap (λ t. breach_if t deep) h) s n refl
deep_item_on r Object fs c left h s n = deep_key_on r fs c left _ (ap (λ t. breach_if t deep) h) s n refl

-- a first element or key where it would open one container too many
pub deep_item : (r : Reading) (bs : List ℕ) (i : ℕ) (b : ContainerKind) (fs : Frames) → IsUtf8 bs → IsCharBoundary bs i
    → i < length bs → is_whitespace r.strict (get_or bs i 0) ≡ false → get_or bs i 0 ≢ closer b
    → IsTrue (nat_le r.depth (frames_depth fs))
    → from r bs (after_opener b fs) i ≡ refused (limit deep) (chars (drop i bs))
deep_item r bs i b fs u at lt s n h =
    from_deep r bs i (after_opener b fs) u at lt (deep_item_on r b fs _ _ h s n)
    (λ c wide. deep_item_on r b fs c _ h (wide_is_no_space r.strict c wide)
    (λ e. absurd (omega (arith, e, closer_bounds b))))

-- ---- keys and colons

pub open_key : (r : Reading) (bs : List ℕ) (i : ℕ) (fs : Frames) (es : EntriesSoFar) → IsUtf8 bs → IsCharBoundary bs i
    → i < length bs → get_or bs i 0 ≡ 34 → key_mark r fs es ≡ None
    → from r bs (before_key fs es) i ≡ from r bs (string (as_key fs es (left_at bs i)) [] between) (i + 1)
open_key r bs i fs es u at lt e h =
    from_step r bs i (before_key fs es) _ 34 u at lt e (lit< tt)
    (ap (λ k. move_before_key r k fs es (left_at bs i)) (class-char r.strict quote)
    ∙ ap (λ m. go m (string (as_key fs es (left_at bs i)) [] between)) h)

no_pairs_on : (fs : Frames) (es : EntriesSoFar) → (es ≡ [] → ⊥) → move_empty_object fs es ≡ bad
no_pairs_on fs [] h = absurd (h refl)
no_pairs_on fs (e ∷ es) h = refl

no_key_on : (r : Reading) (fs : Frames) (es : EntriesSoFar) (c left : ℕ) (k : Class) → key_mark r fs es ≡ None
    → is_whitespace r.strict c ≡ false → c ≢ 34
    → (es ≡ [] → c ≢ 125) → class_of r.strict c ≡ k → move_before_key r k fs es left ≡ bad
no_key_on r fs es c left whitespace h s q n e = absurd (no_space r.strict c s e)
no_key_on r fs es c left quote h s q n e = absurd (q (class-says r.strict c e))
no_key_on r fs es c left closes_object h s q n e = no_pairs_on fs es (λ f. n f (class-says r.strict c e))
no_key_on r fs es c left _ h s q n e = ap bad_at h

-- no key begins here
pub no_key : (r : Reading) (bs : List ℕ) (i : ℕ) (fs : Frames) (es : EntriesSoFar) → key_mark r fs es ≡ None
    → (i < length bs → is_whitespace r.strict (get_or bs i 0) ≡ false) → ((i < length bs) × (get_or bs i 0 ≡ 34) → ⊥)
    → (es ≡ [] → get_or bs i 0 ≢ 125) → StopsAt r (before_key fs es) bs i
no_key r bs i fs es h s q n =
    stops_by r (before_key fs es) bs i refl
    (λ lt. no_key_on r fs es (get_or bs i 0) (left_at bs i) (class_of r.strict (get_or bs i 0)) h (s lt)
    (λ e. q (lt, e)) n refl)
    (λ c wide. no_key_on r fs es c (left_at bs i) (class_of r.strict c) h (wide_is_no_space r.strict c wide)
    (λ e. absurd (omega (arith, e))) (λ f e. absurd (omega (arith, e))) refl)

-- where whitespace is allowed, it is skipped
pub whitespace_skips : (r : Reading) (p : State) → allows_whitespace p ≡ true → Skips r p (is_whitespace r.strict)
whitespace_skips r p e = record { ascii = space_is_ascii r.strict; stays = λ c n h. stays r p c n e h }

no_colon_on : (r : Reading) (fs : Frames) (es : EntriesSoFar) (k : List ℕ) (c : ℕ) (x : Class)
    → is_whitespace r.strict c ≡ false → c ≢ 58 → class_of r.strict c ≡ x → move_after_key x fs es k ≡ bad
no_colon_on r fs es k c whitespace s n e = absurd (no_space r.strict c s e)
no_colon_on r fs es k c colon s n e = absurd (n (class-says r.strict c e))
no_colon_on r fs es k c _ s n e = refl

-- no colon follows the key here
pub no_colon : (r : Reading) (bs : List ℕ) (i : ℕ) (fs : Frames) (es : EntriesSoFar) (k : List ℕ)
    → (i < length bs → is_whitespace r.strict (get_or bs i 0) ≡ false)
    → ((i < length bs) × (get_or bs i 0 ≡ 58) → ⊥) → StopsAt r (after_key fs es k) bs i
no_colon r bs i fs es k s n =
    stops_by r (after_key fs es k) bs i refl
    (λ lt. no_colon_on r fs es k (get_or bs i 0) (class_of r.strict (get_or bs i 0)) (s lt) (λ e. n (lt, e)) refl)
    (λ c wide. no_colon_on r fs es k c (class_of r.strict c) (wide_is_no_space r.strict c wide)
    (λ e. absurd (omega (arith, e))) refl)

-- ---- after an item

no_item_on : (r : Reading) (b : ContainerKind) (fs : Frames) (v : Value) (c : ℕ) (x : Class)
    → innermost_kind fs ≡ Some b → is_whitespace r.strict c ≡ false → c ≢ 44 → c ≢ closer b → class_of r.strict c ≡ x
    → move_after_value x fs v ≡ bad
no_item_on r b fs v c whitespace here s m n e = absurd (no_space r.strict c s e)
no_item_on r b fs v c comma here s m n e = absurd (m (class-says r.strict c e))
no_item_on r b (array_frame fs vs) v c closes_array here s m n e =
    absurd (n (class-says r.strict c e ∙ sym (same_closer Array b here)))
no_item_on r b (object_frame fs es k) v c closes_object here s m n e =
    absurd (n (class-says r.strict c e ∙ sym (same_closer Object b here)))
no_item_on r b fs v c _ here s m n e = refl

ends_inside : (b : ContainerKind) (fs : Frames) (v : Value) → innermost_kind fs ≡ Some b
    → last (after_value fs v) ≡ refused Fault.end []
ends_inside b no_frames v here = absurd (cc)
ends_inside b _ v here = refl

-- the next character is neither a comma nor the closing bracket of the innermost container
pub no_item : (r : Reading) (bs : List ℕ) (i : ℕ) (b : ContainerKind) (fs : Frames) (v : Value)
    → innermost_kind fs ≡ Some b → (i < length bs → is_whitespace r.strict (get_or bs i 0) ≡ false)
    → get_or bs i 0 ≢ 44 → get_or bs i 0 ≢ closer b → StopsAt r (after_value fs v) bs i
no_item r bs i b fs v here s m n =
    stops_by r (after_value fs v) bs i (ends_inside b fs v here) (λ lt. no_item_on r b fs v _ _ here (s lt) m n refl)
    (λ c wide. no_item_on r b fs v c _ here (wide_is_no_space r.strict c wide) (λ e. absurd (omega (arith, e)))
    (λ e. absurd (omega (arith, e, closer_bounds b))) refl)
