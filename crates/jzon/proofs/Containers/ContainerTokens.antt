-- The tokens of arrays and objects, by the offset of the parser's cursor.
use Rattle.jzon_base.proofs.Common.{◌≡◌, ◌≢◌, ◌∙◌, ℕ, ◌+◌, ◌<◌, ◌≤◌, List, [], length, drop, get_or, refl, arith, None}
use Rattle.jzon_base.proofs.Common.{Some, ap, true, lit<, chars}
use Rattle.std.proofs.lemmas.Bool.{le-leb}
use Rattle.jzon.specs.declared.stop.Stop.{Stop}
use Rattle.jzon.specs.declared.stop.Stop.TheVariants.{Limit}
use Rattle.jzon_tree.specs.Value.{Value, array, no_values, object, no_pairs}
use Rattle.jzon.specs.Private.Brackets.{opener, closer, empty_container, innermost_kind, after_opener, after_comma}
use Rattle.jzon.specs.Private.Brackets.{after_closer}
use Rattle.jzon.specs.Private.Classes.{Class, opens_array, closes_array, opens_object, closes_object, comma, colon}
use Rattle.jzon.specs.Private.Classes.{class_of}
use Rattle.jzon.specs.Private.Cursor.{left, next_byte, IsPast, IsAfter}
use Rattle.jzon.specs.Private.Machine.{EntriesSoFar, Frames, no_frames, array_frame, object_frame, as_key, between, before}
use Rattle.jzon.specs.Private.Machine.{before_key, string, after_key, after_value, frames_depth, value_mark, key_mark}
use Rattle.jzon.specs.Private.Machine.{from, from_closed, left_at, fault_here, Reports, ReportsUnlessMemory, State, Move, go}
use Rattle.jzon.specs.Private.Machine.{move, allows_whitespace, move_before, move_before_key, move_after_key}
use Rattle.jzon.specs.Private.Machine.{move_after_value}
use Rattle.jzon.specs.declared.container_kind.ContainerKind.{ContainerKind}
use Rattle.jzon.specs.declared.container_kind.ContainerKind.TheVariants.{Array, Object}
use Rattle.jzon.specs.declared.cursor.Cursor.{Cursor}
pub use Rattle.jzon.proofs.Containers.ContainerSteps.{closer_bounds}
use Rattle.jzon.proofs.Containers.ContainerSteps.{same_closer, deep_item, no_item, open_key, no_key, no_colon}
use Rattle.jzon.proofs.Texts.ClassesOfCharacters.{char_of, class-char}
use Rattle.jzon.proofs.Texts.Cursors.{ReadTo, read_to_here, utf8_of, token_goes}
use Rattle.jzon.proofs.Containers.FrameViews.{byte_within}
use Rattle.jzon.proofs.Texts.StepsByByte.{from_step, from_stop}
use Rattle.jzon.proofs.Texts.ReportedErrors.{reported_deep, reported_end}

-- ---- brackets

pub opener_bounds : (b : ContainerKind) → (0 < opener b) × (opener b < 128)
opener_bounds Array = (omega arith, omega arith)
opener_bounds Object = (omega arith, omega arith)

-- ---- one character

-- the byte at the end of what was read is the character of class k, which leads from p to q
leads_at : (k : Class) (t u : Cursor) (o p q : State) (end : ℕ) (moves : Class → Move)
    → move t.reading p (char_of k) (left_at t.source.now end) ≡ moves (class_of t.reading.strict (char_of k))
    → moves k ≡ go None q → 0 < char_of k → char_of k < 128 → allows_whitespace q ≡ true → ReadTo t o p end
    → IsPast t.reading t.source.now (end + 1) u → get_or t.source.now end 0 ≡ char_of k
    → IsAfter t u × (left t o ≡ left u q)
leads_at k t u o p q end moves by goes some ascii allows read past e =
    token_goes t u o q (end + 1) past (omega (arith, read.within)) allows
    (read.same ∙ from_step t.reading t.source.now end p q (char_of k) (utf8_of t) read.boundary
    (byte_within t.source.now end (char_of k) e some) e ascii
    (by ∙ ap moves (class-char t.reading.strict k) ∙ goes))

-- the next byte is
leads : (k : Class) (t u : Cursor) (p q : State) (moves : Class → Move)
    → move t.reading p (char_of k) (left_at t.source.now t.index) ≡ moves (class_of t.reading.strict (char_of k))
    → moves k ≡ go None q → 0 < char_of k → char_of k < 128 → allows_whitespace q ≡ true
    → IsPast t.reading t.source.now (t.index + 1) u → next_byte t ≡ char_of k → IsAfter t u × (left t p ≡ left u q)
leads k t u p q moves by goes some ascii allows past e =
    leads_at k t u p p q t.index moves by goes some ascii allows (read_to_here t p) past e

-- ---- after the opening bracket

pub opens : (b : ContainerKind) (t u : Cursor) (fs : Frames) → IsPast t.reading t.source.now (t.index + 1) u
    → next_byte t ≡ opener b → value_mark t.reading fs ≡ None
    → IsAfter t u × (left t (before fs) ≡ left u (after_opener b fs))
opens Array t u fs past e mark =
    leads opens_array t u (before fs) (before (array_frame fs [])) (λ k. move_before t.reading k fs 91) refl
    (ap (λ m. go m (before (array_frame fs []))) mark) (lit< tt) (lit< tt) refl past e
opens Object t u fs past e mark =
    leads opens_object t u (before fs) (before_key fs []) (λ k. move_before t.reading k fs 123) refl
    (ap (λ m. go m (before_key fs [])) mark) (lit< tt) (lit< tt) refl past e

pub empty_closes : (b : ContainerKind) (t u : Cursor) (fs : Frames) → IsPast t.reading t.source.now (t.index + 1) u
    → next_byte t ≡ closer b → IsAfter t u × (left t (after_opener b fs) ≡ left u (after_value fs (empty_container b)))
empty_closes Array t u fs past e =
    leads closes_array t u (before (array_frame fs [])) (after_value fs (array no_values))
    (λ k. move_before t.reading k (array_frame fs []) 93) refl refl (lit< tt) (lit< tt) refl past e
empty_closes Object t u fs past e =
    leads closes_object t u (before_key fs []) (after_value fs (object no_pairs))
    (λ k. move_before_key t.reading k fs [] (left_at t.source.now t.index)) refl refl (lit< tt) (lit< tt) refl past e

pub left_open : (b : ContainerKind) (t : Cursor) (fs : Frames) (e : Stop) → length t.source.now ≤ t.index
    → Reports t.source.now e (fault_here (chars (drop t.index t.source.now)))
    → ReportsUnlessMemory t.source.now e (left t (after_opener b fs))
left_open Array t fs e le = reported_end t.reading t.source.now t.index (before (array_frame fs [])) e le refl
left_open Object t fs e le = reported_end t.reading t.source.now t.index (before_key fs []) e le refl

pub item_too_deep : (b : ContainerKind) (t : Cursor) (fs : Frames) → t.index < length t.source.now → next_byte t ≢ closer b
    → t.reading.depth ≤ frames_depth fs
    → ReportsUnlessMemory t.source.now (Limit t.index) (left t (after_opener b fs))
item_too_deep b t fs lt n le =
    reported_deep t.source.now t.index _ (utf8_of t) t.boundary
    (deep_item t.reading t.source.now t.index b fs (utf8_of t) t.boundary lt (t.past_whitespace lt) n
    (le-leb t.reading.depth (frames_depth fs) le))

-- ---- after an item

pub closes : (b : ContainerKind) (t u : Cursor) (o : State) (end : ℕ) (fs : Frames) (v : Value)
    → innermost_kind fs ≡ Some b → ReadTo t o (after_value fs v) end → IsPast t.reading t.source.now (end + 1) u
    → get_or t.source.now end 0 ≡ closer b → IsAfter t u × (left t o ≡ left u (after_closer fs v))
closes b t u o end no_frames v here read past e = absurd (cc)
closes b t u o end (array_frame fs vs) v here read past e =
    leads_at closes_array t u o (after_value (array_frame fs vs) v) (after_closer (array_frame fs vs) v) end
    (λ k. move_after_value k (array_frame fs vs) v) refl refl (lit< tt) (lit< tt) refl read past
    (e ∙ same_closer Array b here)
closes b t u o end (object_frame fs es k) v here read past e =
    leads_at closes_object t u o (after_value (object_frame fs es k) v) (after_closer (object_frame fs es k) v) end
    (λ x. move_after_value x (object_frame fs es k) v) refl refl (lit< tt) (lit< tt) refl read past
    (e ∙ same_closer Object b here)

pub comma_goes : (b : ContainerKind) (t u : Cursor) (o : State) (end : ℕ) (fs : Frames) (v : Value)
    → innermost_kind fs ≡ Some b → ReadTo t o (after_value fs v) end → IsPast t.reading t.source.now (end + 1) u
    → get_or t.source.now end 0 ≡ 44 → IsAfter t u × (left t o ≡ left u (after_comma fs v))
comma_goes b t u o end no_frames v here read past e = absurd (cc)
comma_goes b t u o end (array_frame fs vs) v here read past e =
    leads_at comma t u o (after_value (array_frame fs vs) v) (after_comma (array_frame fs vs) v) end
    (λ k. move_after_value k (array_frame fs vs) v) refl refl (lit< tt) (lit< tt) refl read past e
comma_goes b t u o end (object_frame fs es k) v here read past e =
    leads_at comma t u o (after_value (object_frame fs es k) v) (after_comma (object_frame fs es k) v) end
    (λ x. move_after_value x (object_frame fs es k) v) refl refl (lit< tt) (lit< tt) refl read past e

pub item_stops : (b : ContainerKind) (t : Cursor) (fs : Frames) (v : Value) → innermost_kind fs ≡ Some b → next_byte t ≢ 44
    → next_byte t ≢ closer b → left t (after_value fs v) ≡ fault_here (chars (drop t.index t.source.now))
item_stops b t fs v here no_comma no_end =
    from_stop t.reading t.source.now t.index (after_value fs v) (utf8_of t) t.boundary
    (no_item t.reading t.source.now t.index b fs v here t.past_whitespace no_comma no_end)

-- ---- keys

-- a key was read up to its closing quote, which is before this offset
pub key_closes : (t : Cursor) (fs : Frames) (es : EntriesSoFar) (text : List ℕ) (end : ℕ) → next_byte t ≡ 34
    → key_mark t.reading fs es ≡ None
    → from t.reading t.source.now (string (as_key fs es (left_at t.source.now t.index)) [] between) (t.index + 1)
    ≡ from_closed t.reading t.source.now (as_key fs es (left_at t.source.now t.index)) text end
    → left t (before_key fs es) ≡ from_closed t.reading t.source.now (as_key fs es (left_at t.source.now t.index)) text
    end
key_closes t fs es text end e mark read =
    open_key t.reading t.source.now t.index fs es (utf8_of t) t.boundary
    (byte_within t.source.now t.index 34 e (lit< tt)) e mark ∙ read

pub key_missing : (t : Cursor) (fs : Frames) (es : EntriesSoFar) → key_mark t.reading fs es ≡ None → next_byte t ≢ 34
    → (es ≡ [] → next_byte t ≢ 125) → left t (before_key fs es) ≡ fault_here (chars (drop t.index t.source.now))
key_missing t fs es mark no_quote no_end =
    from_stop t.reading t.source.now t.index (before_key fs es) (utf8_of t) t.boundary
    (no_key t.reading t.source.now t.index fs es mark t.past_whitespace (λ here. no_quote here.1) no_end)

pub colon_read : (t u : Cursor) (o : State) (end : ℕ) (fs : Frames) (es : EntriesSoFar) (k : List ℕ)
    → ReadTo t o (after_key fs es k) end → IsPast t.reading t.source.now (end + 1) u → get_or t.source.now end 0 ≡ 58
    → IsAfter t u × (left t o ≡ left u (before (object_frame fs es k)))
colon_read t u o end fs es k read past e =
    leads_at colon t u o (after_key fs es k) (before (object_frame fs es k)) end (λ x. move_after_key x fs es k) refl
    refl (lit< tt) (lit< tt) refl read past e

pub colon_missing : (t : Cursor) (fs : Frames) (es : EntriesSoFar) (k : List ℕ) → next_byte t ≢ 58
    → left t (after_key fs es k) ≡ fault_here (chars (drop t.index t.source.now))
colon_missing t fs es k none =
    from_stop t.reading t.source.now t.index (after_key fs es k) (utf8_of t) t.boundary
    (no_colon t.reading t.source.now t.index fs es k t.past_whitespace (λ here. none here.1))
