-- No message of an error is longer than 1,000 bytes: how long each part of it is at most. A lemma's last clause is of
-- each variant that no other one names, so also of a new one.
use Rattle.std.proofs.Common.{◌≡◌, ◌≤◌, ◌<◌, ◌^◌, ℕ, List, [], ◌++◌, length, Bool, true, false, ◌==◌, if◌then◌else◌, Option}
use Rattle.std.proofs.Common.{None, Some, decimal, encode_utf8, nat_le, ap, inl, inr, arith, lit<, lit≤, length-append, string_bytes}
use Rattle.std.proofs.lemmas.Bool.{cases_lt}
use Rattle.std.proofs.lemmas.Bool.Decides.{nat_tests}
use Rattle.std.proofs.lemmas.Fmt.{length-decimal-le}
use Rattle.std.proofs.lemmas.Str.{length-encode, len_utf8_bounds}
use Rattle.jzon.specs.Decimal.{Decimal}
use Rattle.jzon.specs.Error as text
use Rattle.jzon.specs.Error.TheVariants as fault
use Rattle.jzon.specs.NumberText.{decimal_text}
use Rattle.jzon_pointer.specs.Errors.{at_text, cause_text, count_text, error_text, expected_text, found_text, in_member_text}
use Rattle.jzon_pointer.specs.Errors.{in_operation_text, inner_words, lost_text, member_of, member_text, number_shown, operation_of}
use Rattle.jzon_pointer.specs.Errors.{place_of, pointer_of, pointer_words, position_of, text_of, text_words}
use Rattle.jzon_pointer.specs.Errors.{what_words, words_text}
use Rattle.jzon_pointer.specs.ErrorTexts.{parent_text, primitive_text, token_text}
use Rattle.jzon_pointer.specs.Shown.{escape_text, is_hidden_pair, is_hidden_unit, pair_text, place_text, shown_char}
use Rattle.jzon_pointer.specs.declared.error.Error.{Error}
use Rattle.jzon_pointer.specs.declared.error.Inner.{Inner}
use Rattle.jzon_pointer.specs.declared.error.Inner.TheVariants.{Text, Boxed}
use Rattle.jzon_pointer.specs.declared.error.What.{What}
use Rattle.jzon_pointer.specs.declared.error.What.TheVariants as what
use Rattle.jzon_pointer.specs.declared.error.parts.Cause.{Cause}
use Rattle.jzon_pointer.specs.declared.error.parts.Cause.TheVariants as cause
use Rattle.jzon_pointer.specs.declared.error.parts.Expected.{Expected}
use Rattle.jzon_pointer.specs.declared.error.parts.Expected.TheVariants as expected
use Rattle.jzon_pointer.specs.declared.error.parts.Found.{Found}
use Rattle.jzon_pointer.specs.declared.error.parts.Found.TheVariants as found
use Rattle.jzon_pointer.specs.declared.error.parts.Member.{Member}
use Rattle.jzon_pointer.specs.declared.error.parts.Member.TheVariants as member
use Rattle.jzon_pointer.specs.declared.pointer.PointerError.{PointerError}
use Rattle.jzon_pointer.specs.declared.pointer.PointerError.TheVariants as pointer
use Rattle.jzon_pointer.specs.declared.pointer.Primitive.{Primitive}
use Rattle.jzon_pointer.specs.declared.pointer.Primitive.TheVariants as primitive
use Rattle.jzon_pointer.specs.declared.pointer.Reason.{Reason}
use Rattle.jzon_pointer.specs.declared.pointer.Reason.TheVariants.{BadEscape}
use Rattle.jzon_pointer.proofs.CutLengths.{names-short, pointer-short, token-short, words-short}

either : (b : Bool) (x y : List ℕ) (k : ℕ) → length x ≤ k → length y ≤ k → length (if b then x else y) ≤ k
either true x y k h g = h
either false x y k h g = g

-- ---- numbers and characters

count-is : (n : ℕ) → n < 2 ^ 64 → count_text n ≡ decimal n
count-is n h = grind (arith, nat_tests)

count-none : (n : ℕ) → 2 ^ 64 ≤ n → count_text n ≡ []
count-none n h = grind (arith, nat_tests)

count-short : (n : ℕ) → length (count_text n) ≤ 20
count-short n = elim (cases_lt n (2 ^ 64)) [
  | inl small ↦
      let digits = length-decimal-le 20 n (lit< tt) (omega (arith, small)) small in
      omega (arith, ap length (count-is n small), digits)
  | inr large ↦ omega (arith, ap length (count-none n large))
]

few-shown : (s : List ℕ) → length (if nat_le (length s) 29 then s else []) ≤ 29
few-shown s = grind (arith, nat_tests)

number-short : (n : Decimal) → length (number_shown n) ≤ 29
number-short n = few-shown (decimal_text n)

wide-short : (c : ℕ) → length (if is_hidden_pair c then pair_text c else encode_utf8 c) ≤ 12
wide-short c =
    let bytes = length-encode c in
    let few = len_utf8_bounds c in
    either (is_hidden_pair c) (pair_text c) (encode_utf8 c) 12 (lit≤ tt) (search (lit≤, tt, arith))

char-short : (c : ℕ) → length (shown_char c) ≤ 12
char-short c =
    either (c == 34) _ _ 12 (lit≤ tt)
    (either (c == 92) _ _ 12 (lit≤ tt)
    (either (c == 10) _ _ 12 (lit≤ tt)
    (either (c == 13) _ _ 12 (lit≤ tt)
    (either (c == 9) _ _ 12 (lit≤ tt) (either (is_hidden_unit c) (escape_text c) _ 12 (lit≤ tt) (wide-short c))))))

-- ---- what an error names

primitive-short : (p : Primitive) → length (primitive_text p) ≤ 9
primitive-short primitive.Null = lit≤ tt
primitive-short _ = lit≤ tt

member-short : (m : Member) → length (member_text m) ≤ 7
member-short member.Op = lit≤ tt
member-short _ = lit≤ tt

ruleset lengths = (
  length-append,
  count-short,
  number-short,
  char-short,
  primitive-short,
  member-short,
  pointer-short,
  token-short,
  words-short,
  names-short,
)

expected-short : (e : Expected) → length (expected_text e) ≤ 202
expected-short (expected.Other words) = words-short words.now
expected-short _ = grind (arith, nat_tests, lengths)

found-short : (f : Found) → length (found_text f) ≤ 460
found-short (found.Boolean true) = lit≤ tt
found-short (found.Boolean false) = lit≤ tt
found-short _ = grind (arith, nat_tests, lengths)

cause-short : (c : Cause) → length (cause_text c) ≤ 24
cause-short cause.NotAnArray = lit≤ tt
cause-short _ = grind (arith, lengths)

lost-short : (r : Reason) (p t : List ℕ) → length (lost_text r p t) ≤ 700
lost-short BadEscape p t = lit≤ tt
lost-short _ p t = grind (arith, nat_tests, lengths)

pointer-error-short : (e : PointerError) (p : List ℕ) → length (pointer_words e p) ≤ 700
pointer-error-short (pointer.Missing start end reason) p =
    lost-short reason (parent_text p start) (token_text p start end)
pointer-error-short _ p = lit≤ tt

ruleset words_lengths = (lengths, expected-short, found-short, cause-short, pointer-error-short)

what-short : (w : What) (p : List ℕ) → length (what_words w p) ≤ 707
what-short (what.Said words) p = grind (arith, words_lengths)
what-short _ p = grind (arith, words_lengths)

text-short : (e : text.Error) → length (text_words e) ≤ 224
text-short fault.OutOfMemory = lit≤ tt
text-short _ = grind (arith, lengths)

-- ---- the message

all-words-short : (i : Inner) → length (inner_words i) ≤ 707
all-words-short (Text l) = grind (arith, text-short)
all-words-short (Boxed b) = what-short b.value.what (string_bytes b.value.pointer)
all-words-short _ = lit≤ tt

operation-short : (n : Option ℕ) → length (in_operation_text n) ≤ 32
operation-short None = lit≤ tt
operation-short (Some n) = grind (arith, lengths)

in-member-short : (m : Option Member) → length (in_member_text m) ≤ 9
in-member-short None = lit≤ tt
in-member-short (Some m) = grind (arith, lengths)

place-short : (p : List ℕ) → length (place_text p) ≤ 204
place-short p = grind (arith, nat_tests, lengths)

at-short : (at : Option (ℕ × ℕ)) → length (at_text at) ≤ 47
at-short None = lit≤ tt
at-short (Some p) = grind (arith, lengths)

line-short : (s t u v w : List ℕ) → length s ≤ 32 → length t ≤ 9 → length u ≤ 204 → length v ≤ 707 → length w ≤ 47
    → length (s ++ (t ++ (u ++ (v ++ w)))) ≤ 1000
line-short s t u v w a b c d e = grind (arith, length-append)

pub error-short : (e : Error) → length (error_text e) ≤ 1000
error-short e =
    let n = operation_of e in
    let m = member_of e in
    let p = pointer_of e in
    let at = position_of (text_of e) (place_of e) in
    line-short (in_operation_text n) (in_member_text m) (place_text p) (words_text e) (at_text at)
    (operation-short n) (in-member-short m) (place-short p) (all-words-short e.inner) (at-short at)
