-- How a type is written and read back, and a struct by its fields: what an `impl` of `ReadsBack` or `ReadsAlike` for
-- one's own struct is made of. (The laws are proofs; they are here because those of the two traits cite them.)
use Rattle.std.specs.Prelude.{refl, List, [], ◌∷◌, ◌≡◌, ◌<◌, ◌^◌, ℕ, ℤ, pos, Bool, true, ◌&&◌, Option, Some, IsSome, MatchOption, ◌⊎◌, FitsSigned, nat_eq, encode_utf8, string_bytes}
use Rattle.std.specs.BTreeMap.{BTreeMap, IsOrdered, get_by_text}
use Rattle.std.specs.Bool.{beq}
use Rattle.std.specs.Char.{IsScalar}
use Rattle.std.specs.Cmp.Lexicographic.{pointwise}
use Rattle.std.specs.Int.{Width, w8, w16, w32, w64}
use Rattle.std.specs.List.{AllZip}
use Rattle.std.specs.Option.{option_eq}
use Rattle.std.specs.Ordering.{int_eq}
use Rattle.std.specs.String.{string_cmp, string_eq}
use Rattle.std.specs.declared.alloc.Global.{Global}
use Rattle.std.specs.declared.boxed.Box.{Box}
use Rattle.std.specs.declared.string.String.{String}
use Rattle.std.specs.declared.vec.Vec.{Vec}
use Rattle.std.proofs.Common.{sym, ap, ◌∙◌}
use Rattle.std.proofs.lemmas.Bool.{and_from}
use Rattle.std.proofs.lemmas.Option.{none-some}
use Rattle.jzon.specs.Decimal.{Decimal, integer_parts, same_decimal}
use Rattle.jzon.specs.IntoJson.{ListMeans, MapMeans, OptionMeans}
use Rattle.jzon.specs.JsonValue.{JsonValue}
use Rattle.jzon.specs.Readers.{is_array, is_object, items, number_in, text_in, truth_in}
use Rattle.jzon.specs.Same.{same}
use Rattle.jzon.specs.Value.{Value, null, boolean, kind_of, number, text, array, object, values_of}
use Rattle.jzon.specs.View.{view}
use Rattle.jzon_typed.specs.Alike.{AlikeBy, TakenAlike}
use Rattle.jzon_typed.specs.AlikeLaws.{alike-bool, alike-char, alike-int, alike-list, alike-nat, alike-number, alike-option, alike-pair, alike-text, alike-triple, alike-value, outlined}
use Rattle.jzon_typed.specs.AlikeLaws.{taken-alike-bool, taken-alike-char, taken-alike-int, taken-alike-list, taken-alike-nat, taken-alike-number, taken-alike-option, taken-alike-pair, taken-alike-text, taken-alike-triple}
use Rattle.jzon_typed.specs.Back.{back-bool, back-char, back-int, back-list, back-nat, back-number, back-option, back-pair, back-text, back-triple, back-value, entry-back}
use Rattle.jzon_typed.specs.Back.{taken-bool, taken-char, taken-int, taken-list, taken-nat, taken-number, taken-option, taken-pair, taken-text, taken-triple, entry-taken}
use Rattle.jzon_typed.specs.DecodeFields.{HasEntry}
use Rattle.jzon_typed.specs.DecodeMaps.{IsArrayOf, IsOneChar, ReadsEntries, ReadsItem, TakesEntries, TakesItem, TakesItems}
use Rattle.jzon_typed.specs.MapLaws.{alike-map, back-map, entry-alike, entry-taken-alike, taken-alike-map, taken-map}
use Rattle.jzon_typed.specs.Integers.{EqualIntegers, IsNatural, IsNaturalBelow, IsWhole, IsWholeOf}

-- the members of `ToJson` and `FromJson` of a type, its equality, and the laws of `ReadsBack` and `ReadsAlike`
pub record Codec (X : Type 0) : Type 1 where
  pub shows : X → Value → Type 0
  pub gives : Value → X → Type 0
  pub takes : Value → Type 0
  pub equal : X → X → Bool
  pub back : (x y : X) (v : Value) → shows x v → gives v y → equal y x ≡ true
  pub taken : (x : X) (v : Value) → shows x v → takes v
  pub alike : EqualIntegers → AlikeBy gives equal
  pub taken_alike : EqualIntegers → TakenAlike takes

-- ---- the types of the crate

-- of the integers from 0 to below a bound
abbrev pub natural : ℕ → Codec ℕ
natural b = record {
  shows = λ n v. (v ≡ number (integer_parts (pos n))) × (n < b);
  gives = IsNatural;
  takes = IsNaturalBelow b;
  equal = nat_eq;
  back = back-nat b;
  taken = taken-nat b;
  alike = alike-nat;
  taken_alike = taken-alike-nat b;
}

-- of the integers of a width
abbrev pub whole : Width → Codec ℤ
whole w = record {
  shows = λ n v. (v ≡ number (integer_parts n)) × FitsSigned w n;
  gives = IsWhole;
  takes = IsWholeOf w;
  equal = int_eq;
  back = back-int w;
  taken = taken-int w;
  alike = alike-int;
  taken_alike = taken-alike-int w;
}

-- of `u8`
abbrev pub u8 : Codec ℕ
u8 = natural (2 ^ 8)

-- of `u16`
abbrev pub u16 : Codec ℕ
u16 = natural (2 ^ 16)

-- of `u32`
abbrev pub u32 : Codec ℕ
u32 = natural (2 ^ 32)

-- of `u64` and `usize`
abbrev pub u64 : Codec ℕ
u64 = natural (2 ^ 64)

-- of `i8`
abbrev pub i8 : Codec ℤ
i8 = whole w8

-- of `i16`
abbrev pub i16 : Codec ℤ
i16 = whole w16

-- of `i32`
abbrev pub i32 : Codec ℤ
i32 = whole w32

-- of `i64` and `isize`
abbrev pub i64 : Codec ℤ
i64 = whole w64

-- of `bool`
abbrev pub bool : Codec Bool
bool = record {
  shows = λ b v. v ≡ boolean b;
  gives = λ v b. truth_in v ≡ Some b;
  takes = λ v. IsSome (truth_in v);
  equal = beq;
  back = back-bool;
  taken = taken-bool;
  alike = λ _. alike-bool;
  taken_alike = λ _. taken-alike-bool;
}

-- of `Number`
abbrev pub decimal : Codec Decimal
decimal = record {
  shows = λ n v. v ≡ number n;
  gives = λ v n. number_in v ≡ Some n;
  takes = λ v. IsSome (number_in v);
  equal = same_decimal;
  back = back-number;
  taken = taken-number;
  alike = λ _. alike-number;
  taken_alike = λ _. taken-alike-number;
}

-- of `JsonValue`
abbrev pub json_value : Codec JsonValue
json_value = record {
  shows = λ w v. v ≡ view w;
  gives = λ v w. view w ≡ v;
  takes = λ _. Unit {0};
  equal = λ w x. same (view w) (view x);
  back = back-value;
  taken = λ _ _ _. tt;
  alike = λ _. alike-value;
  taken_alike = λ _ _ _ _ _ _. tt;
}

-- of `String`
abbrev pub string : Codec (String Global)
string = record {
  shows = λ s v. v ≡ text (kind_of (string_bytes s)) (string_bytes s);
  gives = λ v s. text_in v ≡ Some (string_bytes s);
  takes = λ v. IsSome (text_in v);
  equal = string_eq;
  back = back-text;
  taken = taken-text;
  alike = λ _. alike-text;
  taken_alike = λ _. taken-alike-text;
}

-- of `char`
abbrev pub char : Codec ℕ
char = record {
  shows = λ c v. (v ≡ text (kind_of (encode_utf8 c)) (encode_utf8 c)) × IsScalar c;
  gives = λ v c. text_in v ≡ Some (encode_utf8 c);
  takes = IsOneChar;
  equal = nat_eq;
  back = back-char;
  taken = taken-char;
  alike = λ _. alike-char;
  taken_alike = λ _. taken-alike-char;
}

-- of `Vec<T>`
abbrev pub vec : {X : Type 0} → Codec X → Codec (Vec X Global)
vec c = record {
  shows = λ list v. ListMeans c.shows list.items v;
  gives = λ v xs. (is_array v ≡ true) × AllZip c.gives (items v) xs.items;
  takes = TakesItems c.takes;
  equal = λ xs ys. pointwise c.equal xs.items ys.items;
  back = λ x y. back-list c.shows c.gives c.equal c.back x.items y.items;
  taken = λ x. taken-list c.shows c.takes c.taken x.items;
  alike = λ law x y. alike-list c.gives c.equal (c.alike law) x.items y.items;
  taken_alike = λ law. taken-alike-list c.takes (c.taken_alike law);
}

-- of `Box<T>`
abbrev pub boxed : {X : Type 0} → Codec X → Codec (Box X Global)
boxed c = record {
  shows = λ b v. c.shows b.value v;
  gives = λ v b. c.gives v b.value;
  takes = c.takes;
  equal = λ b d. c.equal b.value d.value;
  back = λ x y. c.back x.value y.value;
  taken = λ x. c.taken x.value;
  alike = λ law x y. c.alike law x.value y.value;
  taken_alike = c.taken_alike;
}

-- of `Option<T>`, if no value of its type is written as null
abbrev pub option : {X : Type 0} (c : Codec X) → ((x : X) → c.shows x null → ⊥) → Codec (Option X)
option c never = record {
  shows = OptionMeans c.shows;
  gives = λ v o. MatchOption o (v ≡ null) (λ x. (v ≡ null → ⊥) × c.gives v x);
  takes = λ v. (v ≡ null) ⊎ c.takes v;
  equal = option_eq c.equal;
  back = back-option c.shows c.gives c.equal c.back never;
  taken = taken-option c.shows c.takes c.taken;
  alike = λ law. alike-option c.gives c.equal (c.alike law);
  taken_alike = λ law. taken-alike-option c.takes (c.taken_alike law);
}

-- of a pair
abbrev pub tuple2 : {X Y : Type 0} → Codec X → Codec Y → Codec (X × Y)
tuple2 c d = record {
  shows = λ p v. (x y : Value) × c.shows p.0 x × d.shows p.1 y × (v ≡ array (values_of (x ∷ y ∷ [])));
  gives = λ v p. IsArrayOf 2 v × ReadsItem v 0 c.gives p.0 × ReadsItem v 1 d.gives p.1;
  takes = λ v. IsArrayOf 2 v × TakesItem v 0 c.takes × TakesItem v 1 d.takes;
  equal = λ p q. c.equal p.0 q.0 && d.equal p.1 q.1;
  back = back-pair c.shows d.shows c.gives c.equal c.back d.gives d.equal d.back;
  taken = taken-pair c.shows d.shows c.takes c.taken d.takes d.taken;
  alike = λ law. alike-pair c.gives c.equal (c.alike law) d.gives d.equal (d.alike law);
  taken_alike = λ law. taken-alike-pair c.takes d.takes (c.taken_alike law) (d.taken_alike law);
}

-- of a triple
abbrev pub tuple3 : {X Y Z : Type 0} → Codec X → Codec Y → Codec Z → Codec (X × Y × Z)
tuple3 c d e = record {
  shows = λ p v. (x y z : Value) × c.shows p.0 x × d.shows p.1 y × e.shows p.2 z
      × (v ≡ array (values_of (x ∷ y ∷ z ∷ [])));
  gives = λ v p. IsArrayOf 3 v × ReadsItem v 0 c.gives p.0 × ReadsItem v 1 d.gives p.1 × ReadsItem v 2 e.gives p.2;
  takes = λ v. IsArrayOf 3 v × TakesItem v 0 c.takes × TakesItem v 1 d.takes × TakesItem v 2 e.takes;
  equal = λ p q. (c.equal p.0 q.0 && d.equal p.1 q.1) && e.equal p.2 q.2;
  back = back-triple c.shows d.shows e.shows c.gives c.equal c.back d.gives d.equal d.back e.gives e.equal e.back;
  taken = taken-triple c.shows d.shows e.shows c.takes c.taken d.takes d.taken e.takes e.taken;
  alike = λ law. alike-triple c.gives c.equal (c.alike law) d.gives d.equal (d.alike law) e.gives e.equal (e.alike law);
  taken_alike = λ law.
      taken-alike-triple c.takes d.takes e.takes (c.taken_alike law) (d.taken_alike law) (e.taken_alike law);
}

-- of `BTreeMap<String, T>`
abbrev pub map : {X : Type 0} → Codec X → Codec (BTreeMap (String Global) X)
map c = record {
  shows = λ m v. MapMeans string_bytes c.shows m.entries v × IsOrdered string_cmp m;
  gives = λ v m. (is_object v ≡ true) × ReadsEntries c.gives v (get_by_text m) × IsOrdered string_cmp m;
  takes = TakesEntries c.takes;
  equal = λ m n. pointwise (λ p q. string_eq p.0 q.0 && c.equal p.1 q.1) m.entries n.entries;
  back = back-map c.shows c.gives c.equal c.back;
  taken = taken-map c.shows c.takes c.taken;
  alike = λ law. alike-map c.gives c.equal (c.alike law);
  taken_alike = λ law. taken-alike-map c.takes (c.taken_alike law);
}

-- ---- a struct

-- the fields of a struct: the key of each, what it is of the struct, and its codec
pub data Fields (S : Type 0) : Type 1 where
  last : (key : List ℕ) {X : Type 0} (of : S → X) (codec : Codec X) → Fields S
  field : (key : List ℕ) {X : Type 0} (of : S → X) (codec : Codec X) (rest : Fields S) → Fields S

-- each field is shown by the entry of its key
abbrev pub shows_fields : {S : Type 0} → Fields S → S → Value → Type 0
shows_fields (last key of codec) s v = HasEntry v key (codec.shows (of s))
shows_fields (field key of codec rest) s v = HasEntry v key (codec.shows (of s)) × shows_fields rest s v

-- and given by it
abbrev pub gives_fields : {S : Type 0} → Fields S → Value → S → Type 0
gives_fields (last key of codec) v s = HasEntry v key (λ w. codec.gives w (of s))
gives_fields (field key of codec rest) v s = HasEntry v key (λ w. codec.gives w (of s)) × gives_fields rest v s

-- each field is taken from the entry of its key
abbrev pub takes_fields : {S : Type 0} → Fields S → Value → Type 0
takes_fields (last key of codec) v = HasEntry v key codec.takes
takes_fields (field key of codec rest) v = HasEntry v key codec.takes × takes_fields rest v

-- as the derived `PartialEq` compares
abbrev pub equal_fields : {S : Type 0} → Fields S → S → S → Bool
equal_fields (last key of codec) s t = codec.equal (of s) (of t)
equal_fields (field key of codec rest) s t = codec.equal (of s) (of t) && equal_fields rest s t

-- of fields that are shown, only equal ones are given
pub back-fields : {S : Type 0} (f : Fields S) (x y : S) (v : Value) → shows_fields f x v → gives_fields f v y
    → equal_fields f y x ≡ true
back-fields (last key of c) x y v s g =
    entry-back c.shows c.gives c.equal c.back (of x) (of y) v key s g
back-fields (field key of c rest) x y v s g =
    and_from (c.equal (of y) (of x)) (equal_fields rest y x)
    (entry-back c.shows c.gives c.equal c.back (of x) (of y) v key s.0 g.0) (back-fields rest x y v s.1 g.1)

-- a value that has an entry is an object
entry-object : (v : Value) (key : List ℕ) (P : Value → Type 0) → HasEntry v key P → is_object v ≡ true
entry-object (object ps) key P h = refl
entry-object null key P (w, at, holds) = absurd (none-some w at)
entry-object (boolean b) key P (w, at, holds) = absurd (none-some w at)
entry-object (text k s) key P (w, at, holds) = absurd (none-some w at)
entry-object (number n) key P (w, at, holds) = absurd (none-some w at)
entry-object (array vs) key P (w, at, holds) = absurd (none-some w at)

fields-object : {S : Type 0} (f : Fields S) (s : S) (v : Value) → shows_fields f s v → is_object v ≡ true
fields-object (last key of c) s v shown = entry-object v key (c.shows (of s)) shown
fields-object (field key of c rest) s v shown = entry-object v key (c.shows (of s)) shown.0

taken-fields : {S : Type 0} (f : Fields S) (s : S) (v : Value) → shows_fields f s v → takes_fields f v
taken-fields (last key of c) s v shown = entry-taken c.shows c.takes c.taken (of s) v key shown
taken-fields (field key of c rest) s v shown =
    (entry-taken c.shows c.takes c.taken (of s) v key shown.0, taken-fields rest s v shown.1)

-- and some are taken
pub taken-struct : {S : Type 0} (f : Fields S) (s : S) (v : Value) → shows_fields f s v
    → (is_object v ≡ true) × takes_fields f v
taken-struct f s v shown = (fields-object f s v shown, taken-fields f s v shown)

-- of equal values equal fields are given
pub alike-fields : {S : Type 0} (f : Fields S) → EqualIntegers → AlikeBy (gives_fields f) (equal_fields f)
alike-fields (last key of c) law x y v w h f g =
    entry-alike c.gives c.equal (c.alike law) (of x) (of y) v w key h f g
alike-fields (field key of c rest) law x y v w h f g =
    and_from (c.equal (of x) (of y)) (equal_fields rest x y)
    (entry-alike c.gives c.equal (c.alike law) (of x) (of y) v w key h f.0 g.0)
    (alike-fields rest law x y v w h f.1 g.1)

taken-alike-fields : {S : Type 0} (f : Fields S) → EqualIntegers → TakenAlike (takes_fields f)
taken-alike-fields (last key of c) law v w h cut taken =
    entry-taken-alike c.takes (c.taken_alike law) v w key h cut taken
taken-alike-fields (field key of c rest) law v w h cut taken = (
  entry-taken-alike c.takes (c.taken_alike law) v w key h cut taken.0,
  taken-alike-fields rest law v w h cut taken.1,
)

-- and one is taken if the other is
pub taken-alike-struct : {S : Type 0} (f : Fields S) → EqualIntegers
    → TakenAlike (λ v. (is_object v ≡ true) × takes_fields f v)
taken-alike-struct f law v w h cut (is, taken) =
    (ap (λ o. o.2) (sym (outlined v w h.0)) ∙ is, taken-alike-fields f law v w h cut taken)

-- the codec of a struct that is written as an object of its fields
abbrev pub struct_of : {S : Type 0} → Fields S → Codec S
struct_of f = record {
  shows = shows_fields f;
  gives = gives_fields f;
  takes = λ v. (is_object v ≡ true) × takes_fields f v;
  equal = equal_fields f;
  back = back-fields f;
  taken = taken-struct f;
  alike = alike-fields f;
  taken_alike = taken-alike-struct f;
}
