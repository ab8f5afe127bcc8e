-- The meaning of a tree that breaks no limit is a value that the laws `redump` and `reads_back` apply to.
use Rattle.jzon_base.proofs.Common.{◌≡◌, ℕ, suc, ◌-◌, ◌<◌, ◌≤◌, ℤ, List, [], ◌∷◌, ◌++◌, Bool}
use Rattle.jzon_base.proofs.Common.{true, false, ◌&&◌, nat_le, if◌then◌else◌, Option, None, codes, refl, sym, subst}
use Rattle.jzon_base.proofs.Common.{arith, FitsSigned, IsUtf8, w16, fold, AllByRecursion, IsDistinct, bytes_eq, scalar}
use Rattle.jzon_base.proofs.Common.{scalars, and_parts, nat_tests, ints, clamps, AllPairs-from_IsDistinct}
use Rattle.jzon_base.proofs.Common.{bytes_eq-Decides, encodes-append, IsUtf8-append, IsUtf8-nil}
use Rattle.std.proofs.lemmas.Bool.{leb-false}
use Rattle.jzon_base.specs.Digits.{clamp}
use Rattle.jzon_base.specs.PairList.{keys_of, put, put_each}
use Rattle.jzon_base.proofs.Numbers.DigitPrefixes.{kept_len_is_longest}
use Rattle.jzon_base.proofs.Entries.PairLaws.{All-put}
use Rattle.jzon_base.proofs.Entries.PutEach.{IsDistinct-put_each}
use Rattle.jzon_tree.specs.Value.{Value, object, Values, pairs_of, nest, most_nest, most_nest_under}
use Rattle.jzon_tree.specs.Text.{compact}
use Rattle.jzon_tree.specs.Lawful.{InRange, IsValue, AreValues, ArePairs, HasNoNan, HaveNoNan, PairsHaveNoNan}
use Rattle.jzon_tree.proofs.Laws.ValueLaws.{IsValue-text}
use Rattle.jzon_tree.proofs.Values.Views.{list_of_pairs-pairs_of}
use Rattle.jzon.specs.Reading.{Reading}
use Rattle.jzon.specs.Grammar.{Numeral, Item, simple, single, double, Node, Elements, no_elements, element, Members}
use Rattle.jzon.specs.Grammar.{no_members, member, Document, AreHex, IsItem, AreItems, is_simple, is_high, is_low}
use Rattle.jzon.specs.Grammar.{is_surrogate, code_unit, IsNode, AreElements, AreMembers}
use Rattle.jzon.specs.Grammar as grammar
use Rattle.jzon.specs.Spelling.{Breach, Cell, cell, plain, deep_if, deep, breach_if, node_cells, elements_cells}
use Rattle.jzon.specs.Spelling.{members_cells, cells}
use Rattle.jzon.specs.Meaning.{number_of, unescaped, pair_char, item_text, characters_of, bytes_of, meaning}
use Rattle.jzon.specs.Meaning.{elements_meaning, members_meaning}
use Rattle.jzon.specs.Fault.{Parses}
use Rattle.jzon.specs.Laws.{IsReadAs, Redump}
use Rattle.jzon.specs.Answer.{IsReadable}
use Rattle.jzon.proofs.Strings.HexDigits.{hex_is_below_16}
use Rattle.jzon.proofs.ReadBack.UnmarkedCells.{HaveNoMarks, unmarked, plain_rest, signed_first, items_rest, key_first}

-- ---- numbers

clamped_fits : (z : ℤ) → FitsSigned w16 (clamp z)
clamped_fits z = omega (arith, ints, clamps)

number_in_range : (n : Numeral) → InRange (number_of n)
number_in_range n = ((kept_len_is_longest (n.whole ++ n.fraction)).fits, search clamped_fits)

-- ---- strings

one_scalar : (c : ℕ) → scalar c ≡ true → scalars (c ∷ []) ≡ true
one_scalar c h = rw h refl

unescaped_scalar : (l : ℕ) → is_simple l ≡ true → scalar (unescaped l) ≡ true
unescaped_scalar l h = grind (arith, nat_tests)

code_unit_small : (u : List ℕ) → AreHex 4 u → code_unit u < 65536
unfolding code_unit
code_unit_small [] h = absurd h
code_unit_small (a ∷ []) h = absurd h.1
code_unit_small (a ∷ b ∷ []) h = absurd h.1.1
code_unit_small (a ∷ b ∷ c ∷ []) h = absurd h.1.1.1
code_unit_small (a ∷ b ∷ c ∷ d ∷ []) h = omega (arith, hex_is_below_16)
code_unit_small (a ∷ b ∷ c ∷ d ∷ e ∷ cs) h = absurd h.1.1.1.1

unit_scalar : (u : ℕ) → u < 65536 → is_surrogate u ≡ false → scalar u ≡ true
unit_scalar u small h = grind (arith, nat_tests)

pair_scalar : (u v : ℕ) → (is_high u && is_low v) ≡ true → scalar (pair_char u v) ≡ true
pair_scalar u v h = grind (arith, nat_tests)

pair_scalars : (b : Bool) (c : ℕ) → (b ≡ true → scalar c ≡ true) → scalars (if b then c ∷ [] else []) ≡ true
pair_scalars true c h = one_scalar c (h refl)
pair_scalars false c h = refl

item_scalars : (i : Item) → IsItem i → scalars (item_text i) ≡ true
item_scalars (grammar.plain c) h = one_scalar c (and_parts (scalar c) _ (and_parts (scalar c && nat_le 32 c) _ h).0).0
item_scalars (simple l) h = one_scalar (unescaped l) (unescaped_scalar l h)
item_scalars (single u) h = one_scalar (code_unit u) (unit_scalar (code_unit u) (code_unit_small u h.0) h.1)
item_scalars (double u v) h = pair_scalars _ _ (pair_scalar (code_unit u) (code_unit v))

bytes_utf8 : (is : List Item) → AreItems is → IsUtf8 (bytes_of is)
unfolding bytes_of
bytes_utf8 [] h = IsUtf8-nil
bytes_utf8 (i ∷ is) h =
    subst IsUtf8 (sym (encodes-append (item_text i) (characters_of is)))
    (IsUtf8-append _ _ (item_text i, (item_scalars i h.0, refl)) (bytes_utf8 is h.1))

-- ---- objects

-- an entry whose value nests no deeper than h
record IsHeldPair (h : ℕ) (p : List ℕ × Value) : Type 0 where
  utf8 : IsUtf8 p.0
  lawful : IsValue p.1
  no_nan : HasNoNan p.1
  few : nest p.1 ≤ h

abbrev AreHeldPairs : ℕ → List (List ℕ × Value) → Type 0
AreHeldPairs h = AllByRecursion (IsHeldPair h)

each_held : (h : ℕ) (qs ps : List (List ℕ × Value)) → AreHeldPairs h qs → AreHeldPairs h ps
    → AreHeldPairs h (fold (λ xs p. put p.0 p.1 xs) qs ps)
each_held h qs [] done all = done
each_held h qs (p ∷ ps) done all =
    each_held h (put p.0 p.1 qs) ps (All-put (IsHeldPair h) p.0 p.1 qs all.0 done) all.1

pairs_held : (h : ℕ) (ps : List (List ℕ × Value)) → AreHeldPairs h ps
    → ArePairs (pairs_of ps) × PairsHaveNoNan (pairs_of ps) × (most_nest_under (pairs_of ps) ≤ h)
pairs_held h [] all = (tt, tt, omega arith)
pairs_held h (p ∷ ps) all =
    let k = pairs_held h ps all.1 in
    ((all.0.utf8, all.0.lawful, k.0), (all.0.no_nan, k.1), omega (arith, all.0.few, k.2))

object_few : (h : ℕ) (ps : List (List ℕ × Value)) → AreHeldPairs h ps → nest (object (pairs_of ps)) ≤ suc h
object_few h [] all = omega arith
object_few h (p ∷ ps) all = omega (arith, (pairs_held h (p ∷ ps) all).2)

object_lawful : (h : ℕ) (ps : List (List ℕ × Value)) → AreHeldPairs h ps → IsDistinct bytes_eq (keys_of ps)
    → IsValue (object (pairs_of ps))
object_lawful h ps all distinct =
    ((pairs_held h ps all).0, rw list_of_pairs-pairs_of (AllPairs-from_IsDistinct bytes_eq-Decides _ distinct))

-- ---- values

-- What holds of a value that is read inside `depth` non-empty containers, with the mark at its first character and the
-- cells after it.
pub record NodeHeld (r : Reading) (depth : ℕ) (m : Option Breach) (k : List Cell) (v : Value) : Type 0 where
  lawful : IsValue v
  no_nan : HasNoNan v
  few : nest v ≤ r.depth - depth
  mark : m ≡ None
  pub rest : HaveNoMarks k

held : {r : Reading} {depth : ℕ} {m : Option Breach} {k : List Cell} {v : Value} → IsValue v → HasNoNan v
    → nest v ≤ r.depth - depth → m ≡ None → HaveNoMarks k → NodeHeld r depth m k v
held lawful no_nan few mark rest = record { lawful = lawful; no_nan = no_nan; few = few; mark = mark; rest = rest }

record ElementsHeld (r : Reading) (depth : ℕ) (k : List Cell) (vs : Values) : Type 0 where
  lawful : AreValues vs
  no_nan : HaveNoNan vs
  few : most_nest vs ≤ r.depth - depth
  rest : HaveNoMarks k

record MembersHeld (r : Reading) (depth : ℕ) (k : List Cell) (ps : List (List ℕ × Value)) : Type 0 where
  pairs : AreHeldPairs (r.depth - depth) ps
  rest : HaveNoMarks k

not_deep : (b : Bool) → breach_if b deep ≡ None → b ≡ false
not_deep true e = absurd (cc)
not_deep false e = refl

-- a value after an opening bracket is read only if one more container may be opened
room_inside : (r : Reading) (depth : ℕ) → deep_if r depth ≡ None → depth < r.depth
room_inside r depth e = leb-false r.depth depth (not_deep (nat_le r.depth depth) e)

deeper : (a depth room : ℕ) → a ≤ suc (room - suc depth) → depth < room → a ≤ room - depth
deeper a depth room h l = omega arith

mutual
  pub node_held : (r : Reading) (n : Node) (depth : ℕ) (m : Option Breach) (k : List Cell) → IsNode r n
      → HaveNoMarks (node_cells r n depth m k) → NodeHeld r depth m k (meaning n)
  node_held r Node.null depth m k ok h = held tt tt (omega arith) h.0 (plain_rest (codes "ull") k h.1)
  node_held r (Node.boolean true) depth m k ok h = held tt tt (omega arith) h.0 (plain_rest (codes "rue") k h.1)
  node_held r (Node.boolean false) depth m k ok h = held tt tt (omega arith) h.0 (plain_rest (codes "alse") k h.1)
  node_held r (Node.number n) depth m k ok h =
      let first = signed_first r n.negative n m k ok.0 h in held (number_in_range n) tt (omega arith) first.0 first.1
  node_held r (Node.string is) depth m k ok h =
      held (IsValue-text (bytes_of is) (bytes_utf8 is ok)) tt (omega arith) h.0
      (items_rest is (cell 34 None ∷ k) h.1).1
  node_held r (Node.empty_array b) depth m k ok h =
      held tt tt (omega arith) h.0 (plain_rest b (cell 93 None ∷ k) h.1).1
  node_held r (Node.empty_object b) depth m k ok h =
      held (object_lawful 0 [] tt (IsDistinct-put_each {V = Value} [])) tt (omega arith) h.0
      (plain_rest b (cell 125 None ∷ k) h.1).1
  node_held r (Node.array b n c es) depth m k ok h =
      let one = node_held r n (suc depth) (deep_if r depth) (plain c (elements_cells r es (suc depth) k)) ok.1
      (plain_rest b _ h.1) in
      let more = elements_held r es (suc depth) k ok.3 (plain_rest c _ one.rest) in
      held (one.lawful, more.lawful) (one.no_nan, more.no_nan)
      (omega (arith, one.few, more.few, room_inside r depth one.mark)) h.0 more.rest
  node_held r (Node.object key b n c ms) depth m k ok h =
      let named = key_first r [] key (deep_if r depth) _ h.1 in
      let one = node_held r n (suc depth) None (plain c (members_cells r ms (bytes_of key.items ∷ []) (suc depth) k))
      ok.2 (plain_rest b _ named.1) in
      let more = members_held r ms (bytes_of key.items ∷ []) (suc depth) k ok.4 (plain_rest c _ one.rest) in
      let ps : List (List ℕ × Value) = (bytes_of key.items, meaning n) ∷ members_meaning ms in
      let first : IsHeldPair (r.depth - suc depth) (bytes_of key.items, meaning n) =
      record { utf8 = bytes_utf8 key.items ok.0.1; lawful = one.lawful; no_nan = one.no_nan; few = one.few } in
      let all : AreHeldPairs (r.depth - suc depth) (put_each ps) = each_held (r.depth - suc depth) [] ps tt
      (first, more.pairs) in
      held (object_lawful _ (put_each ps) all (IsDistinct-put_each ps)) (pairs_held _ (put_each ps) all).1
      (deeper _ depth r.depth (object_few _ (put_each ps) all) (room_inside r depth named.0)) h.0 more.rest

  elements_held : (r : Reading) (es : Elements) (depth : ℕ) (k : List Cell) → AreElements r es
      → HaveNoMarks (elements_cells r es depth k) → ElementsHeld r depth k (elements_meaning es)
  elements_held r no_elements depth k ok h = record { lawful = tt; no_nan = tt; few = omega arith; rest = h.1 }
  elements_held r (element b n c es) depth k ok h =
      let one = node_held r n depth None (plain c (elements_cells r es depth k)) ok.1 (plain_rest b _ h.1) in
      let more = elements_held r es depth k ok.3 (plain_rest c _ one.rest) in
      record {
        lawful = (one.lawful, more.lawful);
        no_nan = (one.no_nan, more.no_nan);
        few = omega (arith, one.few, more.few);
        rest = more.rest;
      }

  members_held : (r : Reading) (ms : Members) (seen : List (List ℕ)) (depth : ℕ) (k : List Cell) → AreMembers r ms
      → HaveNoMarks (members_cells r ms seen depth k) → MembersHeld r depth k (members_meaning ms)
  members_held r no_members seen depth k ok h = record { pairs = tt; rest = h.1 }
  members_held r (member key b n c ms) seen depth k ok h =
      let named = key_first r seen key None _ h.1 in
      let one = node_held r n depth None (plain c (members_cells r ms (bytes_of key.items ∷ seen) depth k)) ok.2
      (plain_rest b _ named.1) in
      let more = members_held r ms (bytes_of key.items ∷ seen) depth k ok.4 (plain_rest c _ one.rest) in
      record {
        pairs = (
          record { utf8 = bytes_utf8 key.items ok.0.1; lawful = one.lawful; no_nan = one.no_nan; few = one.few },
          more.pairs,
        );
        rest = more.rest;
      }

pub meaning_held : (r : Reading) (t : List ℕ) (d : Document) → Parses r t d → IsReadable r (meaning d.node)
meaning_held r t d h =
    let one = node_held r d.node 0 None (plain d.after []) h.0.0.1 (plain_rest d.before _ (unmarked (cells r d) h.1)) in
    (one.lawful, one.no_nan, omega (arith, one.few))

-- the compact text of such a value is read as a value with the same compact text
pub dumped_reads : (r : Reading) (v : Value) (b : List ℕ) → Redump → IsReadable r v → b ≡ compact v
    → IsReadAs r b (λ w. compact w ≡ b)
dumped_reads r v b law h e = subst (λ x. IsReadAs r x (λ w. compact w ≡ x)) (sym e) (law r v h.0 h.2)
