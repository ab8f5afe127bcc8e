-- A text that a loose style allows for an object, with its members in another order: it is a text of the object, and
-- what it is read as is so by the definitions.
use Rattle.jzon_base.proofs.Common.{◌≡◌, ◌≢◌, ℕ, zero, suc, ◌<◌, List, [], ◌∷◌, count_by, ◌==◌, true, false, codes}
use Rattle.jzon_base.proofs.Common.{negsuc, refl, arith, IsTrue, AllPairs, encode_utf8, digits, IsDistinct, ints}
use Rattle.jzon_base.proofs.Common.{AllPairs-from_IsDistinct, bytes_eq-Decides}
use Rattle.std.specs.Str.{chars}
use Rattle.jzon_base.specs.Decimal.{parts, scaled}
use Rattle.jzon_base.specs.Digits.{kept_len}
use Rattle.jzon_tree.specs.Value.{Value, text, number, array, object, short, no_values, value, no_pairs, pair}
use Rattle.jzon_tree.specs.Same.{same}
use Rattle.jzon_tree.specs.Lawful.{IsValue, HasNoNan}
use Rattle.jzon_tree.specs.Writing.{Writes, IsOrder, any_style}
use Rattle.jzon.specs.Reading.{usual}
use Rattle.jzon.specs.Grammar.{Node, no_elements, no_members, member, plain, simple}
use Rattle.jzon.specs.Meaning.{bytes_of}
use Rattle.jzon.specs.Spelling.{drops_too_many, keeps_too_many}
use Rattle.jzon.specs.Laws.{alone, IsReadAs}
use Rattle.jzon.specs.Private.Classes.{class_of}
use Rattle.jzon.proofs.Texts.ReadTree.{read_tree}
use Rattle.jzon.proofs.WorkedRows.Samples.{key, decimal}

-- `{"a":1.5,"b":["x\n"]}`
abbrev written : Value
written = object (pair (codes "a") (number (parts true 15 (negsuc 0)))
    (pair (codes "b") (array (value (text short (codes "x\n")) no_values)) no_pairs))

abbrev bytes : List ℕ
bytes = codes "{ \"b\": [\"x\\n\"\t],\"a\":1.5}"

distinct_keys : AllPairs (λ j k. j ≢ k) (codes "a" ∷ codes "b" ∷ [])
unfolding IsDistinct
distinct_keys = AllPairs-from_IsDistinct bytes_eq-Decides (codes "a" ∷ codes "b" ∷ []) ((refl, tt), (tt, tt))

-- ---- what the laws require

is_value : IsValue written
unfolding encode_utf8
is_value = (
  (
    (codes "a", (refl, refl)),
    (omega arith, omega (arith, ints)),
    ((codes "b", (refl, refl)), (((codes "x\n", (refl, refl)), omega arith), tt), tt),
  ),
  distinct_keys,
)

has_no_nan : HasNoNan written
has_no_nan = (tt, ((tt, tt), tt))

swapped : IsOrder 2 (1 ∷ 0 ∷ [])
swapped = record { as_many = refl; once = once }
  where
    once : (i : ℕ) → i < 2 → count_by (λ j. j == i) (1 ∷ 0 ∷ []) ≡ 1
    once zero h = refl
    once (suc zero) h = refl
    once (suc (suc i)) h = absurd (omega arith)

writes : Writes any_style 0 written bytes
unfolding digits
writes = (
  codes "\"a\":1.5" ∷ codes "\"b\": [\"x\\n\"\t]" ∷ [],
  1 ∷ 0 ∷ [],
  (
    (false, codes "1.5", refl, refl, refl),
    (
      (
        true,
        codes "[\"x\\n\"\t]",
        refl,
        (codes "\"x\\n\"" ∷ [], (refl, tt), (codes "\"x\\n\"", 9 ∷ [], ([], (refl, refl), refl), (refl, refl), refl)),
        refl,
      ),
      tt,
    ),
  ),
  swapped,
  refl,
  (
    codes " \"b\": [\"x\\n\"\t],\"a\":1.5",
    [],
    (32 ∷ [], codes "\"a\":1.5", (refl, refl), ([], (refl, refl), refl), refl),
    (refl, refl),
    refl,
  ),
)

-- ---- what it is read as

abbrev node : Node
node =
    Node.object (record { before = 32 ∷ []; items = plain 98 ∷ []; after = [] }) (32 ∷ [])
    (Node.array [] (Node.string (plain 120 ∷ simple 110 ∷ [])) (9 ∷ []) no_elements) []
    (member (key "a") [] (Node.number (decimal "1" "5")) [] no_members)

read : IsReadAs usual bytes (λ w. IsTrue (same w written))
unfolding class_of encode_utf8 chars bytes_of kept_len scaled drops_too_many keeps_too_many
read = ((bytes, (refl, refl)), alone node, read_tree usual (chars bytes) (alone node) refl, refl)
