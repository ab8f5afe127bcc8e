-- Equal values are arranged alike, if the leaves of equal values are.
use Rattle.std.proofs.Common.{◌≡◌, ℕ, List, Bool, true, Option, None, Some, option_map, refl, sym, ap, ◌∙◌}
use Rattle.std.proofs.lemmas.Bool.{false≢true, and_parts}
use Rattle.std.proofs.lemmas.Slice.Eq.{bytes_eq-Decides}
use Rattle.std.specs.List.{AllByRecursion}
use Rattle.std.specs.Cmp.{booleans_Decides}
use Rattle.jzon.specs.Decimal.{Decimal, same_decimal}
use Rattle.jzon.specs.Lawful.{IsValue, AreValues, ArePairs, InRange}
use Rattle.jzon.specs.Same.{same, same_items}
use Rattle.jzon.specs.SameLaws.{same_at, object-elim, at}
use Rattle.jzon.specs.Value.{Value, null, boolean, text, number, array, object, Values, no_values, value, ValuePairs}
use Rattle.jzon.specs.Value.{no_pairs, pair, list_of_pairs, Kind}
use Rattle.jzon.proofs.KeptByChanges.{IsValue-found}
use Rattle.jzon.proofs.PairLaws.{All-found}
use Rattle.jzon_tools.specs.Canonical.{arranged, arranged_values, arranged_pairs}
use Rattle.jzon_tools.proofs.SortedEntries.{one_list, distinct, at-arranged_pairs, IsSorted-arranged_pairs}

-- equal strings, and equal numbers, have one leaf
pub record MakesOne (leaf : Value → Value) : Type 0 where
  pub strings : (j k : Kind) (s : List ℕ) → leaf (text j s) ≡ leaf (text k s)
  pub numbers : (d c : Decimal) → InRange d → InRange c → same_decimal d c ≡ true → leaf (number d) ≡ leaf (number c)

module _ (leaf : Value → Value) (one : MakesOne leaf) where
  abbrev pub HasForm : Value → Type 0
  HasForm v = (w : Value) → IsValue w → same v w ≡ true → arranged leaf v ≡ arranged leaf w

  abbrev HaveForms : ValuePairs → Type 0
  HaveForms ps = AllByRecursion (λ (p : List ℕ × Value). HasForm p.1) (list_of_pairs ps)

  at_form : (o p : Option Value) → ((v : Value) → o ≡ Some v → HasForm v) → ((w : Value) → p ≡ Some w → IsValue w)
      → same_at o p ≡ true → option_map (arranged leaf) o ≡ option_map (arranged leaf) p
  at_form None None f g e = refl
  at_form None (Some w) f g e = absurd (false≢true e)
  at_form (Some v) None f g e = absurd (false≢true e)
  at_form (Some v) (Some w) f g e = ap (λ x. Some x) (f v refl w (g w refl) e)

  mutual
    pub form : (v : Value) → IsValue v → HasForm v
    form null iv null iw e = refl
    form (boolean b) iv (boolean c) iw e = ap (λ (x : Bool). leaf (boolean x)) ((booleans_Decides b c).0 e)
    form (text j s) iv (text k t) iw e =
        one.strings j k s ∙ ap (λ (x : List ℕ). leaf (text k x)) ((bytes_eq-Decides s t).0 e)
    form (number m) iv (number n) iw e = one.numbers m n iv iw e
    form (array vs) iv (array ws) iw e = ap (λ (x : Values). array x) (items vs iv ws iw e)
    form (object ps) iv (object qs) iw e =
        ap (λ (x : ValuePairs). object x)
        (one_list (arranged_pairs leaf ps) (arranged_pairs leaf qs) (IsSorted-arranged_pairs leaf ps (distinct ps iv.1))
        (IsSorted-arranged_pairs leaf qs (distinct qs iw.1))
        (λ k. at-arranged_pairs leaf ps (distinct ps iv.1) k
        ∙ at_form (at k ps) (at k qs) (λ v f. All-found (λ (p : List ℕ × Value). HasForm p.1) k v (list_of_pairs ps) (forms ps iv.0) f)
        (λ w f. IsValue-found k w (object qs) iw f) (object-elim ps qs e k)
        ∙ sym (at-arranged_pairs leaf qs (distinct qs iw.1) k)))
    form _ iv _ iw e = absurd (false≢true e)

    items : (vs : Values) → AreValues vs → (ws : Values) → AreValues ws → same_items vs ws ≡ true
        → arranged_values leaf vs ≡ arranged_values leaf ws
    items no_values iv no_values iw e = refl
    items (value v vs) iv (value w ws) iw e =
        let both = and_parts (same v w) (same_items vs ws) e in
        rw (form v iv.0 w iw.0 both.0, items vs iv.1 ws iw.1 both.1) refl
    items _ iv _ iw e = absurd (false≢true e)

    forms : (ps : ValuePairs) → ArePairs ps → HaveForms ps
    forms no_pairs iv = tt
    forms (pair k v ps) iv = (form v iv.1, forms ps iv.2)
