-- How much a value weighs after a patch.
use Rattle.std.proofs.Common.{◌≡◌, ◌≤◌, ◌+◌, ℕ, length, List, [], ◌∷◌, Bool, true, false, if◌then◌else◌, Option, None, Some}
use Rattle.std.proofs.Common.{option_map, option_and_then, refl, ap, arith, codes}
use Rattle.std.proofs.lemmas.Bool.Decides.{nat_tests}
use Rattle.std.proofs.lemmas.Option.{none-some, same_Some, option_and_then_some}
use Rattle.std.specs.Option.{option_map_or}
use Rattle.std.specs.Str.{bytes_eq}
use Rattle.jzon.specs.PairList.{find, cut}
use Rattle.jzon.specs.Readers.{entries, text_in}
use Rattle.jzon.specs.Value.{Value, Values, no_values, value, null, boolean, text, number, array, object}
use Rattle.jzon.proofs.PairLaws.{find-cut_other}
use Rattle.jzon.proofs.ValueLaws.{pairs_of-list_of_pairs}
use Rattle.jzon_pointer.specs.Pointer.{removed_at, updated_at}
use Rattle.jzon_tools.specs.Patch.{value_of, entry_of, added_at, moved_at, is_below, operand, op_of, operated, operated_by, text_at, copied_by, copied_in, is_within, left_after, operated_within, each_within, applied_within}
use Rattle.jzon_tools.specs.Weight.{weight, weight_values, weight_pairs}
use Rattle.jzon_tools.specs.declared.patch.Limits.{Limits}
use Rattle.jzon_tools.specs.declared.patch.Op.{Op}
use Rattle.jzon_tools.specs.declared.patch.Op.TheVariants.{Add, Remove, Replace, Move, Copy, Test}
use Rattle.jzon_tools.proofs.PatchSteps.{entry-is_value, kept-same, tested-same}
use Rattle.jzon_tools.proofs.PointerWeight.{weight_in, pairs_weight, cut-weight, updated_at-weight, inserted_at-weight, removed_at-weight}

-- ---- the members of an operation

text-length : (o : Option Value) (s : List ℕ) → option_and_then text_in o ≡ Some s → length s ≤ weight_in o
text-length None s is = absurd (none-some s is)
text-length (Some (text k bytes)) s is = let same = ap length (same_Some bytes s is) in omega (arith, same)
text-length (Some null) s is = absurd (none-some s is)
text-length (Some (boolean b)) s is = absurd (none-some s is)
text-length (Some (number n)) s is = absurd (none-some s is)
text-length (Some (array vs)) s is = absurd (none-some s is)
text-length (Some (object ps)) s is = absurd (none-some s is)

two_found-weight : (j k : List ℕ) (ps : List (List ℕ × Value)) → (k ≡ j → ⊥)
    → weight_in (find j ps) + weight_in (find k ps) ≤ pairs_weight ps
two_found-weight j k ps apart =
    let first = cut-weight j ps in
    let second = cut-weight k (cut j ps) in
    let other = ap weight_in (find-cut_other k j ps apart) in omega (arith, first, second, other)

entries-weight : (v : Value) → pairs_weight (entries v) ≤ weight v
entries-weight (object ps) = let same = ap weight_pairs (pairs_of-list_of_pairs ps) in omega (arith, same)
entries-weight null = omega arith
entries-weight (boolean b) = omega arith
entries-weight (text k s) = omega arith
entries-weight (number n) = omega arith
entries-weight (array vs) = omega arith

-- the text of `path`, and what is at `value`
members-weight : (op : Value) (path : List ℕ) → text_at (codes "path") op ≡ Some path
    → length path + weight_in (operand op) ≤ weight op
members-weight op path at =
    let short = text-length (find (codes "path") (entries op)) path at in
    let apart : codes "value" ≡ codes "path" → ⊥ = λ e. cc in
    let both = two_found-weight (codes "path") (codes "value") (entries op) apart in
    omega (arith, short, both, entries-weight op)

-- ---- an operation

added_at-weight : (w v : Value) (path : List ℕ) (u : Value) → added_at w v path ≡ Some u
    → weight u ≤ weight v + (weight w + length path)
added_at-weight w v [] u is = let same = ap weight (same_Some w u is) in omega (arith, same)
added_at-weight w v (c ∷ cs) u is = inserted_at-weight w v (c ∷ cs) u is

adding-weight : (v : Value) (path : List ℕ) (u : Value) (o : Option Value)
    → option_and_then (λ w. added_at w v path) o ≡ Some u → weight u ≤ weight v + (weight_in o + length path)
adding-weight v path u None is = absurd (none-some u is)
adding-weight v path u (Some w) is = added_at-weight w v path u is

replacing-weight : (v : Value) (path : List ℕ) (u : Value) (o : Option Value)
    → option_and_then (λ w. updated_at (λ _. Some w) v path) o ≡ Some u → weight u ≤ weight v + weight_in o
replacing-weight v path u None is = absurd (none-some u is)
replacing-weight v path u (Some w) is = updated_at-weight w v path u is

-- what is left without a part, and the part put back
put_back-weight : (n : ℕ) (w : Value) (path : List ℕ) (u : Value) (x : Option Value)
    → ((y : Value) → x ≡ Some y → weight y + weight w ≤ n) → option_and_then (λ y. added_at w y path) x ≡ Some u
    → weight u ≤ n + length path
put_back-weight n w path u None less is = absurd (none-some u is)
put_back-weight n w path u (Some x) less is =
    let more = added_at-weight w x path u is in
    let rest = less x refl in omega (arith, more, rest)

taken-weight : (v : Value) (from path : List ℕ) (u : Value) (w : Option Value) → entry_of v from ≡ w
    → option_and_then (λ x. option_and_then (λ y. added_at x y path) (removed_at v from)) w ≡ Some u
    → weight u ≤ weight v + length path
taken-weight v from path u None at is = absurd (none-some u is)
taken-weight v from path u (Some w) at is =
    let here = ap weight_in (entry-is_value v w from at) in
    put_back-weight (weight v) w path u (removed_at v from)
    (λ y e. let less = removed_at-weight v from y e in omega (arith, less, here)) is

moved-weight : (v : Value) (from path : List ℕ) (u : Value) (b c : Bool)
    → (if b then option_map (λ _. v) (value_of v from) else (if c then None
    else option_and_then (λ x. option_and_then (λ y. added_at x y path) (removed_at v from)) (entry_of v from))) ≡ Some u
    → weight u ≤ weight v + length path
moved-weight v from path u true c is =
    let same = ap weight (kept-same v u (value_of v from) is) in omega (arith, same)
moved-weight v from path u false true is = absurd (none-some u is)
moved-weight v from path u false false is = taken-weight v from path u (entry_of v from) refl is

copying-weight : (v : Value) (path : List ℕ) (u : Value) (from : Option (List ℕ))
    → option_and_then (λ t. option_and_then (λ w. added_at w v path) (value_of v t)) from ≡ Some u
    → weight u ≤ weight v + (weight_in (option_and_then (value_of v) from) + length path)
copying-weight v path u None is = absurd (none-some u is)
copying-weight v path u (Some from) is = adding-weight v path u (value_of v from) is

operated_by-weight : (o : Op) (path : List ℕ) (op v u : Value) → length path + weight_in (operand op) ≤ weight op
    → operated_by o path op v ≡ Some u → weight u ≤ weight v + weight op + copied_by o op v
operated_by-weight Add path op v u within is =
    let more = adding-weight v path u (operand op) is in omega (arith, more)
operated_by-weight Remove path op v u within is =
    let less = removed_at-weight v path u is in omega (arith, less)
operated_by-weight Replace path op v u within is =
    let more = replacing-weight v path u (operand op) is in omega (arith, more)
operated_by-weight Move path op v u within is =
    option_and_then_some (λ from. moved_at v from path) (text_at (codes "from") op) u is
    (λ from at e. let more = moved-weight v from path u (bytes_eq from path) (is_below path from) e in omega (arith, more))
operated_by-weight Copy path op v u within is =
    let more = copying-weight v path u (text_at (codes "from") op) is in omega (arith, more)
operated_by-weight Test path op v u within is =
    let same = ap weight (tested-same v u path (operand op) is) in omega (arith, same)

operated-weight : (op v u : Value) → operated op v ≡ Some u → weight u ≤ weight v + weight op + copied_in op v
operated-weight op v u is =
    option_and_then_some (λ o. option_and_then (λ p. operated_by o p op v) (text_at (codes "path") op)) (op_of op) u is
    (λ o named e. option_and_then_some (λ p. operated_by o p op v) (text_at (codes "path") op) u e
    (λ path at done.
    let more = operated_by-weight o path op v u (members-weight op path at) done in
    let copied = ap (λ x. option_map_or (λ y. copied_by y op v) x 0) named in omega (arith, more, copied)))

-- ---- a patch

few-copied : (l : Limits) (op v : Value) → is_within l op v ≡ true → copied_in op v ≤ l.copied
few-copied l op v within = grind (arith, nat_tests)

-- what an operation copies is no longer left to copy
one-weight : (l : Limits) (op v u : Value) (b : Bool) → is_within l op v ≡ b
    → (if b then operated op v else None) ≡ Some u
    → weight u + (left_after l op v).copied ≤ weight v + weight op + l.copied
one-weight l op v u true within is =
    let more = operated-weight op v u is in
    let few = few-copied l op v within in omega (arith, more, few)
one-weight l op v u false within is = absurd (none-some u is)

each-weight : (l : Limits) (ops : Values) (v u : Value) → each_within l ops v ≡ Some u
    → weight u ≤ weight v + weight_values ops + l.copied
each-weight l no_values v u is = let same = ap weight (same_Some v u is) in omega (arith, same)
each-weight l (value op ops) v u is =
    option_and_then_some (each_within (left_after l op v) ops) (operated_within l op v) u is
    (λ x done e.
    let one = one-weight l op v x (is_within l op v) refl done in
    let rest = each-weight (left_after l op v) ops x u e in omega (arith, one, rest))

-- a patch makes a value no heavier than it, the patch and the limit of copies together
pub applied-weight : (l : Limits) (patch v u : Value) → applied_within l patch v ≡ Some u
    → weight u ≤ weight v + weight patch + l.copied
applied-weight l (array ops) v u is = let more = each-weight l ops v u is in omega (arith, more)
applied-weight l null v u is = absurd (none-some u is)
applied-weight l (boolean b) v u is = absurd (none-some u is)
applied-weight l (text k s) v u is = absurd (none-some u is)
applied-weight l (number n) v u is = absurd (none-some u is)
applied-weight l (object ps) v u is = absurd (none-some u is)
