-- What is redacted of an array's elements and of an object's members, as lists, and how many entries are hidden there.
use Rattle.std.proofs.Common.{◌≡◌, ◌+◌, ◌-◌, ◌^◌, min, ℕ, List, [], ◌∷◌, map, take, get_or, Bool, Option, None, Some, option_map}
use Rattle.std.proofs.Common.{slice_get, refl, sym, ap, ◌∙◌, arith, if◌then◌else◌}
use Rattle.std.proofs.lemmas.List.Sums.{sum_by-cons, sum_by_more}
use Rattle.std.proofs.lemmas.Option.{slice_get-map, slice_get_within, slice_get-get_or}
use Rattle.std.specs.List.{sum_by}
use Rattle.jzon.specs.JsonValue.{JsonValue}
use Rattle.jzon.specs.PairList.{set_value}
use Rattle.jzon.specs.Value.{Value, values_of, pairs_of, value, pair}
use Rattle.jzon.specs.View.{view, viewed}
use Rattle.jzon.proofs.InPlace.{IsWrittenBelow, seen_member, unwritten, written-next_member}
use Rattle.jzon.proofs.ValueLaws.{view-Array, view-Object, view-Short}
use Rattle.jzon_tools.specs.Redact.{hidden, names_among, redacted, redacted_values}
use Rattle.jzon_pointer.specs.Names.{is_among}
use Rattle.jzon_tools.specs.Redact.{redacted_pairs, redacted_member}
use Rattle.jzon_tools.specs.Redact.{hidden_count, hidden_count_values, hidden_count_pairs, hidden_count_member}

pub values-redacted : (names : List (List ℕ)) (vs : List Value)
    → redacted_values names (values_of vs) ≡ values_of (map (redacted names) vs)
values-redacted names [] = refl
values-redacted names (v ∷ vs) = ap (λ ws. value (redacted names v) ws) (values-redacted names vs)

pub pairs-redacted : (names : List (List ℕ)) (ps : List (List ℕ × Value))
    → redacted_pairs names (pairs_of ps) ≡ pairs_of (map (redacted_member names) ps)
pairs-redacted names [] = refl
pairs-redacted names (p ∷ ps) = ap (λ qs. pair p.0 (redacted_member names p).1 qs) (pairs-redacted names ps)

-- one member more
pub member-redacted : (names : List (List ℕ)) (i : ℕ) (old new : List (List ℕ × JsonValue))
    (m : Option (List ℕ × JsonValue)) (hides : Bool) (v w : JsonValue) → slice_get new i ≡ m
    → IsWrittenBelow seen_member (redacted_member names) i old new → Some v ≡ option_map (λ p. p.1) m
    → hides ≡ names_among names m → view w ≡ (if hides then hidden else redacted names (view v))
    → IsWrittenBelow seen_member (redacted_member names) (i + 1) old (set_value new i w)
member-redacted names i old new None hides v w at before found hid is = absurd (cc)
member-redacted names i old new (Some p) hides v w at before found hid is =
    let same : v ≡ p.1 = cc in
    written-next_member (redacted_member names) i old new p.0 p.1 w before at
    (ap (λ x. (p.0, x)) (is ∙ ap (λ b. if b then hidden else redacted names (view v)) hid
    ∙ ap (λ u. if is_among names p.0 then hidden else redacted names (view u)) same))

-- ---- the number of hidden entries

pub values-counted : (names : List (List ℕ)) (vs : List Value)
    → hidden_count_values names (values_of vs) ≡ sum_by (hidden_count names) vs
values-counted names [] = refl
values-counted names (v ∷ vs) =
    ap (λ n. hidden_count names v + n) (values-counted names vs) ∙ sym (sum_by-cons (hidden_count names) v vs)

pub pairs-counted : (names : List (List ℕ)) (ps : List (List ℕ × Value))
    → hidden_count_pairs names (pairs_of ps) ≡ sum_by (hidden_count_member names) ps
pairs-counted names [] = refl
pairs-counted names (p ∷ ps) =
    ap (λ n. hidden_count_member names p + n) (pairs-counted names ps)
    ∙ sym (sum_by-cons (hidden_count_member names) p ps)

-- a sum of one item more
pub counted-next : {A : Type 0} (f : A → ℕ) (xs : List A) (i : ℕ) (x : A) (n m : ℕ) → slice_get xs i ≡ Some x
    → n ≡ min (sum_by f (take i xs)) (2 ^ 64 - 1) → m ≡ min (f x) (2 ^ 64 - 1)
    → min (n + m) (2 ^ 64 - 1) ≡ min (sum_by f (take (i + 1) xs)) (2 ^ 64 - 1)
counted-next f xs i x n m at before is =
    let within = slice_get_within xs i x at in
    let there = slice_get-get_or xs i x within in
    let same : get_or xs i x ≡ x = cc in
    let more : sum_by f (take (i + 1) xs) ≡ sum_by f (take i xs) + f x =
    sum_by_more f xs i x within ∙ ap (λ y. sum_by f (take i xs) + f y) same in
    omega arith

-- a sum of one member more
pub member-counted : (names : List (List ℕ)) (i : ℕ) (old new : List (List ℕ × JsonValue))
    (m : Option (List ℕ × JsonValue)) (hides : Bool) (v : JsonValue) (n k : ℕ) → slice_get new i ≡ m
    → IsWrittenBelow seen_member (redacted_member names) i old new → Some v ≡ option_map (λ p. p.1) m
    → hides ≡ names_among names m
    → n ≡ min (sum_by (hidden_count_member names) (take i (viewed old))) (2 ^ 64 - 1)
    → k ≡ min (if hides then 1 else hidden_count names (view v)) (2 ^ 64 - 1)
    → min (n + k) (2 ^ 64 - 1) ≡ min (sum_by (hidden_count_member names) (take (i + 1) (viewed old))) (2 ^ 64 - 1)
member-counted names i old new None hides v n k at written found hid before is = absurd (cc)
member-counted names i old new (Some p) hides v n k at written found hid before is =
    let same : v ≡ p.1 = cc in
    counted-next (hidden_count_member names) (viewed old) i (seen_member p) n k
    (slice_get-map seen_member old i
    ∙ ap (option_map seen_member) (sym (unwritten seen_member (redacted_member names) i old new written) ∙ at)) before
    (is ∙ ap (λ b. min (if b then 1 else hidden_count names (view v)) (2 ^ 64 - 1)) hid
    ∙ ap (λ u. min (if is_among names p.0 then 1 else hidden_count names (view u)) (2 ^ 64 - 1)) same)

pub ruleset redaction =
    (view-Array, view-Object, view-Short, values-redacted, pairs-redacted, values-counted, pairs-counted)
