-- A patch, an operation at a time.
use Rattle.std.proofs.Common.{◌≡◌, ◌<◌, ◌≤◌, ◌+◌, ℕ, suc, max, length, List, drop, get_or, true, Option, None, Some}
use Rattle.std.proofs.Common.{inl, inr, IfSome, option_map, if◌then◌else◌, option_and_then, refl, sym, ap, ◌∙◌, arith, drop-cons, add-one}
use Rattle.std.proofs.lemmas.Bool.Decides.{nat_tests}
use Rattle.std.proofs.lemmas.List.{drop_all}
use Rattle.std.proofs.lemmas.Option.{none-some, same_Some}
use Rattle.std.specs.Option.{option_map_or}
use Rattle.jzon.specs.JsonValue.{JsonValue}
use Rattle.jzon.specs.Value.{Value, Values, value, nest}
use Rattle.jzon.specs.View.{view, view_values}
use Rattle.jzon_tools.specs.Patch.{applied_each, depth_in, each_within, is_within, left_after, operated, undone_at, Undone, IsBackup}
use Rattle.jzon_tools.specs.declared.patch.Limits.{Limits}
use Rattle.jzon_tools.proofs.PatchDepth.{operated-nest}

-- the operations from i on
pub left-seen : (ops : List JsonValue) (i : ℕ) (op : JsonValue) → i < length ops → op ≡ get_or ops i op
    → view_values (drop i ops) ≡ value (view op) (view_values (drop (i + 1) ops))
left-seen ops i op within is =
    ap view_values (drop-cons ops i op within)
    ∙ ap (λ x. value (view x) (view_values (drop (suc i) ops))) (sym is)
    ∙ ap (λ n. value (view op) (view_values (drop n ops))) (sym (add-one i))

pub all-next : (op v w : Value) (ops rest : Values) → rest ≡ value op ops → operated op v ≡ Some w
    → applied_each ops w ≡ applied_each rest v
all-next op v w ops rest cut e =
    sym (ap (λ os. applied_each os v) cut ∙ ap (option_and_then (applied_each ops)) e)

pub within-next : (l : Limits) (op v w : Value) (ops rest : Values) → rest ≡ value op ops → is_within l op v ≡ true
    → operated op v ≡ Some w → each_within (left_after l op v) ops w ≡ each_within l rest v
within-next l op v w ops rest cut within e =
    sym (ap (λ os. each_within l os v) cut
    ∙ ap (λ b. option_and_then (each_within (left_after l op v) ops) (if b then operated op v else None)) within
    ∙ ap (option_and_then (each_within (left_after l op v) ops)) e)

pub first-next : (i : ℕ) (l : Limits) (op v w : Value) (ops rest : Values) → rest ≡ value op ops
    → is_within l op v ≡ true → operated op v ≡ Some w
    → undone_at (suc i) (left_after l op v) ops w ≡ undone_at i l rest v
first-next i l op v w ops rest cut within e =
    let this : Option Undone = Some (record { number = i; operation = op; before = v; left = l }) in
    sym (ap (λ os. undone_at i l os v) cut
    ∙ ap (λ b. option_map_or (undone_at (suc i) (left_after l op v) ops) (if b then operated op v else None) this) within
    ∙ ap (λ o. option_map_or (undone_at (suc i) (left_after l op v) ops) o this) e)

shallow : (l : Limits) (op v : Value) → is_within l op v ≡ true → depth_in op v ≤ l.depth
shallow l op v within = grind (arith, nat_tests)

-- an operation within limits nests no deeper than they allow, or than the value did
pub depth-next : (l : Limits) (d h : ℕ) (op v w : Value) → l.depth ≡ d → is_within l op v ≡ true
    → operated op v ≡ Some w → nest v ≤ max d h → nest w ≤ max d h
depth-next l d h op v w same within e before =
    let low = shallow l op v within in
    operated-nest (max d h) op v w (omega (arith, low)) before e

pub done-all : (ops : List JsonValue) (i : ℕ) (v w : Value) → length ops ≤ i
    → applied_each (view_values (drop i ops)) w ≡ applied_each (view_values ops) v
    → applied_each (view_values ops) v ≡ Some w
done-all ops i v w end is =
    sym is ∙ ap (λ os. applied_each (view_values os) w) (drop_all i ops end)

pub done-within : (l m : Limits) (ops : List JsonValue) (i : ℕ) (v w : Value) → length ops ≤ i
    → each_within m (view_values (drop i ops)) w ≡ each_within l (view_values ops) v
    → each_within l (view_values ops) v ≡ Some w
done-within l m ops i v w end is =
    sym is ∙ ap (λ os. each_within m (view_values os) w) (drop_all i ops end)

-- ---- the backup

pub backup-next : (b c : Option JsonValue) (v old : Value) → IsBackup v (option_map view b) (option_map view c)
    → IfSome b (λ x. view x ≡ old) → (b ≡ None → v ≡ old) → IfSome c (λ x. view x ≡ old)
backup-next None None v old h before first = tt
backup-next None (Some c) v old (inl h) before first = absurd (none-some (view c) (sym h))
backup-next None (Some c) v old (inr h) before first = same_Some (view c) v h ∙ first refl
backup-next (Some b) None v old h before first = tt
backup-next (Some b) (Some c) v old h before first = same_Some (view c) (view b) h ∙ before

pub none-before : (b c : Option JsonValue) (v : Value) → IsBackup v (option_map view b) (option_map view c) → c ≡ None
    → b ≡ None
none-before None c v h none = refl
none-before (Some b) c v h none = absurd (none-some (view b) (sym (ap (option_map view) none) ∙ h))
