-- How deep a value nests after an operation of a patch.
use Rattle.std.proofs.Common.{◌≡◌, ◌≤◌, ◌+◌, ℕ, List, [], ◌∷◌, Bool, true, false, if◌then◌else◌}
use Rattle.std.proofs.Common.{Option, None, Some, option_map, option_and_then, refl, subst, arith}
use Rattle.std.proofs.Common.{codes}
use Rattle.std.proofs.lemmas.Bool.Decides.{nat_tests}
use Rattle.std.proofs.lemmas.Option.{none-some, same_Some}
use Rattle.std.specs.Option.{option_map_or}
use Rattle.std.specs.Str.{bytes_eq}
use Rattle.jzon.specs.Value.{Value, nest}
use Rattle.jzon_pointer.specs.Pointer.{updated_at, removed_at, slashes}
use Rattle.jzon_tools.specs.Patch.{value_of, entry_of, added_at, moved_at, is_below, is_deeper, deepened_at, operand, op_of, operated, operated_by, text_at, depth_by, depth_in}
use Rattle.jzon_tools.specs.declared.patch.Op.{Op}
use Rattle.jzon_tools.specs.declared.patch.Op.TheVariants.{Add, Remove, Replace, Move, Copy, Test}
use Rattle.jzon_tools.proofs.PatchSteps.{entry-is_value, kept-same, tested-same}
use Rattle.jzon_tools.proofs.PointerDepth.{updated_at-nest, inserted_at-nest, removed_at-nest, value-nest}

-- ---- operations

added_at-nest : (h : ℕ) (w v : Value) (path : List ℕ) (u : Value) → slashes path + nest w ≤ h → nest v ≤ h
    → added_at w v path ≡ Some u → nest u ≤ h
added_at-nest h w v [] u room within is = subst (λ x. nest x ≤ h) (same_Some w u is) (omega arith)
added_at-nest h w v (c ∷ cs) u room within is = inserted_at-nest h w v (c ∷ cs) u room within is

put-nest : (h : ℕ) (w : Value) (path : List ℕ) (u : Value) (x : Option Value) → slashes path + nest w ≤ h
    → ((y : Value) → x ≡ Some y → nest y ≤ h) → option_and_then (λ y. added_at w y path) x ≡ Some u → nest u ≤ h
put-nest h w path u None room within is = absurd (none-some u is)
put-nest h w path u (Some x) room within is = added_at-nest h w x path u room (within x refl) is

taken-nest : (h : ℕ) (v : Value) (from path : List ℕ) (u : Value) (w : Option Value) → entry_of v from ≡ w
    → option_map_or (λ x. slashes path + nest x) (value_of v from) 0 ≤ h → nest v ≤ h
    → option_and_then (λ x. option_and_then (λ y. added_at x y path) (removed_at v from)) w ≡ Some u → nest u ≤ h
taken-nest h v from path u None at room within is = absurd (none-some u is)
taken-nest h v from path u (Some w) at room within is =
    let same = entry-is_value v w from at in
    put-nest h w path u (removed_at v from)
    (subst (λ o. option_map_or (λ x. slashes path + nest x) o 0 ≤ h) same room)
    (λ y e. removed_at-nest h v from y within e) is

moved-nest_by : (h : ℕ) (v : Value) (from path : List ℕ) (u : Value) (b c : Bool)
    → option_map_or (λ x. slashes path + nest x) (value_of v from) 0 ≤ h → nest v ≤ h
    → (if b then option_map (λ _. v) (value_of v from) else (if c then None
    else option_and_then (λ x. option_and_then (λ y. added_at x y path) (removed_at v from)) (entry_of v from))) ≡ Some u
    → nest u ≤ h
moved-nest_by h v from path u true c room within is =
    subst (λ x. nest x ≤ h) (kept-same v u (value_of v from) is) within
moved-nest_by h v from path u false true room within is = absurd (none-some u is)
moved-nest_by h v from path u false false room within is = taken-nest h v from path u (entry_of v from) refl room within is

moved-nest : (h : ℕ) (v : Value) (from path : List ℕ) (u : Value)
    → option_map_or (λ x. slashes path + nest x) (value_of v from) 0 ≤ h → nest v ≤ h
    → moved_at v from path ≡ Some u → nest u ≤ h
moved-nest h v from path u room within is =
    moved-nest_by h v from path u (bytes_eq from path) (is_below path from) room within is

-- what an operation places, if it does so, at a place of its own
placing-nest : (h : ℕ) (path : List ℕ) (u : Value) (o : Option Value) (f : Value → Option Value)
    → option_map_or (λ w. slashes path + nest w) o 0 ≤ h
    → ((w : Value) → slashes path + nest w ≤ h → f w ≡ Some u → nest u ≤ h) → option_and_then f o ≡ Some u → nest u ≤ h
placing-nest h path u None f room each is = absurd (none-some u is)
placing-nest h path u (Some w) f room each is = each w room is

-- to a place that is no deeper, what is moved nests no deeper than before
deepened-nest_by : (h : ℕ) (v : Value) (from path : List ℕ) (b : Bool) (o : Option Value) → is_deeper path from ≡ b
    → value_of v from ≡ o → option_map_or (λ w. slashes path + nest w) (if b then o else None) 0 ≤ h → nest v ≤ h
    → option_map_or (λ w. slashes path + nest w) o 0 ≤ h
deepened-nest_by h v from path true o deeper at room within = room
deepened-nest_by h v from path false None deeper at room within = room
deepened-nest_by h v from path false (Some w) deeper at room within =
    let le = value-nest v w from at in grind (arith, nat_tests, deeper, le)

deepened-nest : (h : ℕ) (v : Value) (from path : List ℕ)
    → option_map_or (λ w. slashes path + nest w) (deepened_at v from path) 0 ≤ h → nest v ≤ h
    → option_map_or (λ w. slashes path + nest w) (value_of v from) 0 ≤ h
deepened-nest h v from path room within =
    deepened-nest_by h v from path (is_deeper path from) (value_of v from) refl refl room within

moving-nest : (h : ℕ) (v : Value) (path : List ℕ) (u : Value) (from : Option (List ℕ))
    → option_map_or (λ w. slashes path + nest w) (option_and_then (λ t. deepened_at v t path) from) 0 ≤ h → nest v ≤ h
    → option_and_then (λ t. moved_at v t path) from ≡ Some u → nest u ≤ h
moving-nest h v path u None room within is = absurd (none-some u is)
moving-nest h v path u (Some from) room within is =
    moved-nest h v from path u (deepened-nest h v from path room within) within is

copying-nest : (h : ℕ) (v : Value) (path : List ℕ) (u : Value) (from : Option (List ℕ))
    → option_map_or (λ w. slashes path + nest w) (option_and_then (value_of v) from) 0 ≤ h → nest v ≤ h
    → option_and_then (λ t. option_and_then (λ w. added_at w v path) (value_of v t)) from ≡ Some u → nest u ≤ h
copying-nest h v path u None room within is = absurd (none-some u is)
copying-nest h v path u (Some from) room within is =
    placing-nest h path u (value_of v from) (λ w. added_at w v path) room
    (λ w r e. added_at-nest h w v path u r within e) is

operated_by-nest : (h : ℕ) (o : Op) (path : List ℕ) (op v u : Value) → depth_by o path op v ≤ h → nest v ≤ h
    → operated_by o path op v ≡ Some u → nest u ≤ h
operated_by-nest h Add path op v u room within is =
    placing-nest h path u (operand op) (λ w. added_at w v path) room
    (λ w r e. added_at-nest h w v path u r within e) is
operated_by-nest h Remove path op v u room within is = removed_at-nest h v path u within is
operated_by-nest h Replace path op v u room within is =
    placing-nest h path u (operand op) (λ w. updated_at (λ _. Some w) v path) room
    (λ w r e. updated_at-nest h w v path u r within e) is
operated_by-nest h Move path op v u room within is =
    moving-nest h v path u (text_at (codes "from") op) room within is
operated_by-nest h Copy path op v u room within is =
    copying-nest h v path u (text_at (codes "from") op) room within is
operated_by-nest h Test path op v u room within is =
    subst (λ x. nest x ≤ h) (tested-same v u path (operand op) is) within

operated-nest_path : (h : ℕ) (o : Op) (op v u : Value) (path : Option (List ℕ))
    → option_map_or (λ p. depth_by o p op v) path 0 ≤ h → nest v ≤ h
    → option_and_then (λ p. operated_by o p op v) path ≡ Some u → nest u ≤ h
operated-nest_path h o op v u None room within is = absurd (none-some u is)
operated-nest_path h o op v u (Some path) room within is = operated_by-nest h o path op v u room within is

operated-nest_op : (h : ℕ) (op v u : Value) (o : Option Op)
    → option_map_or (λ x. option_map_or (λ p. depth_by x p op v) (text_at (codes "path") op) 0) o 0 ≤ h → nest v ≤ h
    → option_and_then (λ x. option_and_then (λ p. operated_by x p op v) (text_at (codes "path") op)) o ≡ Some u
    → nest u ≤ h
operated-nest_op h op v u None room within is = absurd (none-some u is)
operated-nest_op h op v u (Some o) room within is =
    operated-nest_path h o op v u (text_at (codes "path") op) room within is

pub operated-nest : (h : ℕ) (op v u : Value) → depth_in op v ≤ h → nest v ≤ h → operated op v ≡ Some u → nest u ≤ h
operated-nest h op v u room within is = operated-nest_op h op v u (op_of op) room within is
