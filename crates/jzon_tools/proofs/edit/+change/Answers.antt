use Rattle.std.proofs.Common.{◌≡◌, Bor, List, ℕ, Option, None, Some, option_map, sym, ap, ◌∙◌, subst, refl, arith, rules}
use Rattle.std.proofs.lemmas.Option.{IfSome_then, slice_get_past}
use Rattle.std.specs.Option.{option_copied}
use Rattle.jzon.specs.View.{view, view_object}
use Rattle.jzon_pointer.specs.Pointer.{child_of, tokens_left, ChangesAt}
use Rattle.jzon_pointer.proofs.ChangeLaws.{changes-below, lacks-below, lacks-here}
use Rattle.jzon_pointer.proofs.PlaceSteps.{array_seen, element-found, element-there, element-written}
use Rattle.jzon_pointer.proofs.PlaceSteps.{member-at, placed-written}
use Rattle.jzon_tools.proofs.edit.+change.Given.{Over}
use Rattle.jzon_tools.proofs.edit.+change.Goals.{change_element-In_ok-item, change_member-In_ok-member}
use Rattle.jzon_tools.proofs.edit.+change.Goals as goal

pub change_at-returns-in_default-clause-found : goal.change_at-returns-in_default-clause-found
change_at-returns-in_default-clause-found g t c =
    let v = view c.args.value.now in
    let w = view c.change.new.arg2 in (
      c.args.value.now,
      c.change.new.arg2,
      search rules,
      subst (λ (o : Option (Bor (List ℕ))). ChangesAt v (tokens_left (option_copied o)) v w w) (sym c.in_default.is)
          (λ i. refl, refl),
    )

pub change_element-returns-in_err-item-clause-missing : goal.change_element-returns-in_err-item-clause-missing
change_element-returns-in_err-item-clause-missing g t c = λ missing.
    let items = c.args.items.now.items in
    let none = element-found items c.args.token.now c.in_ok-index.index (sym c.in_ok-index.ensures)
    ∙ ap (option_map view) (slice_get_past items c.in_ok-index.index (omega (arith, c.in_err-item.ensures.item))) in
    lacks-here (array_seen items) c.args.token.now (tokens_left (option_copied c.args.rest)) none

-- the token names the element that is changed
element : (g : Over) (t : ℕ) (c : change_element-In_ok-item g t)
    → child_of (array_seen c.args.items.now.items) c.args.token.now ≡ Some (view c.in_ok-item.item.now)
element g t c =
    element-there c.args.items.now.items c.args.token.now c.in_ok-index.index c.in_ok-item.item.now
    (sym c.in_ok-index.ensures) (omega (arith, c.in_ok-item.ensures.item)) c.in_ok-item.ensures.value

pub change_element-returns-clause-found : goal.change_element-returns-clause-found
change_element-returns-clause-found g t c =
    let items = c.args.items.now.items in
    let token = c.args.token.now in
    let at = element g t (goal.at.change_element-returns-clause-found g t c).In_ok-item in
    let is = element-written items token c.in_ok-index.index c.change_at.new.value (sym c.in_ok-index.ensures) in
    IfSome_then c.change_at.result c.change_at.ensures.found
    (λ r p. (p.0, p.1, p.2, changes-below (array_seen items) token _ _ _ _ _ _ at is p.3))

pub change_element-returns-clause-missing : goal.change_element-returns-clause-missing
change_element-returns-clause-missing g t c = λ missing.
    let items = c.args.items.now.items in
    let token = c.args.token.now in
    let at = element g t (goal.at.change_element-returns-clause-missing g t c).In_ok-item in
    let is = element-written items token c.in_ok-index.index c.change_at.new.value (sym c.in_ok-index.ensures) in
    lacks-below (array_seen items) token _ _ _ _ at is (c.change_at.ensures.missing missing)

pub change_member-returns-in_err-position-clause-missing : goal.change_member-returns-in_err-position-clause-missing
change_member-returns-in_err-position-clause-missing g t c = λ missing.
    let object = c.args.object.now in
    lacks-here (view_object object) c.args.token.now (tokens_left (option_copied c.args.rest))
    (member-at object c.args.token.now None (sym c.in_err-position.ensures))

pub change_member-returns-in_err-member-clause-missing : goal.change_member-returns-in_err-member-clause-missing
change_member-returns-in_err-member-clause-missing g t c = λ missing.
    let object = c.args.object.now in
    lacks-here (view_object object) c.args.token.now (tokens_left (option_copied c.args.rest))
    (member-at object c.args.token.now (Some c.in_ok-position.position) (sym c.in_ok-position.ensures)
    ∙ ap (option_map view) (sym c.in_err-member.ensures.value))

-- the token names the member that is changed
member : (g : Over) (t : ℕ) (c : change_member-In_ok-member g t)
    → child_of (view_object c.args.object.now) c.args.token.now ≡ Some (view c.in_ok-member.member.now)
member g t c =
    member-at c.args.object.now c.args.token.now (Some c.in_ok-position.position) (sym c.in_ok-position.ensures)
    ∙ ap (option_map view) (sym c.in_ok-member.ensures.value)

pub change_member-returns-clause-found : goal.change_member-returns-clause-found
change_member-returns-clause-found g t c =
    let object = c.args.object.now in
    let token = c.args.token.now in
    let at = member g t (goal.at.change_member-returns-clause-found g t c).In_ok-member in
    let is = placed-written object token _ c.change_at.new.value (sym c.in_ok-position.ensures) in
    IfSome_then c.change_at.result c.change_at.ensures.found
    (λ r p. (p.0, p.1, p.2, changes-below (view_object object) token _ _ _ _ _ _ at is p.3))

pub change_member-returns-clause-missing : goal.change_member-returns-clause-missing
change_member-returns-clause-missing g t c = λ missing.
    let object = c.args.object.now in
    let token = c.args.token.now in
    let at = member g t (goal.at.change_member-returns-clause-missing g t c).In_ok-member in
    let is = placed-written object token _ c.change_at.new.value (sym c.in_ok-position.ensures) in
    lacks-below (view_object object) token _ _ _ _ at is (c.change_at.ensures.missing missing)
