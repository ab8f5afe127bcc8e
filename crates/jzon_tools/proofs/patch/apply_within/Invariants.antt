use Rattle.std.proofs.Common.{◌≡◌, ◌≤◌, ◌<◌, max, drop, None, length, IfSome}
use Rattle.jzon.specs.Value.{nest}
use Rattle.jzon.specs.View.{view, view_values}
use Rattle.jzon_tools.specs.Patch.{applied_each, each_within, undone_at}
use Rattle.jzon_tools.proofs.patch.apply_within.Given as goal

-- The operations that are left make of the value, within what is left of the limits, what all make of the old one, and
-- the first of them that can't be done is the first of all. The backup is the old one; while there is none and
-- operations are left, so is the value.
abbrev pub invariant-loop-number : goal.invariant-loop-number
invariant-loop-number l = record {
  all : applied_each (view_values (drop l.number l.operations.items)) (view l.value)
      ≡ applied_each (view_values l.operations.items) (view l.fn.value);
  within : each_within l.left (view_values (drop l.number l.operations.items)) (view l.value)
      ≡ each_within l.fn.limits (view_values l.operations.items) (view l.fn.value);
  first : undone_at l.number l.left (view_values (drop l.number l.operations.items)) (view l.value)
      ≡ undone_at 0 l.fn.limits (view_values l.operations.items) (view l.fn.value);
  depth : (l.left.depth ≡ l.fn.limits.depth) × (nest (view l.value) ≤ max l.fn.limits.depth (nest (view l.fn.value)));
  backup : IfSome l.backup (λ b. view b ≡ view l.fn.value);
  kept : l.backup ≡ None → l.number < length l.operations.items → view l.value ≡ view l.fn.value;
}
