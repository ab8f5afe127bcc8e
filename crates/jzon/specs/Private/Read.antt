-- What comes after values in a container that were read.
use Rattle.std.specs.Prelude.{Some, None, Option, Result, IfOk, OnOk}
use Rattle.jzon.specs.Private.Cursor.{GoesOn}
use Rattle.jzon.specs.declared.stop.Stop.{Stop}
use Rattle.jzon.specs.Private.Machine.{State}
use Rattle.jzon.specs.Private.OpenContainers.{OpenContainers, before_item, after_items, IsBeforeItem, IsAfterItems}
use Rattle.jzon.specs.Private.OpenContainers.{KeepsAround}
use Rattle.jzon.specs.declared.container_kind.ContainerKind.{ContainerKind}
use Rattle.jzon.specs.declared.cursor.Cursor.{Cursor}
use Rattle.jzon.specs.declared.parser.Next.{Next}
use Rattle.jzon.specs.declared.parser.Next.TheVariants.{Item, Opened, End}

-- the state after a value was read: before the next element or key, in a container that was opened, or after the end of
-- the innermost one
abbrev pub after_read : OpenContainers → Next → State
after_read s Item = before_item s
after_read s (Opened b) = after_items s (Some b)
after_read s End = after_items s None

-- After a value was read: an element or a key comes next if a comma was read; if a container was opened, its value is what the
-- innermost one waits for, and something comes next in it; if the innermost one ended, no key is without its value.
abbrev pub IsAfterValue : Cursor → OpenContainers → Next → Type 0
IsAfterValue t s Item = IsBeforeItem t s
IsAfterValue t s (Opened b) = IsAfterItems t s (Some b)
IsAfterValue t s End = IsAfterItems t s None

-- Elements or entries of the innermost container were read, to its end or to a container that was opened in it: reading went on
-- from t to u, and the containers around the innermost one are those of s in n too.
pub record ReadsItems (t : Cursor) (s : OpenContainers) (result : Result (Option ContainerKind) Stop) (u : Cursor)
    (n : OpenContainers) : Type 0 where
  pub kept : OnOk result (KeepsAround s n)
  pub after : IfOk result (IsAfterItems u n)
  pub outcome : GoesOn t (before_item s) result u (after_items n)
