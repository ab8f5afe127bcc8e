-- The bytes that a generator over memory writes for a value, if it was empty before: a text of the value in the
-- generator's style, and in the style of a layout its text there.
use Rattle.jzon_base.proofs.Common.{◌≡◌, ℕ, Bool, List, [], Some, None, Result, Ok, Err, sym, subst, IfOk, IsUtf8}
use Rattle.jzon_tree.specs.Generator.{Adds, Emitted, Added}
use Rattle.jzon_tree.specs.Generators.{fresh}
use Rattle.jzon_tree.specs.Lawful.{IsValue}
use Rattle.jzon_tree.specs.Styles.{only}
use Rattle.jzon_tree.specs.Text.{Spacing, layout_text}
use Rattle.jzon_tree.specs.Value.{Value}
use Rattle.jzon_tree.specs.Writing.{Style, Writes, colon_text}
use Rattle.jzon_tree.proofs.Printing.PrintedUtf8.{IsUtf8-writing}
use Rattle.jzon_tree.proofs.Laws.Unique.{written}

-- the bytes are UTF-8, and are a text of the value in the style
pub laid_out : (style : Style) (v : Value) (old new : Emitted) (bytes : List ℕ) → old ≡ fresh (Some []) style None
    → IsValue v → Added (Writes old.style old.dent v) old new → new.out ≡ Some bytes
    → IsUtf8 bytes × Writes style 0 v bytes
laid_out style v old new bytes e h a k =
    let added : Adds (Writes style 0 v) (Some []) (Some bytes) = subst (Adds (Writes style 0 v) (Some [])) k
    (subst (λ o. Adds (Writes o.style o.dent v) o.out new.out) e a.bytes) in
    let w : Writes style 0 v bytes = subst (Writes style 0 v) (sym added.1) added.2 in
    (IsUtf8-writing style 0 v bytes h w, w)

module _ (line : ℕ → List ℕ) (wide : Bool) where
  abbrev layout : Spacing
  layout = record { line = line; colon = colon_text wide }

  -- what is laid out in this style is this text
  pub only_text : {X E : Type 0} (bytes : X → List ℕ) (v : Value) (r : Result X E)
      → IfOk r (λ x. Writes (only line wide) 0 v (bytes x)) → IfOk r (λ x. bytes x ≡ layout_text layout 0 v)
  only_text bytes v (Ok x) w = written line wide 0 v (bytes x) w
  only_text bytes v (Err e) w = w
