-- The compact and the pretty text of a value are allowed by their styles.
use Rattle.jzon_base.proofs.Common.{ℕ, true, false, List, subst}
use Rattle.jzon_tree.specs.Lawful.{IsValue}
use Rattle.jzon_tree.specs.StyleLaws.{IsStyle-compact, IsStyle-pretty}
use Rattle.jzon_tree.specs.Styles.{compact_style, pretty_style}
use Rattle.jzon_tree.specs.Text.{compact_layout, pretty_layout, compact, pretty}
use Rattle.jzon_tree.specs.Value.{Value}
use Rattle.jzon_tree.specs.Writing.{Writes}
use Rattle.jzon_tree.proofs.Laws.Unique.{written}
use Rattle.jzon_tree.proofs.Printing.Writings.{some_writing}

pub Writes-compact : (v : Value) → IsValue v → Writes compact_style 0 v (compact v)
Writes-compact v h =
    let some : (b : List ℕ) × Writes compact_style 0 v b = some_writing compact_style IsStyle-compact 0 v h in
    subst (λ (b : List ℕ). Writes compact_style 0 v b) (written compact_layout.line false 0 v some.0 some.1) some.1

pub Writes-pretty : (spaces : ℕ) (v : Value) → IsValue v → Writes (pretty_style spaces) 0 v (pretty v spaces 0)
Writes-pretty spaces v h =
    let style = pretty_style spaces in
    let some : (b : List ℕ) × Writes style 0 v b = some_writing style (IsStyle-pretty spaces) 0 v h in
    subst (λ (b : List ℕ). Writes style 0 v b) (written (pretty_layout spaces).line true 0 v some.0 some.1) some.1
