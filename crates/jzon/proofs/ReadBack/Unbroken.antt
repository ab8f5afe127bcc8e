-- A tree that breaks no limit, by its cells: none has a mark.
use Rattle.jzon_base.proofs.Common.{◌≡◌, ◌∙◌, ℕ, List, [], Some, ap, subst, append-nil, slice_get}
use Rattle.jzon.specs.Reading.{Reading}
use Rattle.jzon.specs.Grammar.{Document, IsDocument}
use Rattle.jzon.specs.Spelling.{plain, cells}
use Rattle.jzon.specs.Fault.{Parses}
use Rattle.jzon.proofs.Texts.Cells.{chars_of, marks_of, chars-plain, all_unmarked}

pub parses_plain : (r : Reading) (t : List ℕ) (d : Document) → IsDocument r d → cells r d ≡ plain t [] → Parses r t d
parses_plain r t d ok e = (
  (ok, ap chars_of e ∙ chars-plain t [] ∙ append-nil t),
  λ i b h. all_unmarked t i b (subst (λ q. slice_get (marks_of q) i ≡ Some (Some b)) e h),
)
