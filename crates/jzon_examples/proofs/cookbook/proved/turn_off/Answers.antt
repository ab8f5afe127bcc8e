use Rattle.std.proofs.Common.{◌≡◌, ◌∙◌, ap, codes, true, false, Some, OnOk, Result, Ok, Err}
use Rattle.jzon.specs.Changers.{with_entry}
use Rattle.jzon.specs.PairList.{find}
use Rattle.jzon.specs.Readers.{entries, is_object}
use Rattle.jzon.specs.Value.{Value, boolean}
use Rattle.jzon.proofs.ValueLaws.{find-with_entry_same}
use Rattle.jzon_examples.proofs.cookbook.proved.turn_off.Goals as goal

-- after an `Ok` the value is the old one with this entry, so it is found
found : {E : Type 0} (r : Result (Unit {0}) E) (old new : Value)
    → OnOk r ((v : Value) × (v ≡ boolean false) × (new ≡ with_entry (codes "debug") v old))
    → OnOk r (is_object old ≡ true) → OnOk r (find (codes "debug") (entries new) ≡ Some (boolean false))
found (Ok done) old new (v, is_false, is_put) object =
    ap (λ w. find (codes "debug") (entries w)) is_put ∙ find-with_entry_same (codes "debug") v old object
    ∙ ap (λ (w : Value). Some w) is_false
found (Err e) old new put object = tt

pub returns : goal.returns
returns c = found c.insert.result _ _ c.insert.ensures.ok c.insert.ensures.object
