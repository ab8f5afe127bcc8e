-- What is seen of an object while it is patched.
use Rattle.std.proofs.Common.{◌≡◌, ℕ, List, option_map, sym, ap, ◌∙◌}
use Rattle.jzon.specs.Entries.{entries_of}
use Rattle.jzon.specs.JsonValue.{JsonValue}
use Rattle.jzon.specs.Object.{Object}
use Rattle.jzon.specs.PairList.{find}
use Rattle.jzon.specs.Readers.{entries}
use Rattle.jzon.specs.View.{view, viewed, view_object}
use Rattle.jzon.proofs.ValueLaws.{view-Object, view-Null, entries-Object, list_of_pairs-pairs_of, viewed-put}
use Rattle.jzon.proofs.ValueLaws.{viewed-cut, find-viewed}

-- objects with the same view have the same members
pub same_pairs : (o p : Object) → view_object o ≡ view_object p → viewed (entries_of o) ≡ viewed (entries_of p)
same_pairs o p e =
    sym (list_of_pairs-pairs_of (viewed (entries_of o))) ∙ ap entries e ∙ list_of_pairs-pairs_of (viewed (entries_of p))

-- what is found among the members as they are seen
pub found-viewed : (k : List ℕ) (ps : List (List ℕ × JsonValue)) → find k (viewed ps) ≡ option_map view (find k ps)
found-viewed k ps = sym (find-viewed k ps)

pub ruleset merges = (view-Object, view-Null, entries-Object, same_pairs, viewed-put, viewed-cut, found-viewed)
