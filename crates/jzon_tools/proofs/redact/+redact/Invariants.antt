use Rattle.std.proofs.Common.{◌≡◌, ◌*◌, ◌+◌, ◌-◌, ◌^◌, min, map, take}
use Rattle.std.specs.List.{sum_by}
use Rattle.jzon.specs.Entries.{entries_of}
use Rattle.jzon.specs.Measure.{size, largest, largest_under}
use Rattle.jzon.specs.View.{view, viewed}
use Rattle.jzon.proofs.InPlace.{IsWrittenBelow, seen_member}
use Rattle.jzon_tools.specs.Redact.{hidden_count, hidden_count_member, redacted, redacted_member}
use Rattle.jzon_tools.proofs.redact.+redact.Given as goal

-- the elements before the index are redacted and counted, and the others are as they were
abbrev pub invariant-redact_elements-loop-item : goal.invariant-redact_elements-loop-item
invariant-redact_elements-loop-item l = record {
  written : IsWrittenBelow view (redacted (map (λ n. n.now) l.names)) l.item-index l.initial.item-items l.item-items;
  counted : l.count ≡ min (sum_by (hidden_count (map (λ n. n.now) l.names))
      (take l.item-index (map view l.initial.item-items))) (2 ^ 64 - 1);
}

-- the same of the members
abbrev pub invariant-redact_members-loop-index : goal.invariant-redact_members-loop-index
invariant-redact_members-loop-index l = record {
  written : IsWrittenBelow seen_member (redacted_member (map (λ n. n.now) l.names)) l.index (entries_of l.initial.object)
      (entries_of l.object);
  counted : l.count ≡ min (sum_by (hidden_count_member (map (λ n. n.now) l.names))
      (take l.index (viewed (entries_of l.initial.object)))) (2 ^ 64 - 1);
}

abbrev pub decreases-redact : goal.decreases-redact
decreases-redact l = 3 * size l.value.now

abbrev pub decreases-redact_member : goal.decreases-redact_member
decreases-redact_member l = 3 * size l.value.now + 1

abbrev pub decreases-redact_elements : goal.decreases-redact_elements
decreases-redact_elements l = 3 * largest l.items.now.items + 2

abbrev pub decreases-redact_members : goal.decreases-redact_members
decreases-redact_members l = 3 * largest_under (entries_of l.object.now) + 2
