use Rattle.jzon_base.proofs.Common.{◌≡◌, ◌-◌, ◌<◌, ◌≤◌, length, false, slice_index, IsCharBoundary, string_bytes}
use Rattle.jzon_base.specs.Private.PlainBytes.{is_plain}
use Rattle.jzon.specs.Reading.{Reading}
use Rattle.jzon.specs.Private.Machine.{Role, string, between, from}
use Rattle.jzon.proofs.string.read_escapes.Given as goal

abbrev pub invariant-loop-start : goal.invariant-loop-start
invariant-loop-start l = record {
  within : l.start ≤ l.index;
  boundary : IsCharBoundary l.source l.index;
  stop : l.index < length l.source → is_plain (slice_index l.source l.index) ≡ false;
  same :
      (r : Reading) (role : Role) → from r l.source (string role (string_bytes l.initial.buffer) between) l.start
      ≡ from r l.source (string role (string_bytes l.buffer) between) l.index;
}

abbrev pub decreases-loop-start : goal.decreases-loop-start
decreases-loop-start l = length l.source - l.index
