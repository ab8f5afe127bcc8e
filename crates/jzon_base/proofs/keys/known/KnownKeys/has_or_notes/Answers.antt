use Rattle.jzon_base.proofs.Common.{◌∙◌, sym}
use Rattle.jzon_base.proofs.Common.{bytes_eq}
use Rattle.jzon_base.proofs.KeyIndex.Filters.{HaveBits-before, IsDistinct-known}
use Rattle.jzon_base.proofs.KeyIndex.Indexes.{IsDistinct-missing}
use Rattle.jzon_base.proofs.KeyIndex.Positions.{list_any-position, none_of_is_some}
use Rattle.jzon_base.proofs.keys.known.KnownKeys.has_or_notes.Goals as goal

pub returns-then-keys-lt-LINEAR_MAX-clause-known : goal.returns-then-keys-lt-LINEAR_MAX-clause-known
returns-then-keys-lt-LINEAR_MAX-clause-known c =
    c.has_or_notes.ensures.known ∙ list_any-position (λ k. bytes_eq k c.args.name.now) c.args.keys.now

pub returns-then-keys-lt-LINEAR_MAX-clause-present : goal.returns-then-keys-lt-LINEAR_MAX-clause-present
returns-then-keys-lt-LINEAR_MAX-clause-present c = λ e.
    (IsDistinct-known c.args.keys.now c.args.self.now c.requires, HaveBits-before c.args.keys.now c.args.name.now _ c.has_or_notes.ensures.bits)

pub returns-then-keys-lt-LINEAR_MAX-clause-missing : goal.returns-then-keys-lt-LINEAR_MAX-clause-missing
returns-then-keys-lt-LINEAR_MAX-clause-missing c = λ e. (
  IsDistinct-missing c.args.name.now c.args.keys.now
      (IsDistinct-known c.args.keys.now c.args.self.now c.requires)
      (none_of_is_some _ (sym (returns-then-keys-lt-LINEAR_MAX-clause-known c) ∙ e)),
  c.has_or_notes.ensures.bits,
)
