-- Laws on results, for callers: what a result that meets the clauses of `parse` or of `parse_as` is, if it is known
-- what the text is read as, or which error it has. They hold for every reading.
use Rattle.jzon_base.proofs.Common.{◌≡◌, ◌⊎◌, inl, inr, ℕ, ◌≤◌, List, Result, Ok, Err, IsTrue, IfOk, IfErr, MatchResult}
use Rattle.jzon_base.proofs.Common.{IsOkUnless, sym, ap, ◌∙◌, subst, chars}
use Rattle.jzon_base.specs.declared.error.Error.{Error}
use Rattle.jzon_base.specs.declared.error.Error.TheVariants.{OutOfMemory}
use Rattle.jzon_tree.specs.Lawful.{IsValue}
use Rattle.jzon_tree.specs.Same.{same}
use Rattle.jzon_tree.specs.Styles.{compact_style, pretty_style}
use Rattle.jzon_tree.specs.Text.{compact, pretty}
use Rattle.jzon_tree.specs.Value.{Value, nest}
use Rattle.jzon_tree.specs.View.{view}
use Rattle.jzon_tree.specs.Writing.{Style, Writes}
use Rattle.jzon_tree.specs.declared.value.JsonValue.{JsonValue}
use Rattle.jzon_tree.proofs.Laws.PlainWritings.{Writes-compact, Writes-pretty}
use Rattle.jzon.specs.Answer.{IsMeaningOf, IsReadable, IsErrorUnlessMemory}
use Rattle.jzon.specs.Fault.{Parses, IsErrorOf, error_at}
use Rattle.jzon.specs.Grammar.{Document}
use Rattle.jzon.specs.Laws.{AllowsStrictAlone, IsReadAs}
use Rattle.jzon.specs.Meaning.{meaning}
use Rattle.jzon.specs.Reading.{Reading}
use Rattle.jzon.proofs.ReadBack.ReadsBack.{read_back}
use Rattle.jzon.proofs.ReadBack.Redump.{redumped}
use Rattle.jzon.proofs.ReadBack.StrictStyles.{strict_styles}
use Rattle.jzon.proofs.Texts.OneTree.{same_tree}
use Rattle.jzon.proofs.Texts.Verdict.{one_tree_or_one_fault}
-- the result for one concrete text, by computation: `Parses` from a tree, and `IsErrorOf` from an error
pub use Rattle.jzon.proofs.Texts.Answers.{refused_error}
pub use Rattle.jzon.proofs.Texts.ReadTree.{read_tree}

module _ (r : Reading) where
  -- ---- a text that is read as some value

  module _ (P : Value → Type 0) (bytes : List ℕ) where
    -- each value that is returned is such a value
    pub answer-value : (answer : Result JsonValue Error) → IsReadAs r bytes P
        → IfOk answer (IsMeaningOf r (chars bytes)) → IfOk answer (λ v. P (view v))
    answer-value (Ok v) read means =
        let one = same_tree r (chars bytes) read.1 means.0 read.2.0 means.1.0 in
        subst P (ap (λ d. meaning d.node) one ∙ sym means.2) read.3
    answer-value (Err e) read means = tt

    -- and the only error is `OutOfMemory`
    pub answer-memory : (answer : Result JsonValue Error) → IsReadAs r bytes P
        → IfErr answer (IsErrorUnlessMemory r (chars bytes)) → IsOkUnless answer OutOfMemory
    answer-memory (Ok v) read reports = tt
    answer-memory (Err e) read (inl memory) = memory
    answer-memory (Err e) read (inr (i, f, first, reported)) =
        elim (one_tree_or_one_fault r (chars bytes)) [
          | inl tree ↦ absurd (tree.3 i f first.0)
          | inr fault ↦ absurd (fault.0 read.1 read.2)
        ]

  -- ---- a text with an error

  -- no tree within the limits spells it
  pub error-no_tree : (t : List ℕ) (e : Error) (d : Document) → IsErrorOf r t e → Parses r t d → ⊥
  error-no_tree t e d (i, f, first, reported) parses =
      elim (one_tree_or_one_fault r t) [ inl tree ↦ tree.3 i f first.0 | inr fault ↦ fault.0 d parses ]

  -- and this is its only error
  pub error-one : (t : List ℕ) (e f : Error) → IsErrorOf r t e → IsErrorOf r t f → f ≡ e
  error-one t e f (i, x, first, reported) (j, y, other, also) =
      elim (one_tree_or_one_fault r t) [
        | inl tree ↦ absurd (tree.3 i x first.0)
        | inr fault ↦
            let one = fault.1.3 i x first in
            let two = fault.1.3 j y other in
            also ∙ ap (λ n. error_at t n y) (two.0 ∙ sym one.0) ∙ ap (λ g. error_at t i g)
            (two.1 ∙ sym one.1) ∙ sym reported
      ]

  -- so it is the error that is returned, unless an allocation fails
  pub answer-error : (t : List ℕ) (e : Error) (answer : Result JsonValue Error) → IsErrorOf r t e
      → IfOk answer (IsMeaningOf r t) → IfErr answer (IsErrorUnlessMemory r t)
      → MatchResult answer (λ v. ⊥) (λ f. (f ≡ OutOfMemory) ⊎ (f ≡ e))
  answer-error t e (Ok v) is means reports = error-no_tree t e means.0 is means.1
  answer-error t e (Err f) is means (inl memory) = inl memory
  answer-error t e (Err f) is means (inr other) = inr (error-one t e f is other)

  -- ---- a text that was printed

  -- any text written for a value, in any style; for a strict reading the style must allow strict whitespace only
  pub reads-writing : (s : Style) (dent : ℕ) (v : Value) (b : List ℕ) → (IsTrue r.strict → AllowsStrictAlone s)
      → IsReadable r v → Writes s dent v b → IsReadAs r b (λ w. IsTrue (same w v))
  reads-writing s dent v b strict readable = read_back r s dent v b strict readable.0 readable.1 readable.2

  -- the compact and the pretty text are read as an equal value
  pub reads-compact : (v : Value) (b : List ℕ) → IsReadable r v → b ≡ compact v → IsReadAs r b (λ w. IsTrue (same w v))
  reads-compact v b readable is =
      subst (λ (x : List ℕ). IsReadAs r x (λ w. IsTrue (same w v))) (sym is)
      (reads-writing compact_style 0 v (compact v) (λ strict. strict_styles.0) readable (Writes-compact v readable.0))

  pub reads-pretty : (spaces : ℕ) (v : Value) (b : List ℕ) → IsReadable r v → b ≡ pretty v spaces 0
      → IsReadAs r b (λ w. IsTrue (same w v))
  reads-pretty spaces v b readable is =
      subst (λ (x : List ℕ). IsReadAs r x (λ w. IsTrue (same w v))) (sym is)
      (reads-writing (pretty_style spaces) 0 v (pretty v spaces 0) (λ strict. strict_styles.1 spaces) readable
      (Writes-pretty spaces v readable.0))

  -- the compact text of any value, NaN or not, is read as a value with the same compact text
  pub reads-redump : (v : Value) (b : List ℕ) → IsValue v → nest v ≤ r.depth → b ≡ compact v
      → IsReadAs r b (λ w. compact w ≡ compact v)
  reads-redump v b held room is =
      subst (λ (x : List ℕ). IsReadAs r x (λ w. compact w ≡ compact v)) (sym is) (redumped r v held room)
