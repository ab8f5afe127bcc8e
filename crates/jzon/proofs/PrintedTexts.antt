-- The text of a value that a source means, and the error in its place.
use Rattle.jzon_base.proofs.Common.{◌^◌, ◌<◌, ◌≤◌, inl, inr, Result, Ok, Err, IfOk, IfErr, IsOkUnless, cases_lt}
use Rattle.jzon_base.specs.declared.error.Error.{Error}
use Rattle.jzon_base.specs.declared.error.Error.TheVariants.{OutOfMemory, ExceededDepthLimit}
use Rattle.jzon_tree.specs.IntoJson.{IsTextRefusal}
use Rattle.jzon_tree.specs.Lawful.{IsValue}
use Rattle.jzon_tree.specs.Value.{Value, nest}

module _ {T : Type 0} (means : Value → Type 0) (v : Value) where
  pub text_held : (P W : Value → T → Type 0) (r : Result T Error) → means v → IsValue v → IfOk r (P v) → IfOk r (W v)
      → IfOk r (λ t. (w : Value) × means w × IsValue w × P w t × W w t)
  text_held P W (Ok t) m value p w = (v, m, value, p, w)
  text_held P W (Err e) m value p w = tt

  pub refusal_of : (r : Result T Error) → means v → (nest v < 2 ^ 64 → IsOkUnless r OutOfMemory)
      → (2 ^ 64 ≤ nest v → IsOkUnless r ExceededDepthLimit) → IfErr r (IsTextRefusal means)
  refusal_of (Ok t) m few many = tt
  refusal_of (Err e) m few many = elim (cases_lt (nest v) (2 ^ 64)) [
    | inl lt ↦ inl (few lt)
    | inr ge ↦ inr (many ge, v, m, ge)
  ]
