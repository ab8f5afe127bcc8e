-- What the error of an operation says.
use Rattle.std.proofs.Common.{◌≡◌, ℕ, List, Option, None, Some, inl, inr, ◌∙◌, subst}
use Rattle.std.specs.Option.{MatchOption}
use Rattle.jzon_pointer.specs.Errors.{place_of, pointer_of, what_of, Becomes, Says, SaysOrMemory}
use Rattle.jzon_pointer.specs.declared.error.Error.{Error}
use Rattle.jzon_pointer.specs.declared.error.What.{What}
use Rattle.jzon_pointer.specs.declared.error.parts.Member.{Member}

-- an error that says what went wrong at a pointer, in an operation
pub in-operation : (e f : Error) (w : What) (p : List ℕ) (n : ℕ) (m : Option Member)
    → SaysOrMemory e (Some w) p None None None
    → Becomes e f (what_of e) (pointer_of e) (Some n) m (place_of e)
    → SaysOrMemory f (Some w) p (Some n) m None
in-operation e f w p n m (inl none) h =
    inl (subst (λ x. Becomes x f (what_of x) (pointer_of x) (Some n) m (place_of x)) none h)
in-operation e f w p n m (inr s) h =
    let said : Says f (what_of e) (pointer_of e) (Some n) m (place_of e) =
    subst (λ o. MatchOption o (f ≡ e) (λ _. Says f (what_of e) (pointer_of e) (Some n) m (place_of e))) s.what h in
    inr (record {
      text = said.text;
      what = said.what ∙ s.what;
      pointer = said.pointer ∙ s.pointer;
      operation = said.operation;
      member = said.member;
      place = said.place ∙ s.place;
    })
