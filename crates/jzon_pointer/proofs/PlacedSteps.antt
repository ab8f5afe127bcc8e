-- An error stands where the value is, or the key, that its own pointer names.
use Rattle.std.proofs.Common.{◌≡◌, ◌≢◌, ℕ, suc, List, [], ◌∷◌, ◌++◌, Option, None, Some, Bor, chars, refl, sym, ap, ◌∙◌, subst, arith}
use Rattle.std.specs.Prelude.{IfOk, Result, Err, Ok, true}
use Rattle.std.specs.Option.{is_some}
use Rattle.jzon.specs.Error as text
use Rattle.jzon.specs.Fault.{Parses}
use Rattle.jzon.specs.Grammar.{Document}
use Rattle.jzon.specs.Reading.{Reading}
use Rattle.jzon.specs.declared.place.Place.{Place}
use Rattle.jzon_pointer.specs.Errors.{member_of, operation_of, place_of, pointer_of, what_of, Becomes, Says}
use Rattle.jzon_pointer.specs.Escaped.{escaped}
use Rattle.jzon_pointer.specs.Locate.{IsPlaceOf, Named, pointed, value_text}
use Rattle.jzon_pointer.specs.Placed.{IsFoundWhole, IsPlaceBy, IsPlacedBy, StandsAt}
use Rattle.jzon_pointer.specs.declared.error.Error.{Error}
use Rattle.jzon_pointer.specs.declared.error.What.{What}
use Rattle.jzon_pointer.specs.declared.error.What.TheVariants as what
use Rattle.jzon_pointer.specs.declared.error.parts.Expected.{Expected}
use Rattle.jzon_pointer.proofs.EscapedSteps.{lacks-escaped}
use Rattle.jzon_pointer.proofs.TokenSteps.{Lacks}

-- ---- the last slash

lacks-tail : (c x : ℕ) (xs : List ℕ) → Lacks c (x ∷ xs) → Lacks c xs
lacks-tail c x xs h = λ i less. h (suc i) (omega arith)

-- a text that has a byte lacks it not
has-it : (c : ℕ) (xs ys : List ℕ) → Lacks c (xs ++ c ∷ ys) → ⊥
has-it c [] ys h = h 0 (omega arith) refl
has-it c (x ∷ xs) ys h = has-it c xs ys (lacks-tail c x (xs ++ c ∷ ys) h)

tail-same : (x y : ℕ) (xs ys : List ℕ) → x ∷ xs ≡ y ∷ ys → xs ≡ ys
tail-same x y xs ys h = cc

-- before the last slash is the same
same-before : (a q t s : List ℕ) → a ++ 47 ∷ t ≡ q ++ 47 ∷ s → Lacks 47 t → Lacks 47 s → a ≡ q
same-before [] [] t s h f g = refl
same-before [] (y ∷ q) t s h f g =
    absurd (has-it 47 q s (subst (Lacks 47) (tail-same 47 y t (q ++ 47 ∷ s) h) f))
same-before (x ∷ a) [] t s h f g =
    absurd (has-it 47 a t (subst (Lacks 47) (sym (tail-same x 47 (a ++ 47 ∷ t) s h)) g))
same-before (x ∷ a) (y ∷ q) t s h f g =
    let rest = same-before a q t s (tail-same x y (a ++ 47 ∷ t) (q ++ 47 ∷ s) h) f g in
    ap (λ z. z ∷ a) (let g : x ≡ y = cc in g) ∙ ap (λ l. y ∷ l) rest

pub is-parent : (p a t q k : List ℕ) → p ≡ a ++ 47 ∷ t → Lacks 47 t → p ≡ q ++ 47 ∷ escaped k → a ≡ q
is-parent p a t q k cut lacks is = same-before a q t (escaped k) (sym cut ∙ is) lacks (lacks-escaped k)

pub no-parent : (p a q k : List ℕ) → Lacks 47 p → p ≡ q ++ 47 ∷ escaped k → a ≡ q
no-parent p a q k lacks is = absurd (has-it 47 q (escaped k) (subst (Lacks 47) is lacks))

-- ---- the place of what went wrong at a pointer

pub no-place : (r : Reading) (bytes : List ℕ) (w : Option What) (p : List ℕ) → IsPlaceBy r bytes w p None
no-place r bytes None p = tt
no-place r bytes (Some w) p = tt

module _ (r : Reading) (bytes : List ℕ) where
  -- by each document that the text parses to, the place that was found is that of a part of what the pointer names
  abbrev Found : (Named → List ℕ) → Option Place → List ℕ → Type 0
  Found part found p = (d : Document) → Parses r (chars bytes) d → IsPlaceOf bytes part found (pointed d p)

  pub missing-place : (x : Expected) (p a : List ℕ) (o : Result (Option Place) text.Error)
      → ((q k : List ℕ) → p ≡ q ++ 47 ∷ escaped k → a ≡ q) → IfOk o (λ found. Found value_text found a)
      → IfOk o (IsPlaceBy r bytes (Some (what.Missing x)) p)
  missing-place x p a (Err e) h f = tt
  missing-place x p a (Ok None) h f = tt
  missing-place x p a (Ok (Some at)) h f = λ d parses q k is.
      subst (λ l. IsPlaceOf bytes value_text (Some at) (pointed d l)) (h q k is) (f d parses)

  pub unknown-place : (known : Bor (List (Bor (List ℕ)))) (p : List ℕ) (o : Result (Option Place) text.Error)
      → IfOk o (λ found. Found (λ v. v.from) found p) → IfOk o (IsPlaceBy r bytes (Some (what.Unknown known)) p)
  unknown-place known p (Err e) f = tt
  unknown-place known p (Ok None) f = tt
  unknown-place known p (Ok (Some at)) f = f

  value_by : (w : What) (p : List ℕ) (at : Place) → ((x : Expected) → w ≢ what.Missing x)
      → ((known : Bor (List (Bor (List ℕ)))) → w ≢ what.Unknown known) → (d : Document)
      → IsPlaceOf bytes value_text (Some at) (pointed d p) → StandsAt bytes d w p at
  value_by (what.Missing x) p at m u d f = absurd (m x refl)
  value_by (what.Unknown known) p at m u d f = absurd (u known refl)
  value_by (what.Pointer e) p at m u d f = f
  value_by (what.Wrong x g) p at m u d f = f
  value_by (what.Cut x g) p at m u d f = f
  value_by (what.Operation x) p at m u d f = f
  value_by (what.Said x) p at m u d f = f
  value_by (what.Custom x) p at m u d f = f

  pub value-place : (w : What) (p : List ℕ) (o : Result (Option Place) text.Error) → ((x : Expected) → w ≢ what.Missing x)
      → ((known : Bor (List (Bor (List ℕ)))) → w ≢ what.Unknown known) → IfOk o (λ found. Found value_text found p)
      → IfOk o (IsPlaceBy r bytes (Some w) p)
  value-place w p (Err e) m u f = tt
  value-place w p (Ok None) m u f = tt
  value-place w p (Ok (Some at)) m u f = λ d parses. value_by w p at m u d (f d parses)

  found_by : (part : Named → List ℕ) (found : Option Place) (d : Document) (p : List ℕ) → p ≡ []
      → IsPlaceOf bytes part found (pointed d p) → is_some found ≡ true
  found_by part (Some at) d p is h = refl
  found_by part None d p is h = absurd (subst (λ q. IsPlaceOf bytes part None (pointed d q)) is h)

  -- what is found at a pointer that is empty if p is has a place if p is
  pub found-whole : (part : Named → List ℕ) (p a : List ℕ) (o : Result (Option Place) text.Error) → (p ≡ [] → a ≡ [])
      → IfOk o (λ found. Found part found a) → IfOk o (IsFoundWhole r bytes p)
  found-whole part p a (Err e) empty f = tt
  found-whole part p a (Ok found) empty f = λ is d parses. found_by part found d a (empty is) (f d parses)

-- ---- the error with a place

placed_by : (r : Reading) (bytes : List ℕ) (e f : Error) (at : Option Place) (o : Option What) → what_of e ≡ o
    → Becomes e f (what_of e) (pointer_of e) (operation_of e) (member_of e) at
    → IsPlaceBy r bytes o (pointer_of e) at → IsPlacedBy r bytes f
placed_by r bytes e f at None is b h =
    let same : f ≡ e = rw is at b in
    subst (λ w. IsPlaceBy r bytes w (pointer_of f) (place_of f)) (sym (ap what_of same ∙ is)) tt
placed_by r bytes e f at (Some w) is b h =
    let says : Says f (Some w) (pointer_of e) (operation_of e) (member_of e) at = rw is at b in
    subst (λ v. IsPlaceBy r bytes v (pointer_of f) (place_of f)) (sym says.what)
    (subst (λ p. IsPlaceBy r bytes (Some w) p (place_of f)) (sym says.pointer)
    (subst (λ a. IsPlaceBy r bytes (Some w) (pointer_of e) a) (sym says.place) h))

-- an error that gets the place of what its pointer names has it
pub placed : (r : Reading) (bytes : List ℕ) (e f : Error) (at : Option Place)
    → Becomes e f (what_of e) (pointer_of e) (operation_of e) (member_of e) at
    → IsPlaceBy r bytes (what_of e) (pointer_of e) at → IsPlacedBy r bytes f
placed r bytes e f at b h = placed_by r bytes e f at (what_of e) refl b h

pub ruleset placing = (placed, no-place, missing-place, unknown-place, value-place, found-whole)
