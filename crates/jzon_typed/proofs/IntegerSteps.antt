-- An integer that is written as one is the integer that the number is.
use Rattle.std.proofs.Common.{◌≡◌, ℕ, ◌*◌, ◌^◌, ◌<◌, ℤ, pos, Bool, true, false, Option, None, Some, if◌then◌else◌, refl, sym, ap, ◌∙◌, subst, arith, FitsSigned}
use Rattle.std.proofs.lemmas.Bool.{false≢true}
use Rattle.std.proofs.lemmas.Bool.Decides.{Decides-int_eq}
use Rattle.std.proofs.lemmas.Option.{none-some, same_Some}
use Rattle.std.specs.Ordering.{int_eq}
use Rattle.std.specs.Int.{Width, w64}
use Rattle.std.specs.Prelude.{SomeIff, IsSome}
use Rattle.jzon.specs.Decimal.{Decimal, nan, parts, integer_of, unsigned_of, signed, SomeWhere}
use Rattle.jzon.specs.Readers.{integer_in, unsigned_in}
use Rattle.jzon.specs.Value.{Value, null, boolean, text, number, array, object}
use Rattle.jzon_typed.specs.Integers.{natural_in, whole_in, IsNaturalBelow, IsWholeOf}

one : (m : ℕ) → m * 10 ^ 0 ≡ m
one m = omega arith

natural-by : (b : Bool) (m : ℕ) (e : ℤ) (n : ℕ) → int_eq e (pos 0) ≡ b → (if b then Some m else None) ≡ Some n
    → natural_in (number (parts true m e)) ≡ Some n
natural-by true m e n test h =
    subst (λ k. natural_in (number (parts true m k)) ≡ Some n) (sym ((Decides-int_eq e (pos 0)).0 test))
    (ap (λ (k : ℕ). Some k) (one m) ∙ h)
natural-by false m e n test h = absurd (none-some n h)

natural-of : (d : Decimal) (n : ℕ) → unsigned_of d ≡ Some n → natural_in (number d) ≡ Some n
natural-of nan n h = absurd (none-some n h)
natural-of (parts true m e) n h = natural-by (int_eq e (pos 0)) m e n refl h
natural-of (parts false m e) n h = absurd (none-some n h)

natural-in : (v : Value) (n : ℕ) → unsigned_in v ≡ Some n → natural_in v ≡ Some n
natural-in null n h = absurd (none-some n h)
natural-in (boolean b) n h = absurd (none-some n h)
natural-in (text s t) n h = absurd (none-some n h)
natural-in (number d) n h = natural-of d n h
natural-in (array vs) n h = absurd (none-some n h)
natural-in (object ps) n h = absurd (none-some n h)

whole-by : (b p : Bool) (m : ℕ) (e n : ℤ) → int_eq e (pos 0) ≡ b → (if b then Some (signed p m) else None) ≡ Some n
    → whole_in (number (parts p m e)) ≡ Some n
whole-by true p m e n test h =
    subst (λ k. whole_in (number (parts p m k)) ≡ Some n) (sym ((Decides-int_eq e (pos 0)).0 test))
    (ap (λ (k : ℕ). Some (signed p k)) (one m) ∙ h)
whole-by false p m e n test h = absurd (none-some n h)

whole-of : (d : Decimal) (n : ℤ) → integer_of d ≡ Some n → whole_in (number d) ≡ Some n
whole-of nan n h = absurd (none-some n h)
whole-of (parts p m e) n h = whole-by (int_eq e (pos 0)) p m e n refl h

whole-in : (v : Value) (n : ℤ) → integer_in v ≡ Some n → whole_in v ≡ Some n
whole-in null n h = absurd (none-some n h)
whole-in (boolean b) n h = absurd (none-some n h)
whole-in (text s t) n h = absurd (none-some n h)
whole-in (number d) n h = whole-of d n h
whole-in (array vs) n h = absurd (none-some n h)
whole-in (object ps) n h = absurd (none-some n h)

-- ---- what is read where a condition holds

module _ {X : Type 0} where
  -- what was read is there, and the condition holds of it
  pub where-some : (o : Option X) (P : X → Type 0) (x : X) → SomeWhere o P (Some x) → (o ≡ Some x) × P x
  where-some None P x h = absurd (false≢true (sym h))
  where-some (Some y) P x h = (ap (λ z. Some z) (sym h.1), subst P (sym h.1) h.0)

  -- what is there, and of which the condition holds, is read
  pub some-where : (o : Option X) (P : X → Type 0) (x : X) → o ≡ Some x → P x → SomeWhere o P (Some x)
  some-where None P x h p = absurd (none-some x h)
  some-where (Some y) P x h p = let same : y ≡ x = same_Some y x h in (subst P (sym same) p, sym same)

  reads-by : (y : X) (P : X → Type 0) (r : Option X) (x : X) → y ≡ x → P x → SomeIff r (P y) y → IsSome r
  reads-by y P None x same p h = absurd (h (subst P (sym same) p))
  reads-by y P (Some z) x same p h = refl

  pub reads-where : (o : Option X) (P : X → Type 0) (r : Option X) (x : X) → o ≡ Some x → P x → SomeWhere o P r → IsSome r
  reads-where None P r x h p w = absurd (none-some x h)
  reads-where (Some y) P r x h p w = reads-by y P r x (same_Some y x h) p w

pub plain-natural : (v : Value) (n : ℕ) → SomeWhere (unsigned_in v) (λ k. k < 2 ^ 64) (Some n)
    → SomeWhere (natural_in v) (λ k. k < 2 ^ 64) (Some n)
plain-natural v n h =
    let is = where-some (unsigned_in v) (λ k. k < 2 ^ 64) n h in
    some-where (natural_in v) (λ k. k < 2 ^ 64) n (natural-in v n is.0) is.1

pub plain-whole : (v : Value) (n : ℤ) → SomeWhere (integer_in v) (FitsSigned w64) (Some n)
    → SomeWhere (whole_in v) (FitsSigned w64) (Some n)
plain-whole v n h =
    let is = where-some (integer_in v) (FitsSigned w64) n h in
    some-where (whole_in v) (FitsSigned w64) n (whole-in v n is.0) is.1

pub natural-read : (b : ℕ) (v : Value) (r : Option ℕ) → IsNaturalBelow b v → SomeWhere (natural_in v) (λ n. n < b) r
    → IsSome r
natural-read b v r (n, is, below) w = reads-where (natural_in v) (λ k. k < b) r n is.0 below w

pub whole-read : (w : Width) (v : Value) (r : Option ℤ) → IsWholeOf w v → SomeWhere (whole_in v) (FitsSigned w) r
    → IsSome r
whole-read w v r (n, is, fits) h = reads-where (whole_in v) (FitsSigned w) r n is.0 fits h

pub ruleset integers = (plain-natural, plain-whole, natural-read, whole-read)
