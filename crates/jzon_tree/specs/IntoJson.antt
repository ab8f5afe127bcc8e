-- What a source means as a value (docs/RULES.md, "Conversions").
use Rattle.std.specs.Prelude.{◌≡◌, ◌⊎◌, ℕ, ◌≤◌, ◌^◌, List, Option, None, Some, IsPermutation}
use Rattle.std.specs.List.{AllZip}
use Rattle.jzon_base.specs.PairList.{put_each}
use Rattle.jzon_base.specs.declared.error.Error.{Error}
use Rattle.jzon_base.specs.declared.error.Error.TheVariants.{OutOfMemory, ExceededDepthLimit}
use Rattle.jzon_tree.specs.Value.{Value, null, array, object, values_of, pairs_of, nest}

-- `None` means null, and `Some` means what its content means
abbrev pub OptionMeans : {X : Type 0} → (X → Value → Type 0) → Option X → Value → Type 0
OptionMeans means None v = v ≡ null
OptionMeans means (Some x) v = means x v

-- a list means an array of what its elements mean, one by one
abbrev pub ListMeans : {X : Type 0} → (X → Value → Type 0) → List X → Value → Type 0
ListMeans means xs v = (vs : List Value) × (v ≡ array (values_of vs)) × AllZip means xs vs

-- a borrowed list means what a list of clones of its elements means
abbrev pub CloneListMeans : {X : Type 0} → (X → X → Type 0) → (X → Value → Type 0) → List X → Value → Type 0
CloneListMeans {X} is_clone means xs v = (ys : List X) × AllZip is_clone xs ys × ListMeans means ys v

-- entries mean entries with the text of each key and what each value means, one by one
abbrev pub PairsMean : {K X : Type 0} → (K → List ℕ) → (X → Value → Type 0) → List (K × X) → List (List ℕ × Value)
    → Type 0
PairsMean text means = AllZip (λ p q. (q.0 ≡ text p.0) × means p.1 q.1)

-- entries put one after the other: a repeated key keeps its first position and takes the last value
abbrev pub PutMeans : {K X : Type 0} → (K → List ℕ) → (X → Value → Type 0) → List (K × X) → Value → Type 0
PutMeans text means ps v = (qs : List (List ℕ × Value)) × PairsMean text means ps qs
    × (v ≡ object (pairs_of (put_each qs)))

-- an ordered map means the object of its entries, in that order
abbrev pub MapMeans : {K X : Type 0} → (K → List ℕ) → (X → Value → Type 0) → List (K × X) → Value → Type 0
MapMeans text means ps v = (qs : List (List ℕ × Value)) × PairsMean text means ps qs × (v ≡ object (pairs_of qs))

-- an unordered map means the same, in any order
abbrev pub AnyOrderMeans : {K X : Type 0} → (K → List ℕ) → (X → Value → Type 0) → List (K × X) → Value → Type 0
AnyOrderMeans {K} {X} text means ps v = (qs : List (K × X)) × IsPermutation ps qs × MapMeans text means qs v

-- the error of a text of what a source means: an allocation failed, or containers nest 2 ^ 64 deep or deeper
abbrev pub IsTextRefusal : (Value → Type 0) → Error → Type 0
IsTextRefusal means e = (e ≡ OutOfMemory) ⊎ ((e ≡ ExceededDepthLimit) × (v : Value) × means v × (2 ^ 64 ≤ nest v))
