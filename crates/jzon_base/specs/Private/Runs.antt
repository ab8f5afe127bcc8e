-- An index of keys by hashes that the caller passes, whatever they are: runs of entries.
use Rattle.std.specs.Prelude.{◌≡◌, ◌≢◌, ◌+◌, ◌-◌, ◌<◌, ◌≤◌, ℕ, true, List, [], ◌∷◌, ◌++◌, map, length, slice_index_or}
use Rattle.std.specs.List.{flat_map, All, IsDistinct}
use Rattle.std.specs.List.Sorted.{IsPartitionPoint, IsPermutation, IsSorted}
use Rattle.std.specs.Str.{bytes_eq}
use Rattle.std.specs.declared.cmp.Ordering.TheVariants.{Less, Greater}
use Rattle.jzon_base.specs.Private.Hash.{hash_of}
use Rattle.jzon_base.specs.Private.Keys.{compare_with, entry_cmp, index_entry}
use Rattle.jzon_base.specs.declared.keys.entries.IndexEntry.{IndexEntry}

-- each hash with its position, from n on
unfoldable pub numbered : ℕ → List ℕ → List IndexEntry
numbered n [] = []
numbered n (h ∷ hs) = index_entry h n ∷ numbered (n + 1) hs

-- all entries, run after run
abbrev pub all_entries : List (List IndexEntry) → List IndexEntry
all_entries rs = flat_map (λ r. r) rs

-- each run is in the order of hashes and, for one hash, of keys
abbrev pub AreSorted : List (List ℕ) → List (List IndexEntry) → Type 0
AreSorted ks rs = All (IsSorted (entry_cmp ks)) rs

-- the entries are the hashes with their positions, in runs that are sorted
pub record IsIndexOf (hs : List ℕ) (ks : List (List ℕ)) (rs : List (List IndexEntry)) : Type 0 where
  pub even : length hs ≡ length ks
  pub whole : IsPermutation (numbered 0 hs) (all_entries rs)
  pub sorted : AreSorted ks rs

-- a key equal to `name` has the hash h
pub record AreHanded (hs : List ℕ) (ks : List (List ℕ)) (h : ℕ) (name : List ℕ) : Type 0 where
  pub own : (i : ℕ) → i < length ks → bytes_eq (slice_index_or ks i []) name ≡ true → slice_index_or hs i 0 ≡ h

-- a run has no entry of this hash and name, and one belongs at this position
pub record IsPlace (ks : List (List ℕ)) (h : ℕ) (name : List ℕ) (r : List IndexEntry) (at : ℕ) : Type 0 where
  pub within : at ≤ length r
  pub point : IsPartitionPoint (λ p. compare_with ks h name p ≡ Less) (λ p. compare_with ks h name p ≡ Greater) r at

-- an entry of this hash and name belongs at this position of the last run, which has none
abbrev pub IsSpot : List (List ℕ) → ℕ → List ℕ → List (List IndexEntry) → ℕ → Type 0
IsSpot ks h name rs at = 0 < length rs → IsPlace ks h name (slice_index_or rs (length rs - 1) []) at

-- the runs ss are those of rs, of which the last may be joined, and then a run of one entry
pub record IsBegun (ks : List (List ℕ)) (rs ss : List (List IndexEntry)) (p : IndexEntry) : Type 0 where
  pub before : List (List IndexEntry)
  pub split : ss ≡ before ++ (p ∷ []) ∷ []
  pub whole : IsPermutation (all_entries rs) (all_entries before)
  pub sorted : AreSorted ks rs → AreSorted ks before

-- if there are index entries, they are those of all keys
pub record IsIndexed (ks : List (List ℕ)) (rs : List (List IndexEntry)) : Type 0 where
  pub index : length (all_entries rs) ≢ 0 → IsIndexOf (map hash_of ks) ks rs

-- distinct keys, and their index if there is one
pub record IsTable (ks : List (List ℕ)) (rs : List (List IndexEntry)) : Type 0 where
  pub indexed : IsIndexed ks rs
  pub distinct : IsDistinct bytes_eq ks

-- there are index entries; that of a name has this hash, and belongs there in the last run
pub record IsSpotFor (ks : List (List ℕ)) (rs : List (List IndexEntry)) (name : List ℕ) (h at : ℕ) : Type 0 where
  pub some : length (all_entries rs) ≢ 0
  pub own : h ≡ hash_of name
  pub spot : IsSpot ks h name rs at
