-- The names of std that proofs cite, passed on from one place. Declares nothing.
pub use Rattle.std.proofs.Common.{if◌then◌else◌, ◌%◌, ◌&&◌, ◌*◌, ◌++◌, ◌+ℤ◌, ◌+◌, ◌-ℤ◌, ◌-◌, ◌/◌, ◌<ℤ◌, ◌<◌, ◌==◌, ◌^◌}
pub use Rattle.std.proofs.Common.{◌||◌, ◌∙◌, ◌∷◌, ◌≡◌, ◌≢◌, ◌≤ℤ◌, ◌≤◌, ◌⊎◌, Bool, Bor, Err, Fits, FitsSigned, Global}
pub use Rattle.std.proofs.Common.{IfErr, IfOk, IsOkUnless, IsSome, List, None, Ok, Option, Result, Some, String, Vec}
pub use Rattle.std.proofs.Common.{[], add-one, add-suc, add-zero, ap, append-nil, append_assoc, ap₂, arith, bit_and}
pub use Rattle.std.proofs.Common.{bit_or, codes, cond, decimal, drop, drop-cons, eqb, eqb-true, false, filter, get_or}
pub use Rattle.std.proofs.Common.{inl, inr, length, length-append, lit<, lit≤, ltb, map, max, min, nat_eq, nat_le}
pub use Rattle.std.proofs.Common.{nat_lt, neg_ℤ, negsuc, not, of_z, option_map, pos, pow-add, pow-suc, refl, replicate}
pub use Rattle.std.proofs.Common.{rules, set, slice_get, slice_index, slice_index_or, subst, suc, suc-add, sym, take}
pub use Rattle.std.proofs.Common.{take-append-drop, to_z, true, true≢false, unwrap_or, vec_len, w32, w8, zero, zero-add}
pub use Rattle.std.proofs.Common.{ℕ, ℤ}
pub use Rattle.std.specs.Prelude.{◌↔◌, AllPairs, Contains, IfSome, IsErrAnd, IsTrue, IsUtf8, MatchResult, OnErr, OnOk}
pub use Rattle.std.specs.Prelude.{count_by, encode_utf8_all, slice_range, slice_set, string_bytes, unsigned_abs, ⊤}
pub use Rattle.std.specs.Prelude.{chars}
unfoldable pub use Rattle.std.specs.Char.{encode_utf8}
pub use Rattle.std.proofs.Math.Bool.{not-not}
pub use Rattle.std.proofs.Math.Nat.{le-max_left, le-max_right, mod-eq_of_lt, mul-le-mul_right, one-le-pow}
pub use Rattle.std.proofs.Math.Nat.{pow-le-pow_right}
pub use Rattle.std.proofs.Math.Seq.{drop-append_seam, get_or-append_seam, set-append_seam, take-add, take-append-add}
pub use Rattle.std.proofs.Math.Seq.{take-append_seam, take-suc}
pub use Rattle.std.proofs.Math.Utf8.{scalar, scalars}
pub use Rattle.std.proofs.Output.{has_written_append, has_written_of_eq}
pub use Rattle.std.proofs.lemmas.Bool.{agree_below_at, and_from, and_parts, cases_Bool, cases_eq, cases_lt, cond-false}
pub use Rattle.std.proofs.lemmas.Bool.{cond-true, eq-eqb, eqb-false, false_from_ne_true, false≢true, iff_false, le-ltb}
pub use Rattle.std.proofs.lemmas.Bool.{leb-true, lt-leb, lt-ltb, ltb-true, ne_eqb, not-true, or_from, or_parts}
pub use Rattle.std.proofs.lemmas.Bool.Decides.{nat_tests}
pub use Rattle.std.proofs.lemmas.Cmp.{tied_itself}
pub use Rattle.std.proofs.lemmas.Fmt.{length-decimal-le}
pub use Rattle.std.proofs.lemmas.Fn.{always_returns_same}
pub use Rattle.std.proofs.lemmas.Grind.{common_steps}
pub use Rattle.std.proofs.lemmas.Int.{clamps, ints, to_z-of_z}
pub use Rattle.std.proofs.lemmas.List.{drop-append-le, drop-drop, drop-set-lt, drop_all, drop_more, get_or-append-add}
pub use Rattle.std.proofs.lemmas.List.{get_or-drop, get_or-map, get_or-set_other, get_or-set_same, get_or-take}
pub use Rattle.std.proofs.lemmas.List.{get_or_append_left, get_or_default, get_or_push, length-drop, length-map}
pub use Rattle.std.proofs.lemmas.List.{length-replicate, length-set, length-take, length-take-le, length_push}
pub use Rattle.std.proofs.lemmas.List.{map-append, nil_from_length, take-append-le, take-replicate, take-set-le}
pub use Rattle.std.proofs.lemmas.List.{take-take, take_all, take_more, take_more_set, take_rest}
pub use Rattle.std.proofs.lemmas.List.Concat.{flat_map-append}
pub use Rattle.std.proofs.lemmas.List.Edits.{length-swap}
pub use Rattle.std.proofs.lemmas.List.Elements.{All-append, All-cons, All-drop, All-head, All-nil, All-push, All-same}
pub use Rattle.std.proofs.lemmas.List.Elements.{All-tail, All-take, recursion_from_All}
pub use Rattle.std.proofs.lemmas.List.Quantifiers.{position-Some}
pub use Rattle.std.proofs.lemmas.List.Sorted.{All-permutation, IsPermutation-append_right, IsPermutation-cons}
pub use Rattle.std.proofs.lemmas.List.Sorted.{IsPermutation-middle, IsPermutation-refl, IsPermutation-sym}
pub use Rattle.std.proofs.lemmas.List.Sorted.{IsPermutation-to_front, IsPermutation-trans, length_permutation}
pub use Rattle.std.proofs.lemmas.List.Sums.{fold-append, prefix_len-le-length, prefix_len_stops}
pub use Rattle.std.proofs.lemmas.Map.Keys.{IsDistinct-cons, IsDistinct-from_sorted, IsDistinct-head, IsDistinct-tail}
pub use Rattle.std.proofs.lemmas.Map.Lookups.{exact_bytes, exact_pairs, exact_unsigned}
pub use Rattle.std.proofs.lemmas.Map.Made.{AllPairs-from_IsDistinct, IsDistinct-from_AllPairs, keys_of-zip}
pub use Rattle.std.proofs.lemmas.Map.Text.{is_eq-slice_cmp}
pub use Rattle.std.proofs.lemmas.Nat.{mul-mod_first}
pub use Rattle.std.proofs.lemmas.Option.{none-some, same_Some, slice_get-get_or, slice_get-map, slice_get_read}
pub use Rattle.std.proofs.lemmas.Result.{IfOk-weaker, err_from_is_err_and, on_ok_weaker}
pub use Rattle.std.proofs.lemmas.Simd.{chunk-fits, first_set_mask_l, length-chunk, map-map, mask_l-mod, zip2_splat}
pub use Rattle.std.proofs.lemmas.Slice.Eq.{bytes_eq-Decides}
pub use Rattle.std.proofs.lemmas.Slice.Zip.{length-zip}
pub use Rattle.std.proofs.lemmas.Str.{IsCharBoundary-after_ascii, IsCharBoundary-before_ascii, IsCharBoundary-from_drop}
pub use Rattle.std.proofs.lemmas.Str.{IsUtf8-append, IsUtf8-between, IsUtf8-drop, IsUtf8-from_ascii, IsUtf8-nil}
pub use Rattle.std.proofs.lemmas.Str.{IsUtf8-take, chars-IsAscii, chars-append, chars_from_encodes, chars_past_char}
pub use Rattle.std.proofs.lemmas.Str.{encode_ascii, encodes-append, encodes-chars, scalars-chars}
pub use Rattle.std.proofs.lemmas.Str.Ascii.{IsAscii-cons, IsAscii-nil}
pub use Rattle.std.specs.BTreeMap.{keys}
pub use Rattle.std.specs.Char.{digit_value, is_ascii_digit, is_ascii_hexdigit}
pub use Rattle.std.specs.Cmp.Lexicographic.{nat_list_eq_equiv, slice_cmp}
pub use Rattle.std.specs.Fmt.{HasWritten, IsPlainFormatter}
unfoldable pub use Rattle.std.specs.Fmt.{digits}
pub use Rattle.std.specs.Int.{from_bool, w16}
pub use Rattle.std.specs.Io.KnownBytes.{Appends}
pub use Rattle.std.specs.Iterator.Adapters.{zip_first, zip_second}
pub use Rattle.std.specs.List.{All, AllByRecursion, AllZip, copy_within, flat_map, fold, insert, list_all, list_any}
pub use Rattle.std.specs.List.{position, position_or_len, prefix_len, range_with_len, remove, repeat, swap, take_while}
pub use Rattle.std.specs.List.{zip}
unfoldable pub use Rattle.std.specs.List.{IsDistinct}
pub use Rattle.std.specs.List.Sorted.{IsBinarySearchResult, IsPermutation, IsSorted, IsSortedBy}
pub use Rattle.std.specs.Map.Calls.{CalledAtPair, TakesPair}
pub use Rattle.std.specs.Option.{is_some}
pub use Rattle.std.specs.Ordering.{eq_by_cmp, is_lt, nat_cmp, ordering_reverse}
pub use Rattle.std.specs.Result.{IsErr, result_ok}
pub use Rattle.std.specs.Slice.Iter.{iter_rest}
pub use Rattle.std.specs.Str.{IsAscii, IsCharBoundary, bytes_eq}
pub use Rattle.std.specs.Vec.Iter.{into_iter_items}
pub use Rattle.std.specs.declared.cmp.Ordering.{Ordering}
pub use Rattle.std.specs.declared.cmp.Ordering.TheVariants.{Equal, Greater, Less}
