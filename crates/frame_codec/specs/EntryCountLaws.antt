-- How many entries of a vector pass a test is how many replicas have a place with one that does.
use Rattle.std.specs.Prelude.{◌≡◌, ℕ, zero, suc, ◌+◌, ◌<◌, ◌≤◌, ◌^◌, Bool, true, false, nat_lt, List, [], length, take, drop, count_by, cond, None, refl}
use Rattle.std.specs.List.{slice_get, range_with_len}
use Rattle.std.specs.Int.{w32, from_be_bytes}
use Rattle.std.specs.Int.RustNames.{count_ones}
use Rattle.std.proofs.Common.{sym, ◌∙◌, ap, inl, inr, arith, get_or}
use Rattle.std.proofs.Math.Nat.{mod-eq_of_lt}
use Rattle.std.proofs.Math.Seq.{take-length}
use Rattle.std.proofs.lemmas.Bool.{and_parts, cases_Bool, ltb-true}
use Rattle.std.proofs.lemmas.List.{take_at}
use Rattle.std.proofs.lemmas.List.Sums.{sum_by_push, count_by_more_yes, count_by_more_no}
use Rattle.std.proofs.lemmas.Option.{slice_get-get_or}
use Rattle.ritas_base.specs.Members.{has_member, member_count}
use Rattle.ritas_base.specs.MemberLaws.{ones_are, member_more}
use Rattle.ritas_base.specs.Numbers.{Numbers, wait_of}
use Rattle.ritas_base.specs.RangeLaws.{range_more}
use Rattle.frame_codec.specs.Format.{Is}
use Rattle.frame_codec.specs.Grammar.{vector, is_places}
use Rattle.frame_codec.specs.Values.{mask_of, at_place, entries_in, vector_entries, entry_at_place, is_passed}

module _ (mask : ℕ) (test : List ℕ → Bool) (es : List (List ℕ)) where
  abbrev stands : ℕ → Bool
  stands k = is_passed test (at_place mask es k)

  -- of the first entries as many pass as of the places below a number
  by_place : (w : ℕ) → member_count w mask ≤ length es → count_by test (take (member_count w mask) es) ≡ count_by stands (range_with_len 0 w)
  unfolding member_count at_place
  by_place zero l = refl
  by_place (suc w) l =
      let more = member_more mask w in
      let here = ap (count_by stands) (range_more 0 w w (omega arith)) ∙ sum_by_push (λ j. cond {A = ℕ} (stands j) 1 0) (range_with_len 0 w) w in
      let rank : ℕ = member_count w mask in
      elim (cases_Bool (has_member mask w)) [
        | inl is_in ↦
            let one : cond {A = ℕ} (has_member mask w) 1 0 ≡ 1 = ap (λ (b : Bool). cond {A = ℕ} b 1 0) is_in in
            let within : rank < length es = omega (arith, l, more, one) in
            let before = by_place w (omega (arith, within)) in
            let size : member_count (suc w) mask ≡ rank + 1 = omega (arith, more, one) in
            let e : List ℕ = get_or es rank [] in
            let at : stands w ≡ test e =
            ap (λ (b : Bool). is_passed test (cond b (slice_get es rank) None)) is_in ∙ ap (is_passed test) (slice_get-get_or es rank [] within) in
            let longer = ap (λ (k : ℕ). count_by test (take k es)) size in
            elim (cases_Bool (test e)) [
              | inl passes ↦
                  let c = count_by_more_yes test es rank [] within passes in
                  let s : cond {A = ℕ} (stands w) 1 0 ≡ 1 = ap (λ (b : Bool). cond {A = ℕ} b 1 0) (at ∙ passes) in
                  omega (arith, longer, c, before, here, s)
              | inr fails ↦
                  let c = count_by_more_no test es rank [] within fails in
                  let s : cond {A = ℕ} (stands w) 1 0 ≡ 0 = ap (λ (b : Bool). cond {A = ℕ} b 1 0) (at ∙ fails) in
                  omega (arith, longer, c, before, here, s)
            ]
        | inr is_out ↦
            let none : cond {A = ℕ} (has_member mask w) 1 0 ≡ 0 = ap (λ (b : Bool). cond {A = ℕ} b 1 0) is_out in
            let size : member_count (suc w) mask ≡ rank = omega (arith, more, none) in
            let before = by_place w (omega (arith, l, size)) in
            let at : stands w ≡ false = ap (λ (b : Bool). is_passed test (cond b (slice_get es rank) None)) is_out in
            let s : cond {A = ℕ} (stands w) 1 0 ≡ 0 = ap (λ (b : Bool). cond {A = ℕ} b 1 0) at in
            let longer = ap (λ (k : ℕ). count_by test (take k es)) size in
            omega (arith, longer, before, here, s)
      ]

-- so many entries are read
entries_length : (n : ℕ) (bytes : List ℕ) → length (entries_in n bytes) ≡ n
unfolding entries_in
entries_length zero bytes = refl
entries_length (suc n) bytes = ap suc (entries_length n _)

-- the places of a vector are some of the n
places_good : (p : Numbers) (root : ℕ) (value : List ℕ) → Is (vector p root) value → is_places p.n (wait_of p) (mask_of value) ≡ true
unfolding vector mask_of
places_good p root value (f, r, parts, four, ok, more) =
    let first : take 4 value ≡ f = ap (take 4) parts ∙ take_at f r 4 four in
    ap (λ (l : List ℕ). is_places p.n (wait_of p) (from_be_bytes w32 l)) first ∙ ok

pub entries_by_place : (p : Numbers) (root : ℕ) (value : List ℕ) (test : List ℕ → Bool) → Is (vector p root) value
    → count_by test (vector_entries value) ≡ count_by (λ k. is_passed test (entry_at_place value k)) (range_with_len 0 p.n)
entries_by_place p root value test good =
    let mask = mask_of value in
    let es = vector_entries value in
    let small = ltb-true mask (2 ^ p.n) (and_parts (nat_lt mask (2 ^ p.n)) _ (places_good p root value good)).0 in
    let ones : count_ones mask ≡ member_count p.n mask = ap count_ones (sym (mod-eq_of_lt small)) ∙ ones_are p.n mask in
    let size : length es ≡ member_count p.n mask = entries_length (count_ones mask) (drop 4 value) ∙ ones in
    let all = by_place mask test es p.n (omega (arith, size)) in
    sym (ap (λ (k : ℕ). count_by test (take k es)) (sym size) ∙ ap (count_by test) (take-length es)) ∙ all
