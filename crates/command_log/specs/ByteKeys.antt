-- Bytes as the keys of a map: what an insertion leaves at any bytes.
use Rattle.std.proofs.Common.{◌≡◌, ℕ, Bool, true, false, cond, List, Option, Some, refl, sym, ◌∙◌, subst}
use Rattle.std.specs.Ordering.{nat_cmp, is_eq, eq_by_cmp}
use Rattle.std.specs.Cmp.{eq_by_cmp_equiv}
use Rattle.std.specs.Cmp.Lexicographic.{slice_cmp, nat_list_cmp_total, nat_list_eq_equiv}
use Rattle.std.specs.Map.{lookup, KeepsOthers, IsKeyTest, AreApart}
use Rattle.std.specs.BTreeMap.{BTreeMap, get_by, is_at, UpdatesBy}
use Rattle.std.specs.Str.{bytes_eq}
use Rattle.std.proofs.lemmas.Map.Text.{is_eq-slice_cmp}
use Rattle.std.proofs.lemmas.Slice.Eq.{bytes_eq-Decides}

apart : (bs cs ks : List ℕ) → bytes_eq bs cs ≡ false → is_eq (slice_cmp nat_cmp bs ks) ≡ true → is_eq (slice_cmp nat_cmp cs ks) ≡ false
apart bs cs ks differ same =
    is_eq-slice_cmp cs ks ∙ nat_list_eq_equiv.symm cs ks ∙ sym (nat_list_eq_equiv.congr bs ks cs (sym (is_eq-slice_cmp bs ks) ∙ same)) ∙ differ

-- what a change keeps
others : {K X : Type 0} (eq : K → K → Bool) (test : K → Bool) (old new : List (K × X)) → KeepsOthers eq test old new → (other : K → Bool) → IsKeyTest eq other → AreApart test other → lookup other new ≡ lookup other old
unfolding KeepsOthers
others eq test old new keeps = keeps

module _ {K X : Type 0} (bytes : K → List ℕ) where
  abbrev at_bytes : BTreeMap K X → List ℕ → Option X
  at_bytes m bs = get_by (λ k. slice_cmp nat_cmp bs (bytes k)) m

  -- an insertion at a key is one at its bytes
  pub put_at_bytes : (m n : BTreeMap K X) (key : K) (w : X) → UpdatesBy (λ x y. slice_cmp nat_cmp (bytes x) (bytes y)) (λ y. slice_cmp nat_cmp (bytes key) (bytes y)) m n (Some w)
      → (cs : List ℕ) → at_bytes n cs ≡ cond (bytes_eq (bytes key) cs) (Some w) (at_bytes m cs)
  put_at_bytes m n key w updates cs = either (bytes_eq (bytes key) cs) refl
    where
      either : (b : Bool) → bytes_eq (bytes key) cs ≡ b → at_bytes n cs ≡ cond b (Some w) (at_bytes m cs)
      either true same = subst (λ (bs : List ℕ). at_bytes n bs ≡ Some w) ((bytes_eq-Decides (bytes key) cs).0 same) updates.1
      either false differ =
          others (eq_by_cmp (λ x y. slice_cmp nat_cmp (bytes x) (bytes y))) (is_at (λ y. slice_cmp nat_cmp (bytes key) (bytes y))) m.entries n.entries updates.3
          (λ k. is_at (λ y. slice_cmp nat_cmp cs (bytes y)) k) (λ x y. (eq_by_cmp_equiv nat_list_cmp_total).congr cs (bytes x) (bytes y))
          (λ k. apart (bytes key) cs (bytes k) differ)
