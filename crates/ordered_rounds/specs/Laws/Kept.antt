-- Which rounds are kept, by how many are complete.
use Rattle.std.specs.Prelude.{◌≡◌, ℕ, ◌+◌, ◌<◌, ◌≤◌, Bool, true, false, not, ◌&&◌, ◌||◌, nat_le, nat_lt, refl}
use Rattle.std.proofs.Common.{sym, ◌∙◌, ap, arith}
use Rattle.std.proofs.lemmas.Bool.{le-leb, leb-true, leb-false, le-ltb, ltb-false}
use Rattle.ritas_base.specs.Versions.{has_past}
use Rattle.ritas_base.specs.declared.mode.FrameVersion.{FrameVersion}
use Rattle.layer_api.specs.Windows.{rounds_kept}
use Rattle.ordered_rounds.specs.Rounds.{is_kept}

-- the current round is kept, and the two before it
pub kept_near : (version : FrameVersion) (n a : ℕ) → n ≤ a + 2 → is_kept version n a ≡ true
kept_near version n a l = go (has_past version)
  where
    go : (past : Bool) → (not past || nat_le n (a + rounds_kept)) ≡ true
    go false = refl
    go true = le-leb n (a + 2) l

-- one that isn't kept lies before them
pub far_unkept : (version : FrameVersion) (n a : ℕ) → is_kept version n a ≡ false → a + 2 < n
far_unkept version n a e = go (has_past version) e
  where
    go : (past : Bool) → (not past || nat_le n (a + rounds_kept)) ≡ false → a + 2 < n
    go false q = absurd cc
    go true q = leb-false n (a + 2) q

-- where there is a past, one that is kept lies no further back
pub kept_recent : (version : FrameVersion) (n a : ℕ) → is_kept version n a ≡ true → has_past version ≡ true → n ≤ a + 2
kept_recent version n a e past =
    leb-true n (a + 2) (sym (ap (λ (b : Bool). not b || nat_le n (a + rounds_kept)) past) ∙ e)

-- one that is kept was so before
pub kept_before : (version : FrameVersion) (n m a : ℕ) → m ≤ n → is_kept version n a ≡ true → is_kept version m a ≡ true
kept_before version n m a l e = go (has_past version) e
  where
    go : (past : Bool) → (not past || nat_le n (a + rounds_kept)) ≡ true → (not past || nat_le m (a + rounds_kept)) ≡ true
    go false q = refl
    go true q = let k = leb-true n (a + 2) q in le-leb m (a + 2) (omega (arith, l, k))

-- a round is kept as long as it isn't past
pub kept_unpast : (version : FrameVersion) (n a : ℕ) → (has_past version && nat_lt (a + rounds_kept) n) ≡ false → is_kept version n a ≡ true
kept_unpast version n a e = go (has_past version) e
  where
    go : (past : Bool) → (past && nat_lt (a + rounds_kept) n) ≡ false → (not past || nat_le n (a + rounds_kept)) ≡ true
    go false q = refl
    go true q = le-leb n (a + 2) (ltb-false (a + 2) n q)

pub unpast_kept : (version : FrameVersion) (n a : ℕ) → is_kept version n a ≡ true → (has_past version && nat_lt (a + rounds_kept) n) ≡ false
unpast_kept version n a e = go (has_past version) e
  where
    go : (past : Bool) → (not past || nat_le n (a + rounds_kept)) ≡ true → (past && nat_lt (a + rounds_kept) n) ≡ false
    go false q = refl
    go true q = le-ltb (a + 2) n (leb-true n (a + 2) q)
