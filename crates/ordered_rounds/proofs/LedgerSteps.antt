-- What one identifier more does to the identifiers that are kept.
use Rattle.std.specs.Prelude.{◌≡◌, ◌<◌, ◌≤◌, Bool, true, false, not, ◌==◌, ◌&&◌, ◌||◌, if◌then◌else◌, List, [], ◌∷◌, ◌++◌, ℕ, ◌↔◌, IsTrue, length, reverse, refl, slice_index, nat_lt}
use Rattle.std.specs.List.{AllByRecursion}
use Rattle.std.specs.BTreeSet.{BTreeSet, contains}
use Rattle.std.specs.BTreeMap.{is_at}
use Rattle.std.proofs.Common.{sym, ◌∙◌, ap, ap₂, subst, inl, inr, arith}
use Rattle.std.proofs.lemmas.List.{reverse-append, nil_from_length}
use Rattle.std.proofs.lemmas.Bool.{and_parts, and_from, or_cases, eqb-true, eq-eqb, both_ways, false_from_ne_true, or_left, or_from, lt-ltb, le-ltb}
use Rattle.ritas_base.specs.declared.id.Id.{Id}
use Rattle.layer_api.specs.Service.{has_id, IsPart}
use Rattle.ordered_rounds.specs.Identifiers.{passing_ids, is_without, all_pass, append_ids, IsSorted}
use Rattle.ordered_rounds.specs.Early.{has_early, id_cmp, Notes}
use Rattle.ordered_rounds.specs.Pending.{HoldsIds}
use Rattle.ordered_rounds.specs.Laws.LogsByRound.{part_through}
use Rattle.ordered_rounds.specs.Rounds.{least_without}
use Rattle.ordered_rounds.specs.Laws.LeastNumber.{least_from}
use Rattle.ordered_rounds.specs.Ledger.{LedgerStands, IsReady, at_bases, Appending}
use Rattle.ordered_rounds.specs.declared.ledger.Ledger.{Ledger}
use Rattle.ordered_rounds.proofs.Ids.{same_test, without_id}
use Rattle.ordered_rounds.specs.Laws.ListedIds.{is_same, same_id, itself, kept_has}
use Rattle.ordered_rounds.proofs.Pending.{keys_has, above_all}
use Rattle.frame_codec.specs.Ids.{IsBelow}
use Rattle.ordered_rounds.specs.Laws.Ordered.{below_other, append_part}

same_swap : (x y : Id) → is_same x y ≡ is_same y x
same_swap x y = same_test _ _ (λ h. turn x y h) (λ h. turn y x h)
  where
    turn : (a b : Id) → is_same a b ≡ true → is_same b a ≡ true
    turn a b h =
        let parts = and_parts (a.origin == b.origin) (a.num == b.num) h in
        and_from (b.origin == a.origin) (b.num == a.num) (eq-eqb b.origin a.origin (sym (eqb-true a.origin b.origin parts.0))) (eq-eqb b.num a.num (sym (eqb-true a.num b.num parts.1)))

-- ---- whether a command was delivered

pub delivered_then : (l : Ledger) (delivered log : List Id) (x : Id) → LedgerStands l delivered log → contains id_cmp l.pending x ≡ true → has_id delivered x ≡ true
delivered_then l delivered log x stands has =
    (and_parts (is_without log x) (has_id delivered x) (sym (kept_has (is_without log) delivered x) ∙ (sym (stands.pending x) ∙ has))).1

pub delivered_else : (l : Ledger) (delivered log : List Id) (x : Id) → LedgerStands l delivered log → contains id_cmp l.pending x ≡ false → has_id log x ≡ has_id delivered x
delivered_else l delivered log x stands none =
    go (has_id log x) refl (sym (kept_has (is_without log) delivered x) ∙ (sym (stands.pending x) ∙ none))
  where
    go : (b : Bool) → has_id log x ≡ b → (not b && has_id delivered x) ≡ false → b ≡ has_id delivered x
    go true e h = sym (stands.heard x e)
    go false e h = sym h

-- ---- an identifier is appended

moves : (x z : Id) (log delivered : List Id) → (not (is_same z x) && (is_without log z && has_id delivered z)) ≡ (is_without (x ∷ log) z && has_id delivered z)
moves x z log delivered = ap (λ s. not s && (is_without log z && has_id delivered z)) (same_swap z x) ∙ go (is_same x z) (has_id log z) (has_id delivered z)
  where
    go : (s l d : Bool) → (not s && (not l && d)) ≡ (not (s || l) && d)
    go true l d = refl
    go false l d = refl

pub pending_less : (set set' : BTreeSet Id) (x : Id) (delivered log : List Id)
    → ((z : Id) → contains id_cmp set' z ≡ (if is_at (id_cmp x) z then false else contains id_cmp set z))
    → HoldsIds set (passing_ids (is_without log) delivered) → HoldsIds set' (passing_ids (is_without (x ∷ log)) delivered)
pending_less set set' x delivered log less holds z =
    less z ∙ (without_id x.origin x.num z.origin z.num (contains id_cmp set z)
    ∙ (ap (λ b. not (is_same z x) && b) (holds z ∙ kept_has (is_without log) delivered z)
    ∙ (moves x z log delivered ∙ sym (kept_has (is_without (x ∷ log)) delivered z))))

pub append_stands : (l l' : Ledger) (x : Id) (delivered log : List Id) → x.origin < 31 → x.num < 1000000 → has_id delivered x ≡ true
    → ((z : Id) → contains id_cmp l'.pending z ≡ (if is_at (id_cmp x) z then false else contains id_cmp l.pending z))
    → Notes 31 x.origin x.num l.bases l'.bases l.early l'.early → l'.log.items ≡ l.log.items ++ x ∷ []
    → LedgerStands l delivered log → LedgerStands l' delivered (x ∷ log)
append_stands l l' x delivered log own few has less notes items stands = record {
  pending = pending_less l.pending l'.pending x delivered log less stands.pending;
  listed = ap reverse items ∙ (reverse-append l.log.items (x ∷ []) ∙ ap (λ (r : List Id). x ∷ r) stands.listed);
  known = λ o k within.
      notes.known o k within own few
      ∙ (ap (λ (b : Bool). o == x.origin && k == x.num || b) (stands.known o k within)
      ∙ ap (λ (b : Bool). b || has_id log (record { origin = o; num = k })) (same_swap (record { origin = o; num = k }) x));
  tight = notes.tight stands.tight;
  origins = stands.origins;
  heard = λ z h.
      elim (or_cases (is_same x z) (has_id log z) h) [
        | inl here ↦ subst (λ (y : Id). has_id delivered y ≡ true) (same_id x z here) has
        | inr there ↦ stands.heard z there
      ];
}

-- ---- several are appended

kept_less : (x : Id) (log rest : List Id) → AllByRecursion (IsBelow x) rest → passing_ids (is_without (x ∷ log)) rest ≡ passing_ids (is_without log) rest
kept_less x log [] above = refl
kept_less x log (y ∷ rest) above =
    ap₂ (λ (b : Bool) (l : List Id). if b then y ∷ l else l) (ap (λ (s : Bool). not (s || has_id log y)) (below_other x y above.0)) (kept_less x log rest above.1)

pub one_had : (l : Ledger) (delivered log rest : List Id) (x : Id) → has_id log x ≡ true → LedgerStands l delivered log → Appending l delivered log (x ∷ rest) rest
one_had l delivered log rest x had stands = record {
  now = log;
  stands = stands;
  grown = ([], refl);
  ends = ap (λ (b : Bool). append_ids (if not b then x ∷ passing_ids (is_without log) rest else passing_ids (is_without log) rest) log) (sym had);
}

pub one_new : (l : Ledger) (delivered log rest : List Id) (x : Id) → has_id log x ≡ false → AllByRecursion (IsBelow x) rest → LedgerStands l delivered (x ∷ log)
    → Appending l delivered log (x ∷ rest) rest
one_new l delivered log rest x new above stands = record {
  now = x ∷ log;
  stands = stands;
  grown = (x ∷ [], refl);
  ends =
      ap (λ (k : List Id). append_ids k (x ∷ log)) (kept_less x log rest above)
      ∙ ap (λ (b : Bool). append_ids (if not b then x ∷ passing_ids (is_without log) rest else passing_ids (is_without log) rest) log) (sym new);
}

-- what is left is ready and in order, and some are appended
pub record IsAppending (l : Ledger) (delivered log all rest : List Id) : Type 0 where
  pub ready : AllByRecursion (IsReady delivered) rest
  pub sorted : IsSorted rest
  pub did : Appending l delivered log all rest

pub append_next : (l l' : Ledger) (delivered log all rest rest' : List Id) (x : Id) → rest ≡ x ∷ rest'
    → ((d g r : List Id) → IsReady d x → AllByRecursion (IsBelow x) r → LedgerStands l d g → Appending l' d g (x ∷ r) r)
    → IsAppending l delivered log all rest → IsAppending l' delivered log all rest'
append_next l l' delivered log all rest rest' x is step before =
    let b = subst (λ (r : List Id). IsAppending l delivered log all r) is before in
    let did = step delivered b.did.now rest' b.ready.0 b.sorted.0 b.did.stands in
    record { ready = b.ready.1; sorted = b.sorted.1; did = record { now = did.now; stands = did.stands; grown = part_through log b.did.now did.now b.did.grown did.grown; ends = did.ends ∙ b.did.ends } }

-- a command that was delivered has an origin of the session
pub origin_of : (l : Ledger) (delivered log : List Id) (x : Id) → LedgerStands l delivered log → 31 ≤ x.origin → has_id delivered x ≡ false
origin_of l delivered log x stands far =
    false_from_ne_true (has_id delivered x) (λ h. let near = above_all (λ y. y.origin < 31) delivered x stands.origins h in omega (arith, near, far))

pub pass_next : (test : Id → Bool) (xs rest : List Id) (x : Id) (r : Bool) → rest ≡ x ∷ xs → test x ≡ r → all_pass test rest ≡ (r && all_pass test xs)
pass_next test xs rest x r is passes = ap (all_pass test) is ∙ ap (λ b. b && all_pass test xs) passes

pub append_done : (l : Ledger) (delivered log all rest : List Id) → rest ≡ [] → IsAppending l delivered log all rest
    → LedgerStands l delivered (append_ids (passing_ids (is_without log) all) log)
append_done l delivered log all rest none done =
    subst (λ (g : List Id). LedgerStands l delivered g) (sym (ap (λ (r : List Id). append_ids (passing_ids (is_without done.did.now) r) done.did.now) none) ∙ done.did.ends) done.did.stands

-- those that are appended so far, after any that were
pub append_between : (l l' : Ledger) (bases : List ℕ) (delivered log all rest : List Id) → l'.log.items ≡ l.log.items
    → IsAppending (at_bases l bases) delivered log all rest
    → IsPart log (reverse l'.log.items) × IsPart (reverse l'.log.items) (append_ids (passing_ids (is_without log) all) log)
append_between l l' bases delivered log all rest same done =
    let now : reverse l'.log.items ≡ done.did.now = ap reverse same ∙ done.did.stands.listed in
    let part : IsPart done.did.now (append_ids (passing_ids (is_without log) all) log) =
    subst (λ (g : List Id). IsPart done.did.now g) done.did.ends (append_part (passing_ids (is_without done.did.now) rest) done.did.now) in
    (subst (λ (g : List Id). IsPart log g) (sym now) done.did.grown, subst (λ (g : List Id). IsPart g (append_ids (passing_ids (is_without log) all) log)) (sym now) part)

-- ---- what is shown

-- an origin's base is its least number that isn't in the log
pub ledger_base : (l : Ledger) (delivered log : List Id) (o : ℕ) → LedgerStands l delivered log → o < 31 → slice_index l.bases o ≡ least_without log o
ledger_base l delivered log o stands within =
    let base : ℕ = slice_index l.bases o in
    least_from log o base (record {
      missing = sym (stands.known o base within) ∙ or_from _ _ (le-ltb base base (omega arith)) (stands.tight.missing o within);
      below = λ k before. sym (stands.known o k within) ∙ or_left (nat_lt k base) (has_early l.early o k) (lt-ltb k base before);
    })

none_same : (xs ys : List Id) → ((z : Id) → has_id xs z ≡ has_id ys z) → xs ≡ [] → ys ≡ []
none_same xs [] same none = refl
none_same xs (y ∷ ys) same none =
    let here : true ≡ false = sym (or_left (is_same y y) (has_id ys y) (itself y)) ∙ (sym (same y) ∙ ap (λ (l : List Id). has_id l y) none) in absurd (cc)

-- nothing is pending where the set is empty, and only there
pub pending_none : (l : Ledger) (delivered log : List Id) → LedgerStands l delivered log → l.pending.keys ≡ [] ↔ passing_ids (is_without log) delivered ≡ []
pending_none l delivered log stands =
    let same = λ (z : Id). sym (keys_has l.pending.keys z) ∙ stands.pending z in
    (none_same l.pending.keys _ same, none_same _ l.pending.keys (λ z. sym (same z)))

pub pending_test : (l : Ledger) (delivered log : List Id) (b : Bool) → (IsTrue b ↔ length l.pending.keys ≡ 0) → LedgerStands l delivered log
    → IsTrue (not b) ↔ (passing_ids (is_without log) delivered ≡ [] → ⊥)
pending_test l delivered log true is stands =
    (λ h. absurd (both_ways false refl h), λ some. absurd (some ((pending_none l delivered log stands).0 (nil_from_length l.pending.keys (is.0 refl)))))
pending_test l delivered log false is stands =
    (λ h none. both_ways false refl (is.1 (ap length ((pending_none l delivered log stands).1 none))), λ some. refl)
