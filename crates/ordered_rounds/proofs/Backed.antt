-- The identifiers that enough lists have.
use Rattle.std.specs.Prelude.{◌≡◌, ℕ, ◌≤◌, Bool, true, false, ◌&&◌, nat_le, List, [], ◌∷◌, ◌++◌, Option, Some, None, is_some, unwrap_or, if◌then◌else◌, refl}
use Rattle.std.specs.List.{All}
use Rattle.std.specs.Map.{keys_of}
use Rattle.std.specs.BTreeMap.{BTreeMap, is_at, get, keys, IsOrdered}
use Rattle.std.proofs.Common.{sym, ◌∙◌, ap, ap₂, subst, arith, append-nil}
use Rattle.std.proofs.lemmas.List.Elements.{All-head, All-tail}
use Rattle.std.proofs.lemmas.Bool.{leb-true}
use Rattle.std.proofs.lemmas.List.{append_assoc}
use Rattle.std.proofs.lemmas.Map.Made.{is_some-lookup}
use Rattle.ritas_base.specs.declared.id.Id.{Id}
use Rattle.ritas_base.specs.Members.{member_count}
use Rattle.layer_api.specs.Service.{has_id}
use Rattle.ordered_rounds.specs.Early.{id_cmp}
use Rattle.ordered_rounds.specs.Identifiers.{passing_ids, in_order}
use Rattle.layer_api.specs.Proposals.{backers}
use Rattle.ordered_rounds.specs.Rounds.{entry_ids}
use Rattle.ordered_rounds.specs.Backing.{lists_with}
use Rattle.ordered_rounds.specs.Laws.Ordered.{in_order_sorted, kept_sorted}
use Rattle.ordered_rounds.proofs.Pending.{sorted_same, keys_sorted, keys_has}
use Rattle.ordered_rounds.specs.Laws.ListedIds.{in_order_has, kept_has, backed_stands}
use Rattle.ordered_rounds.specs.Laws.NotedLists.{no_count}

-- who is noted for some list is a key
noted_is_key : (noted : BTreeMap Id ℕ) (x : Id) → 1 ≤ lists_with noted x → has_id (keys noted) x ≡ true
noted_is_key noted x some = go (get id_cmp noted x) refl
  where
    go : (o : Option ℕ) → get id_cmp noted x ≡ o → has_id (keys noted) x ≡ true
    go None e = let none = ap (λ (q : Option ℕ). member_count 32 (unwrap_or q 0)) e ∙ no_count in absurd (omega (arith, none, some))
    go (Some m) e = sym (keys_has (keys noted) x) ∙ (sym (is_some-lookup (is_at (id_cmp x)) noted.entries) ∙ ap is_some e)

-- ---- the keys that enough lists have are what is wanted

both_or_none : (t a b : Bool) → (t ≡ true → a ≡ true) → (t ≡ true → b ≡ true) → (t && a) ≡ (t && b)
both_or_none true a b f g = f refl ∙ sym (g refl)
both_or_none false a b f g = refl

pub backed_same : (noted : BTreeMap Id ℕ) (lists : List (List ℕ)) (least : ℕ) → 1 ≤ least → IsOrdered id_cmp noted
    → ((x : Id) → lists_with noted x ≡ backers lists x)
    → passing_ids (λ x. nat_le least (lists_with noted x)) (keys noted) ≡ passing_ids (λ x. nat_le least (backers lists x)) (in_order (entry_ids lists))
backed_same noted lists least some ordered same =
    let mine : Id → Bool = λ x. nat_le least (lists_with noted x) in
    let theirs : Id → Bool = λ x. nat_le least (backers lists x) in
    let all = in_order (entry_ids lists) in
    sorted_same (passing_ids mine (keys noted)) (passing_ids theirs all) (kept_sorted mine (keys noted) (keys_sorted (keys noted) ordered))
    (kept_sorted theirs all (in_order_sorted (entry_ids lists)))
    (λ z.
    let key : mine z ≡ true → has_id (keys noted) z ≡ true = λ t. noted_is_key noted z (let l = leb-true least (lists_with noted z) t in omega (arith, some, l)) in
    let stands : mine z ≡ true → has_id all z ≡ true =
    λ t. in_order_has (entry_ids lists) z ∙ backed_stands lists z (let l = leb-true least (lists_with noted z) t in omega (arith, some, l, same z)) in
    kept_has mine (keys noted) z
    ∙ (both_or_none (mine z) (has_id (keys noted) z) (has_id all z) key stands
    ∙ (ap (λ (n : ℕ). nat_le least n && has_id all z) (same z) ∙ sym (kept_has theirs all z))))

-- ---- the entries one after the other

-- each of these entries is of the map
abbrev pub AreEntries : BTreeMap Id ℕ → List (Id × ℕ) → Type 0
AreEntries noted es = All (λ e. get id_cmp noted e.0 ≡ Some e.1) es

-- of the entries some were taken, and so many are left
pub record IsTaking (noted : BTreeMap Id ℕ) (least : ℕ) (taken : List Id) (rest : List (Id × ℕ)) : Type 0 where
  pub entries : AreEntries noted rest
  pub sums : taken ++ passing_ids (λ x. nat_le least (lists_with noted x)) (keys_of rest) ≡ passing_ids (λ x. nat_le least (lists_with noted x)) (keys noted)

pub taking_next : (noted : BTreeMap Id ℕ) (least : ℕ) (taken taken' : List Id) (all rest : List (Id × ℕ)) (e : Id × ℕ) → all ≡ e ∷ rest
    → taken' ≡ (if nat_le least (member_count 32 e.1) then taken ++ e.0 ∷ [] else taken)
    → IsTaking noted least taken all → IsTaking noted least taken' rest
taking_next noted least taken taken' all rest e is took before =
    let here = subst (λ (es : List (Id × ℕ)). IsTaking noted least taken es) is before in
    record {
      entries = All-tail (λ (q : Id × ℕ). get id_cmp noted q.0 ≡ Some q.1) e rest here.entries;
      sums =
          ap (λ (t : List Id). t ++ passing_ids mine (keys_of rest)) took
          ∙ (one (nat_le least (member_count 32 e.1)) (passes (All-head (λ (q : Id × ℕ). get id_cmp noted q.0 ≡ Some q.1) e rest here.entries)) ∙ here.sums);
    }
  where
    mine : Id → Bool
    mine x = nat_le least (lists_with noted x)

    passes : get id_cmp noted e.0 ≡ Some e.1 → mine e.0 ≡ nat_le least (member_count 32 e.1)
    passes found = ap (λ (o : Option ℕ). nat_le least (member_count 32 (unwrap_or o 0))) found

    put : Bool → List Id
    put b = taken ++ (if b then e.0 ∷ passing_ids mine (keys_of rest) else passing_ids mine (keys_of rest))

    one : (b : Bool) → mine e.0 ≡ b → (if b then taken ++ e.0 ∷ [] else taken) ++ passing_ids mine (keys_of rest) ≡ taken ++ passing_ids mine (e.0 ∷ keys_of rest)
    one true t = append_assoc taken (e.0 ∷ []) (passing_ids mine (keys_of rest)) ∙ ap put (sym t)
    one false t = ap put (sym t)

pub taking_first : (noted : BTreeMap Id ℕ) (least : ℕ) (taken : List Id) (all : List (Id × ℕ)) → taken ≡ [] → all ≡ noted.entries
    → AreEntries noted noted.entries → IsTaking noted least taken all
taking_first noted least taken all none is entries = record {
  entries = subst (λ (es : List (Id × ℕ)). AreEntries noted es) (sym is) entries;
  sums = ap₂ (λ (t : List Id) (es : List (Id × ℕ)). t ++ passing_ids (λ x. nat_le least (lists_with noted x)) (keys_of es)) none is;
}

pub taking_done : (noted : BTreeMap Id ℕ) (least : ℕ) (taken : List Id) (all : List (Id × ℕ)) → all ≡ [] → IsTaking noted least taken all
    → taken ≡ passing_ids (λ x. nat_le least (lists_with noted x)) (keys noted)
taking_done noted least taken all none taking =
    sym (append-nil taken)
    ∙ (ap (λ (es : List (Id × ℕ)). taken ++ passing_ids (λ x. nat_le least (lists_with noted x)) (keys_of es)) (sym none) ∙ taking.sums)
