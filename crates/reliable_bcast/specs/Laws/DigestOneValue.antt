-- The law of one value for reliable broadcast by digests: no two values that correct replicas took have one digest, so correct replicas
-- deliver one value, and a correct origin's is what it started.
use Rattle.std.specs.Prelude.{◌≡◌, ℕ, Bool, true, false, ◌==◌, ◌&&◌, ◌||◌, List, [], ◌∷◌, Option, Some, None, is_none, if◌then◌else◌, refl}
use Rattle.std.proofs.Common.{sym, ◌∙◌, ap, subst, inl, inr}
use Rattle.std.specs.Option.{option_or}
use Rattle.std.specs.Str.{bytes_eq}
use Rattle.std.proofs.lemmas.Bool.{or_left, and_from, eq-eqb}
use Rattle.std.proofs.lemmas.Option.{same_Some}
use Rattle.std.proofs.lemmas.Slice.Eq.{bytes_eq-Decides}
use Rattle.ritas_base.specs.declared.item.Kind.{Kind}
use Rattle.ritas_base.specs.declared.item.Kind.TheVariants as kinds
use Rattle.ritas_base.specs.declared.item.Kind.TheVariants.{Init, Echo, Ready, Want, Value}
use Rattle.ritas_base.specs.declared.item.Msg.{Msg}
use Rattle.ritas_base.specs.declared.slot.Slot.{Slot}
use Rattle.ritas_base.specs.Numbers.{Numbers}
use Rattle.ritas_base.specs.Shortest.{option_or_some}
use Rattle.ritas_base.specs.History.{Call, Start, Take, told, first, started}
use Rattle.ritas_base.specs.HistoryLaws.{told_item}
use Rattle.ritas_base.specs.Messages.{Place, kind_eq}
use Rattle.ritas_base.specs.Tags.{Tags}
use Rattle.layer_api.specs.Entries.{OfMessage}
use Rattle.layer_api.specs.Runs.{ReplicaStep, Has, calls_of, IsEnough}
use Rattle.layer_api.specs.HasLaws.{map_has}
use Rattle.layer_api.specs.OneValue.{Group, place_of, met_at, IsRun, IsClear, SameDigests, OneValue}
use Rattle.reliable_bcast.specs.Bracha.{some_carried, out_by_value as carried_of}
use Rattle.reliable_bcast.specs.Laws.Voted.{IsVotedAt, IsVoted, out_echoed, echoed_same, echoed_started}
use Rattle.reliable_bcast.specs.Laws.DigestDue.{due_value, IsDigestDue, ToAll, ToOne, due_is}
use Rattle.reliable_bcast.specs.Digests.{brings, brought_by, cons_if, brought_values, if_digest, known, Full, full_if, full_of, digest_in, known_of, out_by_digest, by_digest}

-- ---- what is due

abbrev hashed : Tags → List ℕ → List ℕ
hashed tags m = tags.digest m

as_voted : (at : Place) (tags : Tags) (h : List Call) (kind : Kind) (v : List ℕ) → due_value at tags h kind ≡ Some v → IsVotedAt hashed at tags h kind v
as_voted at tags h kinds.Init v e = e
as_voted at tags h kinds.Echo v e = e
as_voted at tags h kinds.Ready v e = e
as_voted at tags h kinds.Send v e = tt
as_voted at tags h kinds.Hashes v e = tt
as_voted at tags h kinds.Column v e = tt
as_voted at tags h kinds.Want v e = tt
as_voted at tags h kinds.Value v e = tt

voted : (at : Place) (tags : Tags) (h : List Call) (m : Msg) → IsDigestDue at tags h m → IsVotedAt hashed at tags h m.kind m.value
voted at tags h m (ToAll kind v whole value_is of_form) =
    subst (λ (x : Msg). IsVotedAt hashed at tags h x.kind x.value) (sym whole) (as_voted at tags h kind v value_is)
voted at tags h m (ToOne k v there whole value_is) = subst (λ (x : Msg). IsVotedAt hashed at tags h x.kind x.value) (sym whole) tt

pub votes : IsVoted hashed by_digest
votes = record { due = λ at tags h m there. voted at tags h m (due_is at tags h m there) }

-- ---- what is known

-- a known value was brought, and has the digest
pub known_is : (at : Place) (tags : Tags) (h : List Call) (d v : List ℕ) → known at tags h d ≡ Some v → Has (brought_values at h) v × (tags.digest v ≡ d)
known_is at tags [] d v e = absurd (cc)
known_is at tags (c ∷ h) d v e =
    elim (option_or_some (known at tags h d) (if_digest tags d (brought_by at h c)) v e) [
      | inl was ↦ let g = known_is at tags h d v was in (later (brought_by at h c) g.0, g.1)
      | inr now ↦ here (brought_by at h c) now.1
    ]
  where
    later : (o : Option (List ℕ)) → Has (brought_values at h) v → Has (cons_if o (brought_values at h)) v
    later None there = there
    later (Some m) there = inr there

    chosen : (m : List ℕ) (b : Bool) → bytes_eq (tags.digest m) d ≡ b → (if b then Some m else None) ≡ Some v → (m ≡ v) × (tags.digest v ≡ d)
    chosen m true same e =
        let one = same_Some m v e in
        (one, ap tags.digest (sym one) ∙ (bytes_eq-Decides (tags.digest m) d).0 same)
    chosen m false other e = absurd (cc)

    here : (o : Option (List ℕ)) → if_digest tags d o ≡ Some v → Has (cons_if o (brought_values at h)) v × (tags.digest v ≡ d)
    here None e = absurd (cc)
    here (Some m) e = let x = chosen m (bytes_eq (tags.digest m) d) refl e in (inl x.0, x.1)

pub known_met : (at : Place) (tags : Tags) (h : List Call) (d v : List ℕ) → known at tags h d ≡ Some v → Has (by_digest.met at tags h) (OfMessage v (tags.digest v))
known_met at tags h d v e = map_has (λ m. OfMessage m (tags.digest m)) (brought_values at h) v (known_is at tags h d v e).0

-- the digest that is full is the one that is carried
pub full_is : (at : Place) (tags : Tags) (h : List Call) → digest_in (full_of at tags h) ≡ carried_of at h
full_is at tags [] = now (some_carried at.numbers [])
  where
    now : (o : Option (List ℕ)) → digest_in (full_if at tags [] o) ≡ o
    now None = refl
    now (Some d) = refl
full_is at tags (c ∷ h) =
    both (full_of at tags h) (some_carried at.numbers (c ∷ h)) ∙ ap (λ (o : Option (List ℕ)). option_or o (some_carried at.numbers (c ∷ h))) (full_is at tags h)
  where
    both : (o : Option Full) (now : Option (List ℕ)) → digest_in (option_or o (full_if at tags (c ∷ h) now)) ≡ option_or (digest_in o) now
    both None None = refl
    both None (Some d) = refl
    both (Some full) now = refl

-- what is delivered is known, and its digest is carried
pub record IsDigestOut (at : Place) (tags : Tags) (h : List Call) (v : List ℕ) : Type 0 where
  pub digest : List ℕ
  pub carried : carried_of at h ≡ Some digest
  pub known_so : known at tags h digest ≡ Some v

pub out_is : (at : Place) (tags : Tags) (h : List Call) (v : List ℕ) → out_by_digest at tags h ≡ Some v → IsDigestOut at tags h v
out_is at tags h v e = go (digest_in (full_of at tags h)) (full_is at tags h) e
  where
    go : (o : Option (List ℕ)) → o ≡ carried_of at h → known_of at tags h o ≡ Some v → IsDigestOut at tags h v
    go None q e = absurd (cc)
    go (Some d) q e = record { digest = d; carried = sym q; known_so = e }

-- the origin's first INIT was brought
pub init_brought : (at : Place) (h : List Call) (v : List ℕ) → first h at.slot.origin Init ≡ Some v → Has (brought_values at h) v
init_brought at [] v e = absurd (cc)
init_brought at (Start m ∷ h) v e =
    elim (option_or_some (first h at.slot.origin Init) None v e) [ inl was ↦ init_brought at h v was | inr now ↦ absurd (let wrong = now.1 in cc) ]
init_brought at (Take x ∷ h) v e =
    elim (option_or_some (first h at.slot.origin Init) (told at.slot.origin Init (Take x)) v e) [
      | inl was ↦ later (brings at h x) (init_brought at h v was)
      | inr now ↦
          let is = told_item at.slot.origin Init x v now.1 in
          let new : brings at h x ≡ true = first_now x.from x.kind is.0 is.1 now.0 in
          subst (λ (b : Bool). Has (cons_if (if b then Some x.value else None) (brought_values at h)) v) (sym new) (inl is.2)
    ]
  where
    later : (b : Bool) → Has (brought_values at h) v → Has (cons_if (if b then Some x.value else None) (brought_values at h)) v
    later true there = inr there
    later false there = there

    first_now : (from : ℕ) (kind : Kind) → from ≡ at.slot.origin → kind ≡ Init → first h at.slot.origin Init ≡ None
        → ((kind_eq kind Init && (from == at.slot.origin && is_none (first h from Init))) || (kind_eq kind Value && is_none (first h from Value))) ≡ true
    first_now from kind mine is none =
        or_left _ _
        (and_from (kind_eq kind Init) _ (ap (λ (k : Kind). kind_eq k Init) is)
        (and_from (from == at.slot.origin) _ (eq-eqb from at.slot.origin mine) (ap (λ (k : ℕ). is_none (first h k Init)) mine ∙ ap is_none none)))

-- ---- the law

module _ (p : Numbers) (s : Slot) (is_correct : ℕ → Bool) (tags : ℕ → Tags) (enough : IsEnough p is_correct) (digests : SameDigests tags) where
  abbrev group : Group
  group = record { rules = by_digest; numbers = p; slot = s; is_correct = is_correct; tags = tags }

  -- two values that correct replicas took, and that have one digest, are one
  same_value : (xs : List (ReplicaStep Call)) → IsClear group xs → (i j : ℕ) (v u : List ℕ) → is_correct i ≡ true → is_correct j ≡ true
      → Has (met_at group i xs) (OfMessage v ((tags i).digest v)) → Has (met_at group j xs) (OfMessage u ((tags j).digest u))
      → (tags i).digest v ≡ (tags j).digest u → v ≡ u
  same_value xs clear i j v u ci cj a b e = clear i j (OfMessage v ((tags i).digest v)) (OfMessage u ((tags j).digest u)) ci cj a b e

  agree : (xs : List (ReplicaStep Call)) → IsRun group xs → IsClear group xs → (i j : ℕ) (v u : List ℕ) → is_correct i ≡ true → is_correct j ≡ true
      → out_by_digest (place_of group i) (tags i) (calls_of i xs) ≡ Some v → out_by_digest (place_of group j) (tags j) (calls_of j xs) ≡ Some u → v ≡ u
  agree xs run clear i j v u ci cj e d =
      let a = out_is (place_of group i) (tags i) (calls_of i xs) v e in
      let b = out_is (place_of group j) (tags j) (calls_of j xs) u d in
      let one : a.digest ≡ b.digest = echoed_same hashed by_digest votes p s is_correct tags enough xs run a.digest b.digest
      (out_echoed hashed by_digest votes p s is_correct tags enough xs run i a.digest a.carried)
      (out_echoed hashed by_digest votes p s is_correct tags enough xs run j b.digest b.carried) in
      same_value xs clear i j v u ci cj
      (known_met (place_of group i) (tags i) (calls_of i xs) a.digest v a.known_so)
      (known_met (place_of group j) (tags j) (calls_of j xs) b.digest u b.known_so)
      ((known_is (place_of group i) (tags i) (calls_of i xs) a.digest v a.known_so).1
      ∙ one ∙ sym (known_is (place_of group j) (tags j) (calls_of j xs) b.digest u b.known_so).1)

  genuine : (xs : List (ReplicaStep Call)) → IsRun group xs → IsClear group xs → (i : ℕ) (v : List ℕ) → is_correct i ≡ true → is_correct s.origin ≡ true
      → out_by_digest (place_of group i) (tags i) (calls_of i xs) ≡ Some v → started (calls_of s.origin xs) ≡ Some v
  genuine xs run clear i v ci co e =
      let a = out_is (place_of group i) (tags i) (calls_of i xs) v e in
      let of = echoed_started hashed by_digest votes p s is_correct tags enough xs run a.digest co
      (out_echoed hashed by_digest votes p s is_correct tags enough xs run i a.digest a.carried) in
      let one : of.message ≡ v = same_value xs clear of.voter i of.message v of.correct ci
      (map_has (λ m. OfMessage m ((tags of.voter).digest m)) (brought_values (place_of group of.voter) (calls_of of.voter xs)) of.message
      (init_brought (place_of group of.voter) (calls_of of.voter xs) of.message of.heard))
      (known_met (place_of group i) (tags i) (calls_of i xs) a.digest v a.known_so)
      (of.made ∙ sym (known_is (place_of group i) (tags i) (calls_of i xs) a.digest v a.known_so).1) in
      of.was_started ∙ ap Some one

pub one_value_by_digest : OneValue by_digest
one_value_by_digest =
    record {
      agree = λ p s is_correct tags xs enough digests run clear i j v u ci cj e d. agree p s is_correct tags enough digests xs run clear i j v u ci cj e d;
      genuine = λ p s is_correct tags xs enough digests run clear i v ci co e. genuine p s is_correct tags enough digests xs run clear i v ci co e;
    }
