-- The shortest prefix of a history at which something is there. With the newest call first a prefix is a tail.
use Rattle.std.specs.Prelude.{◌≡◌, false, List, [], ◌∷◌, ◌++◌, Option, Some, None, is_some, refl, ◌⊎◌}
use Rattle.std.proofs.Common.{sym, ◌∙◌, ap, inl, inr, append_assoc}
use Rattle.std.specs.Option.{option_or}

-- what f gives at the shortest prefix of h at which it gives something
abbrev pub at_shortest : {C V : Type 0} → (List C → Option V) → List C → Option V
at_shortest f [] = f []
at_shortest f (c ∷ h) = option_or (at_shortest f h) (f (c ∷ h))

-- v is what f gives at the prefix, and at no shorter prefix does f give anything
pub record IsAtShortest {C V : Type 0} (f : List C → Option V) (h : List C) (v : V) : Type 0 where
  pub later : List C
  pub prefix : List C
  pub whole : later ++ prefix ≡ h
  pub gives : f prefix ≡ Some v
  pub none_before : (r : List C) (c : C) (b : List C) → r ++ c ∷ b ≡ prefix → f b ≡ None

-- what isn't there is nothing
pub not_there : {A : Type 0} (o : Option A) → is_some o ≡ false → o ≡ None
not_there None e = refl
not_there (Some x) e = absurd cc

pub option_or_none : {A : Type 0} (a : Option A) → option_or a None ≡ a
option_or_none None = refl
option_or_none (Some x) = refl

pub option_or_assoc : {A : Type 0} (a b c : Option A) → option_or a (option_or b c) ≡ option_or (option_or a b) c
option_or_assoc None b c = refl
option_or_assoc (Some x) b c = refl

pub option_or_parts : {A : Type 0} (a b : Option A) → option_or a b ≡ None → (a ≡ None) × (b ≡ None)
option_or_parts None b e = (refl, e)
option_or_parts (Some x) b e = absurd (cc)

pub option_or_some : {A : Type 0} (a b : Option A) (x : A) → option_or a b ≡ Some x → (a ≡ Some x) ⊎ ((a ≡ None) × (b ≡ Some x))
option_or_some None b x e = inr (refl, e)
option_or_some (Some y) b x e = inl e

-- the older value stays
pub option_or_older : {A : Type 0} (a b : Option A) (x : A) → a ≡ Some x → option_or a b ≡ Some x
option_or_older None b x e = absurd (cc)
option_or_older (Some y) b x e = e

-- where it gives nothing at any prefix, it gives nothing now
pub at_shortest_none : {C V : Type 0} (f : List C → Option V) (h : List C) → at_shortest f h ≡ None → f h ≡ None
at_shortest_none f [] e = e
at_shortest_none f (c ∷ h) e = (option_or_parts (at_shortest f h) (f (c ∷ h)) e).1

-- nor at any prefix
pub at_shortest_never : {C V : Type 0} (f : List C → Option V) (r b : List C) → at_shortest f (r ++ b) ≡ None → f b ≡ None
at_shortest_never f [] b e = at_shortest_none f b e
at_shortest_never f (c ∷ r) b e = at_shortest_never f r b (option_or_parts (at_shortest f (r ++ b)) (f (c ∷ (r ++ b))) e).0

-- it stays as it is when h grows
pub at_shortest_stays : {C V : Type 0} (f : List C → Option V) (e h : List C) (v : V) → at_shortest f h ≡ Some v → at_shortest f (e ++ h) ≡ Some v
at_shortest_stays f [] h v p = p
at_shortest_stays f (c ∷ e) h v p = option_or_older (at_shortest f (e ++ h)) (f (c ∷ (e ++ h))) v (at_shortest_stays f e h v p)

pub not_nil : {C : Type 0} (r : List C) (c : C) (b : List C) → r ++ c ∷ b ≡ [] → ⊥
not_nil [] c b e = cc
not_nil (x ∷ r) c b e = cc

tails : {C : Type 0} (c x : C) (h r : List C) (d : C) (b : List C) → x ∷ (r ++ d ∷ b) ≡ c ∷ h → h ≡ (r ++ d ∷ []) ++ b
tails c x h r d b e = let same : h ≡ r ++ d ∷ b = cc in same ∙ sym (append_assoc r (d ∷ []) b)

none_before_now : {C V : Type 0} (f : List C → Option V) (c : C) (h : List C) → at_shortest f h ≡ None
    → (r : List C) (d : C) (b : List C) → r ++ d ∷ b ≡ c ∷ h → f b ≡ None
none_before_now f c h none [] d b e = let same : h ≡ b = cc in at_shortest_none f b (ap (at_shortest f) (sym same) ∙ none)
none_before_now f c h none (x ∷ r) d b e =
    at_shortest_never f (r ++ d ∷ []) b (ap (at_shortest f) (sym (tails c x h r d b e)) ∙ none)

-- what `at_shortest` gives, in words: some prefix gives it, and no shorter one gives anything
pub at_shortest_is : {C V : Type 0} (f : List C → Option V) (h : List C) (v : V) → at_shortest f h ≡ Some v → IsAtShortest f h v
at_shortest_is f [] v e = record { later = []; prefix = []; whole = refl; gives = e; none_before = λ r c b p. absurd (not_nil r c b p) }
at_shortest_is f (c ∷ h) v e =
    elim (option_or_some (at_shortest f h) (f (c ∷ h)) v e) [
      | inl was ↦
          let g = at_shortest_is f h v was in
          record { later = c ∷ g.later; prefix = g.prefix; whole = ap (λ l. c ∷ l) g.whole; gives = g.gives; none_before = g.none_before }
      | inr now ↦ record { later = []; prefix = c ∷ h; whole = refl; gives = now.1; none_before = none_before_now f c h now.0 }
    ]
