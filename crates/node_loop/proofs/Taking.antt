-- What a link is given, one call after the other.
use Rattle.std.specs.Prelude.{◌≡◌, ℕ, ◌+◌, ◌<◌, List, [], ◌∷◌, ◌++◌, length, map, reverse, take, drop, get_or, Bool, true, Result, Ok, Err, OnOk, OnErr, refl}
use Rattle.std.proofs.Common.{sym, ap, ◌∙◌, subst, append_assoc, arith, inl, inr}
use Rattle.std.proofs.lemmas.List.{append-nil, take-append-drop, map-append, map_more, reverse-append}
use Rattle.outside.specs.Faults.{HasCause}
use Rattle.outside.specs.Links.{LinkAct, faults_after}
use Rattle.outside.specs.LinkCalls.{each_act}
use Rattle.outside.specs.LinkCallsLaws.{back_none, back_all, back_then, back_more}
use Rattle.outside.specs.declared.link.FaultCounts.{FaultCounts}
use Rattle.outside.specs.declared.link.LinkFault.{LinkFault}
use Rattle.outside.specs.declared.link.LinkFault.TheVariants.{Failed, Mem}
use Rattle.node_loop.specs.Outs.{IsCounted, LinkGiven}

-- ---- one call

counted_after : (x y : FaultCounts) (r : Result (Unit {0}) LinkFault) → y ≡ faults_after x r → IsCounted x y r
counted_after x y (Ok done) is = is
counted_after x y (Err Failed) is = is
counted_after x y (Err Mem) is = inr is

pub given_one : (tells : Bool) (act same : LinkAct) (old new : List LinkAct) (x y : FaultCounts) (r : Result (Unit {0}) LinkFault) → act ≡ same
    → (tells ≡ true → OnOk r (new ≡ act ∷ old)) → (tells ≡ true → OnErr r (new ≡ old)) → HasCause x.failed y.failed (r ≡ Err Failed) → y ≡ faults_after x r
    → LinkGiven tells (same ∷ []) old new x y r
given_one tells act same old new x y (Ok done) is ok err cause count = record {
  whole = λ t. rw (← is) (ok t);
  back = λ t. back_all old new (same ∷ []) (rw (← is) (ok t));
  later = cause.later;
  count = count;
}
given_one tells act same old new x y (Err fault) is ok err cause count = record {
  whole = λ t. tt;
  back = λ t. rw (err t) (back_none old (same ∷ []));
  later = cause.later;
  count = counted_after x y (Err fault) count;
}

-- memory ran out before any
pub given_short : (tells : Bool) (acts old : List LinkAct) (x : FaultCounts) → LinkGiven tells acts old old x x (Err Mem)
given_short tells acts old x = record {
  whole = λ t. tt;
  back = λ t. back_none old acts;
  later = omega arith;
  count = inl refl;
}

-- ---- several

pub given_none : (tells : Bool) (old : List LinkAct) (x : FaultCounts) → LinkGiven tells [] old old x x (Ok tt)
given_none tells old x = record {
  whole = λ t. refl;
  back = λ t. back_none old [];
  later = omega arith;
  count = refl;
}

whole_then : (old mid new a b : List LinkAct) (r : Result (Unit {0}) LinkFault) → mid ≡ a ++ old → OnOk r (new ≡ b ++ mid) → OnOk r (new ≡ (b ++ a) ++ old)
whole_then old mid new a b (Ok done) first second = second ∙ rw first (sym (append_assoc b a old))
whole_then old mid new a b (Err fault) first second = tt

-- some, and then others
pub given_then : (tells : Bool) (a b : List LinkAct) (old mid new : List LinkAct) (x y z : FaultCounts) (r : Result (Unit {0}) LinkFault)
    → LinkGiven tells a old mid x y (Ok tt) → LinkGiven tells b mid new y z r → LinkGiven tells (b ++ a) old new x z r
given_then tells a b old mid new x y z r first second = record {
  whole = λ t. whole_then old mid new a b r (first.whole t) (second.whole t);
  back = λ t. back_then old mid new a b (first.whole t) (second.back t);
  later = omega (arith, first.later, second.later);
  count = subst (λ (n : FaultCounts). IsCounted n z r) first.count second.count;
}

-- some failed, and the others didn't come
pub given_fails : (tells : Bool) (a b : List LinkAct) (old new : List LinkAct) (x y : FaultCounts) (e : LinkFault)
    → LinkGiven tells a old new x y (Err e) → LinkGiven tells (b ++ a) old new x y (Err e)
given_fails tells a b old new x y e first = record {
  whole = λ t. tt;
  back = λ t. back_more old new a b (first.back t);
  later = first.later;
  count = first.count;
}

-- ---- a call for each of a list

each_more : {A : Type 0} (f : A → LinkAct) (xs : List A) (i : ℕ) (x d : A) → i < length xs → x ≡ get_or xs i d
    → each_act f (take (i + 1) xs) ≡ f x ∷ each_act f (take i xs)
each_more f xs i x d lt is =
    ap reverse (map_more f xs i d lt ∙ ap (λ (y : _). map f (take i xs) ++ f y ∷ []) (sym is)) ∙ reverse-append (map f (take i xs)) (f x ∷ [])

each_rest : {A : Type 0} (f : A → LinkAct) (xs : List A) (i : ℕ) → each_act f xs ≡ each_act f (drop i xs) ++ each_act f (take i xs)
each_rest f xs i =
    ap (each_act f) (sym (take-append-drop i xs))
    ∙ (ap reverse (map-append f (take i xs) (drop i xs)) ∙ reverse-append (map f (take i xs)) (map f (drop i xs)))

-- the next one's was made
pub each_given : {A : Type 0} (f : A → LinkAct) (xs : List A) (i : ℕ) (x d : A) (tells : Bool) (old mid new : List LinkAct) (k y z : FaultCounts)
    → i < length xs → x ≡ get_or xs i d → LinkGiven tells (each_act f (take i xs)) old mid k y (Ok tt) → LinkGiven tells (f x ∷ []) mid new y z (Ok tt)
    → LinkGiven tells (each_act f (take (i + 1) xs)) old new k z (Ok tt)
each_given f xs i x d tells old mid new k y z lt is first second =
    rw (each_more f xs i x d lt is) (given_then tells (each_act f (take i xs)) (f x ∷ []) old mid new k y z (Ok tt) first second)

-- it failed
pub each_stops : {A : Type 0} (f : A → LinkAct) (xs : List A) (i : ℕ) (x d : A) (tells : Bool) (old mid new : List LinkAct) (k y z : FaultCounts) (e : LinkFault)
    → i < length xs → x ≡ get_or xs i d → LinkGiven tells (each_act f (take i xs)) old mid k y (Ok tt) → LinkGiven tells (f x ∷ []) mid new y z (Err e)
    → LinkGiven tells (each_act f xs) old new k z (Err e)
each_stops f xs i x d tells old mid new k y z e lt is first second =
    let here = given_then tells (each_act f (take i xs)) (f x ∷ []) old mid new k y z (Err e) first second in
    let more : LinkGiven tells (each_act f (take (i + 1) xs)) old new k z (Err e) = rw (each_more f xs i x d lt is) here in
    rw (each_rest f xs (i + 1)) (given_fails tells (each_act f (take (i + 1) xs)) (each_act f (drop (i + 1) xs)) old new k z e more)

-- ---- a call for each of a list of which these are still to come

-- those before them were made
pub record IsGivenTo (tells : Bool) {A : Type 0} (f : A → LinkAct) (all rest : List A) (old mid : List LinkAct) (x y : FaultCounts) : Type 0 where
  pub before : List A
  pub are : all ≡ before ++ rest
  pub given : LinkGiven tells (each_act f before) old mid x y (Ok tt)

pub none_before : (tells : Bool) {A : Type 0} (f : A → LinkAct) (all : List A) (old : List LinkAct) (x : FaultCounts) → IsGivenTo tells f all all old old x x
none_before tells f all old x = record { before = []; are = refl; given = given_none tells old x }

each_push : {A : Type 0} (f : A → LinkAct) (xs : List A) (x : A) → each_act f (xs ++ x ∷ []) ≡ f x ∷ each_act f xs
each_push f xs x = ap reverse (map-append f xs (x ∷ [])) ∙ reverse-append (map f xs) (f x ∷ [])

each_both : {A : Type 0} (f : A → LinkAct) (xs ys : List A) → each_act f (xs ++ ys) ≡ each_act f ys ++ each_act f xs
each_both f xs ys = ap reverse (map-append f xs ys) ∙ reverse-append (map f xs) (map f ys)

pub one_before : (tells : Bool) {A : Type 0} (f : A → LinkAct) (all rest then : List A) (a : A) (old mid new : List LinkAct) (x y z : FaultCounts)
    → IsGivenTo tells f all rest old mid x y → rest ≡ a ∷ then → LinkGiven tells (f a ∷ []) mid new y z (Ok tt) → IsGivenTo tells f all then old new x z
one_before tells f all rest then a old mid new x y z so is one = record {
  before = so.before ++ a ∷ [];
  are = so.are ∙ (ap (λ (l : List _). so.before ++ l) is ∙ sym (append_assoc so.before (a ∷ []) then));
  given = rw (each_push f so.before a) (given_then tells (each_act f so.before) (f a ∷ []) old mid new x y z (Ok tt) so.given one);
}

pub one_stops : (tells : Bool) {A : Type 0} (f : A → LinkAct) (all rest then : List A) (a : A) (old mid new : List LinkAct) (x y z : FaultCounts) (e : LinkFault)
    → IsGivenTo tells f all rest old mid x y → rest ≡ a ∷ then → LinkGiven tells (f a ∷ []) mid new y z (Err e) → LinkGiven tells (each_act f all) old new x z (Err e)
one_stops tells f all rest then a old mid new x y z e so is one =
    let both : all ≡ (so.before ++ a ∷ []) ++ then = so.are ∙ (ap (λ (l : List _). so.before ++ l) is ∙ sym (append_assoc so.before (a ∷ []) then)) in
    rw (both, each_both f (so.before ++ a ∷ []) then)
    (given_fails tells (each_act f (so.before ++ a ∷ [])) (each_act f then) old new x z e
    (rw (each_push f so.before a) (given_then tells (each_act f so.before) (f a ∷ []) old mid new x y z (Err e) so.given one)))

pub all_before : (tells : Bool) {A : Type 0} (f : A → LinkAct) (all rest : List A) (old new : List LinkAct) (x z : FaultCounts)
    → IsGivenTo tells f all rest old new x z → rest ≡ [] → LinkGiven tells (each_act f all) old new x z (Ok tt)
all_before tells f all rest old new x z so none =
    rw (so.are ∙ (ap (λ (l : List _). so.before ++ l) none ∙ append-nil so.before)) so.given
