-- What follows where one call of a link comes after another, for calls that are made of calls of a link.
use Rattle.std.specs.Prelude.{◌≡◌, ℕ, ◌+◌, ◌<◌, List, [], ◌∷◌, ◌++◌, length, map, reverse, take, drop, get_or, Bool, true, Result, Ok, Err, OnOk, OnErr, refl}
use Rattle.std.proofs.Common.{sym, ap, ◌∙◌, append_assoc, arith}
use Rattle.std.proofs.lemmas.List.{take-append-drop, append-nil, map-append, map_more, reverse-append}
use Rattle.outside.specs.Faults.{HasCause}
use Rattle.outside.specs.FaultsLaws.{rose_after}
use Rattle.outside.specs.Links.{LinkAct, faults_after}
use Rattle.outside.specs.LinkCalls.{TookBack, LinkDid, each_act}
use Rattle.outside.specs.declared.link.FaultCounts.{FaultCounts}
use Rattle.outside.specs.declared.link.LinkFault.{LinkFault}
use Rattle.outside.specs.declared.link.LinkFault.TheVariants.{Failed}

-- ---- parts of what should be told

pub back_none : (old acts : List LinkAct) → TookBack old old acts
back_none old acts = record { rest = acts; back = []; parts = sym (append-nil acts); told = refl }

pub back_all : (old new acts : List LinkAct) → new ≡ acts ++ old → TookBack old new acts
back_all old new acts e = record { rest = []; back = acts; parts = refl; told = e }

pub back_then : (old mid new a b : List LinkAct) → mid ≡ a ++ old → TookBack mid new b → TookBack old new (b ++ a)
back_then old mid new a b e took = record {
  rest = took.rest;
  back = took.back ++ a;
  parts = rw took.parts (append_assoc took.rest took.back a);
  told = took.told ∙ rw e (sym (append_assoc took.back a old));
}

pub back_more : (old new a b : List LinkAct) → TookBack old new a → TookBack old new (b ++ a)
back_more old new a b took = record {
  rest = b ++ took.rest;
  back = took.back;
  parts = rw took.parts (sym (append_assoc b took.rest took.back));
  told = took.told;
}

-- ---- one call

pub did_one : (tells : Bool) (act same : LinkAct) (old new : List LinkAct) (x y : FaultCounts) (r : Result (Unit {0}) LinkFault) → act ≡ same
    → (tells ≡ true → OnOk r (new ≡ act ∷ old)) → (tells ≡ true → OnErr r (new ≡ old)) → HasCause x.failed y.failed (r ≡ Err Failed) → y ≡ faults_after x r
    → LinkDid tells (same ∷ []) old new x y r
did_one tells act same old new x y (Ok done) is ok err cause count = record {
  whole = λ t. rw (← is) (ok t);
  back = λ t. back_all old new (same ∷ []) (rw (← is) (ok t));
  later = cause.later;
  cause = cause.cause;
  count = count;
}
did_one tells act same old new x y (Err fault) is ok err cause count = record {
  whole = λ t. tt;
  back = λ t. rw (err t) (back_none old (same ∷ []));
  later = cause.later;
  cause = cause.cause;
  count = count;
}

-- ---- several

pub did_none : (tells : Bool) (old : List LinkAct) (x : FaultCounts) → LinkDid tells [] old old x x (Ok tt)
did_none tells old x = record {
  whole = λ t. refl;
  back = λ t. back_none old [];
  later = omega arith;
  cause = λ e. cc;
  count = refl;
}

whole_then : (old mid new a b : List LinkAct) (r : Result (Unit {0}) LinkFault) → mid ≡ a ++ old → OnOk r (new ≡ b ++ mid) → OnOk r (new ≡ (b ++ a) ++ old)
whole_then old mid new a b (Ok done) first second = second ∙ rw first (sym (append_assoc b a old))
whole_then old mid new a b (Err fault) first second = tt

-- some, and then others
pub did_then : (tells : Bool) (a b : List LinkAct) (old mid new : List LinkAct) (x y z : FaultCounts) (r : Result (Unit {0}) LinkFault)
    → LinkDid tells a old mid x y (Ok tt) → LinkDid tells b mid new y z r → LinkDid tells (b ++ a) old new x z r
did_then tells a b old mid new x y z r first second = record {
  whole = λ t. whole_then old mid new a b r (first.whole t) (second.whole t);
  back = λ t. back_then old mid new a b (first.whole t) (second.back t);
  later = omega (arith, first.later, second.later);
  cause = λ e. rose_after x.failed y.failed z.failed first.later (second.cause e);
  count = second.count ∙ ap (λ (n : FaultCounts). faults_after n r) first.count;
}

-- some failed, and the others didn't come
pub did_fails : (tells : Bool) (a b : List LinkAct) (old new : List LinkAct) (x y : FaultCounts) (e : LinkFault)
    → LinkDid tells a old new x y (Err e) → LinkDid tells (b ++ a) old new x y (Err e)
did_fails tells a b old new x y e first = record {
  whole = λ t. tt;
  back = λ t. back_more old new a b (first.back t);
  later = first.later;
  cause = first.cause;
  count = first.count;
}

-- ---- a call for each of a list

each_more : {A : Type 0} (f : A → LinkAct) (xs : List A) (i : ℕ) (x d : A) → i < length xs → x ≡ get_or xs i d
    → each_act f (take (i + 1) xs) ≡ f x ∷ each_act f (take i xs)
each_more f xs i x d lt is =
    ap reverse (map_more f xs i d lt ∙ ap (λ (y : _). map f (take i xs) ++ f y ∷ []) (sym is)) ∙ reverse-append (map f (take i xs)) (f x ∷ [])

each_rest : {A : Type 0} (f : A → LinkAct) (xs : List A) (i : ℕ) → each_act f xs ≡ each_act f (drop i xs) ++ each_act f (take i xs)
each_rest f xs i =
    ap (each_act f) (sym (take-append-drop i xs))
    ∙ (ap reverse (map-append f (take i xs) (drop i xs)) ∙ reverse-append (map f (take i xs)) (map f (drop i xs)))

-- the next one's was made
pub each_goes : {A : Type 0} (f : A → LinkAct) (xs : List A) (i : ℕ) (x d : A) (tells : Bool) (old mid new : List LinkAct) (k y z : FaultCounts)
    → i < length xs → x ≡ get_or xs i d → LinkDid tells (each_act f (take i xs)) old mid k y (Ok tt) → LinkDid tells (f x ∷ []) mid new y z (Ok tt)
    → LinkDid tells (each_act f (take (i + 1) xs)) old new k z (Ok tt)
each_goes f xs i x d tells old mid new k y z lt is first second =
    rw (each_more f xs i x d lt is) (did_then tells (each_act f (take i xs)) (f x ∷ []) old mid new k y z (Ok tt) first second)

-- it failed
pub each_fails : {A : Type 0} (f : A → LinkAct) (xs : List A) (i : ℕ) (x d : A) (tells : Bool) (old mid new : List LinkAct) (k y z : FaultCounts) (e : LinkFault)
    → i < length xs → x ≡ get_or xs i d → LinkDid tells (each_act f (take i xs)) old mid k y (Ok tt) → LinkDid tells (f x ∷ []) mid new y z (Err e)
    → LinkDid tells (each_act f xs) old new k z (Err e)
each_fails f xs i x d tells old mid new k y z e lt is first second =
    let here = did_then tells (each_act f (take i xs)) (f x ∷ []) old mid new k y z (Err e) first second in
    let more : LinkDid tells (each_act f (take (i + 1) xs)) old new k z (Err e) = rw (each_more f xs i x d lt is) here in
    rw (each_rest f xs (i + 1)) (did_fails tells (each_act f (take (i + 1) xs)) (each_act f (drop (i + 1) xs)) old new k z e more)
