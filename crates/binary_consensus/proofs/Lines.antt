-- The rows of the steps and the accepted votes, brought up to date one after the other.
use Rattle.std.proofs.Common.{◌≡◌, ◌≢◌, ℕ, zero, suc, ◌+◌, ◌-◌, ◌<◌, ◌≤◌, ◌==◌, ◌%◌, Bool, true, false, if◌then◌else◌, List, [], ◌∷◌, ◌++◌, take, replicate, length, get_or, set, get_or-set_same, get_or-set_other, Some, None, ◌⊎◌, refl, sym, ◌∙◌, ap, ap₂, subst, arith, eqb-true, inl, inr}
use Rattle.std.proofs.lemmas.Bool.{cases_eq}
use Rattle.ritas_base.specs.Numbers.{Numbers}
use Rattle.ritas_base.specs.History.{replicas}
use Rattle.ritas_base.specs.Places.{listed}
use Rattle.layer_api.specs.Binary.{vote_limit}
use Rattle.bracha_validation.specs.declared.tally.Tally.{Tally}
use Rattle.bracha_validation.specs.Tallies.{vote_count, tally_votes, IsTally, DependsOnCounts}
use Rattle.bracha_validation.specs.Votes.{may_give}
use Rattle.binary_consensus.specs.Steps.{step_of, accepted}
use Rattle.binary_consensus.specs.Counts.{byte_vote, silent_row, row_votes, none, row_tally, count_kept, tally_taken, HearsOneVote, HearsByte, row, sender_byte, heards, heard_tally, before_row, IsVoteRow, AreVoteRows, IsSettledAt, IsLine, IsLineBut}
use Rattle.binary_consensus.specs.declared.line.StepVotes.{StepVotes}
use Rattle.binary_consensus.proofs.RowCounts.{row_few, row_without, unheard_byte, vote_is, row_listed}
use Rattle.std.proofs.lemmas.List.{length-set}
use Rattle.binary_consensus.proofs.Hearing.{taken_tally}

-- there are no more votes than replicas, and they are votes of their step
pub record IsSmall (p : Numbers) (t : ℕ) (votes : Tally) : Type 0 where
  pub few : vote_count votes ≤ p.n
  pub bits : vote_limit (step_of t) ≡ 2 → votes.nones ≡ 0

heard_small : (p : Numbers) (rows : List StepVotes) (t : ℕ) → AreVoteRows rows → IsSmall p t (heard_tally p rows t)
heard_small p rows t votes = record {
  few = row_few (row rows t).heard p.n;
  bits = λ e. row_without 2 (row rows t).heard p.n (λ k q. elim ((votes t).votes k) [
    | inl nothing ↦ absurd (omega (arith, nothing, q))
    | inr less ↦ absurd (omega (arith, less, e, q))
  ]);
}

kept_less : (b : Bool) (n : ℕ) → count_kept b n ≤ n
kept_less true n = omega arith
kept_less false n = omega arith

taken_small : (p : Numbers) (t : ℕ) (before heard : Tally) → IsSmall p t heard → IsSmall p t (tally_taken p t before heard)
taken_small p zero before heard small = small
taken_small p (suc t) before heard small =
    let z = kept_less (may_give p (step_of t) 0 (tally_votes before)) heard.zeros in
    let o = kept_less (may_give p (step_of t) 1 (tally_votes before)) heard.ones in
    let u = kept_less (may_give p (step_of t) 2 (tally_votes before)) heard.nones in
    let f = small.few in
    record {
      few = omega (arith, z, o, u, f);
      bits = λ e. let none = small.bits e in omega (arith, u, none);
    }

pub accepted_small : (p : Numbers) (rows : List StepVotes) (t : ℕ) → AreVoteRows rows → IsSettledAt p rows t → IsSmall p t (row rows t).accepted
accepted_small p rows t votes settled =
    subst (λ (v : Tally). IsSmall p t v) (sym settled) (taken_small p t (before_row rows t) (heard_tally p rows t) (heard_small p rows t votes))

pub accepted_few : (p : Numbers) (rows : List StepVotes) (t : ℕ) → IsLine p rows → vote_count (row rows t).accepted ≤ p.n
accepted_few p rows t line = (accepted_small p rows t line.votes (line.settled t)).few

pub record BeforeSmall (p : Numbers) (t : ℕ) (votes : Tally) : Type 0 where
  pub bits : step_of t ≡ 2 → votes.nones ≡ 0
  pub few : vote_count votes ≤ p.n

-- the votes before a step are small, where the steps below are up to date
pub before_small : (p : Numbers) (rows : List StepVotes) (t : ℕ) → IsLineBut p t rows → BeforeSmall p t (before_row rows t)
before_small p rows zero line = record { bits = λ e. refl; few = omega arith }
before_small p rows (suc t) line =
    let small = accepted_small p rows t line.votes (line.settled t (λ e. omega (arith, e))) in
    record {
      bits = λ e. let one : step_of t ≡ 1 = omega (arith, e) in small.bits (ap vote_limit one);
      few = small.few;
    }

-- the accepted votes of a step as they were
pub settled_here : (p : Numbers) (rows : List StepVotes) (t : ℕ) → IsLineBut p t rows → IsSettledAt p rows t → IsLine p rows
settled_here p rows t line here = record {
  votes = line.votes;
  settled = λ s. elim (cases_eq s t) [ inl same ↦ subst (λ (r : ℕ). IsSettledAt p rows r) (sym same) here | inr other ↦ line.settled s other ];
}

abbrev pub with_accepted : List StepVotes → ℕ → Tally → List StepVotes
with_accepted rows t votes = set rows t (record { heard = (row rows t).heard; accepted = votes })

abbrev blank : StepVotes
blank = record { heard = silent_row; accepted = none }

pub heards_set : (rows : List StepVotes) (t : ℕ) (votes : Tally) → heards (with_accepted rows t votes) ≡ heards rows
heards_set [] t votes = refl
heards_set (r ∷ rows) zero votes = refl
heards_set (r ∷ rows) (suc t) votes = ap (λ ts. r.heard ∷ ts) (heards_set rows t votes)

row_same : (rows : List StepVotes) (t : ℕ) (votes : Tally) → t < length rows → row (with_accepted rows t votes) t ≡ record { heard = (row rows t).heard; accepted = votes }
row_same rows t votes l = get_or-set_same rows t _ _ l

row_other : (rows : List StepVotes) (t s : ℕ) (votes : Tally) → s ≢ t → row (with_accepted rows t votes) s ≡ row rows s
row_other rows t s votes ne = get_or-set_other rows t s _ _ ne

heard_kept : (rows : List StepVotes) (t s : ℕ) (votes : Tally) → t < length rows → (row (with_accepted rows t votes) s).heard ≡ (row rows s).heard
heard_kept rows t s votes l =
    elim (cases_eq s t) [
      | inl same ↦ subst (λ (r : ℕ). (row (with_accepted rows t votes) r).heard ≡ (row rows r).heard) (sym same) (ap (λ (r : StepVotes). r.heard) (row_same rows t votes l))
      | inr other ↦ ap (λ (r : StepVotes). r.heard) (row_other rows t s votes other)
    ]

before_kept : (rows : List StepVotes) (t s : ℕ) (votes : Tally) → (s ≡ suc t → ⊥) → before_row (with_accepted rows t votes) s ≡ before_row rows s
before_kept rows t zero votes ne = refl
before_kept rows t (suc s) votes ne = ap (λ (r : StepVotes). r.accepted) (row_other rows t s votes (λ e. ne (ap suc e)))

abbrev counted : Numbers → List ℕ → Tally
counted p bytes = row_tally (take p.n bytes)

-- the accepted votes of a step brought up to date
pub settled_next : (p : Numbers) (rows : List StepVotes) (t : ℕ) (votes : Tally) → t < length rows → IsLineBut p t rows
    → votes ≡ tally_taken p t (before_row rows t) (heard_tally p rows t) → IsLineBut p (suc t) (with_accepted rows t votes)
settled_next p rows t votes l line e = record {
  votes = λ s. subst (IsVoteRow s) (sym (heard_kept rows t s votes l)) (line.votes s);
  settled = λ s ne. elim (cases_eq s t) [
    | inl same ↦ subst (λ (r : ℕ). IsSettledAt p (with_accepted rows t votes) r) (sym same)
        (ap (λ (r : StepVotes). r.accepted) (row_same rows t votes l)
        ∙ (e ∙ sym (ap₂ (tally_taken p t) (before_kept rows t t votes (λ q. omega (arith, q))) (ap (counted p) (heard_kept rows t t votes l)))))
    | inr other ↦
        ap (λ (r : StepVotes). r.accepted) (row_other rows t s votes other)
        ∙ (line.settled s other ∙ sym (ap₂ (tally_taken p s) (before_kept rows t s votes ne) (ap (counted p) (heard_kept rows t s votes l))))
  ];
}

kept_none : (b : Bool) → count_kept b 0 ≡ 0
kept_none true = refl
kept_none false = refl

-- of no votes none are accepted
pub taken_none : (p : Numbers) (t : ℕ) (before : Tally) → none ≡ tally_taken p t before none
taken_none p zero before = refl
taken_none p (suc t) before =
    let z = kept_none (may_give p (step_of t) 0 (tally_votes before)) in
    let o = kept_none (may_give p (step_of t) 1 (tally_votes before)) in
    let u = kept_none (may_give p (step_of t) 2 (tally_votes before)) in
    rw (z, o, u) refl

get_past : {A : Type 0} (xs : List A) (k : ℕ) (d : A) → length xs ≤ k → get_or xs k d ≡ d
get_past [] k d l = refl
get_past (x ∷ xs) zero d l = absurd (omega arith)
get_past (x ∷ xs) (suc k) d l = get_past xs k d (omega arith)

-- in a row in which nothing was heard there is no vote
silent_none : (p : Numbers) → none ≡ counted p silent_row
silent_none p =
    let z = row_without 0 silent_row p.n (λ k q. let e = unheard_byte 31 k in absurd (omega (arith, e, q))) in
    let o = row_without 1 silent_row p.n (λ k q. let e = unheard_byte 31 k in absurd (omega (arith, e, q))) in
    let u = row_without 2 silent_row p.n (λ k q. let e = unheard_byte 31 k in absurd (omega (arith, e, q))) in
    three z o u
  where
    three : {z o u : ℕ} → z ≡ 0 → o ≡ 0 → u ≡ 0 → none ≡ record { zeros = z; ones = o; nones = u }
    three ez eo eu = rw (ez, eo, eu) refl

-- past the end nothing is to be done
pub settled_end : (p : Numbers) (rows : List StepVotes) (t : ℕ) → length rows ≤ t → IsLineBut p t rows → IsLine p rows
settled_end p rows t l line =
    settled_here p rows t line (subst (λ (r : StepVotes). r.accepted ≡ tally_taken p t (before_row rows t) (counted p r.heard)) (sym (get_past rows t blank l))
    (taken_none p t (before_row rows t) ∙ ap (tally_taken p t (before_row rows t)) (silent_none p)))

row_heard : (rows : List StepVotes) (t : ℕ) → get_or (heards rows) t silent_row ≡ (row rows t).heard
row_heard [] t = refl
row_heard (r ∷ rows) zero = refl
row_heard (r ∷ rows) (suc t) = row_heard rows t

votes_are : (rows : List StepVotes) (t k : ℕ) → row_votes (heards rows) t k ≡ byte_vote (sender_byte rows t k)
votes_are rows t k = ap (λ (bytes : List ℕ). byte_vote (get_or bytes k 255)) (row_heard rows t)

limit_three : (step : ℕ) → vote_limit step ≤ 3
limit_three step = go (step == 3)
  where
    go : (b : Bool) → (if b then 3 else 2) ≤ 3
    go true = omega arith
    go false = omega arith

-- the counts of a row are those of the votes heard
heard_counted : (p : Numbers) (rows : List StepVotes) (t : ℕ) → AreVoteRows rows → IsTally (heard_tally p rows t) (listed (row_votes (heards rows) t) (replicas p.n))
heard_counted p rows t votes =
    row_listed (row_votes (heards rows) t) (row rows t).heard 0 p.n
    (λ k. let here : 0 + k ≡ k = omega arith in ap (row_votes (heards rows) t) here ∙ votes_are rows t k)
    (λ k. elim ((votes t).votes k) [ inl nothing ↦ inl nothing | inr less ↦ inr (let three = limit_three (step_of t) in omega (arith, less, three)) ])

-- the accepted votes that are kept are those that count
pub accepted_counted : DependsOnCounts → (p : Numbers) (rows : List StepVotes) (t : ℕ) → IsLine p rows → IsTally (row rows t).accepted (accepted p (row_votes (heards rows)) t)
accepted_counted alone p rows zero line =
    subst (λ (x : Tally). IsTally x (accepted p (row_votes (heards rows)) zero)) (sym (line.settled zero)) (heard_counted p rows zero line.votes)
accepted_counted alone p rows (suc t) line =
    subst (λ (x : Tally). IsTally x (accepted p (row_votes (heards rows)) (suc t))) (sym (line.settled (suc t)))
    (taken_tally alone p t (row rows t).accepted (heard_tally p rows (suc t)) (accepted p (row_votes (heards rows)) t) (row_votes (heards rows) (suc t)) (replicas p.n)
    (accepted_counted alone p rows t line) (heard_counted p rows (suc t) line.votes))

-- past the end there are none
pub none_past : (rows : List StepVotes) (t : ℕ) → length rows ≤ t → (row rows t).accepted ≡ none
none_past rows t l = ap (λ (r : StepVotes). r.accepted) (get_past rows t blank l)

-- a step that is read
pub index_row : (rows : List StepVotes) (t : ℕ) → t < length rows → get_or rows t (record { heard = []; accepted = none }) ≡ row rows t
index_row [] t l = absurd (omega arith)
index_row (r ∷ rows) zero l = refl
index_row (r ∷ rows) (suc t) l = index_row rows t (omega arith)

-- the byte of a sender that is read
pub byte_read : (rows : List StepVotes) (t k : ℕ) → t < length rows → k < length (row rows t).heard
    → get_or (get_or rows t (record { heard = []; accepted = none })).heard k 0 ≡ sender_byte rows t k
byte_read rows t k l m = ap (λ (r : StepVotes). get_or r.heard k 0) (index_row rows t l) ∙ any (row rows t).heard k m
  where
    any : (xs : List ℕ) (k : ℕ) → k < length xs → get_or xs k 0 ≡ get_or xs k 255
    any [] k m = absurd (omega arith)
    any (x ∷ xs) zero m = refl
    any (x ∷ xs) (suc k) m = any xs k (omega arith)

pub before_first : (rows : List StepVotes) (t : ℕ) → t ≡ 0 → none ≡ before_row rows t
before_first rows zero e = refl
before_first rows (suc t) e = absurd (omega arith)

pub before_later : (rows : List StepVotes) (t : ℕ) → (t ≡ 0 → ⊥) → t - 1 < length rows → (get_or rows (t - 1) (record { heard = []; accepted = none })).accepted ≡ before_row rows t
before_later rows zero ne l = absurd (ne refl)
before_later rows (suc t) ne l =
    let e : suc t - 1 ≡ t = omega arith in
    ap (λ (r : StepVotes). r.accepted) (index_row rows (suc t - 1) l) ∙ ap (λ (k : ℕ). (row rows k).accepted) e

-- the votes that are accepted by what is read
pub taken_here : (p : Numbers) (rows : List StepVotes) (t n : ℕ) (before votes : Tally) → n ≡ p.n → t < length rows → before ≡ before_row rows t
    → votes ≡ tally_taken p t before (row_tally (take n (get_or rows t (record { heard = []; accepted = none })).heard))
    → votes ≡ tally_taken p t (before_row rows t) (heard_tally p rows t)
taken_here p rows t n before votes all l is e =
    e ∙ ap₂ (tally_taken p t) is (ap₂ (λ (m : ℕ) (r : StepVotes). row_tally (take m r.heard)) all (index_row rows t l))

-- ---- one more vote

abbrev pub with_byte : List StepVotes → ℕ → ℕ → ℕ → List StepVotes
with_byte rows t k v = set rows t (record { heard = set (row rows t).heard k v; accepted = (row rows t).accepted })

heard_here : (rows : List StepVotes) (t k v : ℕ) → t < length rows → (row (with_byte rows t k v) t).heard ≡ set (row rows t).heard k v
heard_here rows t k v l = ap (λ (r : StepVotes). r.heard) (get_or-set_same rows t (record { heard = set (row rows t).heard k v; accepted = (row rows t).accepted }) blank l)

heard_other : (rows : List StepVotes) (t k v s : ℕ) → s ≢ t → (row (with_byte rows t k v) s).heard ≡ (row rows s).heard
heard_other rows t k v s ne = ap (λ (r : StepVotes). r.heard) (get_or-set_other rows t s (record { heard = set (row rows t).heard k v; accepted = (row rows t).accepted }) blank ne)

accepted_same : (rows : List StepVotes) (t k v s : ℕ) → t < length rows → (row (with_byte rows t k v) s).accepted ≡ (row rows s).accepted
accepted_same rows t k v s l =
    elim (cases_eq s t) [
      | inl same ↦ subst (λ (r : ℕ). (row (with_byte rows t k v) r).accepted ≡ (row rows r).accepted) (sym same)
          (ap (λ (r : StepVotes). r.accepted) (get_or-set_same rows t (record { heard = set (row rows t).heard k v; accepted = (row rows t).accepted }) blank l))
      | inr other ↦ ap (λ (r : StepVotes). r.accepted) (get_or-set_other rows t s (record { heard = set (row rows t).heard k v; accepted = (row rows t).accepted }) blank other)
    ]

before_same : (rows : List StepVotes) (t k v s : ℕ) → t < length rows → before_row (with_byte rows t k v) s ≡ before_row rows s
before_same rows t k v zero l = refl
before_same rows t k v (suc s) l = accepted_same rows t k v s l

byte_here : (rows : List StepVotes) (t k v : ℕ) → t < length rows → k < length (row rows t).heard → sender_byte (with_byte rows t k v) t k ≡ v
byte_here rows t k v l m = ap (λ (bytes : List ℕ). get_or bytes k 255) (heard_here rows t k v l) ∙ get_or-set_same (row rows t).heard k v 255 m

byte_other : (rows : List StepVotes) (t k v s j : ℕ) → t < length rows → ((s ≡ t) × (j ≡ k) → ⊥) → sender_byte (with_byte rows t k v) s j ≡ sender_byte rows s j
byte_other rows t k v s j l ne =
    elim (cases_eq s t) [
      | inl same ↦ subst (λ (r : ℕ). sender_byte (with_byte rows t k v) r j ≡ sender_byte rows r j) (sym same)
          (ap (λ (bytes : List ℕ). get_or bytes j 255) (heard_here rows t k v l) ∙ get_or-set_other (row rows t).heard k j v 255 (λ e. ne (same, e)))
      | inr other ↦ ap (λ (bytes : List ℕ). get_or bytes j 255) (heard_other rows t k v s other)
    ]

-- one more vote leaves all steps but its own up to date
pub heard_but : (p : Numbers) (rows : List StepVotes) (t k v : ℕ) → t < length rows → k < length (row rows t).heard → IsLine p rows → v < vote_limit (step_of t)
    → IsLineBut p t (with_byte rows t k v)
heard_but p rows t k v l m line small = record {
  votes = λ s. elim (cases_eq s t) [
    | inl same ↦ subst (λ (r : ℕ). IsVoteRow r (row (with_byte rows t k v) r).heard) (sym same) (subst (IsVoteRow t) (sym (heard_here rows t k v l)) here)
    | inr other ↦ subst (IsVoteRow s) (sym (heard_other rows t k v s other)) (line.votes s)
  ];
  settled = λ s ne.
      accepted_same rows t k v s l
      ∙ (line.settled s ∙ sym (ap₂ (tally_taken p s) (before_same rows t k v s l) (ap (counted p) (heard_other rows t k v s ne))));
}
  where
    here : IsVoteRow t (set (row rows t).heard k v)
    here = record {
      whole = length-set (row rows t).heard k v ∙ (line.votes t).whole;
      votes = λ j. elim (cases_eq j k) [
        | inl same ↦ inr (subst (λ (b : ℕ). b < vote_limit (step_of t))
            (sym (subst (λ (i : ℕ). get_or (set (row rows t).heard k v) i 255 ≡ v) (sym same) (get_or-set_same (row rows t).heard k v 255 m))) small)
        | inr other ↦ subst (λ (b : ℕ). (b ≡ 255) ⊎ (b < vote_limit (step_of t))) (sym (get_or-set_other (row rows t).heard k j v 255 other)) ((line.votes t).votes j)
      ];
    }

heards_byte : (old new : List StepVotes) → heards new ≡ heards old → (t k : ℕ) → sender_byte new t k ≡ sender_byte old t k
heards_byte old new e t k = ap (λ (bytes : List ℕ). get_or bytes k 255) (sym (row_heard new t) ∙ (ap (λ (rs : List (List ℕ)). get_or rs t silent_row) e ∙ row_heard old t))

pub hears_byte : (rows new : List StepVotes) (t k v : ℕ) → t < length rows → k < length (row rows t).heard → heards new ≡ heards (with_byte rows t k v) → HearsByte t k v rows new
hears_byte rows new t k v l m e = record {
  here = heards_byte _ new e t k ∙ byte_here rows t k v l m;
  others = λ s j ne. heards_byte _ new e s j ∙ byte_other rows t k v s j l ne;
}

-- ---- room for a step

take_all : {A : Type 0} (n : ℕ) (xs : List A) → length xs ≤ n → take n xs ≡ xs
take_all zero [] l = refl
take_all (suc n) [] l = refl
take_all zero (x ∷ xs) l = absurd (omega arith)
take_all (suc n) (x ∷ xs) l = ap (λ ys. x ∷ ys) (take_all n xs (omega arith))

get_padded : {A : Type 0} (d : A) (xs : List A) (n k : ℕ) → get_or (xs ++ replicate n d) k d ≡ get_or xs k d
get_padded d [] zero k = refl
get_padded d [] (suc n) zero = refl
get_padded d [] (suc n) (suc k) = get_padded d [] n k
get_padded d (x ∷ xs) n zero = refl
get_padded d (x ∷ xs) n (suc k) = get_padded d xs n k

pub padded_row : (rows : List StepVotes) (n m t : ℕ) → length rows ≤ n → row (take n rows ++ replicate m (record { heard = silent_row; accepted = none })) t ≡ row rows t
padded_row rows n m t l = ap (λ (rs : List StepVotes). row (rs ++ replicate m blank) t) (take_all n rows l) ∙ get_padded blank rows m t

same_before : (rows new : List StepVotes) → ((t : ℕ) → row new t ≡ row rows t) → (t : ℕ) → before_row new t ≡ before_row rows t
same_before rows new e zero = refl
same_before rows new e (suc t) = ap (λ (r : StepVotes). r.accepted) (e t)

-- a line of no steps
pub empty_line : (p : Numbers) (rows : List StepVotes) → rows ≡ [] → IsLine p rows
empty_line p rows e = subst (λ (rs : List StepVotes). IsLine p rs) (sym e) (record {
  votes = λ t. record { whole = refl; votes = λ k. inl (unheard_byte 31 k) };
  settled = λ t. taken_none p t (before_row [] t) ∙ ap (tally_taken p t (before_row [] t)) (silent_none p);
})

-- a line with the same steps
pub same_line : (p : Numbers) (rows new : List StepVotes) → ((t : ℕ) → row new t ≡ row rows t) → IsLine p rows → IsLine p new
same_line p rows new e line = record {
  votes = λ t. subst (λ (r : StepVotes). IsVoteRow t r.heard) (sym (e t)) (line.votes t);
  settled = λ t. ap (λ (r : StepVotes). r.accepted) (e t)
      ∙ (line.settled t ∙ sym (ap₂ (tally_taken p t) (same_before rows new e t) (ap (λ (r : StepVotes). counted p r.heard) (e t))));
}

nothing_is : (b : ℕ) → byte_vote b ≡ None → b ≡ 255
nothing_is b e = go (b == 255) refl e
  where
    go : (c : Bool) → (b == 255) ≡ c → (if c then None else Some b) ≡ None → b ≡ 255
    go true q e = eqb-true b 255 q
    go false q e = absurd cc

-- what is heard in the end
pub hears_one : (p : Numbers) (rows more new : List StepVotes) (t k v : ℕ) → ((s : ℕ) → row more s ≡ row rows s)
    → (k < p.n → sender_byte more t k ≡ 255 → v < vote_limit (step_of t) → HearsByte t k v more new)
    → k < p.n → row_votes (heards rows) t k ≡ None → v < vote_limit (step_of t)
    → HearsOneVote t k v (record { numbers = p; rows = heards rows }) (record { numbers = p; rows = heards new })
hears_one p rows more new t k v same hears within free small =
    let old : (s j : ℕ) → sender_byte more s j ≡ sender_byte rows s j = λ s j. ap (λ (r : StepVotes). get_or r.heard j 255) (same s) in
    let h = hears within (old t k ∙ nothing_is (sender_byte rows t k) (sym (votes_are rows t k) ∙ free)) small in
    record {
      numbers = refl;
      here = votes_are new t k ∙ (ap byte_vote h.here ∙ vote_is v (let three = limit_three (step_of t) in omega (arith, small, three)));
      others = λ s j ne. votes_are new s j ∙ (ap byte_vote (h.others s j ne ∙ old s j) ∙ sym (votes_are rows s j));
    }

-- ---- limits

pub limit_third : (t : ℕ) → t % 3 ≡ 2 → 3 ≡ vote_limit (step_of t)
limit_third t e = let three : 3 ≡ step_of t = omega (arith, e) in ap vote_limit three

pub limit_other : (t : ℕ) → (t % 3 ≡ 2 → ⊥) → 2 ≡ vote_limit (step_of t)
limit_other t ne = go (step_of t == 3) refl
  where
    go : (b : Bool) → (step_of t == 3) ≡ b → 2 ≡ vote_limit (step_of t)
    go true e = absurd (ne (let three = eqb-true (step_of t) 3 e in omega (arith, three)))
    go false e = sym (ap (λ (b : Bool). if b then 3 else 2) e)
