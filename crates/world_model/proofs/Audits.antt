-- The audit of a world: how many of its replicas are correct.
use Rattle.std.proofs.Common.{◌≡◌, ℕ, zero, suc, ◌+◌, ◌<◌, ◌≤◌, ◌-◌, Bool, true, false, cond, List, refl, sym, ◌∙◌, ap, arith, if◌then◌else◌}
use Rattle.std.specs.Prelude.{count_by}
use Rattle.std.specs.List.{range_with_len}
use Rattle.std.proofs.lemmas.Bool.{lt-ltb, le-ltb}
use Rattle.std.proofs.lemmas.List.Sums.{sum_by_push}
use Rattle.ritas_base.specs.declared.event.Event.{Event}
use Rattle.ritas_base.specs.Members.{has_member, member_count}
use Rattle.ritas_base.specs.Numbers.{wait_of}
use Rattle.ritas_base.specs.History.{replicas}
use Rattle.ritas_base.specs.RangeLaws.{range_more}
use Rattle.keyed_channel.specs.KeyRow.{KeyRow}
use Rattle.ritas_core.specs.Stands.{Meaning}
use Rattle.world_model.specs.declared.audit.Audit.{Audit}
use Rattle.world_model.specs.declared.audit.Audit.TheVariants as audits
use Rattle.world_model.specs.declared.world.World.{World}
use Rattle.world_model.specs.World.{Setting}
use Rattle.world_model.specs.Audit.{first_broken, has_too_many, audit_of}
use Rattle.world_model.specs.Stands.{SeatsStand, WorldStands, WorldStopped}

-- ---- counting

count_more : (test : ℕ → Bool) (n : ℕ) → count_by test (range_with_len 0 (suc n)) ≡ count_by test (range_with_len 0 n) + cond (test n) 1 0
count_more test n = ap (count_by test) (range_more 0 n n (omega arith)) ∙ sum_by_push (λ k. cond (test k) 1 0) (range_with_len 0 n) n

-- two tests that agree count alike
same_count : (a b : ℕ → Bool) (n : ℕ) → ((i : ℕ) → a i ≡ b i) → count_by a (range_with_len 0 n) ≡ count_by b (range_with_len 0 n)
same_count a b zero same = refl
same_count a b (suc n) same =
    count_more a n ∙ ap (λ c. count_by a (range_with_len 0 n) + cond c 1 0) (same n) ∙ ap (λ x. x + cond (b n) 1 0) (same_count a b n same) ∙ sym (count_more b n)

-- past the last that passes there is nothing to count
past_count : (test : ℕ → Bool) (n d : ℕ) → ((i : ℕ) → n ≤ i → test i ≡ false) → count_by test (range_with_len 0 (n + d)) ≡ count_by test (range_with_len 0 n)
past_count test n zero none = let same : n + 0 ≡ n = omega arith in ap (λ k. count_by test (range_with_len 0 k)) same
past_count test n (suc d) none =
    let more : n + suc d ≡ suc (n + d) = omega arith in
    ap (λ k. count_by test (range_with_len 0 k)) more ∙ count_more test (n + d)
    ∙ ap (λ c. count_by test (range_with_len 0 (n + d)) + cond c 1 0) (none (n + d) (omega arith))
    ∙ omega (arith, past_count test n d none)

none_past : (test : ℕ → Bool) (n i : ℕ) (b : Bool) → ((k : ℕ) → test k ≡ true → k < n) → n ≤ i → test i ≡ b → test i ≡ false
none_past test n i true within past e = let below = within i e in absurd (omega arith)
none_past test n i false within past e = e

-- as many replicas are correct as the mask has members
correct_count : (test : ℕ → Bool) (mask n : ℕ) → ((i : ℕ) → test i ≡ has_member mask i) → ((i : ℕ) → test i ≡ true → i < n) → n ≤ 31
    → count_by test (replicas n) ≡ member_count 32 mask
unfolding member_count
correct_count test mask n same within most =
    let d = 32 - n in
    let all : n + d ≡ 32 = omega arith in
    sym (past_count test n d (λ i past. none_past test n i (test i) within past refl)) ∙ ap (λ k. count_by test (range_with_len 0 k)) all
    ∙ same_count test (has_member mask) 32 same

-- ---- the audit

-- what an audit is answered from: the seats, of which those of the correct replicas are below n, and the verdict so far
pub record IsAudited (S E C : Type 0) (world : World S E C) (w : Setting) (es : List Event) : Type 0 where
  pub seats : SeatsStand w world.seats
  pub within : (i : ℕ) → w.is_correct i ≡ true → i < w.numbers.n
  pub verdict : world.watch.verdict ≡ first_broken w es

pub going_audited : {S E C : Type 0} (m : Meaning S E C KeyRow) (world : World S E C) (w : Setting) (es : List Event) → WorldStands m world w es → IsAudited S E C world w es
going_audited m world w es stand = record { seats = stand.seats; within = stand.replicas.within; verdict = stand.watch.found }

pub stopped_audited : {S E C : Type 0} (m : Meaning S E C KeyRow) (world : World S E C) (w : Setting) (es : List Event) (e : Event) → WorldStopped m world w es e → IsAudited S E C world w es
stopped_audited m world w es e stand = record { seats = stand.seats; within = stand.replicas.within; verdict = stand.verdict }

counted : {S E C : Type 0} (world : World S E C) (w : Setting) (es : List Event) → IsAudited S E C world w es
    → count_by w.is_correct (replicas w.numbers.n) ≡ member_count 32 world.seats.correct
counted world w es stand =
    correct_count w.is_correct world.seats.correct w.numbers.n stand.seats.correct stand.within stand.seats.session.most

pub too_many_is : {S E C : Type 0} (world : World S E C) (w : Setting) (es : List Event) (count wait : ℕ) → IsAudited S E C world w es
    → count ≡ member_count 32 world.seats.correct → wait ≡ wait_of world.seats.params → count < wait → audits.TooManyFaulty ≡ audit_of w es
too_many_is world w es count wait stand count_is wait_is less =
    let all : count_by w.is_correct (replicas w.numbers.n) ≡ count = counted world w es stand ∙ sym count_is in
    let need : wait_of w.numbers ≡ wait = ap wait_of (sym stand.seats.numbers) ∙ sym wait_is in
    let many : has_too_many w ≡ true = lt-ltb (count_by w.is_correct (replicas w.numbers.n)) (wait_of w.numbers) (omega arith) in
    ap (λ b. if b then audits.TooManyFaulty else first_broken w es) (sym many)

pub enough_is : {S E C : Type 0} (world : World S E C) (w : Setting) (es : List Event) (count wait : ℕ) (result : Audit) → IsAudited S E C world w es
    → count ≡ member_count 32 world.seats.correct → wait ≡ wait_of world.seats.params → wait ≤ count → result ≡ world.watch.verdict → result ≡ audit_of w es
enough_is world w es count wait result stand count_is wait_is enough is =
    let all : count_by w.is_correct (replicas w.numbers.n) ≡ count = counted world w es stand ∙ sym count_is in
    let need : wait_of w.numbers ≡ wait = ap wait_of (sym stand.seats.numbers) ∙ sym wait_is in
    let few : has_too_many w ≡ false = le-ltb (count_by w.is_correct (replicas w.numbers.n)) (wait_of w.numbers) (omega arith) in
    is ∙ stand.verdict ∙ ap (λ b. if b then audits.TooManyFaulty else first_broken w es) (sym few)
