-- What a value shows is what the rules say after the calls that it stands for.
use Rattle.std.specs.Prelude.{◌≡◌, ℕ, zero, suc, ◌≤◌, ◌+◌, ◌-◌, Bool, not, ◌&&◌, ◌||◌, nat_lt, nat_le, List, Option, Some, None, is_some, count_by, if◌then◌else◌, refl}
use Rattle.std.proofs.Common.{sym, ◌∙◌, ap, arith, inl, inr}
use Rattle.std.specs.List.{range_with_len}
use Rattle.std.proofs.lemmas.Bool.{cases_Bool, lt-ltb, le-ltb}
use Rattle.ritas_base.specs.declared.item.Kind.TheVariants.{Column}
use Rattle.ritas_base.specs.declared.item.Item.{Item}
use Rattle.ritas_base.specs.Numbers.{Numbers, quorum_of}
use Rattle.ritas_base.specs.Members.{has_member, member_count}
use Rattle.ritas_base.specs.History.{Call, replicas}
use Rattle.ritas_base.specs.Messages.{Place, kind_eq}
use Rattle.ritas_base.specs.Quorums.{count_yes, count_no, count_same}
use Rattle.ritas_base.specs.Tags.{Tags}
use Rattle.layer_api.specs.BroadcastCalls.{ShowsCast}
use Rattle.layer_api.specs.Entries.{sent}
use Rattle.echo_bcast.specs.declared.eb.Eb.{Eb}
use Rattle.echo_bcast.specs.Matrix.{echo, is_good, matrix_out, is_ready}
use Rattle.echo_bcast.specs.State.{KeepsMatrix, sent_kept_as, sent_value, matrix_delivered, is_ready_at, matrix_shown}

-- none from n on
none_above : (p : ℕ → Bool) (n from count : ℕ) → n ≤ from → count_by (λ k. nat_lt k n && p k) (range_with_len from count) ≡ 0
none_above p n from zero past = refl
none_above p n from (suc count) past =
    count_no (λ k. nat_lt k n && p k) from (range_with_len (from + 1) count) (ap (λ (b : Bool). b && p from) (le-ltb from n past))
    ∙ none_above p n (from + 1) count (omega (arith, past))

below_alone : (p : ℕ → Bool) (n more from count : ℕ) → from + count ≡ n → count_by (λ k. nat_lt k n && p k) (range_with_len from (count + more)) ≡ count_by p (range_with_len from count)
below_alone p n more from zero e = ap (λ (m : ℕ). count_by (λ k. nat_lt k n && p k) (range_with_len from m)) (let m : 0 + more ≡ more = omega arith in m) ∙ none_above p n from more (omega (arith, e))
below_alone p n more from (suc count) e =
    let q : ℕ → Bool = λ k. nat_lt k n && p k in
    let same : q from ≡ p from = ap (λ (b : Bool). b && p from) (lt-ltb from n (omega (arith, e))) in
    let next : from + 1 + count ≡ n = omega (arith, e) in
    let later = below_alone p n more (from + 1) count next in
    ap (λ (m : ℕ). count_by q (range_with_len from m)) (let m : suc count + more ≡ suc (count + more) = omega arith in m)
    ∙ elim (cases_Bool (p from)) [
      | inl is_in ↦
          count_yes q from (range_with_len (from + 1) (count + more)) (same ∙ is_in)
          ∙ (ap (λ (m : ℕ). 1 + m) later ∙ sym (count_yes p from (range_with_len (from + 1) count) is_in))
      | inr is_out ↦ count_no q from (range_with_len (from + 1) (count + more)) (same ∙ is_out) ∙ (later ∙ sym (count_no p from (range_with_len (from + 1) count) is_out))
    ]

-- the members of a set that are all below n, counted
pub members_are : (n mask : ℕ) (p : ℕ → Bool) → n ≤ 32 → ((k : ℕ) → has_member mask k ≡ (nat_lt k n && p k)) → member_count 32 mask ≡ count_by p (replicas n)
unfolding member_count
members_are n mask p most same =
    let all : n + (32 - n) ≡ 32 = omega (arith, most) in
    count_same (has_member mask) (λ k. nat_lt k n && p k) same (range_with_len 0 32)
    ∙ (ap (λ (m : ℕ). count_by (λ k. nat_lt k n && p k) (range_with_len 0 m)) (sym all) ∙ below_alone p n (32 - n) 0 n (omega arith))

pub value_is : (tags : Tags) (o : Option (List ℕ)) → sent_value (sent_kept_as tags o) ≡ o
value_is tags None = refl
value_is tags (Some m) = refl

shows_out : (b : Eb) (at : Place) (tags : Tags) (h : List Call) → KeepsMatrix b at tags h → matrix_delivered b ≡ matrix_out at tags h
shows_out b at tags h keeps =
    let session = keeps.session in
    let good = is_good at tags h in
    let many : member_count 32 b.good ≡ count_by good (replicas at.numbers.n) = members_are at.numbers.n b.good good (omega (arith, session.most)) keeps.good in
    ap (λ (p : Numbers). if nat_le (quorum_of p) (member_count 32 b.good) then sent_value b.sent else None) keeps.params
    ∙ (ap (λ (m : ℕ). if nat_le (quorum_of at.numbers) m then sent_value b.sent else None) many
    ∙ ap (λ (o : Option (List ℕ)). if nat_le (quorum_of at.numbers) (count_by good (replicas at.numbers.n)) then o else None) (ap sent_value keeps.sent_is ∙ value_is tags (sent at h)))

pub some_as : (tags : Tags) (o : Option (List ℕ)) → is_some (sent_kept_as tags o) ≡ is_some o
some_as tags None = refl
some_as tags (Some m) = refl

shows_ready : (b : Eb) (at : Place) (tags : Tags) (h : List Call) (x : Item) → KeepsMatrix b at tags h → is_ready_at b x ≡ is_ready at h x
shows_ready b at tags h x keeps =
    ap (λ (there : Bool). not (kind_eq x.kind Column) || there) (ap is_some keeps.sent_is ∙ some_as tags (sent at h))

pub shows_cast : (b : Eb) (at : Place) (tags : Tags) (h : List Call) → KeepsMatrix b at tags h → ShowsCast echo at tags h (matrix_shown b)
shows_cast b at tags h keeps = record { out = shows_out b at tags h keeps; ready = λ x. shows_ready b at tags h x keeps }
