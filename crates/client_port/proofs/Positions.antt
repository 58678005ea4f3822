-- Of f + 1 replicas that replied one position one is correct.
use Rattle.std.specs.Prelude.{◌≡◌, ℕ, ◌+◌, ◌≤◌, ◌==◌, Bool, true, false, nat_le, List, [], ◌∷◌, Option, Some, None, Ok, refl, if◌then◌else◌}
use Rattle.std.proofs.Common.{◌∙◌, ap, subst, inl, inr, arith}
use Rattle.std.proofs.lemmas.Bool.{eqb-true, leb-true}
use Rattle.std.proofs.lemmas.Option.{none-some, cond_some}
use Rattle.std.proofs.lemmas.List.FromFn.{length-range_with_len}
use Rattle.ritas_base.specs.History.{replicas}
use Rattle.ritas_base.specs.Quorums.{count_by-map, meet_two}
use Rattle.ritas_base.specs.Shortest.{option_or_some}
use Rattle.client_port.specs.Messages.{reply_number_in}
use Rattle.client_port.specs.Votes.{Wanted, ReplyCall, position_said, replied, is_at, repliers, settled, reply_fault_of, answer_but, answer_of}
use Rattle.client_port.specs.Laws.{AreFromLogs, IsLogged, PositionLaw}
use Rattle.client_port.specs.declared.votes.ReplyFault.{ReplyFault}
use Rattle.client_port.proofs.Tallies.{within_said}

is_at_is : (position : ℕ) (o : Option ℕ) → is_at position o ≡ true → o ≡ Some position
is_at_is position None e = absurd (cc)
is_at_is position (Some other) e = ap Some (eqb-true other position e)

-- what a correct replica replied stands in its log
logged : (w : Wanted) (is_correct : ℕ → Bool) (log : ℕ → Option ℕ) (h : List ReplyCall) (k position : ℕ) → AreFromLogs w is_correct log h
    → is_correct k ≡ true → replied w h k ≡ Some position → IsLogged w is_correct log position
logged w is_correct log [] k position true_logs correct e = absurd (none-some position e)
logged w is_correct log (c ∷ h) k position true_logs correct e =
    elim (option_or_some (replied w h k) (if c.from == k then position_said w c else None) position e) [
      | inl older ↦ logged w is_correct log h k position true_logs.1 correct older
      | inr now ↦
          let parts = told_parts (c.from == k) (position_said w c) position now.1 in
          let mine = eqb-true c.from k parts.0 in
          let right : is_correct c.from ≡ true = ap is_correct mine ∙ correct in
          record {
            replica = c.from;
            within = within_said w c position parts.1;
            correct = right;
            stands = true_logs.0 position right parts.1;
          }
    ]
  where
    told_parts : (b : Bool) (o : Option ℕ) (position : ℕ) → (if b then o else None) ≡ Some position → (b ≡ true) × (o ≡ Some position)
    told_parts true o position e = (refl, e)
    told_parts false o position e = absurd (none-some position e)

-- enough replicas replied it
enough : (w : Wanted) (h : List ReplyCall) (q position : ℕ) → settled w h q ≡ Some position → w.numbers.f + 1 ≤ repliers w h position
enough w h q position e =
    let parts = cond_some (nat_le (w.numbers.f + 1) (repliers w h q)) q position e in
    subst (λ (x : ℕ). w.numbers.f + 1 ≤ repliers w h x) parts.1 (leb-true (w.numbers.f + 1) (repliers w h q) parts.0)

settled_by : (o : Option ReplyFault) (x : Option ℕ) (position : ℕ) → answer_but o x ≡ Ok (Some position) → x ≡ Some position
settled_by None x position e = cc
settled_by (Some fault) x position e = absurd (cc)

pub position_law_holds : PositionLaw
unfolding answer_of
position_law_holds w is_correct log h c position many true_logs e =
    let now : List ReplyCall = c ∷ h in
    let settles = settled_by (reply_fault_of w (replied w h c.from) c) (settled w now (reply_number_in c.bytes)) position e in
    let some = enough w now (reply_number_in c.bytes) position settles in
    let gave : ℕ → Bool = λ k. is_at position (replied w now k) in
    let count = count_by-map (is_at position) (replied w now) (replicas w.numbers.n) in
    let all = length-range_with_len 0 w.numbers.n in
    let both = meet_two gave is_correct (replicas w.numbers.n) (omega (arith, some, count, all, many)) in
    logged w is_correct log now both.member position true_logs both.second (is_at_is position (replied w now both.member) both.first)
