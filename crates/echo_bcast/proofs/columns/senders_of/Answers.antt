use Rattle.std.proofs.Common.{◌≡◌, ◌≤◌, ◌∙◌, ℕ, Bool, false, ap, sym, arith, get_or, inl, inr, length, List, None}
use Rattle.std.specs.Prelude.{◌&&◌, nat_lt, is_some, Option}
use Rattle.std.proofs.lemmas.Bool.{cases_lt, lt-ltb, le-ltb}
use Rattle.std.proofs.lemmas.List.{get_or_past}
use Rattle.ritas_base.specs.Members.{has_member}
use Rattle.ritas_base.specs.MemberLaws.{same_mask}
use Rattle.echo_bcast.specs.Matrix.{senders_of}
use Rattle.echo_bcast.specs.Laws.Columns.{senders_have}
use Rattle.echo_bcast.proofs.columns.senders_of.Goals as goal

-- past the last there is nothing
all_seen : (hs : List (Option (List ℕ))) (n k : ℕ) → length hs ≤ n → (nat_lt k n && is_some (get_or hs k None)) ≡ is_some (get_or hs k None)
all_seen hs n k most =
    elim (cases_lt k n) [
      | inl lt ↦ ap (λ (b : Bool). b && is_some (get_or hs k None)) (lt-ltb k n lt)
      | inr ge ↦
          let none : is_some (get_or hs k None) ≡ false = ap is_some (get_or_past hs k None (omega (arith, most, ge))) in
          ap (λ (b : Bool). b && is_some (get_or hs k None)) (le-ltb k n ge) ∙ sym none
    ]

pub returns : goal.returns
returns c = λ len.
    let hs = c.args.hashes.now in
    let least = c.loop-k-test.false in
    same_mask c.mask.result (senders_of hs)
    (λ k.
    ap (λ (m : ℕ). has_member m k) c.mask.ensures
    ∙ (c.loop-k.invariant k ∙ (all_seen hs c.loop-k.k k (omega (arith, len, least)) ∙ sym (senders_have hs k))))
