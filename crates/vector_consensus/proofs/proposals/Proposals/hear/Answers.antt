use Rattle.std.proofs.Common.{◌≡◌, ℕ, ◌∙◌, false, ap, ap₂, subst, sym, arith}
use Rattle.std.specs.Prelude.{◌||◌, ◌==◌, List}
use Rattle.std.specs.List.{insert}
use Rattle.ritas_base.specs.Members.{has_member, member_count}
use Rattle.vector_consensus.specs.Kept.{KeptProposals, AreKeptProposals}
use Rattle.vector_consensus.proofs.KeptLaws.{IsPut, kept_there, kept_within, kept_more, some_more, rank_within}
use Rattle.vector_consensus.proofs.proposals.Proposals.hear.Goals as goal
use Rattle.vector_consensus.proofs.proposals.Proposals.hear.Goals.{then-k-ge32-via-then-k-ge32, then-k-ge32-via-else-k-ge32+then-has, then-k-ge32-via-else-k-ge32+else-has+then-value-gt65535}

pub returns-then-k-ge32 : goal.returns-then-k-ge32
returns-then-k-ge32 c = λ os kept none short.
    let inside : AreKeptProposals os (record { places = c.self.inside.places; entries = c.self.inside.entries.items }) = subst (λ (t : KeptProposals). AreKeptProposals os t) (sym c.self.view_is) kept in
    absurd (elim c.then-k-ge32.branch [
      | then-k-ge32-via-then-k-ge32 x ↦ let l = kept_within os _ c.args.k kept none in let g = x.if-k-ge32.true in omega (arith, l, g)
      | then-k-ge32-via-else-k-ge32+then-has x ↦
          kept_there os _ c.args.k inside (sym (ap (λ (m : ℕ). has_member m c.args.k) c.from_mask-places.ensures) ∙ (sym x.has.ensures ∙ x.if-has.true)) none
      | then-k-ge32-via-else-k-ge32+else-has+then-value-gt65535 x ↦ let g = x.if-value-gt65535.true in omega (arith, short, g)
    ])

pub insert-requires : goal.insert-requires
insert-requires c =
    let low = c.if-k-ge32.false in
    let r = rank_within _ c.self.invariant c.args.k (omega (arith, low)) in
    let e = c.rank-at.ensures.value ∙ ap (member_count c.args.k) c.from_mask-places.ensures in
    let l = c.self.inside.entries.ok.0 in
    omega (arith, r, e, l)

-- the value stands at its place
put : (c : goal.After-self-2-1) → IsPut c.args.k c.args.value.now (record { places = c.self.inside.places; entries = c.self.inside.entries.items })
    (record { places = c.mask-self-inside.result; entries = c.insert.new.self.items })
put c = record {
  places = λ j.
      ap (λ (m : ℕ). has_member m j) c.mask-self-inside.ensures
      ∙ (c.with.ensures j ∙ ap (λ (m : ℕ). has_member m j || (j == c.args.k)) c.from_mask-places.ensures);
  entries = c.in_ok-insert.ensures.items
      ∙ ap₂ (λ (i : ℕ) (v : List ℕ). insert c.self.inside.entries.items i v) (c.rank-at.ensures.value ∙ ap (member_count c.args.k) c.from_mask-places.ensures) c.in_ok-from_slice.ensures;
}

pub invariant_of-self-2 : goal.invariant_of-self-2
invariant_of-self-2 c =
    let low = c.if-k-ge32.false in
    let short = c.if-value-gt65535.false in
    let out : has_member c.self.inside.places c.args.k ≡ false = sym (ap (λ (m : ℕ). has_member m c.args.k) c.from_mask-places.ensures) ∙ sym c.if-has.ensures in
    some_more c.args.k c.args.value.now _ _ c.self.invariant (omega (arith, low)) out (omega (arith, short)) (put c)

pub returns : goal.returns
returns c = λ os kept none short.
    kept_more os c.args.k c.args.value.now _ _ (subst (λ (t : KeptProposals). AreKeptProposals os t) (sym c.self.view_is) kept) none (put c)
