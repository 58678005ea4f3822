use Rattle.std.proofs.Common.{◌≡◌, ℕ, ◌<◌, ◌^◌, length, List, sym, ◌∙◌, ap, subst, arith}
use Rattle.std.specs.Prelude.{Option, ◌==◌}
use Rattle.std.specs.Int.{bit_at}
use Rattle.ritas_base.specs.Members.{has_member}
use Rattle.vote_lanes.specs.Plain.{is_equal_row}
use Rattle.reliable_bcast.proofs.VoteRowsLaws.{below_by_bits, length-votes_of, named_rows}
use Rattle.reliable_bcast.proofs.digest_votes.DigestVotes.voters.Goals as goal

pub rows_equal-requires-clause-named : goal.rows_equal-requires-clause-named
rows_equal-requires-clause-named c =
    let rows : List (List ℕ) = c.self.inside.rows.items in
    let small : c.self.inside.kept < 2 ^ length rows = below_by_bits (length rows) c.self.inside.kept c.self.invariant.1.there in
    subst (λ (l : List (List ℕ)). c.mask.result < 2 ^ length l) (sym c.deref.ensures.value) (subst (λ (m : ℕ). m < 2 ^ length rows) (sym c.mask.ensures) small)

pub returns : goal.returns
returns c =
    let n = c.self.inside.n in
    let voters = c.self.inside.voters in
    let kept = c.self.inside.kept in
    let rows : List (List ℕ) = c.self.inside.rows.items in
    let d : List ℕ = c.args.digest.now in
    let view = c.self.view_is in
    let many : length c.args.self.now ≡ n = ap (λ (l : List (Option (List ℕ))). length l) (sym view) ∙ length-votes_of n voters kept rows in
    let most = c.self.invariant.0 in
    let equal : (i : ℕ) → (bit_at c.rows_equal.result i == 1) ≡ is_equal_row rows kept d i =
    λ i. c.rows_equal.ensures i
    ∙ (ap (λ (l : List (List ℕ)). is_equal_row l c.mask.result d i) c.deref.ensures.value ∙ ap (λ (m : ℕ). is_equal_row rows m d i) c.mask.ensures) in
    record {
      few = omega (arith, many, most);
      gave = λ k. ap (λ (m : ℕ). has_member m k) c.from_mask.ensures ∙ named_rows n voters kept rows c.args.self.now d c.rows_equal.result c.told-digest view c.self.invariant.1 equal k;
    }
