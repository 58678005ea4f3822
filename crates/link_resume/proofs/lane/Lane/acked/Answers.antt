use Rattle.std.specs.Prelude.{not, ◌==◌, Some, None}
use Rattle.std.proofs.Common.{◌≡◌, ◌∙◌, arith, ap, ap₂, sym, List, ℕ}
use Rattle.std.specs.BTreeMap.{values, is_at}
use Rattle.std.specs.Map.{values_of, lookup, remove_entry}
use Rattle.std.specs.Ordering.{nat_cmp}
use Rattle.link_resume.specs.declared.kept.Kept.{Kept}
use Rattle.link_resume.specs.Lists.{bytes_in, all_but}
use Rattle.link_resume.proofs.Places.{no_more, removed, values_that_pass, fewer_bytes, lane_less, lane_others}
use Rattle.link_resume.proofs.lane.Lane.acked.Goals as goal

pub overflow_sub-self : goal.overflow_sub-self
overflow_sub-self c =
    let is : Some c.in-Some.kept ≡ lookup (is_at (nat_cmp c.from.result)) c.self.inside.kept.entries = c.in-Some.ensures.value in
    omega (arith, c.len.ensures.is, no_more c.from.result c.in-Some.kept c.self.inside.kept.entries is, c.self.invariant.count)

pub invariant_of-self : goal.invariant_of-self
invariant_of-self c =
    let is : Some c.in-Some.kept ≡ lookup (is_at (nat_cmp c.from.result)) c.self.inside.kept.entries = c.in-Some.ensures.value in
    rw (c.len.ensures.is, c.in-Some.ensures.entries) (lane_less c.self.inside.bytes c.from.result c.in-Some.kept c.self.inside.by_number c.self.inside.kept.entries c.self.invariant is)

pub bytes_in-self-inside-requires : goal.bytes_in-self-inside-requires
bytes_in-self-inside-requires c =
    let fewer = fewer_bytes (λ k. not (k.seq == c.args.seq)) (values c.self.inside.kept) in
    let those = ap bytes_in (values_that_pass (λ k. not (k.seq == c.args.seq)) c.self.inside.kept.entries) in
    rw c.retain_others.ensures (omega (arith, fewer, those, c.self.invariant.most))

pub invariant_of-self-else-self : goal.invariant_of-self-else-self
invariant_of-self-else-self c =
    rw (c.bytes_in-self-inside.ensures, c.retain_others.ensures)
    (lane_others c.self.inside.bytes (λ k. not (k.seq == c.args.seq)) c.self.inside.by_number c.self.inside.kept.entries c.self.invariant)

pub returns-in-Some : goal.returns-in-Some
returns-in-Some c =
    let seq : ℕ = c.from.result in
    let entries : List (ℕ × Kept) = c.self.inside.kept.entries in
    let gone : lookup (is_at (nat_cmp seq)) (remove_entry (is_at (nat_cmp seq)) entries) ≡ None =
    sym (ap (lookup (is_at (nat_cmp seq))) c.in-Some.ensures.entries) ∙ c.in-Some.ensures.updates.1 in
    ap values_of c.in-Some.ensures.entries
    ∙ (removed entries seq (c.self.invariant.places c.if-self.true) gone ∙ ap₂ all_but c.from.ensures c.self.view_is)

pub returns-in_default : goal.returns-in_default
returns-in_default c =
    let seq : ℕ = c.from.result in
    let entries : List (ℕ × Kept) = c.self.inside.kept.entries in
    let gone : lookup (is_at (nat_cmp seq)) (remove_entry (is_at (nat_cmp seq)) entries) ≡ None =
    sym (ap (lookup (is_at (nat_cmp seq))) c.in_default.ensures.entries) ∙ c.in_default.ensures.updates.1 in
    ap values_of c.in_default.ensures.entries
    ∙ (removed entries seq (c.self.invariant.places c.if-self.true) gone ∙ ap₂ all_but c.from.ensures c.self.view_is)

pub returns-else-self : goal.returns-else-self
returns-else-self c =
    ap values_of c.retain_others.ensures
    ∙ (values_that_pass (λ k. not (k.seq == c.args.seq)) c.self.inside.kept.entries ∙ ap (all_but c.args.seq) c.self.view_is)
