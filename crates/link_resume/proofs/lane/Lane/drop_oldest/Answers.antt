use Rattle.std.proofs.Common.{◌+◌, ◌∙◌, ap, sym, subst, ◌≡◌, ℕ, List, ◌∷◌, false, nat_le}
use Rattle.std.specs.BTreeMap.{values}
use Rattle.std.specs.Map.{values_of}
use Rattle.link_resume.specs.declared.kept.Kept.{Kept}
use Rattle.link_resume.specs.Lanes.{IsPeerLane}
use Rattle.link_resume.specs.Lists.{bytes_in, room_within}
use Rattle.link_resume.proofs.Places.{lane_newer}
use Rattle.link_resume.proofs.Room.{all_fit, oldest_goes}
use Rattle.link_resume.proofs.lane.Lane.drop_oldest.Goals as goal

pub loop-self-preserved : goal.loop-self-preserved
loop-self-preserved c =
    let lane = c.loop-self.invariant.0 in
    let full : nat_le (bytes_in (values c.loop-self.self-inside.kept) + c.args.size) c.args.most ≡ false =
    ap (λ (n : ℕ). nat_le (n + c.args.size) c.args.most) (sym lane.count) ∙ (sym c.may_have.ensures ∙ c.loop-self-test.true) in
    let e : ℕ × Kept = c.in-Some.oldest in
    let is : c.loop-self.self-inside.kept.entries ≡ e ∷ c.pop_first.new.self.entries = c.in-Some.ensures.removal in (
      rw c.len.ensures.is (lane_newer c.loop-self.self-inside.bytes e c.loop-self.self-inside.by_number c.pop_first.new.self.entries (subst (λ (es : List (ℕ × Kept)). IsPeerLane c.loop-self.self-inside.bytes c.loop-self.self-inside.by_number es) is lane)),
      oldest_goes c.args.most c.args.size e.1 (values c.pop_first.new.self) (values c.loop-self.self-inside.kept) (ap values_of is) full ∙ c.loop-self.invariant.1,
    )

pub returns : goal.returns
returns c =
    let lane = c.loop-self.invariant.0 in
    sym (all_fit c.args.most c.args.size _ (ap (λ (n : ℕ). nat_le (n + c.args.size) c.args.most) (sym lane.count) ∙ (sym c.may_have.ensures ∙ c.loop-self-test.false)))
    ∙ (c.loop-self.invariant.1 ∙ ap (room_within c.args.most c.args.size) c.self.view_is)
