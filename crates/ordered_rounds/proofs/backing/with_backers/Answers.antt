use Rattle.std.proofs.Common.{arith, ◌≡◌, ◌∙◌, sym, ap, ℕ, [], ◌∷◌, ◌++◌, nat_le, Bool, true, false, if◌then◌else◌}
use Rattle.std.proofs.lemmas.Bool.{le-leb, lt-leb}
use Rattle.ritas_base.specs.Members.{member_count}
use Rattle.ordered_rounds.proofs.Backed.{taking_first, taking_next, taking_done, backed_same}
use Rattle.ordered_rounds.proofs.backing.with_backers.Goals as goal

pub loop-id-init : goal.loop-id-init
loop-id-init c = record {
  can = tt;
  finite = tt;
  taking =
      taking_first c.args.noted.now c.args.least _ _ c.new-ids.ensures.items (c.into_iter-id-iterator.ensures.into_iter_gives ∙ c.iter-id-items.ensures.rest)
      c.iter-id-items.ensures.found;
}

pub loop-id-preserved-in-Continue-1 : goal.loop-id-preserved-in-Continue-1
loop-id-preserved-in-Continue-1 c =
    let lists : ℕ = c.in-Some.lists.now in
    let many : c.len.result ≡ member_count 32 lists = c.len.ensures ∙ ap (member_count 32) c.from_mask.ensures in
    let enough : nat_le c.args.least (member_count 32 lists) ≡ true = le-leb c.args.least (member_count 32 lists) (omega (arith, many, c.if-len-least.true)) in
    record {
      can = tt;
      finite = tt;
      taking =
          taking_next c.args.noted.now c.args.least c.loop-id.ids.items c.push.new.self.items c.loop-id.id-iterator c.next.new.self (c.in-Some.id.now, lists)
          c.in-Some.ensures.steps
          (c.in_ok-push.ensures.items ∙ ap (λ (b : Bool). if b then c.loop-id.ids.items ++ c.in-Some.id.now ∷ [] else c.loop-id.ids.items) (sym enough))
          c.loop-id.invariant.taking;
    }

pub loop-id-preserved : goal.loop-id-preserved
loop-id-preserved c =
    let lists : ℕ = c.in-Some.lists.now in
    let many : c.len.result ≡ member_count 32 lists = c.len.ensures ∙ ap (member_count 32) c.from_mask.ensures in
    let few : nat_le c.args.least (member_count 32 lists) ≡ false = lt-leb c.args.least (member_count 32 lists) (omega (arith, many, c.if-len-least.false)) in
    record {
      can = tt;
      finite = tt;
      taking =
          taking_next c.args.noted.now c.args.least c.loop-id.ids.items c.loop-id.ids.items c.loop-id.id-iterator c.next.new.self (c.in-Some.id.now, lists)
          c.in-Some.ensures.steps
          (ap (λ (b : Bool). if b then c.loop-id.ids.items ++ c.in-Some.id.now ∷ [] else c.loop-id.ids.items) (sym few))
          c.loop-id.invariant.taking;
    }

pub returns : goal.returns
returns c = λ lists same.
    taking_done c.args.noted.now c.args.least c.loop-id.ids.items c.loop-id.id-iterator c.in-None.ensures.steps.0 c.loop-id.invariant.taking
    ∙ backed_same c.args.noted.now lists c.args.least c.requires c.iter-id-items.ensures.ordered same
