use Rattle.std.proofs.Common.{◌≡◌, ◌∙◌, sym, ap, refl, Bool, true, false, ◌||◌}
use Rattle.std.specs.List.{list_any}
use Rattle.std.specs.Fn.{FnReturnsAt}
use Rattle.std.proofs.lemmas.Fn.{says_at}
use Rattle.ooc_buffers.proofs.firsts.any_passes.Goals as goal

pub returns-then-test : goal.returns-then-test
returns-then-test g c = λ t computes.
    let said : FnReturnsAt g.F.Fn c.args.test.now c.in-Some.first.now c.test.result = says_at g.F.Fn c.test.ensures refl in
    let does : t c.in-Some.first.now ≡ true = sym (computes c.in-Some.first.now c.test.result said) ∙ c.if-test.true in
    sym (sym (c.loop-first.invariant.same t computes) ∙ (ap (list_any t) c.in-Some.ensures.steps ∙ ap (λ (b : Bool). b || list_any t c.next.new.self) does))

pub loop-first-preserved : goal.loop-first-preserved
loop-first-preserved g c = record {
  can = tt;
  finite = tt;
  same = λ t computes.
      let said : FnReturnsAt g.F.Fn c.args.test.now c.in-Some.first.now c.test.result = says_at g.F.Fn c.test.ensures refl in
      let fails : t c.in-Some.first.now ≡ false = sym (computes c.in-Some.first.now c.test.result said) ∙ c.if-test.false in
      ap (λ (b : Bool). b || list_any t c.next.new.self) (sym fails) ∙ (sym (ap (list_any t) c.in-Some.ensures.steps) ∙ c.loop-first.invariant.same t computes);
}
