use Rattle.std.proofs.Common.{Some, ap, sym, ◌≡◌, ◌∙◌, List, is_some}
use Rattle.std.specs.Prelude.{IsSome, cond}
use Rattle.std.specs.List.{list_any}
use Rattle.std.specs.Ordering.{is_eq}
use Rattle.std.specs.BTreeMap.{get, is_at}
use Rattle.std.specs.BTreeSet.{contains}
use Rattle.node_loop.specs.declared.waiting.Asked.{Asked}
use Rattle.node_loop.specs.WaitersStanding.{asked_cmp, caller_cmp, is_asked_in, is_listed}
use Rattle.node_loop.proofs.Indexing.{one_listed}
use Rattle.node_loop.proofs.index.Index.add.Goals as goal

pub returns-in_ok-insert-in-Some : goal.returns-in_ok-insert-in-Some
returns-in_ok-insert-in-Some c = record {
  adds =
      let there : IsSome (get caller_cmp c.args.self.now.by_caller c.args.caller) = ap is_some (sym c.in-Some.ensures.value) in
      one_listed c.args.self.now (record { by_caller = c.get_mut.follows.lender c.insert.new.self }) c.args.caller c.args.asked c.insert.new.self
      (contains asked_cmp c.in-Some.listed.now) ((c.get_mut.follows.holds c.insert.new.self).3 there).0 c.in_ok-insert-in-Some.ensures.updates.0
      (λ a. ap (λ o. is_asked_in o a) c.in-Some.ensures.value);
}

pub returns-in_ok-insert-in-None-2 : goal.returns-in_ok-insert-in-None-2
returns-in_ok-insert-in-None-2 c = record {
  adds =
      let nothing : (a : Asked) → contains asked_cmp c.new-listed.result a ≡ is_listed c.args.self.now c.args.caller a =
      λ a. ap (λ (ks : List Asked). list_any (is_at (asked_cmp a)) ks) c.new-listed.ensures.empty ∙ ap (λ o. is_asked_in o a) c.in-None.ensures.value in
      one_listed c.args.self.now (record { by_caller = c.insert-in-None-2.new.self }) c.args.caller c.args.asked c.insert-in-None.new.self
      (contains asked_cmp c.new-listed.result)
      (λ k. c.in_ok-insert-in-None-2.ensures.updates.0 k
      ∙ ap (λ m. cond (is_eq (caller_cmp c.args.caller k)) (Some c.insert-in-None.new.self) (get caller_cmp m k)) c.get_mut.follows.holds-at-none)
      c.in_ok-insert-in-None.ensures.updates.0 nothing;
}
