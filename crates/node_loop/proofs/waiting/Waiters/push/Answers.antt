use Rattle.std.proofs.Common.{◌≡◌, ◌∙◌, ◌++◌, ◌∷◌, ◌&&◌, ◌||◌, [], ap, sym, subst, false, Some, ℕ, Option, OnOk, if◌then◌else◌}
use Rattle.std.specs.BTreeMap.{get}
use Rattle.node_loop.specs.declared.waiting.Asked.{Asked}
use Rattle.node_loop.specs.WaitersStanding.{IsWaiting, asked_cmp, conns_in, is_listed, is_same_caller}
use Rattle.std.specs.List.{list_any}
use Rattle.node_loop.specs.Waiting.{is_conn, is_same_request, with_waiter}
use Rattle.node_loop.proofs.Indexing.{pushed, pushed_so, at_error}
use Rattle.node_loop.proofs.waiting.Waiters.push.Goals as goal

pub returns-in-Some : goal.returns-in-Some
returns-in-Some c = record {
  waits = λ ws is.
      let conn_is : c.args.conn ≡ Some c.in-Some.conn = c.in-Some.is in
      let absent : list_any (is_conn (Some c.in-Some.conn)) (ws c.args.asked) ≡ false =
      ap (λ o. list_any (is_conn o) (ws c.args.asked)) (sym conn_is) ∙ (sym (c.has_conn.ensures.waits ws is) ∙ c.if-has_conn.false) in
      let puts = c.in_ok-put.ensures.puts in
      let P : Option ℕ → Type 0 =
      λ o. (a : Asked) → conns_in (get asked_cmp c.put.new.self.by_request a)
      ≡ (if is_same_request c.args.asked a then conns_in (get asked_cmp c.args.self.now.by_request a) ++ o ∷ [] else conns_in (get asked_cmp c.args.self.now.by_request a)) in
      let Q : Option ℕ → Type 0 =
      λ o. OnOk c.add.result (IsWaiting (record { by_request = c.put.new.self.by_request; index = c.add.new.self }) (with_waiter c.args.asked o ws)) in
      subst Q (sym conn_is)
      (pushed_so c.add.result
      (λ adds. pushed c.args.self.now (record { by_request = c.put.new.self.by_request; index = c.add.new.self }) c.args.asked c.in-Some.conn ws is absent
      (subst P conn_is puts)
      (λ k a. adds k a
      ∙ ap (λ index. is_same_caller (record { at = c.args.asked.at; conn = c.in-Some.conn }) k && is_same_request c.args.asked a || is_listed index k a)
      c.in_ok-put.ensures.index))
      c.add.ensures.adds);
  memory = λ ws is. at_error c.add.result (sym (c.has_conn.ensures.waits ws is) ∙ c.if-has_conn.false);
}
