use Rattle.std.proofs.Common.{◌≡◌, ℕ, ◌+◌, ◌<◌, List, [], ◌∷◌, length, drop, get_or, ◌∙◌, ap, sym, Err, arith}
use Rattle.std.proofs.lemmas.List.{drop_more, drop_all}
use Rattle.std.proofs.lemmas.Result.{err_from_is_err_and}
use Rattle.outside.specs.declared.link.LinkItem.{LinkItem}
use Rattle.node_loop.specs.declared.end.Fault.{Fault}
use Rattle.node_loop.specs.Serving.{Began}
use Rattle.node_loop.specs.Told.{after_groups}
use Rattle.node_loop.proofs.Gathering.{under_none, first_wanted, gathers_item, first_short}
use Rattle.node_loop.proofs.Serverwise.{same_self}
use Rattle.node_loop.proofs.server.Server.begin.Goals as goal

-- the next of a list stands in front of those behind it
next_first : (xs : List LinkItem) (i : ℕ) (x : LinkItem) → i < length xs → x ≡ get_or xs i x → drop i xs ≡ x ∷ drop (i + 1) xs
next_first xs i x lt is = drop_more xs i x lt ∙ ap (λ (y : LinkItem). y ∷ drop (i + 1) xs) (sym is)

pub loop-item-init : goal.loop-item-init
loop-item-init g c = record { same = same_self c.args.self.now; empty = c.requires.empty; begins = λ o run. run }

pub returns-in_err-join_first-clause-begins : goal.returns-in_err-join_first-clause-begins
returns-in_err-join_first-clause-begins g c = λ o start.
    let run = c.loop-item.invariant.begins o start in
    let xs = c.args.first.now in
    let i = c.loop-item.item-index in
    let item = c.item-item.result in
    let fault = err_from_is_err_and c.from_residual.result c.from_residual.ensures.1 in
    let want = first_wanted _ o.world o.past o.numbers _ o.base _ o.start _ _ _ (drop i xs) run item (drop (i + 1) xs) (next_first xs i item c.loop-item-test.true c.item-item.is) in
    rw (fault.1 ∙ ap (λ (x : Fault). Err x) fault.2)
    (λ end is. rw is (first_short _ o.world o.past o.numbers _ o.base _ o.start _ _ _ (drop i xs) run _ _ (Began item) want tt run.agrees run.kept))

pub returns-in_err-deliver-clause-begins : goal.returns-in_err-deliver-clause-begins
returns-in_err-deliver-clause-begins g c = λ o start.
    let xs = c.args.first.now in
    let i = c.loop-item.item-index in
    let item = c.item-item.result in
    let run = c.loop-item.invariant.begins o start in
    let none = under_none _ o.world o.past o.numbers _ o.base _ o.start _ _ _ (drop i xs) run c.loop-item.self.group.now c.loop-item.invariant.empty in
    let under = c.in_ok-join_first.ensures.joins o.world o.past o.numbers (after_groups o.world o.past o.start run.groups) [] none tt in
    let first = gathers_item _ o.world o.past o.numbers _ o.base _ o.start _ _ _ (drop i xs) run _ _ item (drop (i + 1) xs) (next_first xs i item c.loop-item-test.true c.item-item.is) under in
    let fault = err_from_is_err_and c.from_residual-in_err-deliver.result c.from_residual-in_err-deliver.ensures.1 in
    rw (fault.1 ∙ ap (λ (x : Fault). Err x) fault.2)
    (c.in_err-deliver.ensures.goes o (drop (i + 1) xs) (record { many = 1; within = omega arith; run = first.0; over = first.1 }))

pub loop-item-preserved : goal.loop-item-preserved
loop-item-preserved g c = record {
  same = let old = c.loop-item.invariant.same in
      let new = c.in_ok-deliver.ensures.same in
      record {
        link = new.link ∙ old.link;
        tape = new.tape ∙ old.tape;
        archive = new.archive ∙ old.archive;
        disk = new.disk ∙ old.disk;
        limits = new.limits ∙ old.limits;
      };
  empty = c.in_ok-deliver.ensures.empty;
  begins = λ o start.
      let xs = c.args.first.now in
      let i = c.loop-item.item-index in
      let item = c.item-item.result in
      let run = c.loop-item.invariant.begins o start in
      let none = under_none _ o.world o.past o.numbers _ o.base _ o.start _ _ _ (drop i xs) run c.loop-item.self.group.now c.loop-item.invariant.empty in
      let under = c.in_ok-join_first.ensures.joins o.world o.past o.numbers (after_groups o.world o.past o.start run.groups) [] none tt in
      let first = gathers_item _ o.world o.past o.numbers _ o.base _ o.start _ _ _ (drop i xs) run _ _ item (drop (i + 1) xs) (next_first xs i item c.loop-item-test.true c.item-item.is) under in
      c.in_ok-deliver.ensures.goes o (drop (i + 1) xs) (record { many = 1; within = omega arith; run = first.0; over = first.1 });
}

pub returns-clause-begins : goal.returns-clause-begins
returns-clause-begins g c = λ o start.
    let xs = c.args.first.now in
    let run = c.loop-item.invariant.begins o start in
    rw (drop_all c.loop-item.item-index xs c.loop-item-test.false) at run
