use Rattle.std.proofs.Common.{◌≡◌, true, refl, ap}
use Rattle.ritas_base.specs.declared.item.Kind.{Kind}
use Rattle.ritas_base.specs.declared.item.Kind.TheVariants.{Column}
use Rattle.ritas_base.specs.Messages.{kind_eq}
use Rattle.world_model.proofs.Watching.{item_is, no_column, item_collides, item_holds, column_holds}
use Rattle.world_model.proofs.watch.Watch.judge_item.Goals as goal

pub returns-then-branch : goal.returns-then-branch
returns-then-branch c = record {
  finds = λ w states call seats within told stand.
      let is = item_is w states call c.args.at c.args.item.now c.args.self.now within told stand in
      item_collides w states call c.args.at c.args.item.now c.args.self.now c.takes.new.self _ c.args.seats.now c.in_ok-takes-in_default.field-0 c.args.number
      seats is (no_column c.args.item.now.kind c.in_default.not-Column) (c.in_ok-takes-in_default.ensures.met w states seats is.tables is.below) c.if-branch.true refl;
  same = c.takes.ensures.same;
}

pub returns-else-branch : goal.returns-else-branch
returns-else-branch c = record {
  finds = λ w states call seats within told stand.
      let is = item_is w states call c.args.at c.args.item.now c.args.self.now within told stand in
      item_holds w states call c.args.at c.args.item.now c.args.self.now c.takes.new.self c.args.seats.now c.in_ok-takes-in_default.field-0 c.args.number
      seats is (no_column c.args.item.now.kind c.in_default.not-Column) (c.in_ok-takes-in_default.ensures.met w states seats is.tables is.below) c.if-branch.false;
  same = c.takes.ensures.same;
}

pub returns-else-forges-clause-finds : goal.returns-else-forges-clause-finds
returns-else-forges-clause-finds c = λ w states call seats within told stand.
    let is = item_is w states call c.args.at c.args.item.now c.args.self.now within told stand in
    let kind : kind_eq c.args.item.now.kind Column ≡ true = ap (λ (k : Kind). kind_eq k Column) c.in-Column.is in
    column_holds w states call c.args.at c.args.item.now c.args.self.now c.forges.result c.args.number is kind
    (c.forges.ensures w states seats is.tables is.taking.right is.below kind) c.if-forges.false
