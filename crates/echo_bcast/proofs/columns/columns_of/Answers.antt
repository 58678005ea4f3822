use Rattle.std.proofs.Common.{◌≡◌, ◌∙◌, ◌+◌, ◌<◌, ◌≤◌, ◌++◌, ◌∷◌, [], ℕ, ap, sym, subst, arith, List, map}
use Rattle.std.specs.Prelude.{Option}
use Rattle.std.specs.Int.RustNames.{count_ones}
use Rattle.std.proofs.lemmas.List.FromFn.{map-range_with_len_more}
use Rattle.ritas_base.specs.declared.item.Kind.TheVariants.{Column}
use Rattle.ritas_base.specs.declared.item.To.TheVariants.{One}
use Rattle.ritas_base.specs.declared.item.Msg.{Msg}
use Rattle.ritas_base.specs.declared.slot.Slot.{Slot}
use Rattle.ritas_base.specs.Numbers.{wait_of}
use Rattle.ritas_base.specs.History.{replicas}
use Rattle.frame_codec.specs.Values.{column_bytes}
use Rattle.echo_bcast.specs.Matrix.{senders_of, rows_for, column_for}
use Rattle.echo_bcast.proofs.ColumnSteps.{no_columns, all_columns}
use Rattle.echo_bcast.proofs.columns.columns_of.Goals as goal

-- one column more
more_columns : (s : Slot) (hs : List (Option (List ℕ))) (k : ℕ) (before after : List Msg) (senders : ℕ) (value : List ℕ)
    → before ≡ map (column_for s hs) (replicas k) → senders ≡ senders_of hs → value ≡ column_bytes senders (rows_for k hs)
    → after ≡ before ++ record { to = One k; kind = Column; slot = s; value = value } ∷ [] → after ≡ map (column_for s hs) (replicas (k + 1))
more_columns s hs k before after senders value was mask is put =
    put
    ∙ (ap (λ (l : List Msg). l ++ record { to = One k; kind = Column; slot = s; value = value } ∷ []) was
    ∙ (ap (λ (v : List ℕ). map (column_for s hs) (replicas k) ++ record { to = One k; kind = Column; slot = s; value = v } ∷ [])
    (is ∙ ap (λ (m : ℕ). column_bytes m (rows_for k hs)) mask)
    ∙ sym (map-range_with_len_more (column_for s hs) 0 k k (omega arith))))

pub returns-then-senders-from : goal.returns-then-senders-from
returns-then-senders-from c = λ len.
    let is : c.senders_of-senders.result ≡ senders_of c.args.hashes.now = c.senders_of-senders.ensures (len ∙ sym c.n.ensures.value) in
    let few = c.if-senders-from.true in
    let wait = c.from.ensures ∙ c.wait.ensures in
    c.new.ensures.items
    ∙ sym (no_columns c.args.p.now c.args.slot.now c.args.hashes.now
    (subst (λ (m : ℕ). count_ones m < wait_of c.args.p.now) is (subst (λ (w : ℕ). count_ones c.senders_of-senders.result < w) wait few)))

pub loop-k-preserved : goal.loop-k-preserved
loop-k-preserved c = (
  c.n-k-end.ensures.value,
  λ len.
      let hs = c.args.hashes.now in
      let senders : ℕ = c.senders_of-senders.result in
      let value : List ℕ = c.in_ok-column_for.field-0 in
      let mask : senders ≡ senders_of hs = c.senders_of-senders.ensures (len ∙ sym c.n.ensures.value) in
      more_columns c.args.slot.now hs c.loop-k.k c.loop-k.columns.items c.push.new.self.items senders value
      (c.loop-k.invariant.1 len) mask c.in_ok-column_for.ensures c.in_ok-push.ensures.items,
)

pub returns : goal.returns
returns c = λ len.
    let hs = c.args.hashes.now in
    let p = c.args.p.now in
    let mask : c.senders_of-senders.result ≡ senders_of hs = c.senders_of-senders.ensures (len ∙ sym c.n.ensures.value) in
    let wait = c.from.ensures ∙ c.wait.ensures in
    let enough : wait_of p ≤ count_ones (senders_of hs) =
    subst (λ (m : ℕ). wait_of p ≤ count_ones m) mask (subst (λ (w : ℕ). w ≤ count_ones c.senders_of-senders.result) wait c.if-senders-from.false) in
    let end = c.n-k-end.ensures.value in
    let low = c.loop-k-test.false in
    let high = c.loop-k.auto.k-end in
    let all : c.loop-k.k ≡ p.n = omega (arith, end, low, high) in
    c.loop-k.invariant.1 len ∙ (ap (λ (k : ℕ). map (column_for c.args.slot.now hs) (replicas k)) all ∙ sym (all_columns p c.args.slot.now hs enough))
