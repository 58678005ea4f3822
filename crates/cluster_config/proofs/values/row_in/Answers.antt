use Rattle.std.proofs.Common.{◌≡◌, ◌<◌, length, ap, sym, ◌∙◌, arith}
use Rattle.std.proofs.lemmas.List.{length-set}
use Rattle.cluster_config.specs.Values.{key_in}
use Rattle.cluster_config.proofs.KeyRows.{key_read, no_key_read, zeros_left, row_read}
use Rattle.cluster_config.proofs.Fields.{empty_is}
use Rattle.cluster_config.proofs.values.row_in.Goals as goal

pub returns-in_err-row : goal.returns-in_err-row
returns-in_err-row c =
    let none = ap key_in (sym c.first_key.ensures.digits) ∙ sym c.key_in.ensures ∙ c.in_err-row.was in
    c.from_residual.ensures ∙ sym (no_key_read c.args.n c.loop-k.k c.args.text.now c.loop-k.rest.now c.loop-k.row c.loop-k-test.true c.loop-k.invariant.keys none)

pub loop-k-preserved : goal.loop-k-preserved
loop-k-preserved c =
    let is = ap key_in (sym c.first_key.ensures.digits) ∙ sym c.key_in.ensures ∙ c.in_ok-row.was in
    let place : c.loop-k.k < length c.loop-k.row = omega (arith, c.loop-k.invariant.places) in
    record {
      keys = key_read c.args.n c.loop-k.k c.args.text.now c.loop-k.rest.now c.first_key.result.1.now c.in_ok-row.field-0 c.loop-k.row c.loop-k-test.true place c.loop-k.invariant.keys is c.first_key.ensures.rest;
      places = length-set c.loop-k.row c.loop-k.k c.in_ok-row.field-0 ∙ c.loop-k.invariant.places;
      zeros = zeros_left c.loop-k.k c.in_ok-row.field-0 c.loop-k.row c.loop-k.invariant.zeros;
    }

pub returns-then-is_empty : goal.returns-then-is_empty
returns-then-is_empty c =
    let all : c.args.n ≡ c.loop-k.k = omega (arith, c.loop-k-test.false, c.loop-k.auto.k-end) in
    let nothing = empty_is c.loop-k.rest.now (sym c.is_empty.ensures ∙ c.if-is_empty.true) in
    sym (row_read c.args.n c.loop-k.k c.args.text.now c.loop-k.rest.now c.loop-k.row all c.loop-k.invariant.keys c.loop-k.invariant.zeros nothing)
