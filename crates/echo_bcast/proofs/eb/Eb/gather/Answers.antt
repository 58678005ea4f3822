use Rattle.std.proofs.Common.{◌≡◌, ◌<◌, ◌++◌, ◌∙◌, ℕ, List, Some, None, true, sym, ap, refl, length, get_or, set, length-set, get_or-set_same}
use Rattle.std.specs.Prelude.{Option, is_none, is_some, nat_lt}
use Rattle.std.proofs.lemmas.Bool.{and_parts, ltb-true}
use Rattle.ritas_base.specs.declared.item.Msg.{Msg}
use Rattle.ritas_base.specs.Places.{is_awaited}
use Rattle.echo_bcast.specs.Matrix.{columns_of}
use Rattle.echo_bcast.proofs.eb.Eb.gather.Goals as goal

-- what was put at a place that was awaited is there
there_now : (places : List (Option (List ℕ))) (k : ℕ) (value : List ℕ) → is_awaited places k ≡ true → is_some (get_or (set places k (Some value)) k None) ≡ true
there_now places k value awaited =
    let lt : k < length places = ltb-true k (length places) (and_parts (nat_lt k (length places)) (is_none (get_or places k None)) awaited).0 in
    ap is_some (get_or-set_same places k (Some value) None lt)

pub returns : goal.returns
returns c =
    let b = c.args.self.now in
    let from = c.args.item.now.from in
    let value : List ℕ = c.args.item.now.value in
    let awaited : is_awaited b.hashes from ≡ true = sym c.awaits.ensures ∙ c.if-not-awaits.false in
    let added : c.add.new.self ≡ set b.hashes from (Some value) = c.in_ok-add.ensures.ok in
    let shown : c.places.result.now ≡ c.add.new.self =
    c.places.ensures from (ap (λ (l : List (Option (List ℕ))). is_some (get_or l from None)) added ∙ there_now b.hashes from value awaited) in (
      awaited,
      refl,
      added,
      λ len.
          let whole = ap length shown ∙ (ap length added ∙ (length-set b.hashes from (Some value) ∙ len)) in
          c.in_ok-append.ensures.items
          ∙ ap (λ (l : List Msg). c.args.out.now.items ++ l) (c.in_ok-columns.ensures whole ∙ ap (columns_of b.params b.slot) shown),
    )
