use Rattle.std.proofs.Common.{◌≡◌, ◌∙◌, None, ap, sym, inl, refl, rules, replicate, []}
use Rattle.std.proofs.lemmas.List.{length-replicate}
use Rattle.std.specs.BTreeMap.{get}
use Rattle.ritas_base.specs.declared.slot.Slot.{Slot}
use Rattle.ritas_base.specs.SlotOrder.{slot_cmp}
use Rattle.ritas_core.specs.declared.layers.Layers.{Layers}
use Rattle.ritas_core.specs.Rules.{seat_of, place_at}
use Rattle.ritas_core.specs.SlotCast.{CastStandsAt}
use Rattle.ritas_core.specs.Drops.{is_dropped}
use Rattle.ritas_core.specs.Casts.{OutputsStand}
use Rattle.ritas_core.specs.Parts.{no_parts}
use Rattle.ritas_core.specs.Stands.{Meaning, meaning, rules_of, LayersStand}
use Rattle.ritas_core.proofs.Means.{means_well}
use Rattle.ritas_core.proofs.CastSteps.{casts_nothing}
use Rattle.ritas_core.proofs.ShownLayers.{layers_show}
use Rattle.ritas_core.specs.RulesLaws.{laws_at, kinds_fit}
use Rattle.ritas_core.proofs.Goodness.{good_none_held}
use Rattle.ritas_core.proofs.Waiting.{each_none}
use Rattle.ritas_core.proofs.kernel.Core.new.Goals as goal

pub returns-clause-stands : goal.returns-clause-stands
returns-clause-stands g c =
    let b = g.E.Broadcast in
    let m : Meaning g.row.S.Denot g.row.E.Denot g.row.C.Denot g.row.T.Denot =
    meaning g.S.Service.stands g.S.Service.rules g.S.Service.shown b.stands b.rules b.shown g.C.Coin.bits g.T.Tagger.me g.T.Tagger.tags in
    let well = means_well m b.live g.met.E.Broadcast.value_laws g.met.S.Service.word_laws g.met.S.Service.shows g.met.E.Broadcast.shows in
    let layers : Layers g.row.S.Denot g.row.E.Denot g.row.C.Denot g.row.T.Denot = record {
      params = c.args.p;
      mode = c.args.mode;
      me = c.args.me;
      tagger = c.args.t;
      coin = c.args.coin;
      service = c.in_ok-service.service;
      casts = c.new-3.result;
      outputs = c.new-4.result;
    } in
    let empty : (s : Slot) → get slot_cmp c.new-4.result s ≡ None = search rules in
    let none : OutputsStand c.args.mode.root (rules_of m layers).casts c.new-4.result no_parts.calls = λ low s.
    empty s ∙ sym ((laws_at c.args.mode b.rules g.met.E.Broadcast.value_laws s).out_nothing (place_at (rules_of m layers).casts s) (rules_of m layers).casts.tags) in
    let stood : LayersStand m layers no_parts = record {
      service = c.in_ok-service.ensures (seat_of (rules_of m layers)) refl refl refl;
      casts = casts_nothing (CastStandsAt layers.mode m.cast_stands) (rules_of m layers).casts (is_dropped (rules_of m layers) []) layers.casts c.new-3.ensures;
    } in
    record {
      rules = refl;
      own = c.requires.own;
      kinds = kinds_fit c.args.p c.args.mode c.args.me _ g.E.Broadcast.rules (g.met.E.Broadcast.form ∙ c.requires.form) (g.T.Tagger.digests c.args.t);
      session = c.n.ensures.session;
      me = c.requires.below;
      serves = c.requires.serves;
      live = refl;
      history = tt;
      whole = tt;
      layers = λ _. stood;
      lost = λ _. refl;
      shows = layers_show m well layers (rules_of m layers) refl no_parts stood;
      outputs = λ _. none;
      shows_outputs = λ low s. inl (none low s);
      inbox = c.new-5.ensures.items;
      held = c.in_ok-held.ensures ∙ ap (λ n. replicate n []) c.n.ensures.value;
      peers = length-replicate _ _;
      good_inbox = tt;
      good_held = good_none_held _ _;
      waiting = each_none _ _;
    }
