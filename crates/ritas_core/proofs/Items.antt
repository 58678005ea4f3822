-- What waits at a core and what it holds may change beside the rest of its state.
use Rattle.std.proofs.Common.{◌≡◌, List, length}
use Rattle.std.specs.declared.alloc.Global.{Global}
use Rattle.std.specs.declared.collections.VecDeque.{VecDeque}
use Rattle.ritas_base.specs.declared.item.Item.{Item}
use Rattle.ooc_buffers.specs.Lists.{HeldItem}
use Rattle.ritas_core.specs.declared.kernel.Core.{Core}
use Rattle.ritas_core.specs.Rules.{Rules}
use Rattle.ritas_core.specs.Parts.{parts}
use Rattle.ritas_core.specs.Machine.{CoreState, AreGood}
use Rattle.ritas_core.specs.Stands.{Meaning, CoreStands, AreGoodLists, AreWaiting}

-- a core with these items stands for the state with the same ones
pub with_items : {S E C T : Type 0} (m : Meaning S E C T) (old : Core S E C T) (q : VecDeque Item Global) (h : List (List HeldItem)) (r : Rules) (st : CoreState)
    (inbox : List Item) (held : List (List HeldItem)) → q.items ≡ inbox → h ≡ held → length held ≡ r.casts.numbers.n → AreGood r inbox → AreGoodLists r held → AreWaiting r (parts r st.history) held →
    CoreStands m old r st → CoreStands m (record old { inbox = q; held = h }) r (record st { inbox = inbox; held = held })
with_items m old q h r st inbox held same_inbox same_held peers good_inbox good_held waiting stands = record {
  rules = stands.rules;
  own = stands.own;
  kinds = stands.kinds;
  session = stands.session;
  me = stands.me;
  serves = stands.serves;
  live = stands.live;
  history = stands.history;
  whole = stands.whole;
  layers = stands.layers;
  lost = stands.lost;
  shows = stands.shows;
  outputs = stands.outputs;
  shows_outputs = stands.shows_outputs;
  inbox = same_inbox;
  held = same_held;
  peers = peers;
  good_inbox = good_inbox;
  good_held = good_held;
  waiting = waiting;
}
