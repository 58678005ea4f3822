-- The rows of a correct replica's log are of commands of the session.
use Rattle.std.specs.Prelude.{◌≡◌, ℕ, ◌<◌, ◌≤◌, List, [], ◌∷◌, ◌++◌, length, drop, Option, Some, unwrap_or}
use Rattle.std.proofs.Common.{inl, inr, sym, ◌∙◌, subst, arith, length-drop}
use Rattle.ritas_base.specs.declared.event.Event.{Event}
use Rattle.ritas_base.specs.declared.id.Id.{Id}
use Rattle.ritas_base.specs.Limits.{number_limit, longest_input, longest_payload}
use Rattle.ritas_base.specs.Slots.{command_slot}
use Rattle.frame_codec.specs.Format.{Is}
use Rattle.frame_codec.specs.Grammar.{class1, value}
use Rattle.keyed_channel.specs.Laws.{OpenedFromPeer}
use Rattle.layer_api.specs.Broadcast.{BroadcastRules}
use Rattle.layer_api.specs.OneValue.{ValueLaws}
use Rattle.layer_api.specs.Service.{ServiceRules, WordLaws, AreProper, MayHear, MayWord}
use Rattle.layer_api.specs.Words.{value_at}
use Rattle.layer_api.specs.FedLaws.{heard_met}
use Rattle.layer_api.specs.PartLaws.{heard_is}
use Rattle.command_log.specs.Fits.{log_fits, chain_fits}
use Rattle.command_log.specs.Laws.{own_is}
use Rattle.command_log.specs.Rows.{Row, IsIn}
use Rattle.ritas_core.specs.Rules.{seat_of}
use Rattle.ritas_core.specs.HeardLaws.{heard_delivered}
use Rattle.world_model.specs.World.{Setting, rules_at}
use Rattle.world_model.specs.OneValueEach.{Codec, history_of}
use Rattle.world_model.specs.Agree.{words_of, identifier_log, command_delivered, rows_at, own_rows_at}
use Rattle.world_model.specs.CoreLaws.{CoreLaws}
use Rattle.world_model.specs.EveryWorld.{IsWorld}
use Rattle.world_model.specs.RowsFit.{IsOfCommand, AreOfCommands, RowsAreOfCommands, RowsFit}
use Rattle.world_model.proofs.Conditions.{IsLaid, well_after}
use Rattle.world_model.proofs.Growing.{laid}
use Rattle.world_model.proofs.Logged.{heard_in, some_is}

-- so are the rows of two lists together
all_of_commands : (n : ℕ) (rs base : List Row) → AreOfCommands n rs → AreOfCommands n base → AreOfCommands n (rs ++ base)
all_of_commands n [] base own rest r here = rest r here
all_of_commands n (q ∷ rs) base own rest r (inl same) = own r (inl same)
all_of_commands n (q ∷ rs) base own rest r (inr there) = all_of_commands n rs base (λ x has. own x (inr has)) rest r there

-- a command that was heard is an input of the grammar
heard_short : (w : Setting) (x : Id) (v : List ℕ) → Is (value w.numbers w.mode.root (command_slot x.origin x.num)) v → length v ≤ longest_input
unfolding value class1
heard_short w x v is = is.1

module _ (w : Setting) (founds : IsLaid w) (es : List Event) (i : ℕ) (below : i < w.numbers.n) where
  -- what is known of an identifier of the log
  record IsNumbered (x : Id) : Type 0 where
    command : List ℕ
    delivered : command_delivered w es i x ≡ Some command
    origin : x.origin < w.numbers.n
    num : x.num < number_limit
    short : length command ≤ longest_input

  proper_words : AreProper w.service (seat_of (rules_at w i)) (words_of w es i)
  proper_words = (founds.founded i below).core.proper (rules_at w i) (founds.founded i below).layers (history_of w es i) (well_after w founds es i below).met

  is_numbered : (x : Id) → IsIn x (identifier_log w es i) → IsNumbered x
  is_numbered x here =
      let s = command_slot x.origin x.num in
      let layers = (founds.founded i below).layers in
      let all = layers.words.done_heard (seat_of (rules_at w i)) (words_of w es i) proper_words in
      let heard = heard_in (words_of w es i) x (identifier_log w es i) all here in
      let v = some_is (value_at (words_of w es i) s) (sym (heard_is (words_of w es i) s) ∙ heard) in
      let met : MayHear w.service (seat_of (rules_at w i)) _ s v.0 = (heard_met (MayWord w.service (seat_of (rules_at w i))) (words_of w es i) s v.0 proper_words v.1).1 in
      record {
        command = v.0;
        delivered = sym (heard_delivered (rules_at w i) layers (history_of w es i) s) ∙ v.1;
        origin = met.origin;
        num = met.number;
        short = heard_short w x v.0 met.good;
      }

  of_command : AreOfCommands w.numbers.n (own_rows_at w es i)
  of_command r here =
      let x = own_is w.start w.numbers.f (command_delivered w es i) (identifier_log w es i) r here in
      let it = is_numbered x.id x.listed in
      let P : Option (List ℕ) → Type 0 = λ o. length (drop 8 (unwrap_or o [])) ≤ longest_payload in
      let short = it.short in
      let payload = subst P (sym it.delivered) (omega (arith, short, length-drop 8 it.command)) in
      subst (λ (q : Row). IsOfCommand w.numbers.n q) x.row (record { origin = it.origin; num = it.num; payload = payload })

  pub rows_of_commands : AreOfCommands w.numbers.n w.start.base → RowsAreOfCommands w.numbers.n (length w.start.base) (rows_at w es i)
  rows_of_commands base =
      let few = chain_fits w.start w.numbers.f (command_delivered w es i) (identifier_log w es i) in
      let all = log_fits w.service (founds.founded i below).layers.words (seat_of (rules_at w i)) (words_of w es i) proper_words in
      record { each = all_of_commands w.numbers.n (own_rows_at w es i) w.start.base of_command base; few = omega (arith, few, all) }

pub rows_fit_law : (service : ServiceRules) (other : BroadcastRules) → ValueLaws other → WordLaws service → OpenedFromPeer
    → ((w : Setting) → IsWorld service other w → Codec w) → CoreLaws → RowsFit service other
rows_fit_law service other values words opened_from_peer codec core w es i is correct base =
    rows_of_commands w (laid service other w is values words opened_from_peer (codec w is) core) es i (is.within i correct) base
