-- What is due at a slot contradicts nothing that is due there: of one kind each receiver gets one value, and columns only
-- grow. With what is due after some calls being due after more, no later message contradicts an earlier one.
use Rattle.std.specs.Prelude.{◌≡◌, ◌≢◌, ◌⊎◌, ℕ, true, List, Some}
use Rattle.ritas_base.specs.declared.item.Kind.TheVariants.{Column}
use Rattle.ritas_base.specs.declared.item.Msg.{Msg}
use Rattle.ritas_base.specs.declared.mode.Mode.{Mode}
use Rattle.ritas_base.specs.Messages.{Place, reaches}
use Rattle.ritas_base.specs.History.{Call}
use Rattle.ritas_base.specs.Tags.{Tags}
use Rattle.frame_codec.specs.Values.{column_row}
use Rattle.layer_api.specs.Broadcast.{BroadcastRules}
use Rattle.layer_api.specs.OneValue.{AreGoodCalls, IsOfSlot}
use Rattle.layer_api.specs.Runs.{Has}

-- a column has the entries of another, and perhaps more
abbrev pub HasEntriesOf : List ℕ → List ℕ → Type 0
HasEntriesOf more column = (echoer : ℕ) (entry : List ℕ) → column_row column echoer ≡ Some entry → column_row more echoer ≡ Some entry

pub record OneDue (r : BroadcastRules) : Type 0 where
  -- two messages of one kind to one receiver, which aren't columns, have one value
  pub one : (at : Place) (tags : Tags) (h : List Call) (m o : Msg) (k : ℕ) → Has (r.due at tags h) m → Has (r.due at tags h) o
      → reaches m.to k ≡ true → reaches o.to k ≡ true → m.kind ≡ o.kind → m.kind ≢ Column → m.value ≡ o.value
  -- of two columns to one receiver one has the entries of the other
  pub columns : (at : Place) (tags : Tags) (mode : Mode) (h : List Call) (m o : Msg) (k : ℕ) → IsOfSlot r at.numbers mode at.slot → AreGoodCalls at.numbers mode at.slot h
      → Has (r.due at tags h) m → Has (r.due at tags h) o → reaches m.to k ≡ true → reaches o.to k ≡ true → m.kind ≡ Column → o.kind ≡ Column
      → HasEntriesOf m.value o.value ⊎ HasEntriesOf o.value m.value
