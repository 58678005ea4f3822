-- What a value of the service of commands stands for.
use Rattle.std.specs.Prelude.{◌≡◌, ℕ, ◌<◌, true, List, slice_index}
use Rattle.layer_api.specs.Service.{Seat}
use Rattle.layer_api.specs.Words.{Word, is_heard, asked}
use Rattle.ritas_base.specs.Slots.{command_slot}
use Rattle.ordered_rounds.specs.Early.{is_known, IsTight}
use Rattle.atomic_bcast.specs.declared.cmd_root.CmdRoot.{CmdRoot}

pub record CommandsStand (s : CmdRoot) (seat : Seat) (w : List Word) : Type 0 where
  pub numbers : s.numbers ≡ seat.numbers
  pub me : s.me ≡ seat.me
  pub inputs : s.inputs ≡ asked w
  pub heard : (o k : ℕ) → o < seat.numbers.n → is_known (slice_index s.bases o) s.early o k ≡ is_heard w (command_slot o k)
  pub tight : IsTight seat.numbers.n s.bases s.early
  pub live : s.live ≡ true
