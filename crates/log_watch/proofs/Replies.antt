-- The pieces that are taken are of the logs of which the replies are.
use Rattle.std.specs.Prelude.{◌≡◌, ℕ, Bool, true, List, [], ◌∷◌, Option, Some, None}
use Rattle.ritas_base.specs.Numbers.{Numbers}
use Rattle.outside.specs.declared.link.LinkItem.{LinkItem}
use Rattle.outside.specs.declared.link.LinkItem.TheVariants as items
use Rattle.command_log.specs.Rows.{Row}
use Rattle.observer.specs.Reading.{piece_in}
use Rattle.observer.specs.Watching.{Gift, observed, piece_fault}
use Rattle.observer.specs.Laws.{AreOfLogs, IsPieceOf}
use Rattle.observer.specs.declared.fault.PieceFault.{PieceFault}
use Rattle.log_watch.specs.Watching.{taken_if, gifts_of}
use Rattle.log_watch.specs.Laws.{AreTrueAnswers}

with_gift : (is_correct : ℕ → Bool) (log : ℕ → List Row) (o : Option PieceFault) (g : Gift) (h : List Gift) → (is_correct g.from ≡ true → IsPieceOf (log g.from) g.piece)
    → AreOfLogs is_correct log h → AreOfLogs is_correct log (taken_if o g h)
with_gift is_correct log None g h mine are = (mine, are)
with_gift is_correct log (Some fault) g h mine are = are

pub gifts_true : (p : Numbers) (is_correct : ℕ → Bool) (log : ℕ → List Row) (older : List LinkItem) → AreTrueAnswers is_correct log older → AreOfLogs is_correct log (gifts_of p older)
gifts_true p is_correct log [] are = tt
gifts_true p is_correct log (items.Frame to bytes ∷ older) are = gifts_true p is_correct log older are.1
gifts_true p is_correct log (items.Client at conn bytes ∷ older) are = gifts_true p is_correct log older are.1
gifts_true p is_correct log (items.Reply from bytes ∷ older) are =
    with_gift is_correct log (piece_fault p (observed p (gifts_of p older)) from bytes) (record { from = from; piece = piece_in bytes }) (gifts_of p older) are.0
    (gifts_true p is_correct log older are.1)
gifts_true p is_correct log (items.Up at peer ∷ older) are = gifts_true p is_correct log older are.1
gifts_true p is_correct log (items.Down at peer ∷ older) are = gifts_true p is_correct log older are.1
gifts_true p is_correct log (items.Left at conn ∷ older) are = gifts_true p is_correct log older are.1
gifts_true p is_correct log (items.End ∷ older) are = gifts_true p is_correct log older are.1
