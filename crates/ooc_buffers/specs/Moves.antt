-- What moving the items that pass a test does.
use Rattle.std.specs.Prelude.{◌≡◌, Bool, List, [], ◌++◌, ◌+◌, map, length}
use Rattle.std.specs.VecDeque.{deque_len}
use Rattle.std.specs.declared.collections.VecDeque.{VecDeque}
use Rattle.ritas_base.specs.declared.item.Item.{Item}
use Rattle.ooc_buffers.specs.Lists.{HeldItem, passing, failing}

-- all that pass have moved
pub record Releases {Z : Type 0} (t : Item → Bool) (old new : List HeldItem) (inbox inbox' : VecDeque Item Z) : Type 0 where
  pub kept : new ≡ failing t old
  pub moved : inbox'.items ≡ inbox.items ++ map (λ k. k.item) (passing t old)
  pub len : deque_len inbox' ≡ deque_len inbox + length (passing t old)

-- none passes
pub record NonePasses (t : Item → Bool) (kept : List HeldItem) : Type 0 where
  pub none : passing t kept ≡ []
  pub same : failing t kept ≡ kept
