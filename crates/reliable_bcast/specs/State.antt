-- What a replica's part in one reliable broadcast keeps, and what a call does to it.
use Rattle.std.specs.Prelude.{◌≡◌, ◌⊎◌, ℕ, Bool, true, false, not, ◌&&◌, ◌||◌, List, [], ◌++◌, Some, None, is_some, nat_le, count_by, if◌then◌else◌, slice_set, Result, Ok, Err}
use Rattle.std.specs.Option.{option_or}
use Rattle.ritas_base.specs.declared.bytes.Mem.{Mem}
use Rattle.ritas_base.specs.declared.item.Kind.{Kind}
use Rattle.ritas_base.specs.declared.item.Kind.TheVariants as kinds
use Rattle.ritas_base.specs.declared.item.Item.{Item}
use Rattle.ritas_base.specs.declared.item.Msg.{Msg}
use Rattle.ritas_base.specs.Numbers.{quorum_of, ready_of, deliver_of}
use Rattle.ritas_base.specs.History.{Call, first, firsts, is_value}
use Rattle.ritas_base.specs.Messages.{Place, to_all}
use Rattle.layer_api.specs.declared.broadcast.Heard.{Heard}
use Rattle.layer_api.specs.declared.broadcast.Heard.TheVariants.{Took, Repeat}
use Rattle.reliable_bcast.specs.declared.rb.Rb.{Rb}
use Rattle.reliable_bcast.specs.Bracha.{ready_value, out_by_value}
use Rattle.ritas_base.specs.Places.{is_awaited}

-- what is kept at this place after these calls
abbrev pub state_of : Place → List Call → Rb
state_of at h =
    record {
      params = at.numbers;
      slot = at.slot;
      echoed = is_some (first h at.slot.origin kinds.Init);
      readied = is_some (ready_value at.numbers h);
      echoes = firsts at.numbers.n h kinds.Echo;
      readies = firsts at.numbers.n h kinds.Ready;
      delivered = out_by_value at h;
      live = true;
    }

-- the votes that are kept back the value
abbrev pub has_backing : Rb → List ℕ → Bool
has_backing b m = nat_le (quorum_of b.params) (count_by (is_value m) b.echoes) || nat_le (ready_of b.params) (count_by (is_value m) b.readies)

abbrev pub has_carriers : Rb → List ℕ → Bool
has_carriers b m = nat_le (deliver_of b.params) (count_by (is_value m) b.readies)

-- READY m is said where it is due and wasn't said yet
abbrev pub settled_by_value : Rb → List ℕ → Rb
settled_by_value b m = record b { readied = b.readied || has_backing b m }

abbrev pub ready_message : Rb → List ℕ → List Msg
ready_message b m = to_all b.slot kinds.Ready (if not b.readied && has_backing b m then Some m else None)

-- m is delivered where it is carried and nothing was delivered yet
abbrev pub carried_by_value : Rb → List ℕ → Rb
carried_by_value b m = record b { delivered = option_or b.delivered (if has_carriers b m then Some m else None) }

abbrev pub echoed_by : Rb → Item → Rb
echoed_by b i = record b { echoes = slice_set b.echoes i.from (Some i.value) }

abbrev pub readied_by : Rb → Item → Rb
readied_by b i = record b { readies = slice_set b.readies i.from (Some i.value) }

abbrev pub after_item : Kind → Rb → Item → Rb
after_item kinds.Init b i = record b { echoed = true }
after_item kinds.Echo b i = settled_by_value (echoed_by b i) i.value
after_item kinds.Ready b i = settled_by_value (carried_by_value (readied_by b i) i.value) i.value
after_item _ b i = b

abbrev pub says_item : Kind → Rb → Item → List Msg
says_item kinds.Init b i = to_all b.slot kinds.Echo (Some i.value)
says_item kinds.Echo b i = ready_message (echoed_by b i) i.value
says_item kinds.Ready b i = ready_message (readied_by b i) i.value
says_item _ b i = []

-- the item counts: it is the first of its kind from its sender
abbrev pub counts_item : Kind → Rb → ℕ → Bool
counts_item kinds.Init b k = not b.echoed
counts_item kinds.Echo b k = is_awaited b.echoes k
counts_item kinds.Ready b k = is_awaited b.readies k
counts_item _ b k = false

pub record HearsNew (old new : Rb) (i : Item) (before after : List Msg) : Type 0 where
  pub counts : counts_item i.kind old i.from ≡ true
  pub state : new ≡ after_item i.kind old i
  pub said : after ≡ before ++ says_item i.kind old i

pub record HearsAgain (old new : Rb) (i : Item) (before after : List Msg) : Type 0 where
  pub again : counts_item i.kind old i.from ≡ false
  pub state : new ≡ old
  pub out : after ≡ before

-- for want of memory nothing is said, and what is delivered is as before or as after the item
pub record HearsHalf (old new : Rb) (i : Item) (before after : List Msg) : Type 0 where
  pub counts : counts_item i.kind old i.from ≡ true
  pub out : after ≡ before
  pub shows : (new.delivered ≡ old.delivered) ⊎ (new.delivered ≡ (after_item i.kind old i).delivered)

-- each outcome of hearing an item
abbrev pub HearsByValue : Rb → Rb → Item → List Msg → List Msg → Result Heard Mem → Type 0
HearsByValue old new i before after (Ok Took) = HearsNew old new i before after
HearsByValue old new i before after (Ok Repeat) = HearsAgain old new i before after
HearsByValue old new i before after (Err e) = HearsHalf old new i before after
