-- Bracha's reliable broadcast at one slot, as the calls on a replica's value tell it.
use Rattle.std.specs.Prelude.{ℕ, Bool, true, ◌||◌, List, [], ◌++◌, Option, is_some, nat_le}
use Rattle.std.specs.List.{find}
use Rattle.ritas_base.specs.declared.item.Kind.{Kind}
use Rattle.ritas_base.specs.declared.item.Kind.TheVariants.{Init, Echo, Ready}
use Rattle.ritas_base.specs.declared.item.Msg.{Msg}
use Rattle.ritas_base.specs.Numbers.{Numbers, quorum_of, ready_of, deliver_of}
use Rattle.ritas_base.specs.History.{Call, first, started, voters, values}
use Rattle.ritas_base.specs.Messages.{Place, to_all}
use Rattle.ritas_base.specs.Shortest.{at_shortest}
use Rattle.frame_codec.specs.Body.{is_of_form}
use Rattle.layer_api.specs.Broadcast.{BroadcastRules}

-- m has a quorum of ECHO voters, or enough READY voters
abbrev pub is_backed : Numbers → List Call → List ℕ → Bool
is_backed p h m = nat_le (quorum_of p) (voters p.n h Echo m) || nat_le (ready_of p) (voters p.n h Ready m)

-- m has enough READY voters to be delivered
abbrev pub is_carried : Numbers → List Call → List ℕ → Bool
is_carried p h m = nat_le (deliver_of p) (voters p.n h Ready m)

-- a value that is backed after h, if there is one
abbrev pub some_backed : Numbers → List Call → Option (List ℕ)
some_backed p h = find (is_backed p h) (values h)

-- a value that is carried after h, if there is one
abbrev pub some_carried : Numbers → List Call → Option (List ℕ)
some_carried p h = find (is_carried p h) (values h)

-- the value that is backed, at the shortest prefix with such a value
abbrev pub ready_value : Numbers → List Call → Option (List ℕ)
ready_value p h = at_shortest (some_backed p) h

-- the value that is carried, at the shortest prefix with such a value
abbrev pub out_by_value : Place → List Call → Option (List ℕ)
out_by_value at h = at_shortest (some_carried at.numbers) h

-- the messages that are due: INIT of what was started, ECHO of the origin's first INIT, READY of what is backed
abbrev pub due_by_value : Place → List Call → List Msg
due_by_value at h =
    to_all at.slot Init (started h) ++ to_all at.slot Echo (first h at.slot.origin Init)
    ++ to_all at.slot Ready (ready_value at.numbers h)

-- the kinds of reliable broadcast with values
abbrev pub is_reliable : Kind → Bool
is_reliable kind = is_of_form 1 kind

-- the rules of reliable broadcast: it hashes nothing, and its items can always be taken
abbrev pub bracha : BroadcastRules
bracha = record {
  form = 1;
  due = λ at tags h. due_by_value at h;
  out = λ at tags h. out_by_value at h;
  repeats = λ at tags h i. is_some (first h i.from i.kind);
  ready = λ at tags h i. true;
  met = λ at tags h. [];
}
