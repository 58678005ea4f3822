use Rattle.std.proofs.Common.{◌≡◌, List}
use Rattle.world_model.proofs.Meeting.{first_clashes, second_adds, if_ok}
use Rattle.world_model.proofs.Pairs.{given_is, expected_is}
use Rattle.layer_api.specs.Entries.{Print, OfEntry}
use Rattle.keyed_channel.specs.KeyRow.{KeyRow}
use Rattle.world_model.specs.Met.{pair_of}
use Rattle.world_model.specs.Hashed.{HashedStand, Adds, Meets, both_of}
use Rattle.world_model.proofs.hashed.Hashed.add_both.Goals as goal

pub returns-then-branch : goal.returns-then-branch
returns-then-branch c = λ k own is prints stand.
    first_clashes _ k c.args.slot c.args.digest c.args.other c.args.me c.args.pair.now.given c.in_ok-add_entry.field-0 prints
    own (given_is k c.args.slot c.args.digest c.args.other c.args.me c.args.pair.now own is) c.if-branch.true (c.in_ok-add_entry.ensures prints stand)

pub returns : goal.returns
returns c =
    if_ok
    (λ clash. (ps : List Print) → HashedStand c.add_entry.new.self ps
    → Adds c.add_entry-2.new.self (OfEntry (record { slot = c.args.slot; echoer = c.args.other; verifier = c.args.me; digest = c.args.digest }) c.args.pair.now.expected) ps clash)
    (λ clash. (k : KeyRow) → c.args.me ≡ k.me → c.args.pair.now ≡ pair_of k c.args.slot c.args.digest c.args.other
    → (prints : List Print) → HashedStand c.args.self.now prints → Meets c.add_entry-2.new.self (both_of k c.args.slot c.args.digest c.args.other) prints clash)
    (λ clash adds. λ k own is prints stand.
    second_adds c.add_entry.new.self c.add_entry-2.new.self k c.args.slot c.args.digest c.args.other c.args.me c.args.pair.now.given c.args.pair.now.expected
    c.in_ok-add_entry.field-0 clash prints own (given_is k c.args.slot c.args.digest c.args.other c.args.me c.args.pair.now own is)
    (expected_is k c.args.slot c.args.digest c.args.other c.args.me c.args.pair.now own is) c.if-branch.false (c.in_ok-add_entry.ensures prints stand) adds)
    c.add_entry-2.result c.add_entry-2.ensures
