use Rattle.std.proofs.Common.{◌<◌, ◌≤◌, length, [], ◌∷◌, length-append, arith, rules}
use Rattle.cluster_config.specs.Lines.{fields_at}
use Rattle.cluster_config.specs.Values.{address_in}
use Rattle.cluster_config.proofs.Loops.{more_read, none_read, all_read}
use Rattle.cluster_config.proofs.lines.Lines.addresses.Goals as goal

pub returns-in_err-address-clause-exact : goal.returns-in_err-address-clause-exact
returns-in_err-address-clause-exact c =
    let below : length c.loop-addresses.addresses < c.args.n = omega (arith, c.len.ensures, c.loop-addresses-test.true) in
    let none = none_read c.args.name.now address_in c.args.n (fields_at c.args.name.now address_in c.args.n c.args.self.now) c.loop-addresses.addresses c.loop-addresses.self c.in_err-address.field-0.0.line below c.loop-addresses.invariant.reads c.in_err-address.ensures.exact in
    search (rules, none)

pub loop-addresses-preserved : goal.loop-addresses-preserved
loop-addresses-preserved c =
    let below : length c.loop-addresses.addresses < c.args.n = omega (arith, c.len.ensures, c.loop-addresses-test.true) in
    let more = more_read c.args.name.now address_in c.args.n (fields_at c.args.name.now address_in c.args.n c.args.self.now) c.loop-addresses.addresses c.loop-addresses.self c.address.new.self c.in_ok-address.field-0.now below c.loop-addresses.invariant.reads c.in_ok-address.ensures.exact in
    let grows = length-append c.loop-addresses.addresses (c.in_ok-address.field-0.now ∷ []) in
    record {
      reads = rw c.push.ensures more;
      number = rw c.push.ensures (omega (arith, grows, c.in_ok-address.ensures.next, c.loop-addresses.invariant.number));
      within = rw c.push.ensures (omega (arith, grows, below));
    }

pub returns-clause-exact : goal.returns-clause-exact
returns-clause-exact c =
    let all : c.args.n ≤ length c.loop-addresses.addresses = omega (arith, c.len.ensures, c.loop-addresses-test.false) in
    all_read c.args.name.now address_in c.args.n (fields_at c.args.name.now address_in c.args.n c.args.self.now) c.loop-addresses.addresses c.loop-addresses.self all c.loop-addresses.invariant.reads
