-- A world before any event.
use Rattle.std.proofs.Common.{◌≡◌, ℕ, zero, suc, ◌+◌, ◌*◌, ◌<◌, ◌==◌, ◌&&◌, Bool, true, false, not, List, [], ◌∷◌, map, length, replicate, Option, Some, None, refl, sym, ◌∙◌, ap, subst, arith, if◌then◌else◌}
use Rattle.std.specs.List.{slice_get}
use Rattle.std.proofs.lemmas.List.{get_or-replicate, length-replicate}
use Rattle.std.proofs.lemmas.Option.{slice_get_within}
use Rattle.ritas_base.specs.declared.mode.Mode.{Mode}
use Rattle.ritas_base.specs.declared.slot.Slot.{Slot}
use Rattle.ritas_base.specs.Members.{has_member}
use Rattle.ritas_base.specs.Numbers.{Numbers, IsSession}
use Rattle.ritas_base.specs.Tags.{Tags}
use Rattle.layer_api.specs.Broadcast.{BroadcastRules}
use Rattle.layer_api.specs.Service.{ServiceRules}
use Rattle.keyed_channel.specs.KeyRow.{KeyRow}
use Rattle.keyed_channel.specs.Keyed.{tags_of}
use Rattle.ritas_core.specs.Rules.{Rules, HasForm, at_slot_of}
use Rattle.ritas_core.specs.Machine.{first_state}
use Rattle.ritas_core.specs.Stands.{Meaning}
use Rattle.replica.specs.declared.replica.Replica.{Replica}
use Rattle.command_log.specs.Rows.{Start, alone}
use Rattle.replica.specs.Replica.{ReplicaStands}
use Rattle.world_model.specs.declared.seats.Seats.{Seats}
use Rattle.world_model.specs.World.{Setting, rules_at, states_of}
use Rattle.world_model.specs.declared.audit.Audit.TheVariants as audits
use Rattle.world_model.specs.declared.watch.Watch.{Watch}
use Rattle.world_model.specs.Audit.{first_broken, prints_at}
use Rattle.world_model.specs.Hashed.{entries_met_at, HashedStand}
use Rattle.world_model.specs.Watch.{WatchStands}
use Rattle.world_model.proofs.Prints.{nothing_there}
use Rattle.world_model.proofs.Meeting.{stand_within}
use Rattle.world_model.specs.MadeOrder.{all_made}
use Rattle.world_model.specs.FramesMade.{MadeTable, made_in, frame_placed}
use Rattle.world_model.specs.declared.world.World.{World}
use Rattle.world_model.proofs.Tables.{place_within}
use Rattle.world_model.specs.EveryWorld.{IsWorld}
use Rattle.world_model.specs.Stands.{IsWorldOf, AreKeys, SeatsStand, StandsAt, ReplicasStand, FramesStand, WorldStands}
use Rattle.world_model.specs.Steps.{IsFirstReplica, AreFirstReplicas, rules_with}

get_there : {X : Type 0} (xs : List X) (i : ℕ) → i < length xs → (x : X) × (slice_get xs i ≡ Some x)
get_there [] i within = absurd (omega arith)
get_there (x ∷ xs) zero within = (x, refl)
get_there (x ∷ xs) (suc i) within = get_there xs i (omega arith)

-- what a world is made of is as the contract of `new` asks
pub record IsGiven (C : Type 0) (p : Numbers) (members : ℕ) (rows : List KeyRow) (coins : List C) : Type 0 where
  pub session : IsSession p
  pub rows_many : length rows ≡ p.n
  pub coins_many : length coins ≡ p.n
  pub own : AreKeys p.n rows
  pub within : (i : ℕ) → has_member members i ≡ true → i < p.n

rules_from : Mode → Numbers → ℕ → Tags → (Slot → BroadcastRules) → (Slot → Bool) → ServiceRules → Rules
rules_from mode numbers me tags at_slot coin service = record { mode = mode; casts = record { numbers = numbers; me = me; tags = tags; at_slot = at_slot }; coin = coin; service = service }

same_rules : (mode : Mode) (numbers : Numbers) (me : ℕ) (tags : Tags) (at_slot : Slot → BroadcastRules) (coin : Slot → Bool) (service : ServiceRules)
    (mode' : Mode) (numbers' : Numbers) (me' : ℕ) (tags' : Tags) (at_slot' : Slot → BroadcastRules) (coin' : Slot → Bool) (service' : ServiceRules) →
    mode ≡ mode' → numbers ≡ numbers' → me ≡ me' → tags ≡ tags' → at_slot ≡ at_slot' → coin ≡ coin' → service ≡ service'
    → rules_from mode numbers me tags at_slot coin service ≡ rules_from mode' numbers' me' tags' at_slot' coin' service'
unfolding rules_from
same_rules mode numbers me tags at_slot coin service mode' numbers' me' tags' at_slot' coin' service' a b c d e f g =
    ap (λ x. rules_from x numbers me tags at_slot coin service) a ∙ ap (λ x. rules_from mode' x me tags at_slot coin service) b
    ∙ ap (λ x. rules_from mode' numbers' x tags at_slot coin service) c ∙ ap (λ x. rules_from mode' numbers' me' x at_slot coin service) d
    ∙ ap (λ x. rules_from mode' numbers' me' tags' x coin service) e ∙ ap (λ x. rules_from mode' numbers' me' tags' at_slot' x service) f
    ∙ ap (λ x. rules_from mode' numbers' me' tags' at_slot' coin' x) g

first_rules : {S E C : Type 0} (m : Meaning S E C KeyRow) (p : Numbers) (root : Mode) (members : ℕ) (rows : List KeyRow) (coins : List C) (w : Setting) (i : ℕ) (k : KeyRow) (coin : C) →
    ((x : KeyRow) → m.tags x ≡ tags_of x) → IsWorldOf m p root members rows coins w → k.me ≡ i → slice_get rows i ≡ Some k → slice_get coins i ≡ Some coin
    → rules_with m p root k coin ≡ rules_at w i
unfolding rules_from
first_rules m p root members rows coins w i k coin tags is own row_is coin_is =
    same_rules root p k.me (m.tags k) (at_slot_of root m.cast) (m.bits coin) m.service w.mode w.numbers i (tags_of (w.keys i)) w.at_slot (w.coin i) w.service
    (sym is.mode) (sym is.numbers) own (tags k ∙ ap tags_of (sym (is.keys i k row_is))) (sym is.casts) (sym (is.coins i coin coin_is)) (sym is.service)

first_place : {S E C : Type 0} (m : Meaning S E C KeyRow) (p : Numbers) (root : Mode) (members : ℕ) (rows : List KeyRow) (coins : List C) (w : Setting) (i : ℕ) (k : KeyRow) (coin : C) (place : Option (Replica S E C)) →
    ((x : KeyRow) → m.tags x ≡ tags_of x) → IsWorldOf m p root members rows coins w → k.me ≡ i → slice_get rows i ≡ Some k → slice_get coins i ≡ Some coin
    → IsFirstReplica m p root members k coin place → StandsAt m w (states_of w []) i place
unfolding states_of
first_place m p root members rows coins w i k coin None tags is own row_is coin_is first = is.correct i ∙ ap (has_member members) (sym own) ∙ first
first_place m p root members rows coins w i k coin (Some rep) tags is own row_is coin_is first =
    let P : Rules → Type 0 = λ r. ReplicaStands alone m rep r (w.keys i) (first_state (replicate w.numbers.n [])) in
    let Q : KeyRow → Type 0 = λ x. ReplicaStands alone m rep (rules_with m p root k coin) x (first_state (replicate w.numbers.n [])) in
    let T : Start → Type 0 = λ s. ReplicaStands s m rep (rules_at w i) (w.keys i) (first_state (replicate w.numbers.n [])) in
    let R : Numbers → Type 0 = λ x. ReplicaStands alone m rep (rules_with m p root k coin) k (first_state (replicate x.n [])) in
    record {
      correct = is.correct i ∙ ap (has_member members) (sym own) ∙ first.0;
      stands = subst T (sym is.start) (subst P (first_rules m p root members rows coins w i k coin tags is own row_is coin_is) (subst Q (sym (is.keys i k row_is)) (subst R (sym is.numbers) first.1)));
      live = refl;
    }

-- ---- what it stands for

pub begins_seats : {S E C : Type 0} (m : Meaning S E C KeyRow) (p : Numbers) (root : Mode) (members : ℕ) (rows : List KeyRow) (coins : List C) (w : Setting) (seats : Seats) →
    IsWorldOf m p root members rows coins w → IsGiven C p members rows coins → seats.params ≡ p → seats.mode ≡ root → seats.correct ≡ members → seats.keys.items ≡ rows → SeatsStand w seats
begins_seats m p root members rows coins w seats is given same_p same_mode same_members same_rows =
    let many : w.numbers.n ≡ p.n = ap (λ x. x.n) is.numbers in
    let rows_many = given.rows_many in
    record {
      session = let P : Numbers → Type 0 = λ x. IsSession x in subst P (sym is.numbers) given.session;
      numbers = same_p ∙ sym is.numbers;
      mode = same_mode ∙ sym is.mode;
      correct = λ i. is.correct i ∙ ap (λ x. has_member x i) (sym same_members);
      keys = λ i below.
          let there = get_there rows i (omega arith) in
          ap (λ xs. slice_get xs i) same_rows ∙ there.1 ∙ ap (λ k. Some k) (sym (is.keys i there.0 there.1));
      own = λ i below.
          let there = get_there rows i (omega arith) in
          let are = given.own i there.0 there.1 in
          let same = is.keys i there.0 there.1 in
          (ap (λ k. k.me) same ∙ are.0, ap (λ k. k.n) same ∙ are.1 ∙ sym many);
    }

-- which kind of world it is
begins_kind : {S E C : Type 0} (m : Meaning S E C KeyRow) (p : Numbers) (root : Mode) (members : ℕ) (rows : List KeyRow) (coins : List C) (w : Setting) (seats : Seats) →
    IsWorldOf m p root members rows coins w → IsGiven C p members rows coins → m.service.serves root.root ≡ true → HasForm root m.cast → SeatsStand w seats → IsWorld m.service m.cast w
begins_kind m p root members rows coins w seats is given serves form stand = record {
  session = stand.session;
  within = λ i right. subst (λ x. i < x.n) (sym is.numbers) (given.within i (sym (is.correct i) ∙ right));
  words = is.service;
  casts = λ s. ap (λ f. f s) is.casts ∙ ap (λ mode. at_slot_of mode m.cast s) (sym is.mode);
  serves = subst (λ mode. m.service.serves mode.root ≡ true) (sym is.mode) serves;
  form = subst (λ mode. HasForm mode m.cast) (sym is.mode) form;
  own = stand.own;
}

pub begins_replicas : {S E C : Type 0} (m : Meaning S E C KeyRow) (p : Numbers) (root : Mode) (members : ℕ) (rows : List KeyRow) (coins : List C) (w : Setting) (places : List (Option (Replica S E C))) →
    ((x : KeyRow) → m.tags x ≡ tags_of x) → IsWorldOf m p root members rows coins w → IsGiven C p members rows coins → AreFirstReplicas m p root members rows coins places
    → ReplicasStand m w (states_of w []) places
begins_replicas m p root members rows coins w places tags is given are =
    let many : w.numbers.n ≡ p.n = ap (λ x. x.n) is.numbers in
    let rows_many = given.rows_many in
    let coins_many = given.coins_many in
    let places_many = are.many in
    record {
      many = are.many ∙ given.coins_many ∙ sym many;
      within = λ i right. subst (λ n. i < n) (sym many) (given.within i (sym (is.correct i) ∙ right));
      each = λ i place place_is.
          let below : i < length places = slice_get_within places i place place_is in
          let row = get_there rows i (omega arith) in
          let coin = get_there coins i (omega arith) in
          first_place m p root members rows coins w i row.0 coin.0 place tags is (given.own i row.0 row.1).0 row.1 coin.1
          (are.each i row.0 coin.0 place row.1 coin.1 place_is);
    }

none_from : (right me : Bool) (none : List (List ℕ)) → none ≡ [] → none ≡ (if right && not me then none else [])
none_from true true none e = e
none_from true false none e = refl
none_from false me none e = e

pub begins_frames : (w : Setting) (n : ℕ) (t : MadeTable) → w.numbers.n ≡ n → t ≡ record { n = n; lists = replicate (n * n) []; order = [] } → FramesStand w (states_of w []) t
unfolding states_of
begins_frames w n t many is = record {
  square = record { many = ap (λ x. x.n) is ∙ sym many; lists = ap (λ x. length x.lists) is ∙ length-replicate (n * n) [] ∙ ap (λ x. x * x) (sym many) };
  each = λ i j i_below j_below.
      let below = subst (λ k. i < k) many i_below in
      let other = subst (λ k. j < k) many j_below in
      ap (λ x. made_in x i j) is ∙ get_or-replicate {A = List (List ℕ)} (n * n) (i * n + j) [] [] (place_within i j n below other)
      ∙ none_from (w.is_correct i) (i == j) [] refl;
}

-- a watch before any event
pub record IsFresh (watch : Watch) : Type 0 where
  pub verdict : watch.verdict ≡ audits.Holds
  pub sent : (s : Slot) (i : ℕ) → entries_met_at watch.sent.table s i ≡ None
  pub hashed : HashedStand watch.hashed []

begins_watch : (w : Setting) (watch : Watch) → IsFresh watch → WatchStands w (states_of w []) (first_broken w []) watch
unfolding states_of first_broken
begins_watch w watch fresh = record {
  found = fresh.verdict;
  tables = λ holds. record {
    sent = λ i s right. fresh.sent s i;
    hashed = stand_within watch.hashed [] (prints_at w (states_of w [])) (λ p here. elim here [ ]) (λ p here. absurd (nothing_there w (states_of w []) (λ i. refl) p here)) fresh.hashed;
  };
}

pub begins : {S E C : Type 0} (m : Meaning S E C KeyRow) (p : Numbers) (root : Mode) (members : ℕ) (rows : List KeyRow) (coins : List C) (world : World S E C) (w : Setting) →
    ((x : KeyRow) → m.tags x ≡ tags_of x) → IsGiven C p members rows coins → m.service.serves root.root ≡ true → HasForm root m.cast → AreFirstReplicas m p root members rows coins world.replicas.items
    → world.seats.params ≡ p → world.seats.mode ≡ root → world.seats.correct ≡ members → world.seats.keys.items ≡ rows → world.made ≡ record { n = p.n; lists = replicate (p.n * p.n) []; order = [] }
    → world.events ≡ 0 → IsFresh world.watch → world.live ≡ true → IsWorldOf m p root members rows coins w → WorldStands m world w []
unfolding first_broken all_made
begins m p root members rows coins world w tags given serves form are same_p same_mode same_members same_rows made events fresh live is =
    let seats = begins_seats m p root members rows coins w world.seats is given same_p same_mode same_members same_rows in record {
      going = is.going;
      kind = begins_kind m p root members rows coins w world.seats is given serves form seats;
      seats = seats;
      replicas = begins_replicas m p root members rows coins w world.replicas.items tags is given are;
      made = begins_frames w p.n world.made (ap (λ x. x.n) is.numbers) made;
      order = ap (λ (t : MadeTable). map (frame_placed t) t.order) made;
      events = events;
      watch = begins_watch w world.watch fresh;
      live = live;
    }

-- ---- as the code has it

pub same_keys : {S E C : Type 0} (m : Meaning S E C KeyRow) (p : Numbers) (root : Mode) (members : ℕ) (rows all : List KeyRow) (coins : List C) (places : List (Option (Replica S E C))) →
    rows ≡ all → AreFirstReplicas m p root members rows coins places → AreFirstReplicas m p root members all coins places
same_keys m p root members rows all coins places same are =
    let P : List KeyRow → Type 0 = λ xs. AreFirstReplicas m p root members xs coins places in
    subst P same are

pub first_table : (count n : ℕ) (t : MadeTable) → count ≡ n → t ≡ record { n = count; lists = replicate (count * count) []; order = [] } → t ≡ record { n = n; lists = replicate (n * n) []; order = [] }
first_table count n t same is = is ∙ ap (λ k. record { n = k; lists = replicate (k * k) []; order = [] }) same
