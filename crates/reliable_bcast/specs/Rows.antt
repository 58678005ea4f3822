-- Worked rows: four replicas, one of which may be faulty. Of a list of calls or steps the newest is first.
use Rattle.std.specs.Prelude.{◌≡◌, ℕ, Bool, true, ◌&&◌, nat_lt, List, [], ◌∷◌, Some, None, refl, false}
use Rattle.std.proofs.Common.{arith, inl, inr, sym}
use Rattle.std.proofs.lemmas.Bool.{or_cases, and_parts, ltb-true, both_ways}
use Rattle.ritas_base.specs.declared.item.Kind.{Kind}
use Rattle.ritas_base.specs.declared.item.Kind.TheVariants as kinds
use Rattle.ritas_base.specs.declared.item.Kind.TheVariants.{Init, Echo, Ready, Send, Column}
use Rattle.ritas_base.specs.declared.item.Item.{Item}
use Rattle.ritas_base.specs.declared.item.Msg.{Msg}
use Rattle.ritas_base.specs.declared.slot.Slot.{Slot}
use Rattle.ritas_base.specs.Numbers.{Numbers}
use Rattle.ritas_base.specs.History.{Call, Start, Take, told}
use Rattle.ritas_base.specs.Messages.{Place, msg_cmp, msg_eq, has, kind_eq, without, to_all}
use Rattle.ritas_base.specs.MessagesLaws.{message, same_message}
use Rattle.ritas_base.specs.Tags.{Tags}
use Rattle.layer_api.specs.Broadcast.{news, is_of_origin, is_for_origin}
use Rattle.layer_api.specs.Broadcast.{IsPayload}
use Rattle.layer_api.specs.Runs.{ReplicaStep, Has, IsEnough}
use Rattle.layer_api.specs.OneValue.{Group, due_at, out_at, IsRun, IsClear, SameDigests}
use Rattle.reliable_bcast.specs.Bracha.{bracha, is_reliable, due_by_value, out_by_value}

abbrev numbers : Numbers
numbers = record { n = 4; f = 1 }

abbrev slot : Slot
slot = record { class = 1; a = 0; attempt = 0; bround = 0; step = 0; origin = 0 }

-- replica 1
abbrev place : Place
place = record { numbers = numbers; me = 1; slot = slot }

abbrev tags : Tags
tags = record { digest = λ m. m; entry = λ s echoer verifier d. d }

abbrev item : ℕ → Kind → List ℕ → Item
item k kind m = record { from = k; kind = kind; slot = slot; value = m }

abbrev heard : ℕ → Kind → List ℕ → Call
heard k kind m = Take (item k kind m)

abbrev a : List ℕ
a = 97 ∷ []

abbrev b : List ℕ
b = 98 ∷ []

-- ---- one replica

init_at_start : news bracha place tags [] (Start a) ≡ to_all slot Init (Some a)
unfolding without msg_cmp
init_at_start = refl

echo_of_the_first_init : news bracha place tags [] (heard 0 Init a) ≡ to_all slot Echo (Some a)
unfolding without msg_cmp
echo_of_the_first_init = refl

no_echo_of_a_second_init : news bracha place tags (heard 0 Init a ∷ []) (heard 0 Init b) ≡ []
unfolding without msg_cmp
no_echo_of_a_second_init = refl

a_second_init_repeats : bracha.repeats place tags (heard 0 Init a ∷ []) (item 0 Init b) ≡ true
a_second_init_repeats = refl

-- f + 1 ECHOs are too few, and one of another value doesn't count
abbrev two_echoes : List Call
two_echoes = heard 3 Echo a ∷ heard 2 Echo b ∷ heard 0 Echo a ∷ []

no_ready_at_two_echoes : due_by_value place two_echoes ≡ []
no_ready_at_two_echoes = refl

ready_at_three_echoes : news bracha place tags two_echoes (heard 1 Echo a) ≡ to_all slot Ready (Some a)
unfolding without msg_cmp
ready_at_three_echoes = refl

-- of one sender the first value of a kind counts
no_ready_at_a_second_echo : due_by_value place (heard 2 Echo a ∷ two_echoes) ≡ []
no_ready_at_a_second_echo = refl

no_ready_at_one_ready : due_by_value place (heard 2 Ready b ∷ []) ≡ []
no_ready_at_one_ready = refl

ready_at_two_readies : news bracha place tags (heard 2 Ready b ∷ []) (heard 3 Ready b) ≡ to_all slot Ready (Some b)
unfolding without msg_cmp
ready_at_two_readies = refl

-- READY is said once
ready_once : news bracha place tags (heard 3 Ready b ∷ heard 2 Ready b ∷ two_echoes) (heard 1 Echo a) ≡ []
unfolding without msg_cmp
ready_once = refl

nothing_at_two_readies : out_by_value place (heard 3 Ready b ∷ heard 2 Ready b ∷ []) ≡ None
nothing_at_two_readies = refl

nothing_at_a_second_ready : out_by_value place (heard 2 Ready b ∷ heard 3 Ready b ∷ heard 2 Ready b ∷ []) ≡ None
nothing_at_a_second_ready = refl

delivered_at_three_readies : out_by_value place (heard 1 Ready b ∷ heard 3 Ready b ∷ heard 2 Ready b ∷ []) ≡ Some b
delivered_at_three_readies = refl

-- ---- a run of the replicas 0, 1 and 2, with replica 3 silent

abbrev pub group : Group
group = record { rules = bracha; numbers = numbers; slot = slot; is_correct = λ k. nat_lt k 3; tags = λ k. tags }

abbrev hears : ℕ → ℕ → Kind → ReplicaStep Call
hears i k kind = record { who = i; call = heard k kind a }

-- 0 starts, all hear INIT, 0 and 1 hear three ECHOs, 2 hears two READYs, 0 hears three
abbrev pub talk : List (ReplicaStep Call)
talk =
    hears 0 2 Ready ∷ hears 0 1 Ready ∷ hears 0 0 Ready
    ∷ hears 2 1 Ready ∷ hears 2 0 Ready
    ∷ hears 1 2 Echo ∷ hears 1 1 Echo ∷ hears 1 0 Echo
    ∷ hears 0 2 Echo ∷ hears 0 1 Echo ∷ hears 0 0 Echo
    ∷ hears 2 0 Init ∷ hears 1 0 Init ∷ hears 0 0 Init
    ∷ record { who = 0; call = Start a } ∷ []

pub enough : IsEnough numbers group.is_correct
enough =
    record {
      session = record { some = omega arith; most = omega arith; enough = omega arith };
      within = λ i e. let below = ltb-true i 3 e in omega (arith, below);
      many = omega arith;
    }

pub one_digest : SameDigests group.tags
one_digest = λ i j m. refl

-- nothing is hashed
pub clear : IsClear group talk
clear = λ i j x y ci cj there. absurd there

not_column : (kind : Kind) → is_reliable kind ≡ true → kind_eq kind Column ≡ false
not_column kinds.Init e = refl
not_column kinds.Echo e = refl
not_column kinds.Ready e = refl
not_column kinds.Send e = absurd cc
not_column kinds.Hashes e = absurd cc
not_column kinds.Column e = absurd cc
not_column kinds.Want e = absurd cc
not_column kinds.Value e = absurd cc

no_payload : (kind : Kind) → is_reliable kind ≡ true → (v : List ℕ) → IsPayload 1 4 kind v
no_payload kinds.Init e v = tt
no_payload kinds.Echo e v = tt
no_payload kinds.Ready e v = tt
no_payload kinds.Send e v = absurd cc
no_payload kinds.Hashes e v = absurd cc
no_payload kinds.Column e v = absurd cc
no_payload kinds.Want e v = absurd cc
no_payload kinds.Value e v = absurd cc

-- the steps are a run
pub record Told (steps : List (ReplicaStep Call)) : Type 0 where
  pub run : IsRun group steps

listed : (ms : List Msg) (m : Msg) → has ms m ≡ true → Has ms m
listed [] m e = cc
listed (x ∷ ms) m e =
    elim (or_cases (msg_eq m x) (has ms m) e) [ inl here ↦ inl (sym (same_message m x here)) | inr later ↦ inr (listed ms m later) ]

-- i is correct, k is a replica, and what i hears of it was due there
abbrev is_said : List (ReplicaStep Call) → ℕ → ℕ → Kind → Bool
is_said steps i k kind = (nat_lt i 3 && nat_lt k 4) && has (due_at group k steps) (message slot kind a)

hear : {steps : List (ReplicaStep Call)} → Told steps → (i k : ℕ) (kind : Kind) → is_reliable kind ≡ true → (is_of_origin kind ≡ true → k ≡ 0) → (is_for_origin kind ≡ true → i ≡ 0)
    → is_said steps i k kind ≡ true → Told (hears i k kind ∷ steps)
hear {steps} told i k kind reliable origin receiver said =
    let whole = and_parts (nat_lt i 3 && nat_lt k 4) (has (due_at group k steps) (message slot kind a)) said in
    let both = and_parts (nat_lt i 3) (nat_lt k 4) whole.0 in
    record {
      run = (
        both.0,
        (
          record { here = refl; kind = reliable; sender = ltb-true k 4 both.1; origin = origin; receiver = receiver; in_time = refl; payload = no_payload kind reliable a },
          λ correct. record { message = message slot kind a; listed = listed (due_at group k steps) (message slot kind a) whole.1; reached = refl; same = refl },
          λ echoer entry correct claim row. absurd (both_ways (kind_eq kind Column) (not_column kind reliable) (and_parts (kind_eq kind Column) _ claim).0),
        ),
        told.run,
      );
    }

init : {steps : List (ReplicaStep Call)} → Told steps → (i : ℕ) → is_said steps i 0 Init ≡ true → Told (hears i 0 Init ∷ steps)
init told i said = hear told i 0 Init refl (λ e. refl) (λ e. absurd (cc)) said

echo : {steps : List (ReplicaStep Call)} → Told steps → (i k : ℕ) → is_said steps i k Echo ≡ true → Told (hears i k Echo ∷ steps)
echo told i k said = hear told i k Echo refl (λ e. absurd (cc)) (λ e. absurd (cc)) said

ready : {steps : List (ReplicaStep Call)} → Told steps → (i k : ℕ) → is_said steps i k Ready ≡ true → Told (hears i k Ready ∷ steps)
ready told i k said = hear told i k Ready refl (λ e. absurd (cc)) (λ e. absurd (cc)) said

begun : Told (record { who = 0; call = Start a } ∷ [])
begun = record { run = (refl, record { own = refl; once = refl }, tt) }

inits : Told (hears 2 0 Init ∷ hears 1 0 Init ∷ hears 0 0 Init ∷ record { who = 0; call = Start a } ∷ [])
unfolding msg_cmp
inits = init (init (init begun 0 refl) 1 refl) 2 refl

pub talk_is_run : Told talk
unfolding msg_cmp
talk_is_run =
    let echoes0 = echo (echo (echo inits 0 0 refl) 0 1 refl) 0 2 refl in
    let echoes1 = echo (echo (echo echoes0 1 0 refl) 1 1 refl) 1 2 refl in
    let readies2 = ready (ready echoes1 2 0 refl) 2 1 refl in
    ready (ready (ready readies2 0 0 refl) 0 1 refl) 0 2 refl

-- the origin delivers what it started, and the others deliver nothing yet
pub talk_delivers : out_at group 0 talk ≡ Some a
talk_delivers = refl

others_wait : out_at group 2 talk ≡ None
others_wait = refl
