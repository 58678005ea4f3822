-- Worked rows: four replicas, one of which may be faulty. The origin 3 gives INIT to 1 and 2 alone, and says ECHO and READY of its
-- digest; 0 asks 1 for the value, and delivers it. Of a list of calls the newest is first.
use Rattle.std.specs.Prelude.{◌≡◌, ℕ, List, [], ◌∷◌, ◌++◌, Some, None, refl, true}
use Rattle.ritas_base.specs.declared.item.Kind.{Kind}
use Rattle.ritas_base.specs.declared.item.Kind.TheVariants.{Init, Echo, Ready, Want, Value}
use Rattle.ritas_base.specs.declared.item.To.TheVariants.{One}
use Rattle.ritas_base.specs.declared.item.Msg.{Msg}
use Rattle.ritas_base.specs.declared.slot.Slot.{Slot}
use Rattle.ritas_base.specs.Numbers.{Numbers}
use Rattle.ritas_base.specs.History.{Call, Take}
use Rattle.ritas_base.specs.Messages.{Place, msg_cmp, without, to_all}
use Rattle.ritas_base.specs.Tags.{Tags}
use Rattle.layer_api.specs.Broadcast.{news}
use Rattle.layer_api.specs.Entries.{OfMessage}
use Rattle.reliable_bcast.specs.Digests.{by_digest, out_by_digest, full_of}

abbrev numbers : Numbers
numbers = record { n = 4; f = 1 }

abbrev slot : Slot
slot = record { class = 1; a = 0; attempt = 0; bround = 0; step = 0; origin = 3 }

abbrev at : ℕ → Place
at k = record { numbers = numbers; me = k; slot = slot }

-- a digest that is the value behind a 7
abbrev tags : Tags
tags = record { digest = λ m. 7 ∷ m; entry = λ s echoer verifier d. d }

abbrev a : List ℕ
a = 97 ∷ []

abbrev b : List ℕ
b = 98 ∷ []

-- its digest
abbrev d : List ℕ
d = 7 ∷ 97 ∷ []

abbrev hears : ℕ → Kind → List ℕ → Call
hears k kind m = Take (record { from = k; kind = kind; slot = slot; value = m })

-- VALUE of a to a replica
abbrev value_to : ℕ → List Msg
value_to k = record { to = One k; kind = Value; slot = slot; value = a } ∷ []

-- ---- replicas 1 and 2

echo_of_its_digest : news by_digest (at 1) tags [] (hears 3 Init a) ≡ to_all slot Echo (Some d)
unfolding without msg_cmp
echo_of_its_digest = refl

abbrev two_echoes : List Call
two_echoes = hears 1 Echo d ∷ hears 3 Echo d ∷ hears 3 Init a ∷ []

ready_at_three_echoes : news by_digest (at 1) tags two_echoes (hears 2 Echo d) ≡ to_all slot Ready (Some d)
unfolding without msg_cmp
ready_at_three_echoes = refl

ready_of_the_other : news by_digest (at 2) tags (hears 2 Echo d ∷ hears 3 Echo d ∷ hears 3 Init a ∷ []) (hears 1 Echo d) ≡ to_all slot Ready (Some d)
unfolding without msg_cmp
ready_of_the_other = refl

-- ---- replica 0, which has no INIT

nothing_at_one_ready : news by_digest (at 0) tags [] (hears 3 Ready d) ≡ []
unfolding without msg_cmp
nothing_at_one_ready = refl

ready_at_two_readies : news by_digest (at 0) tags (hears 3 Ready d ∷ []) (hears 1 Ready d) ≡ to_all slot Ready (Some d)
unfolding without msg_cmp
ready_at_two_readies = refl

abbrev carried : List Call
carried = hears 2 Ready d ∷ hears 1 Ready d ∷ hears 3 Ready d ∷ []

want_at_three_readies : news by_digest (at 0) tags (hears 1 Ready d ∷ hears 3 Ready d ∷ []) (hears 2 Ready d) ≡ to_all slot Want (Some d)
unfolding without msg_cmp
want_at_three_readies = refl

nothing_delivered_yet : out_by_digest (at 0) tags carried ≡ None
nothing_delivered_yet = refl

-- ---- 1 is asked, and 0 delivers its answer

value_to_who_asks : news by_digest (at 1) tags (hears 2 Echo d ∷ two_echoes) (hears 0 Want d) ≡ value_to 0
unfolding without msg_cmp
value_to_who_asks = refl

delivered_with_the_value : out_by_digest (at 0) tags (hears 1 Value a ∷ carried) ≡ Some a
delivered_with_the_value = refl

met_with_the_value : by_digest.met (at 0) tags (hears 1 Value a ∷ carried) ≡ OfMessage a d ∷ []
met_with_the_value = refl

-- ---- other rows

-- a value with another digest isn't delivered, and a second VALUE of one sender doesn't count
nothing_of_another_value : out_by_digest (at 0) tags (hears 1 Value a ∷ hears 1 Value b ∷ carried) ≡ None
nothing_of_another_value = refl

-- nor is one that comes as INIT of another than the origin, or as its second INIT
nothing_of_another_init : out_by_digest (at 0) tags (hears 1 Init a ∷ carried) ≡ None
nothing_of_another_init = refl

nothing_of_a_second_init : out_by_digest (at 0) tags (hears 3 Init a ∷ hears 3 Init b ∷ carried) ≡ None
nothing_of_a_second_init = refl

-- READYs on two digests are counted apart
two_digests_apart : full_of (at 0) tags (hears 2 Ready (7 ∷ b) ∷ hears 1 Ready d ∷ hears 3 Ready d ∷ []) ≡ None
two_digests_apart = refl

-- VALUEs of two senders: the one with the digest is delivered
value_of_another_sender : out_by_digest (at 0) tags (hears 2 Value a ∷ hears 1 Value b ∷ carried) ≡ Some a
value_of_another_sender = refl

-- no WANT where the value is known
no_want_of_what_is_known : news by_digest (at 0) tags (hears 1 Ready d ∷ hears 3 Ready d ∷ hears 3 Init a ∷ []) (hears 2 Ready d) ≡ []
unfolding without msg_cmp
no_want_of_what_is_known = refl

delivered_at_once : out_by_digest (at 0) tags (carried ++ hears 3 Init a ∷ []) ≡ Some a
delivered_at_once = refl

-- who asked before is answered once the value is known, with the ECHO, and no other value is sent
answers_wait : news by_digest (at 1) tags (hears 2 Want d ∷ hears 0 Want d ∷ []) (hears 3 Init a) ≡ to_all slot Echo (Some d) ++ value_to 0 ++ value_to 2
unfolding without msg_cmp
answers_wait = refl

nothing_to_itself : news by_digest (at 0) tags carried (hears 0 Want d) ≡ []
unfolding without msg_cmp
nothing_to_itself = refl

-- a second WANT of one sender repeats
second_want_repeats : by_digest.repeats (at 1) tags (hears 0 Want d ∷ []) (record { from = 0; kind = Want; slot = slot; value = b }) ≡ true
second_want_repeats = refl
