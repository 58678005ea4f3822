-- Worked rows: a peer's frame goes by what is held for that peer, whatever is held for another.
use Rattle.std.specs.Prelude.{◌≡◌, ◌≢◌, ◌==◌, ℕ, zero, suc, true, false, List, [], ◌∷◌, ◌++◌, length, Bool, sum_by, None, Result, Ok, Err, ⊤, refl}
use Rattle.std.proofs.Common.{lit≤, ap, arith}
use Rattle.ritas_base.specs.Numbers.{Numbers}
use Rattle.ritas_base.specs.declared.mode.Mode.{Mode}
use Rattle.ritas_base.specs.declared.mode.Vect.TheVariants.{Reliable}
use Rattle.ritas_base.specs.declared.mode.FrameVersion.TheVariants.{One}
use Rattle.ritas_base.specs.declared.item.Item.{Item}
use Rattle.ritas_base.specs.declared.item.Kind.TheVariants.{Init}
use Rattle.ritas_base.specs.Slots.{command_slot}
use Rattle.ritas_base.specs.Tags.{Tags}
use Rattle.keyed_channel.specs.KeyRow.{KeyRow}
use Rattle.keyed_channel.specs.declared.frame.OpenFault.TheVariants.{BadTag}
use Rattle.layer_api.specs.Service.{ServiceRules, Carries, Undecided}
use Rattle.ooc_buffers.specs.Lists.{HeldItem, held_of_peer, most_held_bytes}
use Rattle.reliable_bcast.specs.Bracha.{bracha}
use Rattle.ritas_core.specs.declared.answer.Answer.{Answer}
use Rattle.ritas_core.specs.declared.answer.Answer.TheVariants as answers
use Rattle.ritas_core.specs.declared.fault.CoreFault.TheVariants as faults
use Rattle.ritas_core.specs.Rules.{Rules, by_other, casts_by}
use Rattle.ritas_core.specs.Parts.{Given}
use Rattle.ritas_core.specs.Checks.{verdict_on}
use Rattle.ritas_core.specs.Machine.{CoreState}
use Rattle.replica.specs.Out.{OutFrame}
use Rattle.replica.specs.declared.refusal.Refusal.{Refusal}
use Rattle.replica.specs.declared.refusal.Refusal.TheVariants as refusals
use Rattle.replica.specs.Handling.{Handled, given_body, refusal_handled}
use Rattle.replica.specs.Isolation.{AreAlike, IsConfined, JoinsInbox, IsAs}

-- ---- replica 0 of four, at a service that has opened no slot

abbrev four : Numbers
four = record { n = 4; f = 1 }

abbrev one : Mode
one = record { root = 1; vect = Reliable; version = One; low = lit≤ tt; high = lit≤ tt }

abbrev no_tags : Tags
no_tags = record { digest = λ m. []; entry = λ s echoer verifier d. [] }

abbrev closed : ServiceRules
closed = record {
  serves = λ root. true;
  purpose = Carries;
  says = λ seat w c. [];
  opens = λ seat w s. false;
  completed = λ seat w. 0;
  base = λ seat w origin. 0;
  next_number = λ seat w. 0;
  given = λ seat w. false;
  done = λ seat w. [];
  outcome = λ seat w. Undecided;
  last = λ seat w. None;
  decided = λ seat w x. None;
}

abbrev rules : Rules
rules = record { mode = one; casts = casts_by one four 0 no_tags bracha; coin = λ s. false; service = closed }

abbrev first : KeyRow
first = record { session = 7; n = 4; me = 0; row = []; version = One }

-- INIT of a replica's command of this number
abbrev init : ℕ → ℕ → Item
init from num = record { from = from; kind = Init; slot = command_slot from num; value = 7 ∷ [] }

-- for replicas 1 and 2 an item is held, of so many bytes each
abbrev holding : ℕ → ℕ → CoreState
holding other own = record {
  live = true;
  history = [];
  inbox = [];
  held = [] ∷ (record { item = init 1 0; len = other } ∷ []) ∷ (record { item = init 2 0; len = own } ∷ []) ∷ [] ∷ [];
  lost = None;
}

-- ---- which states a peer can't tell apart

-- those that differ in what is held for another peer, and in what waits
alike : AreAlike 2 (holding most_held_bytes 20) (record (holding 0 20) { inbox = init 0 0 ∷ [] })
alike = record { live = refl; history = refl; held = refl }

-- it can where another length is held for it, where the history is another, and where one is stopped
own_held : AreAlike 2 (holding 0 20) (holding 0 21) → ⊥
own_held same = let wrong : 20 ≡ 21 = ap (λ (kept : List HeldItem). sum_by (λ k. k.len) kept) same.held in omega (arith, wrong)

own_history : AreAlike 2 (holding 0 20) (record (holding 0 20) { history = Given [] ∷ [] }) → ⊥
own_history same = let wrong : [] ≡ Given [] ∷ [] = same.history in cc

own_stop : AreAlike 2 (holding 0 20) (record (holding 0 20) { live = false }) → ⊥
own_stop same = let wrong : true ≡ false = same.live in cc

-- ---- what its frame is answered

-- the INIT of another command of replica 2
abbrev answer_in : CoreState → Result Answer Refusal
answer_in st = (given_body rules first st (Ok (init 2 1))).answer

beside_nothing : answer_in (holding 0 20) ≡ Ok answers.Held
unfolding verdict_on by_other
beside_nothing = refl

-- as many bytes of replica 1 as may be held leave all the room
beside_most : answer_in (holding most_held_bytes 20) ≡ Ok answers.Held
unfolding verdict_on by_other
beside_most = refl

-- and as many of its own leave none
with_own_most : answer_in (holding 0 most_held_bytes) ≡ Err (refusals.Core (faults.HeldFull most_held_bytes))
unfolding verdict_on by_other
with_own_most = refl

-- ---- what a frame that isn't taken leaves

-- what is held for its sender, and for no other, may be another
sender_held : IsConfined 2 (holding 8 20) (holding 8 21)
sender_held = record { history = refl; inbox = refl; held = others }
  where
    others : (j : ℕ) → j ≢ 2 → held_of_peer (holding 8 21).held j ≡ held_of_peer (holding 8 20).held j
    others zero apart = refl
    others (suc zero) apart = refl
    others (suc (suc zero)) apart = absurd (apart refl)
    others (suc (suc (suc j))) apart = refl

other_held : IsConfined 2 (holding 8 20) (holding 9 20) → ⊥
other_held left =
    let apart : 1 ≢ 2 = λ e. omega (arith, e) in
    let wrong : 9 ≡ 8 = ap (λ (kept : List HeldItem). sum_by (λ k. k.len) kept) (left.held 1 apart) in
    omega (arith, wrong)

waiting : IsConfined 2 (holding 8 20) (record (holding 8 20) { inbox = init 0 0 ∷ [] }) → ⊥
waiting left = let wrong : init 0 0 ∷ [] ≡ [] = left.inbox in cc

-- ---- what a call did

abbrev bad_tag : Handled
bad_tag = refusal_handled (holding 0 20) (refusals.Open BadTag)

abbrev frame : OutFrame
frame = record { to = 1; bytes = 5 ∷ [] }

-- the refusal, and no frame
as_refused : IsAs bad_tag ⊤ (frame ∷ []) (frame ∷ []) (Err (refusals.Open BadTag))
as_refused = (refl, refl, tt)

one_frame_more : IsAs bad_tag ⊤ [] (frame ∷ []) (Err (refusals.Open BadTag)) → ⊥
one_frame_more does = let wrong : frame ∷ [] ≡ [] = does.1 in cc

another_answer : IsAs bad_tag ⊤ [] [] (Ok answers.Repeat) → ⊥
another_answer does = let wrong : Ok answers.Repeat ≡ bad_tag.answer = does.0 in cc

-- ---- what a frame adds to the inbox

-- an item to oneself, and then one that was held
own_first : JoinsInbox (init 0 1 ∷ []) (holding 8 20) (record (holding 8 20) { inbox = init 0 1 ∷ init 1 0 ∷ [] })
own_first = record { opened = λ x. x.from == 1; inbox = refl }

-- an item to oneself doesn't come behind that
own_later : JoinsInbox (init 0 1 ∷ []) (holding 8 20) (record (holding 8 20) { inbox = init 1 0 ∷ init 0 1 ∷ [] }) → ⊥
own_later joins = let wrong : 1 ≡ 0 = ap (λ (xs : List Item). first_sender xs) joins.inbox in omega (arith, wrong)
  where
    first_sender : List Item → ℕ
    first_sender [] = 9
    first_sender (x ∷ xs) = x.from
