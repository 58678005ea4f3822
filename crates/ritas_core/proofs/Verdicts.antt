-- What is done with an item and with an input, by the tests that are made of them in their order.
use Rattle.std.proofs.Common.{◌≡◌, ℕ, ◌+◌, Bool, true, false, not, cond, ◌&&◌, ◌||◌, Option, Some, None, List, refl, sym, ◌∙◌, ap}
use Rattle.std.proofs.Math.Dec.{eqb, leb}
use Rattle.std.proofs.lemmas.Bool.{eqb-true, leb-false}
use Rattle.ritas_base.specs.Numbers.{IsSession}
use Rattle.ritas_base.specs.declared.item.Item.{Item}
use Rattle.ritas_base.specs.declared.item.Kind.TheVariants.{Column}
use Rattle.ritas_base.specs.Messages.{kind_eq}
use Rattle.frame_codec.specs.Inputs.{IsInput, input_fault}
use Rattle.layer_api.specs.Broadcast.{is_of_origin, is_for_origin}
use Rattle.ooc_buffers.specs.Lists.{HeldItem, is_held, held_bytes}
use Rattle.ritas_core.specs.declared.fault.CoreFault.{CoreFault}
use Rattle.ritas_core.specs.declared.fault.CoreFault.TheVariants as faults
use Rattle.ritas_core.specs.declared.verdict.Verdict.{Verdict}
use Rattle.ritas_core.specs.declared.verdict.Verdict.TheVariants as verdicts
use Rattle.ritas_core.specs.Rules.{Rules, seat_of, place_at}
use Rattle.ritas_core.specs.Parts.{Parts, Entry, parts}
use Rattle.ritas_core.specs.Checks.{mark_of, is_item_past, is_item_ahead, is_open, is_taken_again, was_taken, is_repeat, is_found, has_room, verdict_on, window_fault, input_fault_or, input_check, IsGood, IsTakable, IsGivable, IsHistory}
use Rattle.ritas_core.specs.Laws.{LayerLaws}
use Rattle.ritas_core.proofs.TestLaws.{left_false, right_true}
use Rattle.ritas_core.proofs.GoodSlots.{payload_fits, kind_fits}

-- ---- tests
from_neither : (a b : Bool) → (a && not b) ≡ false → a ≡ true → b ≡ true
from_neither true true h e = refl
from_neither true false h e = cc
from_neither false b h e = absurd (cc)

-- ---- the verdict
-- an item of a kind that its slot's origin alone may send, from another
abbrev pub is_not_origin : Item → Bool
is_not_origin item = is_of_origin item.kind && not (eqb item.from item.slot.origin)

-- or of a kind for the origin alone, at another
abbrev pub is_not_for : ℕ → Item → Bool
is_not_for me item = is_for_origin item.kind && not (eqb me item.slot.origin)

-- the verdict by the outcomes of the tests
abbrev pub by_tests : Bool → Bool → Bool → Bool → Bool → Bool → Bool → ℕ → ℕ → Verdict
by_tests not_origin not_for past ahead again opened room mark bytes =
    cond not_origin (verdicts.Refuse faults.NotOrigin)
    (cond not_for (verdicts.Refuse faults.NotForMe)
    (cond past (verdicts.Refuse (faults.Past mark))
    (cond ahead (verdicts.Refuse (faults.Ahead mark))
    (cond again verdicts.Again
    (cond opened verdicts.Take
    (cond room verdicts.Hold (verdicts.Refuse (faults.HeldFull bytes))))))))

pub verdict_by : (r : Rules) (p : Parts) (held : List (List HeldItem)) (item : Item) (not_origin not_for past ahead again opened room : Bool) →
    is_not_origin item ≡ not_origin → is_not_for r.casts.me item ≡ not_for → is_item_past r p item ≡ past → is_item_ahead r p item ≡ ahead →
    is_repeat r p held item ≡ again → is_open r p item ≡ opened → has_room held item ≡ room →
    verdict_on r p held item ≡ by_tests not_origin not_for past ahead again opened room (mark_of r p item.slot) (held_bytes held item.from)
unfolding verdict_on
verdict_by r p held item a b c d e f g is_a is_b is_c is_d is_e is_f is_g =
    let mark = mark_of r p item.slot in
    let bytes = held_bytes held item.from in
    let past = is_item_past r p item in
    let ahead = is_item_ahead r p item in
    let again = is_repeat r p held item in
    let opened = is_open r p item in
    let room = has_room held item in
    ap (λ (x : Bool). by_tests x (is_not_for r.casts.me item) past ahead again opened room mark bytes) is_a
    ∙ ap (λ (x : Bool). by_tests a x past ahead again opened room mark bytes) is_b
    ∙ ap (λ (x : Bool). by_tests a b x ahead again opened room mark bytes) is_c
    ∙ ap (λ (x : Bool). by_tests a b c x again opened room mark bytes) is_d
    ∙ ap (λ (x : Bool). by_tests a b c d x opened room mark bytes) is_e
    ∙ ap (λ (x : Bool). by_tests a b c d e x room mark bytes) is_f
    ∙ ap (λ (x : Bool). by_tests a b c d e f x mark bytes) is_g

-- ---- the verdict of the first test that decides
pub verdict_not_origin : (r : Rules) (p : Parts) (held : List (List HeldItem)) (item : Item) → is_not_origin item ≡ true →
    verdict_on r p held item ≡ verdicts.Refuse faults.NotOrigin
verdict_not_origin r p held item a = verdict_by r p held item _ _ _ _ _ _ _ a refl refl refl refl refl refl

pub verdict_not_for : (r : Rules) (p : Parts) (held : List (List HeldItem)) (item : Item) → is_not_origin item ≡ false → is_not_for r.casts.me item ≡ true →
    verdict_on r p held item ≡ verdicts.Refuse faults.NotForMe
verdict_not_for r p held item a b = verdict_by r p held item _ _ _ _ _ _ _ a b refl refl refl refl refl

pub verdict_past : (r : Rules) (p : Parts) (held : List (List HeldItem)) (item : Item) → is_not_origin item ≡ false → is_not_for r.casts.me item ≡ false →
    is_item_past r p item ≡ true → verdict_on r p held item ≡ verdicts.Refuse (faults.Past (mark_of r p item.slot))
verdict_past r p held item a b c = verdict_by r p held item _ _ _ _ _ _ _ a b c refl refl refl refl

pub verdict_ahead : (r : Rules) (p : Parts) (held : List (List HeldItem)) (item : Item) → is_not_origin item ≡ false → is_not_for r.casts.me item ≡ false →
    is_item_past r p item ≡ false → is_item_ahead r p item ≡ true → verdict_on r p held item ≡ verdicts.Refuse (faults.Ahead (mark_of r p item.slot))
verdict_ahead r p held item a b c d = verdict_by r p held item _ _ _ _ _ _ _ a b c d refl refl refl

pub verdict_again : (r : Rules) (p : Parts) (held : List (List HeldItem)) (item : Item) → is_not_origin item ≡ false → is_not_for r.casts.me item ≡ false →
    is_item_past r p item ≡ false → is_item_ahead r p item ≡ false → is_repeat r p held item ≡ true → verdict_on r p held item ≡ verdicts.Again
verdict_again r p held item a b c d e = verdict_by r p held item _ _ _ _ _ _ _ a b c d e refl refl

pub verdict_take : (r : Rules) (p : Parts) (held : List (List HeldItem)) (item : Item) → is_not_origin item ≡ false → is_not_for r.casts.me item ≡ false →
    is_item_past r p item ≡ false → is_item_ahead r p item ≡ false → is_repeat r p held item ≡ false → is_open r p item ≡ true →
    verdict_on r p held item ≡ verdicts.Take
verdict_take r p held item a b c d e f = verdict_by r p held item _ _ _ _ _ _ _ a b c d e f refl

pub verdict_hold : (r : Rules) (p : Parts) (held : List (List HeldItem)) (item : Item) → is_not_origin item ≡ false → is_not_for r.casts.me item ≡ false →
    is_item_past r p item ≡ false → is_item_ahead r p item ≡ false → is_repeat r p held item ≡ false → is_open r p item ≡ false →
    has_room held item ≡ true → verdict_on r p held item ≡ verdicts.Hold
verdict_hold r p held item a b c d e f g = verdict_by r p held item _ _ _ _ _ _ _ a b c d e f g

pub verdict_full : (r : Rules) (p : Parts) (held : List (List HeldItem)) (item : Item) → is_not_origin item ≡ false → is_not_for r.casts.me item ≡ false →
    is_item_past r p item ≡ false → is_item_ahead r p item ≡ false → is_repeat r p held item ≡ false → is_open r p item ≡ false →
    has_room held item ≡ false → verdict_on r p held item ≡ verdicts.Refuse (faults.HeldFull (held_bytes held item.from))
verdict_full r p held item a b c d e f g = verdict_by r p held item _ _ _ _ _ _ _ a b c d e f g

-- an item that is to be held is neither open nor past
waits_by : (a b past ahead again opened room : Bool) (mark bytes : ℕ) → by_tests a b past ahead again opened room mark bytes ≡ verdicts.Hold → (opened || past) ≡ false
waits_by true b past ahead again opened room mark bytes is = absurd (cc)
waits_by false true past ahead again opened room mark bytes is = absurd (cc)
waits_by false false true ahead again opened room mark bytes is = absurd (cc)
waits_by false false false true again opened room mark bytes is = absurd (cc)
waits_by false false false false true opened room mark bytes is = absurd (cc)
waits_by false false false false false true room mark bytes is = absurd (cc)
waits_by false false false false false false room mark bytes is = refl

pub hold_waits : (r : Rules) (p : Parts) (held : List (List HeldItem)) (item : Item) → verdict_on r p held item ≡ verdicts.Hold →
    (is_open r p item || is_item_past r p item) ≡ false
hold_waits r p held item is =
    waits_by (is_not_origin item) (is_not_for r.casts.me item) (is_item_past r p item) (is_item_ahead r p item) (is_repeat r p held item) (is_open r p item)
    (has_room held item) (mark_of r p item.slot) (held_bytes held item.from)
    (sym (verdict_by r p held item _ _ _ _ _ _ _ refl refl refl refl refl refl refl) ∙ is)

-- the tests of what is looked up, and of what is open
pub is_found_by : (r : Rules) (p : Parts) (held : List (List HeldItem)) (item : Item) (opened again column kept : Bool) →
    is_open r p item ≡ opened → is_taken_again r p item ≡ again → kind_eq item.kind Column ≡ column → is_held held item ≡ kept →
    is_found r p held item ≡ cond opened (again || (not column && kept)) kept
is_found_by r p held item a b c d is_a is_b is_c is_d =
    ap (λ (x : Bool). cond x (is_taken_again r p item || (not (kind_eq item.kind Column) && is_held held item)) (is_held held item)) is_a
    ∙ ap (λ (x : Bool). cond a (x || (not (kind_eq item.kind Column) && is_held held item)) (is_held held item)) is_b
    ∙ ap (λ (x : Bool). cond a (b || (not x && is_held held item)) (is_held held item)) is_c
    ∙ ap (λ (x : Bool). cond a (b || (not c && x)) x) is_d

pub is_open_by : (r : Rules) (p : Parts) (item : Item) (past ahead opens ready : Bool) →
    is_item_past r p item ≡ past → is_item_ahead r p item ≡ ahead → r.service.opens (seat_of r) p.words item.slot ≡ opens →
    (r.casts.at_slot item.slot).ready (place_at r.casts item.slot) r.casts.tags (p.calls item.slot) item ≡ ready →
    is_open r p item ≡ (not past && (not ahead && (opens && ready)))
is_open_by r p item a b c d is_a is_b is_c is_d =
    let opens = r.service.opens (seat_of r) p.words item.slot in
    let ready = (r.casts.at_slot item.slot).ready (place_at r.casts item.slot) r.casts.tags (p.calls item.slot) item in
    ap (λ (x : Bool). not x && (not (is_item_ahead r p item) && (opens && ready))) is_a
    ∙ ap (λ (x : Bool). not a && (not x && (opens && ready))) is_b
    ∙ ap (λ (x : Bool). not a && (not b && (x && ready))) is_c
    ∙ ap (λ (x : Bool). not a && (not b && (c && x))) is_d

-- ---- an item that is taken
record Taken (a b c d e f : Bool) : Type 0 where
  origin : a ≡ false
  receiver : b ≡ false
  first : e ≡ false
  opened : f ≡ true

taken_from : (a b c d e f g : Bool) (mark bytes : ℕ) → by_tests a b c d e f g mark bytes ≡ verdicts.Take → Taken a b c d e f
taken_from true b c d e f g mark bytes h = absurd (cc)
taken_from false true c d e f g mark bytes h = absurd (cc)
taken_from false false true d e f g mark bytes h = absurd (cc)
taken_from false false false true e f g mark bytes h = absurd (cc)
taken_from false false false false true f g mark bytes h = absurd (cc)
taken_from false false false false false true g mark bytes h = record { origin = refl; receiver = refl; first = refl; opened = refl }
taken_from false false false false false false true mark bytes h = absurd (cc)
taken_from false false false false false false false mark bytes h = absurd (cc)

-- what is open and repeats nothing was not taken before
not_again : (column opened again taken kept : Bool) → opened ≡ true → (column ≡ false → again ≡ taken) →
    cond column (cond opened again kept) (taken || kept) ≡ false → again ≡ false
not_again true true again taken kept e same h = h
not_again true false again taken kept e same h = absurd (cc)
not_again false opened again taken kept e same h = same refl ∙ left_false taken kept h

ready_from : (a b c d : Bool) → (a && (b && (c && d))) ≡ true → d ≡ true
ready_from a b c d h = right_true c d (right_true b (c && d) (right_true a (b && (c && d)) h))

takable_by : (r : Rules) → LayerLaws r → (p : Parts) (held : List (List HeldItem)) (item : Item) → IsGood r item →
    Taken (is_not_origin item) (is_not_for r.casts.me item) (is_item_past r p item) (is_item_ahead r p item) (is_repeat r p held item) (is_open r p item) →
    IsTakable r p item
takable_by r laws p held item good taken = record {
  good = good;
  may = record {
    here = refl;
    kind = kind_fits r laws item good.in_grammar;
    sender = good.sender;
    origin = λ only. eqb-true item.from item.slot.origin (from_neither (is_of_origin item.kind) (eqb item.from item.slot.origin) taken.origin only);
    receiver = λ only. eqb-true r.casts.me item.slot.origin (from_neither (is_for_origin item.kind) (eqb r.casts.me item.slot.origin) taken.receiver only);
    payload = payload_fits r laws item good.in_grammar;
    in_time = ready_from (not (is_item_past r p item)) (not (is_item_ahead r p item)) (r.service.opens (seat_of r) p.words item.slot)
        ((r.casts.at_slot item.slot).ready (place_at r.casts item.slot) r.casts.tags (p.calls item.slot) item) taken.opened;
  };
  is_open = taken.opened;
  first = not_again (kind_eq item.kind Column) (is_open r p item) (is_taken_again r p item) (was_taken p item) (is_held held item) taken.opened
      ((laws.casts item.slot).repeats_is (place_at r.casts item.slot) r.casts.tags (p.calls item.slot) item) taken.first;
}

pub takable_from : (r : Rules) → LayerLaws r → (h : List Entry) → IsHistory r h → (held : List (List HeldItem)) (item : Item) → IsGood r item →
    verdict_on r (parts r h) held item ≡ verdicts.Take → IsTakable r (parts r h) item
takable_from r laws h met held item good takes =
    let p = parts r h in
    let by = verdict_by r p held item _ _ _ _ _ _ _ refl refl refl refl refl refl refl in
    takable_by r laws p held item good
    (taken_from (is_not_origin item) (is_not_for r.casts.me item) (is_item_past r p item) (is_item_ahead r p item) (is_repeat r p held item)
    (is_open r p item) (has_room held item) (mark_of r p item.slot) (held_bytes held item.from) (sym by ∙ takes))

-- ---- an input
record Inside (a b c : Bool) : Type 0 where
  given : a ≡ false
  full : b ≡ false
  high : c ≡ false

inside_from : (given full high : Bool) (number : ℕ) →
    cond given (Some faults.InputTaken) (cond (full || high) (Some (faults.WindowFull number)) None) ≡ None → Inside given full high
inside_from true full high number h = absurd (cc)
inside_from false true high number h = absurd (cc)
inside_from false false true number h = absurd (cc)
inside_from false false false number h = record { given = refl; full = refl; high = refl }

rest_none : (o : Option ℕ) (rest : Option CoreFault) → input_fault_or o rest ≡ None → rest ≡ None
rest_none None rest h = h
rest_none (Some place) rest h = absurd (cc)

pub givable_from : (r : Rules) (p : Parts) (v : List ℕ) → IsSession r.casts.numbers → r.service.serves r.mode.root ≡ true → IsInput r.casts.numbers r.mode v → input_check r p v ≡ None → IsGivable r p v
unfolding input_check
givable_from r p v session served good free =
    let next = r.service.next_number (seat_of r) p.words in
    let base = r.service.base (seat_of r) p.words r.casts.me in
    let inside = inside_from (r.service.given (seat_of r) p.words) (leb (base + 64) next) (leb 1000000 next) next
    (rest_none (input_fault r.casts.numbers r.mode v) (window_fault r p) free) in
    record {
      in_grammar = good;
      may = record {
        session = session;
        served = served;
        good = good;
        first = inside.given;
        room = leb-false (base + 64) next inside.full;
        number = leb-false 1000000 next inside.high;
      };
    }

-- what is wrong with an input, by the tests in their order
pub input_check_by : (r : Rules) (p : Parts) (v : List ℕ) (place : Option ℕ) (given full high : Bool) →
    input_fault r.casts.numbers r.mode v ≡ place → r.service.given (seat_of r) p.words ≡ given →
    leb (r.service.base (seat_of r) p.words r.casts.me + 64) (r.service.next_number (seat_of r) p.words) ≡ full →
    leb 1000000 (r.service.next_number (seat_of r) p.words) ≡ high →
    input_check r p v ≡ input_fault_or place
    (cond given (Some faults.InputTaken) (cond (full || high) (Some (faults.WindowFull (r.service.next_number (seat_of r) p.words))) None))
unfolding input_check
input_check_by r p v place given full high is_place is_given is_full is_high =
    let next = r.service.next_number (seat_of r) p.words in
    let base = r.service.base (seat_of r) p.words r.casts.me in
    let was = r.service.given (seat_of r) p.words in
    let by : Option ℕ → Bool → Bool → Bool → Option CoreFault = λ o g x y.
    input_fault_or o (cond g (Some faults.InputTaken) (cond (x || y) (Some (faults.WindowFull next)) None)) in
    ap (λ (o : Option ℕ). by o was (leb (base + 64) next) (leb 1000000 next)) is_place
    ∙ ap (λ (g : Bool). by place g (leb (base + 64) next) (leb 1000000 next)) is_given
    ∙ ap (λ (x : Bool). by place given x (leb 1000000 next)) is_full
    ∙ ap (λ (x : Bool). by place given full x) is_high
