-- Items of the grammar: read again, with another kind or sender, and made from inputs.
use Rattle.std.proofs.Common.{◌≡◌, ℕ, ◌<◌, ◌≤◌, ◌&&◌, ◌||◌, Bool, true, false, not, cond, eqb, leb, ltb, List, length, None, Result, Ok, refl, sym, ap, subst, ◌∙◌, arith, inl, inr, ◌⊎◌}
use Rattle.std.proofs.lemmas.Bool.{eqb-true, leb-true, lt-ltb, and_parts, and_from, or_right, or_cases}
use Rattle.ritas_base.specs.Limits.{number_limit}
use Rattle.ritas_base.specs.Numbers.{Numbers, IsSession}
use Rattle.ritas_base.specs.Slots.{within, is_atomic, has_class, has_number, has_tries, slot_fault, by_echo, form_of, command_slot}
use Rattle.ritas_base.specs.Versions.{reliable_form}
use Rattle.ritas_base.specs.declared.slot.Slot.{Slot}
use Rattle.ritas_base.specs.declared.mode.Mode.{Mode}
use Rattle.ritas_base.specs.declared.mode.FrameVersion.{FrameVersion}
use Rattle.ritas_base.specs.declared.mode.FrameVersion.TheVariants as versions
use Rattle.ritas_base.specs.declared.item.Item.{Item}
use Rattle.ritas_base.specs.declared.item.Kind.{Kind}
use Rattle.ritas_base.specs.declared.item.Kind.TheVariants as kinds
use Rattle.frame_codec.specs.declared.fault.BodyFault.{BodyFault}
use Rattle.frame_codec.specs.Format.{Format, Is}
use Rattle.frame_codec.specs.Grammar.{class1, class2, class3, bit, value, carries_digest, digest, payload}
use Rattle.frame_codec.specs.Body.{IsInGrammar, Spells, spelling, body_answer, is_of_form, carries_value}
use Rattle.frame_codec.specs.Inputs.{IsInput, input_format, takes_input, first_kind}
use Rattle.frame_codec.proofs.Bodies.{spells_answer}
use Rattle.frame_codec.proofs.Spans.{value_below}

-- ---- read again

same_item : (a b : Item) (r : Result Item BodyFault) → r ≡ Ok a → r ≡ Ok b → a ≡ b
same_item a b r x y = cc

-- bytes spell one item
pub one_item : (p : Numbers) (mode : Mode) (from : ℕ) (bytes : List ℕ) (a b : Item) → Spells p mode from bytes a → Spells p mode from bytes b → a ≡ b
one_item p mode from bytes a b x y = same_item a b _ (spells_answer p mode from bytes a x) (spells_answer p mode from bytes b y)

pub item_spells : (p : Numbers) (mode : Mode) (item : Item) → IsInGrammar p mode item → Spells p mode item.from (spelling item) item
item_spells p mode item is = record { sender = refl; is_spelling = refl; in_grammar = is }

pub item_again : (p : Numbers) (mode : Mode) (from : ℕ) (item : Item) → IsInGrammar p mode item
    → body_answer p mode from (spelling item) ≡ Ok (record item { from = from })
item_again p mode from item is =
    let other : Item = record item { from = from } in
    let in_grammar : IsInGrammar p mode other = record { session = is.session; slot = is.slot; kind = is.kind; payload_is = is.payload_is } in
    spells_answer p mode from (spelling item) other (record { sender = refl; is_spelling = refl; in_grammar = in_grammar })

pub spelling_short : (p : Numbers) (mode : Mode) (item : Item) → IsInGrammar p mode item → length (spelling item) ≤ 15952
spelling_short p mode item is = omega (arith, value_below p mode item is)

-- ---- the slot's value

chosen : (t : Bool) (a b : Format) → not t ≡ true → cond t a b ≡ b
chosen true a b e = absurd cc
chosen false a b e = refl

pub payload_is_value : (p : Numbers) (mode : Mode) (kind : Kind) (s : Slot) → carries_value (form_of mode s) kind ≡ true → payload p mode kind s ≡ value p mode.root s
unfolding payload
payload_is_value p mode kinds.Hashes s e = absurd cc
payload_is_value p mode kinds.Column s e = absurd cc
payload_is_value p mode kinds.Init s e = chosen (carries_digest (form_of mode s) kinds.Init) digest (value p mode.root s) e
payload_is_value p mode kinds.Echo s e = chosen (carries_digest (form_of mode s) kinds.Echo) digest (value p mode.root s) e
payload_is_value p mode kinds.Ready s e = chosen (carries_digest (form_of mode s) kinds.Ready) digest (value p mode.root s) e
payload_is_value p mode kinds.Send s e = chosen (carries_digest (form_of mode s) kinds.Send) digest (value p mode.root s) e
payload_is_value p mode kinds.Want s e = chosen (carries_digest (form_of mode s) kinds.Want) digest (value p mode.root s) e
payload_is_value p mode kinds.Value s e = chosen (carries_digest (form_of mode s) kinds.Value) digest (value p mode.root s) e

pub value_from : (p : Numbers) (mode : Mode) (item : Item) → carries_value (form_of mode item.slot) item.kind ≡ true → IsInGrammar p mode item
    → Is (value p mode.root item.slot) item.value
value_from p mode item carries is =
    subst (λ (f : Format). Is f item.value) (payload_is_value p mode item.kind item.slot carries) is.payload_is

pub item_from : (p : Numbers) (mode : Mode) (item : Item) → carries_value (form_of mode item.slot) item.kind ≡ true → IsSession p
    → slot_fault p mode item.slot ≡ None → is_of_form (form_of mode item.slot) item.kind ≡ true
    → Is (value p mode.root item.slot) item.value → IsInGrammar p mode item
item_from p mode item carries session slot goes is = record {
  session = session;
  slot = slot;
  kind = goes;
  payload_is = subst (λ (f : Format). Is f item.value) (sym (payload_is_value p mode item.kind item.slot carries)) is;
}

pub same_senders : (p : Numbers) (mode : Mode) (a b : Item) → a.kind ≡ b.kind → a.slot ≡ b.slot → a.value ≡ b.value
    → IsInGrammar p mode a → IsInGrammar p mode b
same_senders p mode a b kind slot same is = record {
  session = is.session;
  slot = subst (λ (s : Slot). slot_fault p mode s ≡ None) slot is.slot;
  kind = subst (λ (s : Slot). is_of_form (form_of mode s) b.kind ≡ true) slot (subst (λ (k : Kind). is_of_form (form_of mode a.slot) k ≡ true) kind is.kind);
  payload_is = subst (Is (payload p mode b.kind b.slot)) same (subst (λ (s : Slot). Is (payload p mode b.kind s) a.value) slot (subst (λ (k : Kind). Is (payload p mode k a.slot) a.value) kind is.payload_is));
}

pub same_kinds : (p : Numbers) (mode : Mode) (a b : Item) → carries_value (form_of mode a.slot) a.kind ≡ true → carries_value (form_of mode b.slot) b.kind ≡ true
    → is_of_form (form_of mode b.slot) b.kind ≡ true → a.slot ≡ b.slot → a.value ≡ b.value → IsInGrammar p mode a → IsInGrammar p mode b
same_kinds p mode a b x y goes slot same is =
    let other : Item = record a { kind = b.kind } in
    let here : is_of_form (form_of mode a.slot) b.kind ≡ true = ap (λ (s : Slot). is_of_form (form_of mode s) b.kind) slot ∙ goes in
    let carries : carries_value (form_of mode a.slot) b.kind ≡ true = ap (λ (s : Slot). carries_value (form_of mode s) b.kind) slot ∙ y in
    let made : IsInGrammar p mode other = item_from p mode other carries is.session is.slot here (value_from p mode a x is) in
    same_senders p mode other b refl slot same made

-- ---- inputs

class_value : (p : Numbers) (root k : ℕ) (s : Slot) → s.class ≡ k → value p root s ≡ value p root (record s { class = k })
class_value p root k s e = ap (λ (c : ℕ). value p root (record s { class = c })) e

value_of_1 : (p : Numbers) (root : ℕ) (s : Slot) → s.class ≡ 1 → value p root s ≡ class1 root
unfolding value
value_of_1 p root s e = class_value p root 1 s e

value_of_2 : (p : Numbers) (root : ℕ) (s : Slot) → s.class ≡ 2 → value p root s ≡ class2 p root
unfolding value
value_of_2 p root s e = class_value p root 2 s e

value_of_3 : (p : Numbers) (root : ℕ) (s : Slot) → s.class ≡ 3 → value p root s ≡ class3 p root
unfolding value
value_of_3 p root s e = class_value p root 3 s e

value_of_5 : (p : Numbers) (root : ℕ) (s : Slot) → s.class ≡ 5 → value p root s ≡ bit s.step
unfolding value
value_of_5 p root s e = class_value p root 5 s e

input_by : (t3 t4 t5 : Bool) (p : Numbers) (root : ℕ) (s : Slot) (bytes : List ℕ)
    → cond t3 (eqb s.class 5 && eqb s.step 1) (cond t4 (eqb s.class 3) (cond t5 (eqb s.class 2) (eqb s.class 1))) ≡ true
    → Is (cond t3 (bit 1) (cond t4 (class3 p root) (cond t5 (class2 p root) (class1 root)))) bytes → Is (value p root s) bytes
input_by true t4 t5 p root s bytes e is =
    let both = and_parts (eqb s.class 5) (eqb s.step 1) e in
    subst (λ (f : Format). Is f bytes) (sym (value_of_5 p root s (eqb-true s.class 5 both.0) ∙ ap bit (eqb-true s.step 1 both.1))) is
input_by false true t5 p root s bytes e is = subst (λ (f : Format). Is f bytes) (sym (value_of_3 p root s (eqb-true s.class 3 e))) is
input_by false false true p root s bytes e is = subst (λ (f : Format). Is f bytes) (sym (value_of_2 p root s (eqb-true s.class 2 e))) is
input_by false false false p root s bytes e is = subst (λ (f : Format). Is f bytes) (sym (value_of_1 p root s (eqb-true s.class 1 e))) is

pub input_value : (p : Numbers) (mode : Mode) (s : Slot) (bytes : List ℕ) → takes_input mode.root s ≡ true
    → IsInput p mode bytes → Is (value p mode.root s) bytes
unfolding input_format
input_value p mode s bytes e is = input_by (eqb mode.root 3) (eqb mode.root 4) (eqb mode.root 5) p mode.root s bytes e is

-- ---- commands

-- a root service with commands is 1, 2, 6 or 7
has_commands : (t : Bool) (root : ℕ) → (t ≡ true → root ≤ 2) → (t || is_atomic root) ≡ true → (root ≤ 2) ⊎ (6 ≤ root)
has_commands true root low e = inl (low refl)
has_commands false root low e =
    elim (or_cases (eqb root 6) (eqb root 7) e) [
      | inl six ↦ inr (omega (arith, eqb-true root 6 six))
      | inr seven ↦ inr (omega (arith, eqb-true root 7 seven))
    ]

is_between : (root : ℕ) → within 3 5 root ≡ true → (3 ≤ root) × (root ≤ 5)
is_between root e =
    let both = and_parts (leb 3 root) (leb root 5) e in
    (leb-true 3 root both.0, leb-true root 5 both.1)

not_between : (t : Bool) (root : ℕ) → (root ≤ 2) ⊎ (6 ≤ root) → (t ≡ true → (3 ≤ root) × (root ≤ 5)) → not t ≡ true
not_between false root is between = refl
not_between true root (inl low) between = absurd (omega (arith, low, (between refl).0))
not_between true root (inr six) between = absurd (omega (arith, six, (between refl).1))

command_numbered : (root num : ℕ) → has_class root 1 ≡ true → num < number_limit → has_number root num ≡ true
unfolding has_class
command_numbered root num has small =
    let is = has_commands (leb root 2) root (leb-true root 2) has in
    and_from (ltb num number_limit) (eqb num 0 || not (within 3 5 root)) (lt-ltb num number_limit small)
    (or_right (eqb num 0) (not (within 3 5 root)) (not_between (within 3 5 root) root is (is_between root)))

no_tries : (t : Bool) (f : ℕ) → cond (t && false) (leb 0 f) true ≡ true
no_tries true f = refl
no_tries false f = refl

pub command_slot_right : (p : Numbers) (mode : Mode) (origin num : ℕ) → has_class mode.root 1 ≡ true → origin < p.n → num < number_limit
    → slot_fault p mode (command_slot origin num) ≡ None
unfolding slot_fault
command_slot_right p mode origin num has lt small =
    rw (has, command_numbered mode.root num has small, no_tries (has_tries mode.root) p.f, lt-ltb origin p.n lt) refl

first_by : (version : FrameVersion) (class : ℕ) (echo : Bool) → is_of_form (cond echo 2 (reliable_form version class)) (first_kind echo) ≡ true
first_by versions.One class true = refl
first_by versions.Two class true = refl
first_by versions.Three class true = refl
first_by versions.One class false = refl
first_by versions.Two class false = refl
first_by versions.Three class false = of_three (eqb class 5)
  where
    of_three : (bit : Bool) → is_of_form (cond bit 1 3) (first_kind false) ≡ true
    of_three true = refl
    of_three false = refl

first_goes : (mode : Mode) (s : Slot) → is_of_form (form_of mode s) (first_kind (by_echo mode s)) ≡ true
unfolding form_of
first_goes mode s = first_by mode.version s.class (by_echo mode s)

carries_by : (version : FrameVersion) (class : ℕ) (echo : Bool) → carries_value (cond echo 2 (reliable_form version class)) (first_kind echo) ≡ true
carries_by versions.One class true = refl
carries_by versions.Two class true = refl
carries_by versions.Three class true = refl
carries_by versions.One class false = refl
carries_by versions.Two class false = refl
carries_by versions.Three class false = of_three (eqb class 5)
  where
    of_three : (bit : Bool) → carries_value (cond bit 1 3) (first_kind false) ≡ true
    of_three true = refl
    of_three false = refl

first_carries : (mode : Mode) (s : Slot) → carries_value (form_of mode s) (first_kind (by_echo mode s)) ≡ true
unfolding form_of
first_carries mode s = carries_by mode.version s.class (by_echo mode s)

command_takes : (t3 t4 t5 : Bool) (root : ℕ) → (root ≤ 2) ⊎ (6 ≤ root) → (t3 ≡ true → root ≡ 3) → (t4 ≡ true → root ≡ 4) → (t5 ≡ true → root ≡ 5)
    → cond t3 false (cond t4 false (cond t5 false true)) ≡ true
command_takes false false false root is a b c = refl
command_takes true t4 t5 root (inl low) a b c = absurd (omega (arith, low, a refl))
command_takes true t4 t5 root (inr six) a b c = absurd (omega (arith, six, a refl))
command_takes false true t5 root (inl low) a b c = absurd (omega (arith, low, b refl))
command_takes false true t5 root (inr six) a b c = absurd (omega (arith, six, b refl))
command_takes false false true root (inl low) a b c = absurd (omega (arith, low, c refl))
command_takes false false true root (inr six) a b c = absurd (omega (arith, six, c refl))

command_takes_input : (root origin num : ℕ) → has_class root 1 ≡ true → takes_input root (command_slot origin num) ≡ true
unfolding has_class
command_takes_input root origin num has =
    command_takes (eqb root 3) (eqb root 4) (eqb root 5) root (has_commands (leb root 2) root (leb-true root 2) has) (eqb-true root 3) (eqb-true root 4) (eqb-true root 5)

-- an input of a root service with commands is one in the grammar
pub command_is : (p : Numbers) (mode : Mode) (item : Item) (num : ℕ) → IsSession p → has_class mode.root 1 ≡ true
    → item.slot ≡ command_slot item.slot.origin num → item.slot.origin < p.n → num < number_limit
    → item.kind ≡ first_kind (by_echo mode item.slot) → IsInput p mode item.value → IsInGrammar p mode item
command_is p mode item num session has slot lt small kind is =
    let echo = by_echo mode item.slot in
    let right : slot_fault p mode item.slot ≡ None = ap (slot_fault p mode) slot ∙ command_slot_right p mode item.slot.origin num has lt small in
    let takes : takes_input mode.root item.slot ≡ true = ap (takes_input mode.root) slot ∙ command_takes_input mode.root item.slot.origin num has in
    let carries : carries_value (form_of mode item.slot) item.kind ≡ true = ap (carries_value (form_of mode item.slot)) kind ∙ first_carries mode item.slot in
    let goes : is_of_form (form_of mode item.slot) item.kind ≡ true = ap (is_of_form (form_of mode item.slot)) kind ∙ first_goes mode item.slot in
    item_from p mode item carries session right goes (input_value p mode item.slot item.value takes is)
