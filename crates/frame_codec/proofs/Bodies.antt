-- The answer is an item exactly where the bytes spell it.
use Rattle.std.proofs.Common.{◌≡◌, ℕ, zero, suc, ◌^◌, ◌<◌, ◌≤◌, Bool, true, false, cond, ltb, eqb, List, [], ◌∷◌, ◌++◌, length, get_or, take, drop, Option, Some, None, Result, Ok, Err, refl, sym, ap, subst, ◌∙◌, arith, lit<, ◌||◌, not, inl, inr, ◌⊎◌}
use Rattle.std.specs.Prelude.{IfOk, OnOk, slice_index}
use Rattle.std.proofs.lemmas.Bool.{ltb-false, ltb-true, le-ltb, eqb-true, ne_eqb, and_parts}
use Rattle.std.proofs.lemmas.List.{nil_from_length}
use Rattle.std.proofs.lemmas.Nat.{be_bytes_4, from_be_bytes-to_be_bytes_4}
use Rattle.ritas_base.specs.Limits.{number_limit}
use Rattle.ritas_base.specs.Numbers.{Numbers, IsSession}
use Rattle.ritas_base.specs.Slots.{slot_fault, slot_bytes, by_echo, form_of, within}
use Rattle.ritas_base.specs.Versions.{reliable_form}
use Rattle.ritas_base.specs.SlotLaws.{right_is}
use Rattle.ritas_base.specs.declared.slot.Slot.{Slot}
use Rattle.ritas_base.specs.declared.slot.SlotFault.{SlotFault}
use Rattle.ritas_base.specs.declared.slot.SlotFault.TheVariants as slot_faults
use Rattle.ritas_base.specs.declared.mode.Mode.{Mode}
use Rattle.ritas_base.specs.declared.mode.FrameVersion.{FrameVersion}
use Rattle.ritas_base.specs.declared.mode.FrameVersion.TheVariants as versions
use Rattle.ritas_base.specs.declared.item.Item.{Item}
use Rattle.ritas_base.specs.declared.item.Kind.{Kind}
use Rattle.ritas_base.specs.declared.item.Kind.TheVariants as kinds
use Rattle.frame_codec.specs.declared.fault.BodyFault.{BodyFault}
use Rattle.frame_codec.specs.declared.fault.BodyFault.TheVariants as faults
use Rattle.frame_codec.specs.Format.{read}
use Rattle.frame_codec.specs.Grammar.{payload}
use Rattle.frame_codec.specs.Body.{kind_byte, kind_of, body_kind, is_of_version, if_of_version, is_of_form, slot_of, IsInGrammar, Spells, spelling, unless, slot_fault_of, slot_answer, kind_answer, head_answer, payload_fault, body_answer, Answers}
use Rattle.ritas_base.specs.Bytes.{IsBytes}
use Rattle.frame_codec.proofs.Formats.{bind_ok, read_is, is_read}

abbrev fault_if : Bool → BodyFault → Option BodyFault
fault_if t x = cond t None (Some x)

abbrev the_rest : List ℕ → Result (List ℕ) ℕ
the_rest rest = Ok rest

-- ---- kinds

pick : (t : Bool) (k : Kind) (rest : Option Kind) (kind : Kind) → cond t (Some k) rest ≡ Some kind → ((t ≡ true) × (k ≡ kind)) ⊎ (rest ≡ Some kind)
pick true k rest kind e = inl (refl, cc)
pick false k rest kind e = inr e

found : (b : ℕ) (k kind : Kind) → (eqb b (kind_byte k) ≡ true) × (k ≡ kind) → kind_byte kind ≡ b
found b k kind h = ap kind_byte (sym h.1) ∙ sym (eqb-true b (kind_byte k) h.0)

pub kind_back : (b : ℕ) (kind : Kind) → kind_of b ≡ Some kind → kind_byte kind ≡ b
kind_back b kind e =
    elim (pick (eqb b 1) kinds.Init _ kind e) [
      | inl h ↦ found b kinds.Init kind h
      | inr e ↦ elim (pick (eqb b 2) kinds.Echo _ kind e) [
        | inl h ↦ found b kinds.Echo kind h
        | inr e ↦ elim (pick (eqb b 3) kinds.Ready _ kind e) [
          | inl h ↦ found b kinds.Ready kind h
          | inr e ↦ elim (pick (eqb b 4) kinds.Send _ kind e) [
            | inl h ↦ found b kinds.Send kind h
            | inr e ↦ elim (pick (eqb b 5) kinds.Hashes _ kind e) [
              | inl h ↦ found b kinds.Hashes kind h
              | inr e ↦ elim (pick (eqb b 6) kinds.Column _ kind e) [
                | inl h ↦ found b kinds.Column kind h
                | inr e ↦ elim (pick (eqb b 7) kinds.Want _ kind e) [
                  | inl h ↦ found b kinds.Want kind h
                  | inr e ↦ elim (pick (eqb b 8) kinds.Value None kind e) [
                    | inl h ↦ found b kinds.Value kind h
                    | inr e ↦ absurd cc
                  ]
                ]
              ]
            ]
          ]
        ]
      ]
    ]

pub kind_again : (kind : Kind) → kind_of (kind_byte kind) ≡ Some kind
kind_again kinds.Init = refl
kind_again kinds.Echo = refl
kind_again kinds.Ready = refl
kind_again kinds.Send = refl
kind_again kinds.Hashes = refl
kind_again kinds.Column = refl
kind_again kinds.Want = refl
kind_again kinds.Value = refl

-- a kind that a version's frames have is theirs
versioned : (version : FrameVersion) (o : Option Kind) (kind : Kind) → if_of_version version o ≡ Some kind → o ≡ Some kind
versioned version None kind e = absurd cc
versioned version (Some k) kind e = go (is_of_version version k) e
  where
    go : (t : Bool) → cond t (Some k) None ≡ Some kind → Some k ≡ Some kind
    go true e = e
    go false e = absurd cc

-- a form's kinds are those of its version
by_version : (version : FrameVersion) (class : ℕ) (echo : Bool) (kind : Kind) → is_of_form (cond echo 2 (reliable_form version class)) kind ≡ true → is_of_version version kind ≡ true
by_version versions.One class true kinds.Want e = absurd cc
by_version versions.One class false kinds.Want e = absurd cc
by_version versions.One class true kinds.Value e = absurd cc
by_version versions.One class false kinds.Value e = absurd cc
by_version versions.One class echo kinds.Init e = refl
by_version versions.One class echo kinds.Echo e = refl
by_version versions.One class echo kinds.Ready e = refl
by_version versions.One class echo kinds.Send e = refl
by_version versions.One class echo kinds.Hashes e = refl
by_version versions.One class echo kinds.Column e = refl
by_version versions.Two class echo kind e = refl
by_version versions.Three class echo kind e = refl

has_version : (mode : Mode) (s : Slot) (kind : Kind) → is_of_form (form_of mode s) kind ≡ true → is_of_version mode.version kind ≡ true
unfolding form_of
has_version mode s kind e = by_version mode.version s.class (by_echo mode s) kind e

-- ---- slots

pub number_fits : (p : Numbers) (mode : Mode) (s : Slot) → slot_fault p mode s ≡ None → s.a < 2 ^ 32
number_fits p mode s e =
    let d = and_parts (ltb s.a number_limit) (eqb s.a 0 || not (within 3 5 mode.root)) (right_is p mode s e).number in
    omega (arith, ltb-true s.a number_limit d.0)

pub slot_again : (s : Slot) → s.a < 2 ^ 32 → slot_of (slot_bytes s) ≡ s
unfolding slot_of
slot_again s lt = ap (λ (a : ℕ). let t : Slot = record s { a = a } in t) (from_be_bytes-to_be_bytes_4 s.a lt)

four_fit : (a b c d : ℕ) → a < 256 → b < 256 → c < 256 → d < 256 → IsBytes (a ∷ b ∷ c ∷ d ∷ [])
four_fit a b c d p q r s zero = p
four_fit a b c d p q r s (suc zero) = q
four_fit a b c d p q r s (suc (suc zero)) = r
four_fit a b c d p q r s (suc (suc (suc zero))) = s
four_fit a b c d p q r s (suc (suc (suc (suc i)))) = lit< tt

pub slot_back : (bytes : List ℕ) → IsBytes bytes → 10 ≤ length bytes → bytes ≡ get_or bytes 0 0 ∷ slot_bytes (slot_of (take 9 (drop 1 bytes))) ++ drop 10 bytes
unfolding slot_of
slot_back (b ∷ c ∷ a3 ∷ a2 ∷ a1 ∷ a0 ∷ t ∷ r ∷ s ∷ o ∷ v) fits le =
    let number = a3 ∷ a2 ∷ a1 ∷ a0 ∷ [] in
    let fit = four_fit a3 a2 a1 a0 (fits 2) (fits 3) (fits 4) (fits 5) in
    ap (λ (x : List ℕ). b ∷ c ∷ x ++ t ∷ r ∷ s ∷ o ∷ v) (sym (be_bytes_4 number _ refl fit refl))
slot_back _ fits le = absurd (omega arith)

-- ---- an answer that is an item

empty_ok : {A : Type 0} (t : Bool) (fault : BodyFault) (answer : Result A BodyFault) (x : A) → cond t (Err fault) answer ≡ Ok x → (t ≡ false) × (answer ≡ Ok x)
empty_ok true fault answer x e = absurd cc
empty_ok false fault answer x e = (refl, e)

when_ok : {A : Type 0} (t : Bool) (fault : BodyFault) (y x : A) → cond t (Ok y) (Err fault) ≡ Ok x → (t ≡ true) × (y ≡ x)
when_ok true fault y x e = (refl, cc)
when_ok false fault y x e = absurd cc

slot_ok : {A : Type 0} (o : Option SlotFault) (answer : Result A BodyFault) (x : A) → unless (slot_fault_of o) answer ≡ Ok x → (o ≡ None) × (answer ≡ Ok x)
slot_ok None answer x e = (refl, e)
slot_ok (Some y) answer x e = absurd cc

unless_ok : {A : Type 0} (o : Option BodyFault) (y x : A) → unless o (Ok y) ≡ Ok x → (o ≡ None) × (y ≡ x)
unless_ok None y x e = (refl, cc)
unless_ok (Some z) y x e = absurd cc

no_rest : (t : Bool) (x : BodyFault) → fault_if t x ≡ None → t ≡ true
no_rest true x e = refl
no_rest false x e = absurd cc

no_fault : (len : ℕ) (r : Result (List ℕ) ℕ) → payload_fault len r ≡ None → r ≡ Ok []
no_fault len (Ok rest) e =
    let nothing : rest ≡ [] = nil_from_length rest (eqb-true _ _ (no_rest (eqb (length rest) 0) _ e)) in
    ap the_rest nothing
no_fault len (Err left) e = absurd cc

record Head (p : Numbers) (mode : Mode) (bytes : List ℕ) (head : Kind × Slot) : Type 0 where
  long : 10 ≤ length bytes
  kind : kind_of (slice_index bytes 0) ≡ Some head.0
  made : slot_of (take 9 (drop 1 bytes)) ≡ head.1
  right : slot_fault p mode head.1 ≡ None
  goes : is_of_form (form_of mode head.1) head.0 ≡ true

first_kind : (version : FrameVersion) (t : Bool) (b : ℕ) (kind : Kind) → cond t None (if_of_version version (kind_of b)) ≡ Some kind → kind_of b ≡ Some kind
first_kind version true b kind e = absurd cc
first_kind version false b kind e = versioned version (kind_of b) kind e

kind_ok : (p : Numbers) (mode : Mode) (bytes : List ℕ) (o : Option Kind) (head : Kind × Slot) → body_kind mode.version bytes ≡ o → kind_answer p mode bytes o ≡ Ok head → Head p mode bytes head
kind_ok p mode bytes None head is e = absurd cc
kind_ok p mode bytes (Some kind) head is e =
    let slot = slot_of (take 9 (drop 1 bytes)) in
    let a = empty_ok (ltb (length bytes) 10) (faults.Slot slot_faults.Whole) (slot_answer p mode kind slot) head e in
    let b = slot_ok (slot_fault p mode slot) (cond (is_of_form (form_of mode slot) kind) (Ok (kind, slot)) (Err faults.Kind)) head a.1 in
    let w = when_ok (is_of_form (form_of mode slot) kind) faults.Kind (kind, slot) head b.1 in
    subst (Head p mode bytes) w.1 (record { long = ltb-false _ _ a.0; kind = first_kind mode.version (eqb (length bytes) 0) (slice_index bytes 0) kind is; made = refl; right = b.0; goes = w.0 })

head_ok : (p : Numbers) (mode : Mode) (bytes : List ℕ) (head : Kind × Slot) → head_answer p mode bytes ≡ Ok head → Head p mode bytes head
unfolding head_answer
head_ok p mode bytes head e = kind_ok p mode bytes (body_kind mode.version bytes) head refl e

-- the item of this kind and slot
abbrev made_of : ℕ → List ℕ → Kind × Slot → Item
made_of from bytes head = record { from = from; kind = head.0; slot = head.1; value = drop 10 bytes }

record Answered (p : Numbers) (mode : Mode) (from : ℕ) (bytes : List ℕ) (item : Item) : Type 0 where
  head : Kind × Slot
  found : Head p mode bytes head
  whole : read (payload p mode head.0 head.1) (drop 10 bytes) ≡ Ok []
  made : made_of from bytes head ≡ item

answered : (p : Numbers) (mode : Mode) (from : ℕ) (bytes : List ℕ) (item : Item) → body_answer p mode from bytes ≡ Ok item → Answered p mode from bytes item
unfolding body_answer
answered p mode from bytes item e =
    let b = bind_ok (head_answer p mode bytes) (λ head. unless (payload_fault (length bytes) (read (payload p mode head.0 head.1) (drop 10 bytes))) (Ok (record { from = from; kind = head.0; slot = head.1; value = drop 10 bytes }))) item e in
    let u = unless_ok (payload_fault (length bytes) (read (payload p mode b.0.0 b.0.1) (drop 10 bytes))) (made_of from bytes b.0) item b.2 in
    record {
      head = b.0;
      found = head_ok p mode bytes b.0 b.1;
      whole = no_fault (length bytes) (read (payload p mode b.0.0 b.0.1) (drop 10 bytes)) u.0;
      made = u.1;
    }

made_good : (p : Numbers) (mode : Mode) (from : ℕ) (bytes : List ℕ) (item : Item) → IsSession p → (a : Answered p mode from bytes item) → IsInGrammar p mode (made_of from bytes a.head)
made_good p mode from bytes item session a = record {
  session = session;
  slot = a.found.right;
  kind = a.found.goes;
  payload_is = read_is (payload p mode a.head.0 a.head.1) (drop 10 bytes) a.whole;
}

-- what is answered is in the grammar, and from the sender
pub answer_good : (p : Numbers) (mode : Mode) (from : ℕ) (bytes : List ℕ) (item : Item) → IsSession p → body_answer p mode from bytes ≡ Ok item → IsInGrammar p mode item × (item.from ≡ from)
answer_good p mode from bytes item session e =
    let a = answered p mode from bytes item e in
    (subst (IsInGrammar p mode) a.made (made_good p mode from bytes item session a), sym (ap (λ (x : Item). x.from) a.made))

-- and bytes spell it
pub answer_spells : (p : Numbers) (mode : Mode) (from : ℕ) (bytes : List ℕ) (item : Item) → IsSession p → IsBytes bytes → body_answer p mode from bytes ≡ Ok item → Spells p mode from bytes item
answer_spells p mode from bytes item session fits e =
    let a = answered p mode from bytes item e in
    let made : Item = made_of from bytes a.head in
    let spelled : bytes ≡ spelling made =
    slot_back bytes fits a.found.long
    ∙ ap (λ (x : ℕ). x ∷ slot_bytes (slot_of (take 9 (drop 1 bytes))) ++ drop 10 bytes) (sym (kind_back (slice_index bytes 0) a.head.0 a.found.kind))
    ∙ ap (λ (s : Slot). kind_byte a.head.0 ∷ slot_bytes s ++ drop 10 bytes) a.found.made in
    let is : Spells p mode from bytes made = record { sender = refl; is_spelling = spelled; in_grammar = made_good p mode from bytes item session a } in
    subst (Spells p mode from bytes) a.made is

-- ---- what spells an item is answered so

head_again : (p : Numbers) (mode : Mode) (item : Item) → IsInGrammar p mode item → head_answer p mode (spelling item) ≡ Ok (item.kind, item.slot)
unfolding head_answer
head_again p mode item is =
    let bytes = spelling item in
    let long : ltb (length bytes) 10 ≡ false = le-ltb _ _ (omega arith) in
    let some : eqb (length bytes) 0 ≡ false = ne_eqb _ _ (omega arith) in
    let slot : slot_of (take 9 (drop 1 bytes)) ≡ item.slot = slot_again item.slot (number_fits p mode item.slot is.slot) in
    let kind = kind_again item.kind in
    let version : is_of_version mode.version item.kind ≡ true = has_version mode item.slot item.kind is.kind in
    rw (some, kind, version, long, slot, is.slot, is.kind) refl

pub spells_answer : (p : Numbers) (mode : Mode) (from : ℕ) (bytes : List ℕ) (item : Item) → Spells p mode from bytes item → body_answer p mode from bytes ≡ Ok item
unfolding body_answer
spells_answer p mode from bytes item is =
    let whole = is_read (payload p mode item.kind item.slot) item.value is.in_grammar.payload_is in
    rw (is.is_spelling, head_again p mode item is.in_grammar, whole, ← is.sender) refl

-- ---- the two laws, at what a function returned

pub is_found : (p : Numbers) (mode : Mode) (from : ℕ) (bytes : List ℕ) (r : Result Item BodyFault) → OnOk r (IsSession p) → IsBytes bytes → Answers r (body_answer p mode from bytes) → IfOk r (λ item. Spells p mode from bytes item)
is_found p mode from bytes (Ok item) session fits a = answer_spells p mode from bytes item session fits a
is_found p mode from bytes (Err e) session fits a = tt
