-- A file has one reading: it opens as one list, or is foreign or broken at one place, and none of these beside another. Of two
-- readings this is so whatever kind of records a file is to have, where each of them has a length that fits its field.
use Rattle.std.proofs.Common.{◌≡◌, ◌≢◌, ◌⊎◌, inl, inr, ℕ, ◌<◌, List, [], ◌∷◌, ◌++◌, length, drop, reverse, get_or, Some, refl, sym, ap, ◌∙◌, append_assoc, arith, length-append}
use Rattle.std.specs.List.{flat_map, AllByRecursion}
use Rattle.std.proofs.lemmas.Bool.{cases_lt}
use Rattle.std.proofs.lemmas.List.{append_cancel_left, reverse-reverse, get_or_append_left, get_or-take}
use Rattle.record_file.specs.Form.{Form, first_gate}
use Rattle.record_file.specs.Records.{IsRecord, IsUnmade, Opens, OpensAs, closed_front, record_text, records, sized}
use Rattle.record_file.specs.Reading.{IsBroken, IsForeign, record_behind}
use Rattle.record_file.proofs.Groups.{all_reverse}
use Rattle.record_file.proofs.Records.{record_only}
use Rattle.record_file.proofs.Walking.{read_as}

-- ---- records, the oldest first

-- what stands behind a record begins with a gate
record HasGate (bytes : List ℕ) : Type 0 where
  pub gate : ℕ
  pub rest : List ℕ
  pub is : bytes ≡ gate ∷ rest

-- the same records, and the same behind them
pub record SameRecords (xs ys : List (List ℕ)) (one two : List ℕ) : Type 0 where
  pub records : xs ≡ ys
  pub rest : one ≡ two

module _ (form : Form) where
  abbrev texts : List (List ℕ) → List ℕ
  texts xs = flat_map (record_text form) xs

  behind : (xs : List (List ℕ)) (gate : ℕ) (rest : List ℕ) → HasGate (texts xs ++ gate ∷ rest)
  behind [] gate rest = record { gate = gate; rest = rest; is = refl }
  behind (x ∷ xs) gate rest = record { gate = 1; rest = drop 1 (texts (x ∷ xs) ++ gate ∷ rest); is = refl }

  -- what stands behind the gate of the first record
  first_record : (x : List ℕ) (xs : List (List ℕ)) (gate : ℕ) (rest : List ℕ) → drop 1 (texts (x ∷ xs) ++ gate ∷ rest) ≡ sized form x ++ (texts xs ++ gate ∷ rest)
  first_record x xs gate rest = append_assoc (sized form x) (texts xs) (gate ∷ rest)

  is_in : (x bytes : List ℕ) → IsRecord form x → HasGate bytes → record_behind form (sized form x ++ bytes) ≡ Some x
  is_in x bytes is has = ap (λ (b : List ℕ). record_behind form (sized form x ++ b)) has.is ∙ record_only form x has.gate has.rest is

  -- ---- records of one kind

  module _ (Kind : List ℕ → Type 0) (fits : (r : List ℕ) → Kind r → IsRecord form r) where
    -- records end at this gate: it is shut, or no record of this kind and gate stand behind it
    abbrev pub Stops : ℕ → List ℕ → Type 0
    Stops gate rest = (gate ≢ 1) ⊎ ((r : List ℕ) (next : ℕ) (more : List ℕ) → Kind r → rest ≡ sized form r ++ next ∷ more → ⊥)

    -- where records end, no record begins
    ends : (gate : ℕ) (rest y : List ℕ) (ys : List (List ℕ)) (shut : ℕ) (more : List ℕ) → Stops gate rest → Kind y → gate ∷ rest ≡ texts (y ∷ ys) ++ shut ∷ more → ⊥
    ends gate rest y ys shut more (inl closed) is e = closed (ap (λ (x : List ℕ). get_or x 0 0) e)
    ends gate rest y ys shut more (inr none) is e =
        let has = behind ys shut more in
        none y has.gate has.rest is (ap (drop 1) e ∙ first_record y ys shut more ∙ ap (λ (b : List ℕ). sized form y ++ b) has.is)

    same_records : (xs ys : List (List ℕ)) (g h : ℕ) (r s : List ℕ) → AllByRecursion Kind xs → AllByRecursion Kind ys → Stops g r → Stops h s
        → texts xs ++ g ∷ r ≡ texts ys ++ h ∷ s → SameRecords xs ys (g ∷ r) (h ∷ s)
    same_records [] [] g h r s all_xs all_ys end_xs end_ys e = record { records = refl; rest = e }
    same_records [] (y ∷ ys) g h r s all_xs all_ys end_xs end_ys e = absurd (ends g r y ys h s end_xs all_ys.0 e)
    same_records (x ∷ xs) [] g h r s all_xs all_ys end_xs end_ys e = absurd (ends h s x xs g r end_ys all_xs.0 (sym e))
    same_records (x ∷ xs) (y ∷ ys) g h r s all_xs all_ys end_xs end_ys e =
        let one = texts xs ++ g ∷ r in
        let two = texts ys ++ h ∷ s in
        let both : sized form x ++ one ≡ sized form y ++ two = sym (first_record x xs g r) ∙ ap (drop 1) e ∙ first_record y ys h s in
        let read : Some x ≡ Some y = sym (is_in x one (fits x all_xs.0) (behind xs g r)) ∙ ap (record_behind form) both ∙ is_in y two (fits y all_ys.0) (behind ys h s) in
        let same : x ≡ y = cc read in
        let rest : one ≡ two = append_cancel_left (sized form x) _ _ (both ∙ ap (λ (z : List ℕ). sized form z ++ two) (sym same)) in
        let tail = same_records xs ys g h r s all_xs.1 all_ys.1 end_xs end_ys rest in
        record { records = ap (λ (z : List ℕ). z ∷ xs) same ∙ ap (λ (zs : List (List ℕ)). y ∷ zs) tail.records; rest = tail.rest }

    -- a file with this head, records of the kind, and an end of these
    pub record Reads (head file : List ℕ) (rs : List (List ℕ)) (gate : ℕ) (rest : List ℕ) : Type 0 where
      pub text : file ≡ closed_front form head rs ++ gate ∷ rest
      pub each : AllByRecursion Kind rs
      pub stops : Stops gate rest

    pub one_reading : (head file : List ℕ) (rs ss : List (List ℕ)) (g h : ℕ) (r s : List ℕ) → Reads head file rs g r → Reads head file ss h s → SameRecords rs ss (g ∷ r) (h ∷ s)
    one_reading head file rs ss g h r s one two =
        let both : (1 ∷ head) ++ (records form rs ++ g ∷ r) ≡ (1 ∷ head) ++ (records form ss ++ h ∷ s) =
        sym (append_assoc (1 ∷ head) (records form rs) (g ∷ r)) ∙ sym one.text ∙ two.text ∙ append_assoc (1 ∷ head) (records form ss) (h ∷ s) in
        let same = same_records (reverse rs) (reverse ss) g h r s (all_reverse Kind rs one.each) (all_reverse Kind ss two.each) one.stops two.stops (append_cancel_left (1 ∷ head) _ _ both) in
        record { records = sym (reverse-reverse rs) ∙ ap (λ (x : List (List ℕ)). reverse x) same.records ∙ reverse-reverse ss; rest = same.rest }

  -- ---- files

  opened : (head file : List ℕ) (rs : List (List ℕ)) (o : Opens form head file rs) → Reads (IsRecord form) (λ r is. is) head file rs o.gate o.rest
  opened head file rs o = record { text = o.text; each = o.each; stops = inl o.shut }

  broken : (head file : List ℕ) (p : ℕ) (b : IsBroken form head file p) → Reads (IsRecord form) (λ r is. is) head file b.rs 1 b.rest
  broken head file p b = record { text = b.text; each = b.each; stops = inr b.none }

  pub one_broken : (head file : List ℕ) (p q : ℕ) → IsBroken form head file p → IsBroken form head file q → p ≡ q
  one_broken head file p q a b =
      let same = one_reading (IsRecord form) (λ r is. is) head file a.rs b.rs 1 1 a.rest b.rest (broken head file p a) (broken head file q b) in
      a.place ∙ ap (λ (rs : List (List ℕ)). length (closed_front form head rs)) same.records ∙ sym b.place

  -- below the first place that differs, bytes are the same
  same_below : (head file : List ℕ) (p q : ℕ) → p < q → IsForeign form head file p → IsForeign form head file q → ⊥
  same_below head file p q lt a b =
      a.differs (sym (get_or-take q file p 0 lt) ∙ ap (λ (x : List ℕ). get_or x p 0) b.before ∙ get_or-take q (1 ∷ head) p 0 lt)

  pub one_foreign : (head file : List ℕ) (p q : ℕ) → IsForeign form head file p → IsForeign form head file q → p ≡ q
  one_foreign head file p q a b = elim (cases_lt p q) [
    | inl lt ↦ absurd (same_below head file p q lt a b)
    | inr le ↦ elim (cases_lt q p) [
      | inl lt ↦ absurd (same_below head file q p lt b a)
      | inr ge ↦ omega (arith, le, ge)
    ]
  ]

  -- ---- the bytes up to the first gate

  module _ (head file : List ℕ) (long : length head ≡ form.head_length) where
    at_head : (rs : List (List ℕ)) (g : ℕ) (r : List ℕ) (p : ℕ) → file ≡ closed_front form head rs ++ g ∷ r → p < first_gate form → get_or file p 0 ≡ get_or (1 ∷ head) p 0
    at_head rs g r p text lt =
        ap (λ (x : List ℕ). get_or x p 0) (text ∙ append_assoc (1 ∷ head) (records form rs) (g ∷ r))
        ∙ get_or_append_left (1 ∷ head) (records form rs ++ g ∷ r) 0 p (omega (arith, long, lt))

    pub read_made : (rs : List (List ℕ)) (g : ℕ) (r : List ℕ) → file ≡ closed_front form head rs ++ g ∷ r → IsUnmade form file → ⊥
    read_made rs g r text (inl short) =
        omega (arith, ap length text, length-append (closed_front form head rs) (g ∷ r), length-append head (records form rs), long, short)
    read_made rs g r text (inr other) = other (at_head rs g r 0 text (omega arith))

    pub read_own : (rs : List (List ℕ)) (g : ℕ) (r : List ℕ) (p : ℕ) → file ≡ closed_front form head rs ++ g ∷ r → IsForeign form head file p → ⊥
    read_own rs g r p text foreign = foreign.differs (at_head rs g r p text foreign.within.1)

    pub one_list : (rs ss : List (List ℕ)) → OpensAs form head file rs → OpensAs form head file ss → rs ≡ ss
    one_list rs ss one two = sym (read_as form head file long rs one) ∙ read_as form head file long ss two

    pub not_broken : (rs : List (List ℕ)) (p : ℕ) → OpensAs form head file rs → IsBroken form head file p → ⊥
    not_broken rs p (inl a) b = read_made b.rs 1 b.rest b.text a.0
    not_broken rs p (inr a) b =
        let same = one_reading (IsRecord form) (λ r is. is) head file rs b.rs a.gate 1 a.rest b.rest (opened head file rs a) (broken head file p b) in
        a.shut (ap (λ (x : List ℕ). get_or x 0 0) same.rest)

    pub not_foreign : (rs : List (List ℕ)) (p : ℕ) → OpensAs form head file rs → IsForeign form head file p → ⊥
    not_foreign rs p (inl a) foreign = foreign.made a.0
    not_foreign rs p (inr a) foreign = read_own rs a.gate a.rest p a.text foreign

    pub not_both : (p q : ℕ) → IsBroken form head file p → IsForeign form head file q → ⊥
    not_both p q b foreign = read_own b.rs 1 b.rest q b.text foreign
