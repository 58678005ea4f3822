-- The readers of a header's fields, and of the header.
use Rattle.std.proofs.Common.{◌≡◌, ℕ, zero, suc, ◌*◌, ◌^◌, ◌<◌, ◌≤◌, ◌⊎◌, Bool, true, false, List, [], ◌∷◌, ◌++◌, length, take, Result, Ok, refl, sym, ap, subst, ◌∙◌, arith, inl, inr}
use Rattle.std.specs.Prelude.{◌&&◌, ◌||◌, nat_le, nat_lt, ◌==◌}
use Rattle.std.specs.List.{concat, AllByRecursion}
use Rattle.std.specs.Int.{w32, w64, to_be_bytes}
use Rattle.std.proofs.lemmas.Bool.{eqb-true, eq-eqb, ltb-true, lt-ltb, leb-true, le-leb}
use Rattle.std.proofs.lemmas.List.{append-nil, nil_from_length, take_at, length-take-le}
use Rattle.std.proofs.Math.Pow.{pow-lt}
use Rattle.ritas_base.specs.Numbers.{Numbers, IsSession}
use Rattle.ritas_base.specs.declared.mode.FrameVersion.{FrameVersion}
use Rattle.ritas_base.specs.declared.mode.FrameVersion.TheVariants.{One, Two, Three}
use Rattle.ritas_base.specs.declared.mode.Vect.{Vect}
use Rattle.ritas_base.specs.declared.mode.Vect.TheVariants.{Echo, Reliable}
use Rattle.schedule_file.specs.declared.fault.FileFault.{FileFault}
use Rattle.schedule_file.specs.declared.fault.FileFault.TheVariants.{Magic, Version}
use Rattle.schedule_file.specs.declared.fault.FileFault.TheVariants as faults
use Rattle.schedule_file.specs.declared.header.HeaderKeys.{HeaderKeys}
use Rattle.schedule_file.specs.declared.header.HeaderKeys.TheVariants.{Master, Row}
use Rattle.schedule_file.specs.Reading.{◌>>=◌, Spot}
use Rattle.schedule_file.specs.FileBytes.{limit, byte_at, bytes_at, u32_at, u64_at}
use Rattle.ritas_base.specs.Bytes.{filled_row, version_byte}
use Rattle.schedule_file.specs.ReadHeader.{Heading, is_root, is_version, version_by_byte, start_at, numbers_at, root_at, vect_by_byte, vect_at, mask_at, master_at, me_at, each_key_at, key_row_at, alone_at, keys_at, header_at}
use Rattle.schedule_file.specs.Spelling.{vect_byte, keys_text, start_text, header_text, IsKey, IsRow, AreHeaderKeys, IsHeading}
use Rattle.schedule_file.specs.SpellingLaws.{all_taken}
use Rattle.schedule_file.proofs.Spells.{Spells, Both, Nothing, as_spells, then_spells, guard_spells, either_spells, done_spells}
use Rattle.schedule_file.proofs.FileSpells.{IsByte, AreBytes, byte_spells, bytes_spells, u32_spells, u64_spells}
use Rattle.schedule_file.proofs.KeyRows.{row_is, filled_is}

version_is : (b : ℕ) (one two three : Bool) → (b == 1) ≡ one → (b == 2) ≡ two → (b == 3) ≡ three → (one || (two || three)) ≡ true
    → version_byte (version_by_byte b) ≡ b
version_is b one true three is-one is-two is-three e = rw is-two (sym (eqb-true _ _ is-two))
version_is b one false true is-one is-other is-three e = rw (is-other, is-three) (sym (eqb-true _ _ is-three))
version_is b true false false is-one is-other is-none e = rw (is-other, is-none) (sym (eqb-true _ _ is-one))
version_is b false false false is-other is-another is-none e = absurd cc

version_fits : (v : FrameVersion) → is_version (version_byte v) ≡ true
version_fits One = refl
version_fits Two = refl
version_fits Three = refl

version_again : (v : FrameVersion) → version_by_byte (version_byte v) ≡ v
version_again One = refl
version_again Two = refl
version_again Three = refl

abbrev pub IsStart : FrameVersion × ℕ → List ℕ → Type 0
IsStart start text = (text ≡ start_text start.0 start.1) × (start.1 < 2 ^ 64)

pub start_spells : Spells limit start_at IsStart
unfolding start_at
start_spells = as_spells IsStart
    (then_spells u32_at _ u32_spells (λ m. guard_spells (m == 0x52495453) Magic _ (then_spells byte_at _ byte_spells (λ v. guard_spells (is_version v) Version _ (then_spells u64_at (λ session. Ok ((version_by_byte v, session.0), session.1)) u64_spells (λ session. done_spells (version_by_byte v, session)))))))
    (λ start text fits r.
    let v = r.second.1 in let s = v.second.1 in
    let same = version_is v.value (v.value == 1) (v.value == 2) (v.value == 3) refl refl refl v.second.0 in
    let made : IsStart (version_by_byte v.value, s.value) text = (rw (r.parts, r.first.0, eqb-true _ _ r.second.0, v.parts, v.first, same, s.parts, s.first.0, s.second.1, append-nil (to_be_bytes w64 s.value)) refl, s.first.1) in
    subst (λ (y : FrameVersion × ℕ). IsStart y text) s.second.0 made)
    (λ start text r.
    let b = version_byte start.0 in
    let last = to_be_bytes w64 start.1 in
    let made = ap (λ (v : FrameVersion). (v, start.1)) (version_again start.0) in
    record {
      value = 0x52495453;
      front = to_be_bytes w32 0x52495453;
      back = b ∷ [] ++ last;
      first = (refl, omega arith);
      second = (
        refl,
        record {
          value = b;
          front = b ∷ [];
          back = last;
          first = refl;
          second = (version_fits start.0, record { value = start.1; front = last; back = []; first = (refl, r.1); second = (made, refl); parts = sym (append-nil last) });
          parts = refl;
        },
      );
      parts = r.0;
    })

both_true : (a b : Bool) → (a && b) ≡ true → (a ≡ true) × (b ≡ true)
both_true true b e = (refl, e)
both_true false b e = absurd cc

both_hold : (a b : Bool) → a ≡ true → b ≡ true → (a && b) ≡ true
both_hold a b p q = rw (p, q) refl

pub record IsNumbers (p : Numbers) (text : List ℕ) : Type 0 where
  pub text_is : text ≡ p.n ∷ p.f ∷ []
  pub session : IsSession p

pub numbers_spells : Spells limit numbers_at IsNumbers
unfolding numbers_at
numbers_spells = as_spells IsNumbers
    (then_spells byte_at _ byte_spells (λ n. guard_spells (nat_le 1 n && nat_le n 31) (faults.Header 13) _ (then_spells byte_at _ byte_spells (λ f. guard_spells (nat_lt (3 * f) n) (faults.Header 14) (λ s. Ok (record { n = n; f = f }, s)) (done_spells (record { n = n; f = f }))))))
    (λ p text fits r.
    let n = r.value in let f = r.second.1.value in
    let size = both_true (nat_le 1 n) (nat_le n 31) r.second.0 in
    let few = ltb-true _ _ r.second.1.second.0 in
    let made : IsNumbers (record { n = n; f = f }) text = record {
      text_is = rw (r.parts, r.first, r.second.1.parts, r.second.1.first, r.second.1.second.1.1) refl;
      session = record { some = leb-true _ _ size.0; most = leb-true _ _ size.1; enough = omega (arith, few) };
    } in
    subst (λ (y : Numbers). IsNumbers y text) r.second.1.second.1.0 made)
    (λ p text r.
    let is = r.session in
    let few : 3 * p.f < p.n = omega (arith, is.enough) in
    record { value = p.n; front = p.n ∷ []; back = p.f ∷ []; first = refl; second = (both_hold _ _ (le-leb _ _ is.some) (le-leb _ _ is.most), record { value = p.f; front = p.f ∷ []; back = []; first = refl; second = (lt-ltb _ _ few, (refl, refl)); parts = refl }); parts = r.text_is })

abbrev pub IsRoot : ℕ → List ℕ → Type 0
IsRoot root text = (text ≡ root ∷ []) × (is_root root ≡ true)

pub root_spells : Spells limit root_at IsRoot
unfolding root_at
root_spells = as_spells IsRoot
    (then_spells byte_at _ byte_spells (λ root. guard_spells (is_root root) (faults.Header 15) (λ s. Ok (root, s)) (done_spells root)))
    (λ root text fits r.
    let made : IsRoot r.value text = (rw (r.parts, r.first, r.second.1.1) refl, r.second.0) in
    subst (λ (y : ℕ). IsRoot y text) r.second.1.0 made)
    (λ root text r. record { value = root; front = root ∷ []; back = []; first = refl; second = (r.1, (refl, refl)); parts = r.0 })

vect_is : (b : ℕ) (one : Bool) → (b == 1) ≡ one → (one || b == 2) ≡ true → vect_byte (vect_by_byte b) ≡ b
vect_is b true is-one e = rw is-one (sym (eqb-true _ _ is-one))
vect_is b false is-other e = rw is-other (sym (eqb-true _ _ e))

abbrev pub IsVect : Vect → List ℕ → Type 0
IsVect v text = text ≡ vect_byte v ∷ []

vect_from : (v : Vect) (text : List ℕ) → IsVect v text → Both IsByte (λ b v text. ((b == 1 || b == 2) ≡ true) × Nothing (vect_by_byte b) v text) v text
vect_from Echo text r = record { value = 1; front = 1 ∷ []; back = []; first = refl; second = (refl, (refl, refl)); parts = r }
vect_from Reliable text r = record { value = 2; front = 2 ∷ []; back = []; first = refl; second = (refl, (refl, refl)); parts = r }

pub vect_spells : Spells limit vect_at IsVect
unfolding vect_at
vect_spells = as_spells IsVect
    (then_spells byte_at _ byte_spells (λ b. guard_spells (b == 1 || b == 2) (faults.Header 16) (λ s. Ok (vect_by_byte b, s)) (done_spells (vect_by_byte b))))
    (λ v text fits r.
    let same = vect_is r.value (r.value == 1) refl r.second.0 in
    let made : IsVect (vect_by_byte r.value) text = rw (r.parts, r.first, r.second.1.1, same) refl in
    subst (λ (y : Vect). IsVect y text) r.second.1.0 made)
    vect_from

abbrev pub IsMask : ℕ → ℕ → List ℕ → Type 0
IsMask n mask text = (text ≡ to_be_bytes w32 mask) × (mask < 2 ^ n) × (mask < 2 ^ 32)

pub mask_spells : (n : ℕ) → Spells limit (mask_at n) (IsMask n)
unfolding mask_at
mask_spells n = as_spells (IsMask n)
    (then_spells u32_at _ u32_spells (λ mask. guard_spells (nat_lt mask (2 ^ n)) (faults.Header 17) (λ s. Ok (mask, s)) (done_spells mask)))
    (λ mask text fits r.
    let made : IsMask n r.value text = (rw (r.parts, r.first.0, r.second.1.1) (append-nil _), ltb-true _ _ r.second.0, r.first.1) in
    subst (λ (y : ℕ). IsMask n y text) r.second.1.0 made)
    (λ mask text r. record { value = mask; front = text; back = []; first = (r.0, r.2); second = (lt-ltb _ _ r.1, (refl, refl)); parts = sym (append-nil text) })

-- ---- the keys

-- so many keys, one after the other
pub record AreEach (n : ℕ) (keys : List (List ℕ)) (text : List ℕ) : Type 0 where
  pub text_is : text ≡ concat keys
  pub count : length keys ≡ n
  pub each : AllByRecursion IsKey keys

each_to : (n : ℕ) (keys : List (List ℕ)) (text : List ℕ) → Both (AreBytes 32) (λ key. Both (AreEach n) (λ more. Nothing (key ∷ more))) keys text → AreEach (suc n) keys text
each_to n keys text r =
    let b = r.second in
    let made : AreEach (suc n) (r.value ∷ b.value) text = record {
      text_is = rw (r.parts, r.first.0, b.parts, b.first.text_is, b.second.1, append-nil (concat b.value)) refl;
      count = ap (λ (k : ℕ). suc k) b.first.count;
      each = (r.first.1, b.first.each);
    } in
    subst (λ (y : List (List ℕ)). AreEach (suc n) y text) b.second.0 made

each_from : (n : ℕ) (keys : List (List ℕ)) (text : List ℕ) → AreEach (suc n) keys text → Both (AreBytes 32) (λ key. Both (AreEach n) (λ more. Nothing (key ∷ more))) keys text
each_from n [] text r = absurd (omega (arith, r.count))
each_from n (key ∷ keys) text r = record {
  value = key;
  front = key;
  back = concat keys;
  first = (refl, r.each.0);
  second = record {
    value = keys;
    front = concat keys;
    back = [];
    first = record { text_is = refl; count = omega (arith, r.count); each = r.each.1 };
    second = (refl, refl);
    parts = sym (append-nil (concat keys));
  };
  parts = r.text_is;
}

pub each_spells : (n : ℕ) → Spells limit (each_key_at n) (AreEach n)
unfolding each_key_at
each_spells zero = as_spells (AreEach zero) (done_spells [])
    (λ keys text fits r. subst (λ (y : List (List ℕ)). AreEach zero y text) r.0 (record { text_is = r.1; count = refl; each = tt }))
    (λ keys text r.
    let none : keys ≡ [] = nil_from_length keys r.count in
    (sym none, r.text_is ∙ ap concat none))
each_spells (suc n) = as_spells (AreEach (suc n))
    (then_spells (bytes_at 32) (λ key. each_key_at n key.1 >>= λ more. Ok (key.0 ∷ more.0, more.1)) (bytes_spells 32) (λ key. then_spells (each_key_at n) (λ more. Ok (key ∷ more.0, more.1)) (each_spells n) (λ more. done_spells (key ∷ more))))
    (λ keys text fits r. each_to n keys text r)
    (each_from n)

-- a row that these keys were filled up to
pub record IsRowText (n : ℕ) (row : List (List ℕ)) (text : List ℕ) : Type 0 where
  pub keys : List (List ℕ)
  pub are : AreEach n keys text
  pub filled : row ≡ filled_row keys

pub row_spells : (n : ℕ) → Spells limit (key_row_at n) (IsRowText n)
unfolding key_row_at
row_spells n = as_spells (IsRowText n)
    (then_spells (each_key_at n) (λ keys. Ok (filled_row keys.0, keys.1)) (each_spells n) (λ keys. done_spells (filled_row keys)))
    (λ row text fits r.
    let front : r.front ≡ text = sym (rw (r.parts, r.second.1) (append-nil r.front)) in
    record { keys = r.value; are = subst (AreEach n r.value) front r.first; filled = sym r.second.0 })
    (λ row text r. record { value = r.keys; front = text; back = []; first = r.are; second = (sym r.filled, refl); parts = sym (append-nil text) })

abbrev pub IsMe : ℕ → ℕ → ℕ → List ℕ → Type 0
IsMe n mask me text = (text ≡ me ∷ []) × (me < n) × (mask ≡ 2 ^ me)

pub me_spells : (n mask : ℕ) → Spells limit (me_at n mask) (IsMe n mask)
unfolding me_at
me_spells n mask = as_spells (IsMe n mask)
    (then_spells byte_at _ byte_spells (λ me. guard_spells (nat_lt me n) (faults.Header 22) _ (guard_spells (mask == 2 ^ me) (faults.Header 17) (λ s. Ok (me, s)) (done_spells me))))
    (λ me text fits r.
    let made : IsMe n mask r.value text = (rw (r.parts, r.first, r.second.1.1.1) refl, ltb-true _ _ r.second.0, eqb-true _ _ r.second.1.0) in
    subst (λ (y : ℕ). IsMe n mask y text) r.second.1.1.0 made)
    (λ me text r. record { value = me; front = me ∷ []; back = []; first = refl; second = (lt-ltb _ _ r.1, (eq-eqb _ _ r.2, (refl, refl))); parts = r.0 })

-- the keys of one replica alone, behind the form
pub record IsAloneText (n mask me : ℕ) (row : List (List ℕ)) (coin text : List ℕ) : Type 0 where
  pub front : List ℕ
  pub row_is : IsRowText n row front
  pub mine : me < n
  pub alone : mask ≡ 2 ^ me
  pub coin_is : IsKey coin
  pub text_is : text ≡ me ∷ [] ++ (front ++ coin)

-- the keys, behind the form
abbrev pub IsKeysText : ℕ → ℕ → HeaderKeys → List ℕ → Type 0
IsKeysText n mask (Master master) text = (text ≡ 0 ∷ master) × IsKey master
IsKeysText n mask (Row me row coin) text = (rest : List ℕ) × (text ≡ 1 ∷ rest) × IsAloneText n mask me row coin rest

-- what follows the number of the replica whose keys these are
abbrev pub keys_of : ℕ → ℕ → Spot → Result (HeaderKeys × Spot) FileFault
keys_of n me s = key_row_at n s >>= λ row. bytes_at 32 row.1 >>= λ coin. Ok (Row me row.0 coin.0, coin.1)

abbrev pub KeysOfParts : ℕ → ℕ → HeaderKeys → List ℕ → Type 0
KeysOfParts n me = Both (IsRowText n) (λ row. Both (AreBytes 32) (λ coin. Nothing (Row me row coin)))

pub keys_of_spells : (n me : ℕ) → Spells limit (keys_of n me) (KeysOfParts n me)
keys_of_spells n me =
    then_spells (key_row_at n) _ (row_spells n) (λ row. then_spells (bytes_at 32) (λ coin. Ok (Row me row coin.0, coin.1)) (bytes_spells 32) (λ coin. done_spells (Row me row coin)))

abbrev AloneParts : ℕ → ℕ → HeaderKeys → List ℕ → Type 0
AloneParts n mask = Both (IsMe n mask) (KeysOfParts n)

alone_spells : (n mask : ℕ) → Spells limit (alone_at n mask) (AloneParts n mask)
unfolding alone_at
alone_spells n mask = then_spells (me_at n mask) _ (me_spells n mask) (λ me. keys_of_spells n me)

abbrev pub MasterParts : HeaderKeys → List ℕ → Type 0
MasterParts = Both (AreBytes 32) (λ master. Nothing (Master master))

pub master_spells : Spells limit master_at MasterParts
unfolding master_at
master_spells = then_spells (bytes_at 32) (λ master. Ok (Master master.0, master.1)) (bytes_spells 32) (λ master. done_spells (Master master))

abbrev KeysParts : ℕ → ℕ → HeaderKeys → List ℕ → Type 0
KeysParts n mask = Both IsByte (λ form keys text. ((form == 0 || form == 1) ≡ true) × ((((form == 0) ≡ true) × MasterParts keys text) ⊎ (((form == 0) ≡ false) × AloneParts n mask keys text)))

one_of_two : (form : ℕ) (zeroth : Bool) → (form == 0) ≡ zeroth → zeroth ≡ false → (zeroth || form == 1) ≡ true → form ≡ 1
one_of_two form true is other e = absurd cc
one_of_two form false is other e = eqb-true _ _ e

keys_to : (n mask : ℕ) (keys : HeaderKeys) (text : List ℕ) → KeysParts n mask keys text → IsKeysText n mask keys text
keys_to n mask keys text r = elim r.second.1 [
  | inl h ↦
      let m = h.1 in
      let made : IsKeysText n mask (Master m.value) text = (rw (r.parts, r.first, m.parts, m.first.0, m.second.1, append-nil m.value, eqb-true _ _ h.0) refl, m.first.1) in
      subst (λ (y : HeaderKeys). IsKeysText n mask y text) m.second.0 made
  | inr h ↦
      let a = h.1 in let b = a.second in let c = b.second in
      let form : r.value ≡ 1 = one_of_two r.value (r.value == 0) refl h.0 r.second.0 in
      let made : IsKeysText n mask (Row a.value b.value c.value) text = (
        r.back,
        rw (r.parts, r.first, form) refl,
        record {
          front = b.front;
          row_is = b.first;
          mine = a.first.1;
          alone = a.first.2;
          coin_is = c.first.1;
          text_is = rw (a.parts, a.first.0, b.parts, c.parts, c.first.0, c.second.1, append-nil c.value) refl;
        },
      ) in
      subst (λ (y : HeaderKeys). IsKeysText n mask y text) c.second.0 made
]

keys_from : (n mask : ℕ) (keys : HeaderKeys) (text : List ℕ) → IsKeysText n mask keys text → KeysParts n mask keys text
keys_from n mask (Master master) text r = record { value = 0; front = 0 ∷ []; back = master; first = refl; second = (refl, inl (refl, record { value = master; front = master; back = []; first = (refl, r.1); second = (refl, refl); parts = sym (append-nil master) })); parts = r.0 }
keys_from n mask (Row me row coin) text r =
    let a = r.2 in
    let last : Both (AreBytes 32) (λ coin. Nothing (Row me row coin)) (Row me row coin) coin = record { value = coin; front = coin; back = []; first = (refl, a.coin_is); second = (refl, refl); parts = sym (append-nil coin) } in
    let alone : AloneParts n mask (Row me row coin) r.0 = record {
      value = me;
      front = me ∷ [];
      back = a.front ++ coin;
      first = (refl, a.mine, a.alone);
      second = record { value = row; front = a.front; back = coin; first = a.row_is; second = last; parts = refl };
      parts = a.text_is;
    } in
    record { value = 1; front = 1 ∷ []; back = r.0; first = refl; second = (refl, inr (refl, alone)); parts = r.1 }

pub keys_spells : (n mask : ℕ) → Spells limit (keys_at n mask) (IsKeysText n mask)
unfolding keys_at
keys_spells n mask = as_spells (IsKeysText n mask)
    (then_spells byte_at _ byte_spells (λ form. guard_spells (form == 0 || form == 1) (faults.Header 21) _ (either_spells (form == 0) master_at (alone_at n mask) master_spells (alone_spells n mask))))
    (λ keys text fits r. keys_to n mask keys text r)
    (keys_from n mask)

-- what a row says of its text, and its text of the row

row_right : (n : ℕ) (row : List (List ℕ)) (text : List ℕ) → n ≤ 31 → IsRowText n row text → (text ≡ concat (take n row)) × IsRow n row
row_right n row text most r =
    let front : take n row ≡ r.keys = ap (take n) r.filled ∙ take_at r.keys _ n r.are.count in
    let made : IsRow (length r.keys) (filled_row r.keys) = filled_is r.keys (omega (arith, r.are.count)) r.are.each in (
      r.are.text_is ∙ ap concat (sym front),
      subst (λ (y : List (List ℕ)). IsRow n y) (sym r.filled) (subst (λ (k : ℕ). IsRow k (filled_row r.keys)) r.are.count made),
    )

row_text : (n : ℕ) (row : List (List ℕ)) → n ≤ 31 → IsRow n row → IsRowText n row (concat (take n row))
row_text n row most is = record {
  keys = take n row;
  are = record { text_is = refl; count = length-take-le n row (omega (arith, is.places)); each = all_taken IsKey n row is.each };
  filled = sym (row_is n row most is);
}

pub keys_right : (n mask : ℕ) (keys : HeaderKeys) (text : List ℕ) → n ≤ 31 → IsKeysText n mask keys text → (text ≡ keys_text n keys) × AreHeaderKeys n mask keys
keys_right n mask (Master master) text most r = r
keys_right n mask (Row me row coin) text most r =
    let a = r.2 in
    let is = row_right n row a.front most a.row_is in
    (r.1 ∙ rw (a.text_is, is.0) refl, (a.mine, a.alone, is.1, a.coin_is))

pub keys_back : (n mask : ℕ) (keys : HeaderKeys) → n ≤ 31 → AreHeaderKeys n mask keys → IsKeysText n mask keys (keys_text n keys)
keys_back n mask (Master master) most are = (refl, are)
keys_back n mask (Row me row coin) most are = (
  me ∷ [] ++ (concat (take n row) ++ coin),
  refl,
  record { front = concat (take n row); row_is = row_text n row most are.2; mine = are.0; alone = are.1; coin_is = are.3; text_is = refl },
)

-- ---- the header

abbrev pub IsHeaderText : Heading → List ℕ → Type 0
IsHeaderText h text = (text ≡ header_text h) × IsHeading h

abbrev header_from : FrameVersion × ℕ → Numbers → ℕ → Vect → ℕ → HeaderKeys → Heading
header_from start p root vect mask keys = record { session = start.1; version = start.0; p = p; root = root; vect = vect; correct = mask; keys = keys }

pub header_spells : Spells limit header_at IsHeaderText
unfolding header_at
header_spells = as_spells IsHeaderText
    (then_spells start_at _ start_spells (λ start. then_spells numbers_at _ numbers_spells (λ p. then_spells root_at _ root_spells (λ root. then_spells vect_at _ vect_spells (λ vect. then_spells (mask_at p.n) _ (mask_spells p.n) (λ mask. then_spells (keys_at p.n mask) (λ keys. Ok (header_from start p root vect mask keys.0, keys.1)) (keys_spells p.n mask) (λ keys. done_spells (header_from start p root vect mask keys))))))))
    (λ h text fits a.
    let b = a.second in let c = b.second in let d = c.second in let e = d.second in let k = e.second in
    let keys = keys_right b.value.n e.value k.value k.front b.first.session.most k.first in
    let made : IsHeaderText (header_from a.value b.value c.value d.value e.value k.value) text = (
      rw (a.parts, a.first.0, b.parts, b.first.text_is, c.parts, c.first.0, d.parts, d.first, e.parts, e.first.0, k.parts, keys.0, k.second.1, append-nil (keys_text b.value.n k.value)) refl,
      record { session = a.first.1; numbers = b.first.session; root = c.first.1; correct = e.first.1; keys = keys.1 },
    ) in
    subst (λ (y : Heading). IsHeaderText y text) k.second.0 made)
    (λ h text r.
    let is = r.1 in
    let small : 2 ^ h.p.n < 2 ^ 32 = (let few : h.p.n < 32 = omega (arith, is.numbers.most) in pow-lt few) in
    let last = keys_text h.p.n h.keys in
    let fourth = to_be_bytes w32 h.correct ++ last in
    let third = vect_byte h.vect ∷ [] ++ fourth in
    let second = h.root ∷ [] ++ third in
    record {
      value = (h.version, h.session);
      front = start_text h.version h.session;
      back = h.p.n ∷ h.p.f ∷ [] ++ second;
      first = (refl, is.session);
      parts = r.0;
      second = record {
        value = h.p;
        front = h.p.n ∷ h.p.f ∷ [];
        back = second;
        first = record { text_is = refl; session = is.numbers };
        parts = refl;
        second = record {
          value = h.root;
          front = h.root ∷ [];
          back = third;
          first = (refl, is.root);
          parts = refl;
          second = record {
            value = h.vect;
            front = vect_byte h.vect ∷ [];
            back = fourth;
            first = refl;
            parts = refl;
            second = record {
              value = h.correct;
              front = to_be_bytes w32 h.correct;
              back = last;
              first = (refl, is.correct, omega (arith, is.correct, small));
              parts = refl;
              second = record { value = h.keys; front = last; back = []; first = keys_back h.p.n h.correct h.keys is.numbers.most is.keys; parts = sym (append-nil last); second = (refl, refl) };
            };
          };
        };
      };
    })
