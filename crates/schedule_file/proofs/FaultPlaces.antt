-- Where the faults of the readers are.
use Rattle.std.proofs.Common.{◌≡◌, ℕ, zero, suc, ◌+◌, ◌*◌, ◌^◌, ◌≤◌, ◌<◌, ◌⊎◌, Bool, true, false, cond, List, [], ◌∷◌, length, Result, Ok, Err, refl, ap, subst, arith, inl, inr, length-append}
use Rattle.std.specs.Prelude.{◌&&◌, ◌||◌, nat_lt, nat_le, not, ◌==◌}
use Rattle.std.specs.Option.{is_none}
use Rattle.std.specs.Int.{w16, w32, w64, from_be_bytes}
use Rattle.std.proofs.lemmas.Bool.{ltb-false}
use Rattle.ritas_base.specs.declared.event.Event.TheVariants.{Frame, Input, Turn, Pass, Sealed}
use Rattle.schedule_file.specs.declared.fault.FileFault.{FileFault}
use Rattle.schedule_file.specs.declared.fault.FileFault.TheVariants as faults
use Rattle.schedule_file.specs.declared.header.HeaderKeys.TheVariants.{Master, Row}
use Rattle.schedule_file.specs.declared.scope.Scope.{Scope}
use Rattle.schedule_file.specs.Scopes.{has_replica}
use Rattle.ritas_base.specs.Bytes.{IsBytes, filled_row}
use Rattle.schedule_file.specs.Reading.{◌>>=◌, Spot, test}
use Rattle.schedule_file.specs.FileBytes.{limit, byte_from, byte_at, bytes_at, u16_at, u32_at, u64_at, text_at}
use Rattle.schedule_file.specs.ReadHeader.{is_root, is_version, version_by_byte, start_at, numbers_at, root_at, vect_by_byte, vect_at, mask_at, master_at, me_at, each_key_at, key_row_at, alone_at, keys_at, header_at}
use Rattle.schedule_file.specs.ReadEvents.{replica_at, pair_at, frame_at, input_read_at, turn_at, pass_at, sealed_at, kind_at}
use Rattle.schedule_file.proofs.Spells.{back_fits, Took, Spells}
use Rattle.schedule_file.proofs.FileSpells.{byte_spells, bytes_spells, u16_spells, u32_spells, u64_spells, text_spells}
use Rattle.schedule_file.proofs.HeaderSpells.{start_spells, numbers_spells, root_spells, vect_spells, mask_spells, each_spells, row_spells, me_spells, keys_of, keys_spells}
use Rattle.schedule_file.proofs.EventSpells.{replica_spells, pair_spells}

-- What a fault says of the place where a reader began that met it. Of a value that isn't allowed, the reader says it.
abbrev pub Named : (FileFault → Type 0) → Spot → FileFault → Type 0
Named own s faults.Magic = own faults.Magic
Named own s faults.Version = own faults.Version
Named own s (faults.Header k) = own (faults.Header k)
Named own s (faults.Event p) = own (faults.Event p)
Named own s (faults.Truncated p) = (p ≡ s.at + length s.rest) × (p ≤ limit)
Named own s (faults.Trailing p) = ⊥
Named own s faults.TooLong = limit < s.at + length s.rest
Named own s faults.Read = ⊥
Named own s faults.Mem = ⊥

pub record Names {X : Type 0} (own : FileFault → Type 0) (read : Spot → Result (X × Spot) FileFault) : Type 0 where
  pub names : (s : Spot) (f : FileFault) → s.at ≤ limit → IsBytes s.rest → read s ≡ Err f → Named own s f

-- ---- how readers are put together

pub bind_err : {A B F : Type 0} (r : Result A F) (f : A → Result B F) (e : F) → (r >>= f) ≡ Err e → (r ≡ Err e) ⊎ ((x : A) × (r ≡ Ok x) × (f x ≡ Err e))
bind_err (Ok x) f e h = inr (x, refl, h)
bind_err (Err d) f e h = inl (let same : d ≡ e = cc in ap (λ (x : _). Err x) same)

-- what a fault says of a later place, it says of an earlier one
pub moved : (own : FileFault → Type 0) (s mid : Spot) (text : List ℕ) (f : FileFault) → Took limit s text mid → Named own mid f → Named own s f
moved own s mid text faults.Magic took h = h
moved own s mid text faults.Version took h = h
moved own s mid text (faults.Header k) took h = h
moved own s mid text (faults.Event p) took h = h
moved own s mid text (faults.Truncated p) took h = (omega (arith, h.0, took.at, ap length took.bytes, length-append text mid.rest), h.1)
moved own s mid text (faults.Trailing p) took h = h
moved own s mid text faults.TooLong took h = omega (arith, h, took.at, ap length took.bytes, length-append text mid.rest)
moved own s mid text faults.Read took h = h
moved own s mid text faults.Mem took h = h

pub then_names : {A B : Type 0} {own : FileFault → Type 0} {R : A → List ℕ → Type 0} {first : Spot → Result (A × Spot) FileFault} (second : A × Spot → Result (B × Spot) FileFault)
    → Spells limit first R → Names own first → ((a : A) → Names own (λ s. second (a, s))) → Names own (λ s. first s >>= second)
then_names {own = own} {first = first} second spells p q = record {
  names = λ s f low fits e. elim (bind_err (first s) second f e) [
    | inl h ↦ p.names s f low fits h
    | inr h ↦
        let one = spells.takes s h.0.0 h.0.1 fits h.1 in
        moved own s h.0.1 one.text f one.took ((q h.0.0).names h.0.1 f (one.took.below low) (back_fits s.rest one.text h.0.1.rest fits one.took.bytes) h.2)
  ];
}

pub err_is : {X : Type 0} (d e : FileFault) → (let r : Result X FileFault = Err d in r) ≡ Err e → d ≡ e
err_is d e h = cc

guard_names : {B : Type 0} {own : FileFault → Type 0} (holds : Bool) (f : FileFault) (second : Spot → Result (B × Spot) FileFault) → ((s : Spot) → Named own s f) → Names own second → Names own (λ s. test holds f >>= λ _. second s)
guard_names true f second is p = record { names = λ s g low fits e. p.names s g low fits e }
guard_names {own = own} false f second is p = record { names = λ s g low fits e. subst (λ (x : FileFault). Named own s x) (err_is f g e) (is s) }

pub done_names : {A : Type 0} {own : FileFault → Type 0} (a : A) → Names own (λ s. Ok (a, s))
done_names a = record { names = λ s f low fits e. absurd cc }

choose_names : {B : Type 0} {own : FileFault → Type 0} (t : Bool) (first second : Spot → Result (B × Spot) FileFault) → Names own first → Names own second → Names own (λ s. cond t (first s) (second s))
choose_names true first second p q = p
choose_names false first second p q = q

-- ---- bytes and numbers

late : {X : Type 0} (own : FileFault → Type 0) (at b : ℕ) (rest : List ℕ) (t : Bool) (x : X) (f : FileFault) → nat_lt at limit ≡ t → cond t (Ok x) (Err faults.TooLong) ≡ Err f → Named own (record { at = at; rest = b ∷ rest }) f
late own at b rest true x f is e = absurd cc
late own at b rest false x f is e =
    let past : limit ≤ at = ltb-false at limit is in
    subst (λ (y : FileFault). Named own (record { at = at; rest = b ∷ rest }) y) (err_is faults.TooLong f e) (omega (arith, past))

byte_named : (own : FileFault → Type 0) (at : ℕ) (bytes : List ℕ) (f : FileFault) → at ≤ limit → byte_from at bytes ≡ Err f → Named own (record { at = at; rest = bytes }) f
byte_named own at [] f low e = subst (λ (y : FileFault). Named own (record { at = at; rest = [] }) y) (err_is (faults.Truncated at) f e) (omega arith, low)
byte_named own at (b ∷ rest) f low e = late own at b rest (nat_lt at limit) (b, record { at = at + 1; rest = rest }) f refl e

pub byte_names : {own : FileFault → Type 0} → Names own byte_at
unfolding byte_at
byte_names {own = own} = record { names = λ s f low fits e. byte_named own s.at s.rest f low e }

bytes_names : {own : FileFault → Type 0} (n : ℕ) → Names own (bytes_at n)
unfolding bytes_at
bytes_names zero = done_names []
bytes_names (suc n) = then_names (λ b. bytes_at n b.1 >>= λ more. Ok (b.0 ∷ more.0, more.1)) byte_spells byte_names (λ b. then_names (λ more. Ok (b ∷ more.0, more.1)) (bytes_spells n) (bytes_names n) (λ more. done_names (b ∷ more)))

u16_names : {own : FileFault → Type 0} → Names own u16_at
unfolding u16_at
u16_names = then_names (λ b. Ok (from_be_bytes w16 b.0, b.1)) (bytes_spells 2) (bytes_names 2) (λ b. done_names (from_be_bytes w16 b))

pub u32_names : {own : FileFault → Type 0} → Names own u32_at
unfolding u32_at
u32_names = then_names (λ b. Ok (from_be_bytes w32 b.0, b.1)) (bytes_spells 4) (bytes_names 4) (λ b. done_names (from_be_bytes w32 b))

u64_names : {own : FileFault → Type 0} → Names own u64_at
unfolding u64_at
u64_names = then_names (λ b. Ok (from_be_bytes w64 b.0, b.1)) (bytes_spells 8) (bytes_names 8) (λ b. done_names (from_be_bytes w64 b))

pub text_names : {own : FileFault → Type 0} → Names own text_at
unfolding text_at
text_names = then_names (λ len. bytes_at len.0 len.1) u16_spells u16_names (λ len. bytes_names len)

-- ---- the header

-- a fault of a header's field
abbrev pub IsOfHeader : FileFault → Type 0
IsOfHeader faults.Magic = Unit {0}
IsOfHeader faults.Version = Unit {0}
IsOfHeader (faults.Header k) = Unit {0}
IsOfHeader (faults.Event p) = ⊥
IsOfHeader (faults.Truncated p) = ⊥
IsOfHeader (faults.Trailing p) = ⊥
IsOfHeader faults.TooLong = ⊥
IsOfHeader faults.Read = ⊥
IsOfHeader faults.Mem = ⊥

start_names : Names IsOfHeader start_at
unfolding start_at
start_names = then_names _ u32_spells u32_names (λ m. guard_names (m == 0x52495453) faults.Magic _ (λ s. tt) (then_names _ byte_spells byte_names (λ v. guard_names (is_version v) faults.Version _ (λ s. tt) (then_names (λ session. Ok ((version_by_byte v, session.0), session.1)) u64_spells u64_names (λ session. done_names (version_by_byte v, session))))))

numbers_names : Names IsOfHeader numbers_at
unfolding numbers_at
numbers_names = then_names _ byte_spells byte_names (λ n. guard_names (nat_le 1 n && nat_le n 31) (faults.Header 13) _ (λ s. tt) (then_names _ byte_spells byte_names (λ f. guard_names (nat_lt (3 * f) n) (faults.Header 14) (λ s. Ok (record { n = n; f = f }, s)) (λ s. tt) (done_names (record { n = n; f = f })))))

root_names : Names IsOfHeader root_at
unfolding root_at
root_names = then_names _ byte_spells byte_names (λ root. guard_names (is_root root) (faults.Header 15) (λ s. Ok (root, s)) (λ s. tt) (done_names root))

vect_names : Names IsOfHeader vect_at
unfolding vect_at
vect_names = then_names _ byte_spells byte_names (λ b. guard_names (b == 1 || b == 2) (faults.Header 16) (λ s. Ok (vect_by_byte b, s)) (λ s. tt) (done_names (vect_by_byte b)))

mask_names : (n : ℕ) → Names IsOfHeader (mask_at n)
unfolding mask_at
mask_names n = then_names _ u32_spells u32_names (λ mask. guard_names (nat_lt mask (2 ^ n)) (faults.Header 17) (λ s. Ok (mask, s)) (λ s. tt) (done_names mask))

each_key_names : {own : FileFault → Type 0} (n : ℕ) → Names own (each_key_at n)
unfolding each_key_at
each_key_names zero = done_names []
each_key_names (suc n) = then_names (λ key. each_key_at n key.1 >>= λ more. Ok (key.0 ∷ more.0, more.1)) (bytes_spells 32) (bytes_names 32) (λ key. then_names (λ more. Ok (key ∷ more.0, more.1)) (each_spells n) (each_key_names n) (λ more. done_names (key ∷ more)))

row_names : {own : FileFault → Type 0} (n : ℕ) → Names own (key_row_at n)
unfolding key_row_at
row_names n = then_names (λ keys. Ok (filled_row keys.0, keys.1)) (each_spells n) (each_key_names n) (λ keys. done_names (filled_row keys))

pub master_names : {own : FileFault → Type 0} → Names own master_at
unfolding master_at
master_names = then_names (λ master. Ok (Master master.0, master.1)) (bytes_spells 32) (bytes_names 32) (λ master. done_names (Master master))

pub keys_of_names : {own : FileFault → Type 0} (n me : ℕ) → Names own (keys_of n me)
keys_of_names n me = then_names (λ row. bytes_at 32 row.1 >>= λ coin. Ok (Row me row.0 coin.0, coin.1)) (row_spells n) (row_names n) (λ row. then_names (λ coin. Ok (Row me row coin.0, coin.1)) (bytes_spells 32) (bytes_names 32) (λ coin. done_names (Row me row coin)))

me_names : (n mask : ℕ) → Names IsOfHeader (me_at n mask)
unfolding me_at
me_names n mask = then_names _ byte_spells byte_names (λ me. guard_names (nat_lt me n) (faults.Header 22) _ (λ s. tt) (guard_names (mask == 2 ^ me) (faults.Header 17) (λ s. Ok (me, s)) (λ s. tt) (done_names me)))

alone_names : (n mask : ℕ) → Names IsOfHeader (alone_at n mask)
unfolding alone_at
alone_names n mask = then_names _ (me_spells n mask) (me_names n mask) (λ me. keys_of_names n me)

keys_names : (n mask : ℕ) → Names IsOfHeader (keys_at n mask)
unfolding keys_at
keys_names n mask = then_names _ byte_spells byte_names (λ form. guard_names (form == 0 || form == 1) (faults.Header 21) _ (λ s. tt) (choose_names (form == 0) master_at (alone_at n mask) master_names (alone_names n mask)))

pub header_names : Names IsOfHeader header_at
unfolding header_at
header_names = then_names _ start_spells start_names (λ start. then_names _ numbers_spells numbers_names (λ p. then_names _ root_spells root_names (λ root. then_names _ vect_spells vect_names (λ vect. then_names _ (mask_spells p.n) (mask_names p.n) (λ mask. then_names (λ keys. Ok (record { session = start.1; version = start.0; p = p; root = root; vect = vect; correct = mask; keys = keys.0 }, keys.1)) (keys_spells p.n mask) (keys_names p.n mask) (λ keys. done_names (record { session = start.1; version = start.0; p = p; root = root; vect = vect; correct = mask; keys = keys })))))))

-- ---- events

-- a fault of the event that begins at p
abbrev pub IsOfEvent : ℕ → FileFault → Type 0
IsOfEvent p faults.Magic = ⊥
IsOfEvent p faults.Version = ⊥
IsOfEvent p (faults.Header k) = ⊥
IsOfEvent p (faults.Event q) = q ≡ p
IsOfEvent p (faults.Truncated q) = ⊥
IsOfEvent p (faults.Trailing q) = ⊥
IsOfEvent p faults.TooLong = ⊥
IsOfEvent p faults.Read = ⊥
IsOfEvent p faults.Mem = ⊥

replica_names : (scope : Scope) (p : ℕ) → Names (IsOfEvent p) (replica_at scope p)
unfolding replica_at
replica_names scope p = then_names _ byte_spells byte_names (λ at. guard_names (has_replica scope at) (faults.Event p) (λ s. Ok (at, s)) (λ s. refl) (done_names at))

pair_names : (scope : Scope) (p : ℕ) → Names (IsOfEvent p) (pair_at scope p)
unfolding pair_at
pair_names scope p = guard_names (is_none scope.only) (faults.Event p) _ (λ s. refl) (then_names _ (replica_spells scope p) (replica_names scope p) (λ from. then_names _ (replica_spells scope p) (replica_names scope p) (λ to. guard_names (not (from == to)) (faults.Event p) (λ s. Ok ((from, to), s)) (λ s. refl) (done_names (from, to)))))

frame_names : (scope : Scope) (p : ℕ) → Names (IsOfEvent p) (frame_at scope p)
unfolding frame_at
frame_names scope p = then_names _ (replica_spells scope p) (replica_names scope p) (λ to. then_names (λ bytes. Ok (Frame to bytes.0, bytes.1)) text_spells text_names (λ bytes. done_names (Frame to bytes)))

input_names : (scope : Scope) (p : ℕ) → Names (IsOfEvent p) (input_read_at scope p)
unfolding input_read_at
input_names scope p = then_names _ (replica_spells scope p) (replica_names scope p) (λ at. then_names (λ bytes. Ok (Input at bytes.0, bytes.1)) text_spells text_names (λ bytes. done_names (Input at bytes)))

turn_names : (scope : Scope) (p : ℕ) → Names (IsOfEvent p) (turn_at scope p)
unfolding turn_at
turn_names scope p = then_names (λ at. Ok (Turn at.0, at.1)) (replica_spells scope p) (replica_names scope p) (λ at. done_names (Turn at))

pass_names : (scope : Scope) (p : ℕ) → Names (IsOfEvent p) (pass_at scope p)
unfolding pass_at
pass_names scope p = then_names _ (pair_spells scope p) (pair_names scope p) (λ x. then_names (λ m. Ok (Pass x.0 x.1 m.0, m.1)) u32_spells u32_names (λ m. done_names (Pass x.0 x.1 m)))

sealed_names : (scope : Scope) (p : ℕ) → Names (IsOfEvent p) (sealed_at scope p)
unfolding sealed_at
sealed_names scope p = then_names _ (pair_spells scope p) (pair_names scope p) (λ x. then_names (λ body. Ok (Sealed x.0 x.1 body.0, body.1)) text_spells text_names (λ body. done_names (Sealed x.0 x.1 body)))

pub kind_names : (scope : Scope) (p kind : ℕ) → Names (IsOfEvent p) (kind_at scope p kind)
unfolding kind_at
kind_names scope p kind =
    choose_names (kind == 1) (frame_at scope p) _ (frame_names scope p) (
    choose_names (kind == 2) (input_read_at scope p) _ (input_names scope p) (
    choose_names (kind == 3) (turn_at scope p) _ (turn_names scope p) (
    choose_names (kind == 4) (pass_at scope p) _ (pass_names scope p) (
    choose_names (kind == 5) (sealed_at scope p) (λ s. Err (faults.Event p)) (sealed_names scope p) (record {
      names = λ s f low fits e. subst (λ (x : FileFault). Named (IsOfEvent p) s x) (err_is (faults.Event p) f e) refl;
    })))))
