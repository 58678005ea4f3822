-- When each fault of a file comes, in words on the whole list of its bytes.
use Rattle.std.specs.Prelude.{◌≡◌, ℕ, ◌+◌, ◌*◌, ◌^◌, ◌<◌, ◌≤◌, ◌⊎◌, Bool, true, false, ◌&&◌, ◌||◌, nat_lt, nat_le, ◌==◌, List, [], ◌∷◌, ◌++◌, length, take, drop, slice_index}
use Rattle.std.specs.Option.{is_none}
use Rattle.std.specs.Int.{w32, from_be_bytes}
use Rattle.ritas_base.specs.declared.event.Event.{Event}
use Rattle.schedule_file.specs.FileBytes.{limit}
use Rattle.schedule_file.specs.ReadHeader.{Heading, is_root, is_version}
use Rattle.schedule_file.specs.Spelling.{IsFile, IsFileFront}
use Rattle.schedule_file.specs.declared.scope.Scope.{Scope}
use Rattle.schedule_file.specs.Scopes.{scope_of, IsOutOfScope}

-- ---- the header

-- the number of the four bytes from an offset on
abbrev pub number_at_offset : List ℕ → ℕ → ℕ
number_at_offset bytes k = from_be_bytes w32 (take 4 (drop k bytes))

-- A field that has a rule: its offset, how many bytes it has, and whether a file keeps the rule, of which the bytes up to
-- the field's end are looked at.
pub record Field : Type 0 where
  pub offset : ℕ
  pub width : ℕ
  pub is_right : List ℕ → Bool

-- the letters RITS
abbrev pub magic : Field
magic = record { offset = 0; width = 4; is_right = λ bytes. number_at_offset bytes 0 == 0x52495453 }

-- the version of the frames
abbrev pub version : Field
version = record { offset = 4; width = 1; is_right = λ bytes. is_version (slice_index bytes 4) }

-- how many replicas there are
abbrev pub count : Field
count = record { offset = 13; width = 1; is_right = λ bytes. nat_le 1 (slice_index bytes 13) && nat_le (slice_index bytes 13) 31 }

-- how many of them may be faulty
abbrev pub most_faulty : Field
most_faulty = record { offset = 14; width = 1; is_right = λ bytes. nat_lt (3 * slice_index bytes 14) (slice_index bytes 13) }

abbrev pub root_service : Field
root_service = record { offset = 15; width = 1; is_right = λ bytes. is_root (slice_index bytes 15) }

-- the broadcast of VECT
abbrev pub vect_field : Field
vect_field = record { offset = 16; width = 1; is_right = λ bytes. slice_index bytes 16 == 1 || slice_index bytes 16 == 2 }

-- the mask of the correct replicas
abbrev pub correct : Field
correct = record { offset = 17; width = 4; is_right = λ bytes. nat_lt (number_at_offset bytes 17) (2 ^ slice_index bytes 13) }

-- a master key, or the keys of one replica alone
abbrev pub key_form : Field
key_form = record { offset = 21; width = 1; is_right = λ bytes. slice_index bytes 21 == 0 || slice_index bytes 21 == 1 }

-- the replica whose keys they are
abbrev pub me : Field
me = record { offset = 22; width = 1; is_right = λ bytes. slice_index bytes 21 == 0 || nat_lt (slice_index bytes 22) (slice_index bytes 13) }

-- the mask again, of which that replica's number is known now
abbrev pub me_alone : Field
me_alone = record { offset = 17; width = 6; is_right = λ bytes. slice_index bytes 21 == 0 || number_at_offset bytes 17 == 2 ^ slice_index bytes 22 }

-- the fields of a header that have rules, in the order in which they are tested
abbrev pub header_fields : List Field
header_fields = magic ∷ version ∷ count ∷ most_faulty ∷ root_service ∷ vect_field ∷ correct ∷ key_form ∷ me ∷ me_alone ∷ []

-- the field at offset p is whole and breaks its rule, and those before it keep theirs
abbrev pub IsFirstWrongField : List Field → List ℕ → ℕ → Type 0
IsFirstWrongField [] bytes p = ⊥
IsFirstWrongField (x ∷ xs) bytes p =
    ((x.is_right bytes ≡ false) × (x.offset ≡ p) × (p + x.width ≤ length bytes)) ⊎ ((x.is_right bytes ≡ true) × IsFirstWrongField xs bytes p)

abbrev pub IsMagicFault : List ℕ → Type 0
IsMagicFault bytes = IsFirstWrongField header_fields bytes 0

abbrev pub IsVersionFault : List ℕ → Type 0
IsVersionFault bytes = IsFirstWrongField header_fields bytes 4

-- one of the fields behind the version is the first wrong one
abbrev pub IsHeaderFault : List ℕ → ℕ → Type 0
IsHeaderFault bytes p = (4 < p) × IsFirstWrongField header_fields bytes p

-- ---- the events

-- the first byte of an event with a sender and a receiver
abbrev pub IsOfTwo : ℕ → Type 0
IsOfTwo kind = (kind ≡ 4) ⊎ (kind ≡ 5)

-- a first byte that no event of a scope has: where all events are at one replica, none has a sender and a receiver
abbrev pub IsNoKind : Scope → ℕ → Type 0
IsNoKind scope kind = (5 < kind) ⊎ (IsOfTwo kind × (is_none scope.only ≡ false))

-- The bytes of an event up to the first that is wrong: a first byte that no event of the scope has, a replica that none
-- has, or a receiver that is the sender.
abbrev pub IsWrongStart : Scope → List ℕ → Type 0
IsWrongStart scope [] = ⊥
IsWrongStart scope (kind ∷ []) = IsNoKind scope kind
IsWrongStart scope (kind ∷ i ∷ []) = (1 ≤ kind) × ¬ IsNoKind scope kind × IsOutOfScope scope i
IsWrongStart scope (kind ∷ i ∷ j ∷ []) = IsOfTwo kind × ¬ IsNoKind scope kind × (i < scope.n) × ((scope.n ≤ j) ⊎ (i ≡ j))
IsWrongStart scope (kind ∷ i ∷ j ∷ k ∷ more) = ⊥

-- a header and events that are right end at p, and an event begins there that is wrong
pub record IsEventFault (bytes : List ℕ) (p : ℕ) : Type 0 where
  pub h : Heading
  pub es : List Event
  pub before : List ℕ
  pub start : List ℕ
  pub after : List ℕ
  pub parts : bytes ≡ before ++ (start ++ after)
  pub place : length before ≡ p
  pub front : IsFileFront before h es
  pub wrong : IsWrongStart (scope_of h) start
  pub low : p + length start ≤ limit

-- a whole file ends at p, and a byte follows it
abbrev pub IsTrailingFault : List ℕ → ℕ → Type 0
IsTrailingFault bytes p = (p < length bytes) × (p < limit) × (h : Heading) × (es : List Event) × IsFile (take p bytes) h es

-- ---- where the bytes end

-- the bytes are right as far as they go, and no whole file
pub record IsUnfinished (bytes : List ℕ) : Type 0 where
  pub magic_right : ¬ IsMagicFault bytes
  pub version_right : ¬ IsVersionFault bytes
  pub header_right : (p : ℕ) → ¬ IsHeaderFault bytes p
  pub events_right : (p : ℕ) → ¬ IsEventFault bytes p
  pub not_past_the_end : (p : ℕ) → ¬ IsTrailingFault bytes p
  pub not_whole : (h : Heading) (es : List Event) → ¬ IsFile bytes h es

-- they end at length p
abbrev pub IsTruncated : List ℕ → ℕ → Type 0
IsTruncated bytes p = (p ≡ length bytes) × (length bytes ≤ limit) × IsUnfinished bytes

-- there are more than a file may have
abbrev pub IsTooLong : List ℕ → Type 0
IsTooLong bytes = (limit < length bytes) × IsUnfinished bytes
