-- The bytes of a schedule file.
use Rattle.std.specs.Prelude.{◌≡◌, ℕ, ◌^◌, ◌<◌, ◌≤◌, ◌-◌, ◌+◌, ◌*◌, true, List, [], ◌∷◌, ◌++◌, length, take, drop, replicate, reverse}
use Rattle.std.specs.List.{concat, flat_map, AllByRecursion}
use Rattle.std.specs.Int.{w16, w32, w64, to_be_bytes}
use Rattle.ritas_base.specs.Events.{MayHappen}
use Rattle.ritas_base.specs.Numbers.{IsSession}
use Rattle.ritas_base.specs.declared.mode.FrameVersion.{FrameVersion}
use Rattle.ritas_base.specs.declared.mode.Vect.{Vect}
use Rattle.ritas_base.specs.declared.mode.Vect.TheVariants.{Echo, Reliable}
use Rattle.ritas_base.specs.declared.event.Event.{Event}
use Rattle.ritas_base.specs.declared.event.Event.TheVariants.{Frame, Input, Turn, Pass, Sealed}
use Rattle.schedule_file.specs.declared.header.HeaderKeys.{HeaderKeys}
use Rattle.schedule_file.specs.declared.header.HeaderKeys.TheVariants.{Master, Row}
use Rattle.schedule_file.specs.FileBytes.{limit}
use Rattle.ritas_base.specs.Bytes.{zero_key, version_byte}
use Rattle.schedule_file.specs.ReadHeader.{Heading, is_root}

-- a text behind its length
abbrev pub sized : List ℕ → List ℕ
sized bytes = to_be_bytes w16 (length bytes) ++ bytes

abbrev pub event_text : Event → List ℕ
event_text (Frame to bytes) = 1 ∷ to ∷ [] ++ sized bytes
event_text (Input at bytes) = 2 ∷ at ∷ [] ++ sized bytes
event_text (Turn at) = 3 ∷ at ∷ []
event_text (Pass from to m) = 4 ∷ from ∷ to ∷ [] ++ to_be_bytes w32 m
event_text (Sealed from to body) = 5 ∷ from ∷ to ∷ [] ++ sized body

abbrev pub vect_byte : Vect → ℕ
vect_byte Echo = 1
vect_byte Reliable = 2

-- a master key has form 0; the keys of one replica alone have form 1, and are those that it shares with each of n
abbrev pub keys_text : ℕ → HeaderKeys → List ℕ
keys_text n (Master master) = 0 ∷ master
keys_text n (Row me row coin) = 1 ∷ me ∷ [] ++ (concat (take n row) ++ coin)

-- RITS, the version, and the session
abbrev pub start_text : FrameVersion → ℕ → List ℕ
start_text version session = to_be_bytes w32 0x52495453 ++ (version_byte version ∷ [] ++ to_be_bytes w64 session)

abbrev pub header_text : Heading → List ℕ
header_text h =
    start_text h.version h.session ++ (h.p.n ∷ h.p.f ∷ [] ++ (h.root ∷ [] ++ (vect_byte h.vect ∷ [] ++ (to_be_bytes w32 h.correct ++ keys_text h.p.n h.keys))))

-- how many bytes a header has
abbrev pub size_with : HeaderKeys → ℕ → ℕ
size_with (Master master) n = 54
size_with (Row me row coin) n = 55 + 32 * n

abbrev pub header_size : Heading → ℕ
header_size h = size_with h.keys h.p.n

-- the file of a header and events, the newest event first
abbrev pub FileOf : Heading → List Event → List ℕ
FileOf h es = header_text h ++ (flat_map event_text (reverse es) ++ 0 ∷ [])

-- it without the end mark
abbrev pub FrontOf : Heading → List Event → List ℕ
FrontOf h es = header_text h ++ flat_map event_text (reverse es)

-- the lengths and numbers of an event fit their fields
abbrev pub IsSized : Event → Type 0
IsSized (Frame to bytes) = length bytes < 2 ^ 16
IsSized (Input at bytes) = length bytes < 2 ^ 16
IsSized (Turn at) = Unit {0}
IsSized (Pass from to m) = m < 2 ^ 32
IsSized (Sealed from to body) = length body < 2 ^ 16

-- the event is at this replica, and isn't a frame that another made
abbrev pub IsAlone : ℕ → Event → Type 0
IsAlone me (Frame to bytes) = to ≡ me
IsAlone me (Input at bytes) = at ≡ me
IsAlone me (Turn at) = at ≡ me
IsAlone me (Pass from to m) = ⊥
IsAlone me (Sealed from to body) = ⊥

-- an event that may stand in a file of n replicas with these keys
abbrev pub MayStand : HeaderKeys → ℕ → Event → Type 0
MayStand (Master master) n e = MayHappen n e
MayStand (Row me row coin) n e = MayHappen n e × IsAlone me e

-- an event that may stand behind a header
abbrev pub IsEvent : Heading → Event → Type 0
IsEvent h e = MayStand h.keys h.p.n e × IsSized e

abbrev pub IsKey : List ℕ → Type 0
IsKey key = length key ≡ 32

-- 31 keys, of which those from n on are zero
pub record IsRow (n : ℕ) (row : List (List ℕ)) : Type 0 where
  pub places : length row ≡ 31
  pub each : AllByRecursion IsKey row
  pub rest : drop n row ≡ replicate (31 - n) zero_key

-- the keys of n replicas, of which those of the mask are correct
abbrev pub AreHeaderKeys : ℕ → ℕ → HeaderKeys → Type 0
AreHeaderKeys n mask (Master master) = IsKey master
AreHeaderKeys n mask (Row me row coin) = (me < n) × (mask ≡ 2 ^ me) × IsRow n row × IsKey coin

-- what each field of a header may be
pub record IsHeading (h : Heading) : Type 0 where
  pub session : h.session < 2 ^ 64
  pub numbers : IsSession h.p
  pub root : is_root h.root ≡ true
  pub correct : h.correct < 2 ^ h.p.n
  pub keys : AreHeaderKeys h.p.n h.correct h.keys

-- these bytes are the file of this header and these events
pub record IsFile (bytes : List ℕ) (h : Heading) (es : List Event) : Type 0 where
  pub text : bytes ≡ FileOf h es
  pub header : IsHeading h
  pub each : AllByRecursion (IsEvent h) (reverse es)
  pub size : length bytes ≤ limit

-- these bytes are a header and events, without an end mark
pub record IsFileFront (bytes : List ℕ) (h : Heading) (es : List Event) : Type 0 where
  pub text : bytes ≡ FrontOf h es
  pub header : IsHeading h
  pub each : AllByRecursion (IsEvent h) (reverse es)
