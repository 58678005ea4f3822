-- Reading the header of a schedule.
use Rattle.std.specs.Prelude.{ℕ, zero, suc, ◌*◌, ◌^◌, Bool, ◌&&◌, ◌||◌, List, [], ◌∷◌, Result, Ok, nat_lt, nat_le, ◌==◌, if◌then◌else◌}
use Rattle.ritas_base.specs.Numbers.{Numbers}
use Rattle.ritas_base.specs.RootServices.{most_root}
use Rattle.ritas_base.specs.Slots.{within}
use Rattle.ritas_base.specs.declared.mode.FrameVersion.{FrameVersion}
use Rattle.ritas_base.specs.declared.mode.FrameVersion.TheVariants.{One, Two, Three}
use Rattle.ritas_base.specs.declared.mode.Vect.{Vect}
use Rattle.ritas_base.specs.declared.mode.Vect.TheVariants.{Echo, Reliable}
use Rattle.schedule_file.specs.declared.fault.FileFault.{FileFault}
use Rattle.schedule_file.specs.declared.fault.FileFault.TheVariants.{Magic, Version}
use Rattle.schedule_file.specs.declared.fault.FileFault.TheVariants as faults
use Rattle.schedule_file.specs.declared.header.Header.{Header}
use Rattle.schedule_file.specs.declared.header.HeaderKeys.{HeaderKeys}
use Rattle.schedule_file.specs.declared.header.HeaderKeys.TheVariants.{Master, Row}
use Rattle.schedule_file.specs.Reading.{Spot, ◌>>=◌, test}
use Rattle.schedule_file.specs.FileBytes.{byte_at, bytes_at, u32_at, u64_at}
use Rattle.ritas_base.specs.Bytes.{filled_row}

-- What a header says: the session, the version of its frames, n and f, the root service, the broadcast of VECT, the mask of
-- the correct replicas, and the keys.
pub record Heading : Type 0 where
  pub session : ℕ
  pub version : FrameVersion
  pub p : Numbers
  pub root : ℕ
  pub vect : Vect
  pub correct : ℕ
  pub keys : HeaderKeys

abbrev pub heading : Header → Heading
heading h = record { session = h.session; version = h.mode.version; p = h.p; root = h.mode.root; vect = h.mode.vect; correct = h.correct; keys = h.keys }

-- the root services
abbrev pub is_root : ℕ → Bool
is_root root = within 1 most_root root

-- the versions of frames, which are the bytes 1 to 3
abbrev pub is_version : ℕ → Bool
is_version b = b == 1 || (b == 2 || b == 3)

abbrev pub version_by_byte : ℕ → FrameVersion
version_by_byte b = if b == 2 then Two else if b == 3 then Three else One

-- the magic word, the version, and the session
unfoldable pub start_at : Spot → Result ((FrameVersion × ℕ) × Spot) FileFault
start_at s = do
  magic ← u32_at s
  _ ← test (magic.0 == 0x52495453) Magic
  version ← byte_at magic.1
  _ ← test (is_version version.0) Version
  session ← u64_at version.1
  Ok ((version_by_byte version.0, session.0), session.1)

-- n and f
unfoldable pub numbers_at : Spot → Result (Numbers × Spot) FileFault
numbers_at s = do
  n ← byte_at s
  _ ← test (nat_le 1 n.0 && nat_le n.0 31) (faults.Header 13)
  f ← byte_at n.1
  _ ← test (nat_lt (3 * f.0) n.0) (faults.Header 14)
  Ok (record { n = n.0; f = f.0 }, f.1)

-- the root service
unfoldable pub root_at : Spot → Result (ℕ × Spot) FileFault
root_at s = do
  root ← byte_at s
  _ ← test (is_root root.0) (faults.Header 15)
  Ok root

abbrev pub vect_by_byte : ℕ → Vect
vect_by_byte b = if b == 1 then Echo else Reliable

-- the broadcast of VECT: 1 is the echo broadcast, 2 the reliable one
unfoldable pub vect_at : Spot → Result (Vect × Spot) FileFault
vect_at s = do
  vect ← byte_at s
  _ ← test (vect.0 == 1 || vect.0 == 2) (faults.Header 16)
  Ok (vect_by_byte vect.0, vect.1)

-- the mask of the correct replicas, of which there are n at most
unfoldable pub mask_at : ℕ → Spot → Result (ℕ × Spot) FileFault
mask_at n s = do
  mask ← u32_at s
  _ ← test (nat_lt mask.0 (2 ^ n)) (faults.Header 17)
  Ok mask

-- ---- the keys

-- the master key
unfoldable pub master_at : Spot → Result (HeaderKeys × Spot) FileFault
master_at s = do
  master ← bytes_at 32 s
  Ok (Master master.0, master.1)

-- the number of the replica whose keys follow, which alone is correct
unfoldable pub me_at : ℕ → ℕ → Spot → Result (ℕ × Spot) FileFault
me_at n mask s = do
  me ← byte_at s
  _ ← test (nat_lt me.0 n) (faults.Header 22)
  _ ← test (mask == 2 ^ me.0) (faults.Header 17)
  Ok me

-- so many keys
unfoldable pub each_key_at : ℕ → Spot → Result (List (List ℕ) × Spot) FileFault
each_key_at zero s = Ok ([], s)
each_key_at (suc n) s = do
  key ← bytes_at 32 s
  more ← each_key_at n key.1
  Ok (key.0 ∷ more.0, more.1)

-- the key that the replica shares with each of n
unfoldable pub key_row_at : ℕ → Spot → Result (List (List ℕ) × Spot) FileFault
key_row_at n s = do
  keys ← each_key_at n s
  Ok (filled_row keys.0, keys.1)

-- the keys of one replica alone
unfoldable pub alone_at : ℕ → ℕ → Spot → Result (HeaderKeys × Spot) FileFault
alone_at n mask s = do
  me ← me_at n mask s
  row ← key_row_at n me.1
  coin ← bytes_at 32 row.1
  Ok (Row me.0 row.0 coin.0, coin.1)

-- the form of the keys, and the keys, for n replicas and the mask of the correct ones
unfoldable pub keys_at : ℕ → ℕ → Spot → Result (HeaderKeys × Spot) FileFault
keys_at n mask s = do
  form ← byte_at s
  _ ← test (form.0 == 0 || form.0 == 1) (faults.Header 21)
  if form.0 == 0 then master_at form.1 else alone_at n mask form.1

unfoldable pub header_at : Spot → Result (Heading × Spot) FileFault
header_at s = do
  start ← start_at s
  p ← numbers_at start.1
  root ← root_at p.1
  vect ← vect_at root.1
  mask ← mask_at p.0.n vect.1
  keys ← keys_at p.0.n mask.0 mask.1
  Ok (record { session = start.0.1; version = start.0.0; p = p.0; root = root.0; vect = vect.0; correct = mask.0; keys = keys.0 }, keys.1)
