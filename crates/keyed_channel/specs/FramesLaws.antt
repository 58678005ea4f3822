-- What the tests of a frame that opens say.
use Rattle.std.specs.Prelude.{◌≡◌, ◌≢◌, ℕ, ◌<◌, ◌≤◌, ◌==◌, Bool, true, false, not, nat_lt, List, [], ◌∷◌, ◌++◌, length, Option, None, Some, Ok, refl}
use Rattle.std.specs.List.{AllByRecursion}
use Rattle.std.proofs.lemmas.Bool.{and_parts, ltb-true, leb-true, eqb-true, eqb-false, not-true}
use Rattle.ritas_base.specs.Limits.{longest_frame}
use Rattle.keyed_channel.specs.Lengths.{least_frame}
use Rattle.keyed_channel.specs.KeyRow.{KeyRow}
use Rattle.ritas_base.specs.Bytes.{version_byte}
use Rattle.ritas_base.specs.Places.{first_failed}
use Rattle.keyed_channel.specs.Frames.{Opening, version_of, sender_of, receiver_of, opening_parts, is_tagged, plain_tests, plain_fault, open_fault, opening, opening_but}
use Rattle.keyed_channel.specs.declared.frame.OpenFault.{OpenFault}
use Rattle.keyed_channel.specs.declared.frame.OpenFault.TheVariants.{BadTag}

-- where none fails each test passes
all_pass : (tests : List (Bool × OpenFault)) → first_failed tests ≡ None → AllByRecursion (λ (t : Bool × OpenFault). t.0 ≡ true) tests
all_pass [] e = tt
all_pass ((true, fault) ∷ tests) e = (refl, all_pass tests e)
all_pass ((false, fault) ∷ tests) e = absurd cc

none_fails : (xs ys : List (Bool × OpenFault)) → first_failed (xs ++ ys) ≡ None → (first_failed xs ≡ None) × (first_failed ys ≡ None)
none_fails [] ys e = (refl, e)
none_fails ((true, fault) ∷ xs) ys e = none_fails xs ys e
none_fails ((false, fault) ∷ xs) ys e = absurd cc

-- what the tests that need no key say
pub record IsPlain (k : KeyRow) (bytes : List ℕ) : Type 0 where
  pub long : least_frame ≤ length bytes
  pub short : length bytes ≤ longest_frame
  pub version : version_of bytes ≡ version_byte k.version
  pub receiver : receiver_of bytes ≡ k.me
  pub sender : sender_of bytes < k.n
  pub other : sender_of bytes ≢ k.me

pub plain_is : (k : KeyRow) (bytes : List ℕ) → plain_fault k bytes ≡ None → IsPlain k bytes
plain_is k bytes e =
    let x = all_pass (plain_tests k bytes) e in
    let peer = and_parts (nat_lt (sender_of bytes) k.n) (not (sender_of bytes == k.me)) x.1.1.1.1.0 in
    record {
      long = leb-true least_frame (length bytes) x.0;
      short = leb-true (length bytes) longest_frame x.1.0;
      version = eqb-true _ _ x.1.1.0;
      receiver = eqb-true _ _ x.1.1.1.0;
      sender = ltb-true (sender_of bytes) k.n peer.0;
      other = eqb-false (sender_of bytes) k.me (not-true (sender_of bytes == k.me) peer.1);
    }

-- what all tests of a frame that opens say
pub record IsOpened (k : KeyRow) (bytes : List ℕ) (o : Opening) : Type 0 where
  pub plain : IsPlain k bytes
  pub tagged : is_tagged k bytes ≡ true
  pub parts : opening_parts bytes ≡ o

opened_but : (k : KeyRow) (bytes : List ℕ) (o : Opening) (fault : Option OpenFault) → open_fault k bytes ≡ fault → opening_but fault (opening_parts bytes) ≡ Ok o → IsOpened k bytes o
opened_but k bytes o (Some fault) e opens = cc
opened_but k bytes o None e opens =
    let tests = none_fails (plain_tests k bytes) ((is_tagged k bytes, BadTag) ∷ []) e in
    record { plain = plain_is k bytes tests.0; tagged = (all_pass ((is_tagged k bytes, BadTag) ∷ []) tests.1).0; parts = cc }

pub opened_is : (k : KeyRow) (bytes : List ℕ) (o : Opening) → opening k bytes ≡ Ok o → IsOpened k bytes o
unfolding opening
opened_is k bytes o opens = opened_but k bytes o (open_fault k bytes) refl opens
