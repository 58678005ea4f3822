-- The world of a header has layers that serve its mode.
use Rattle.std.proofs.Common.{◌≡◌, ℕ, ◌<◌, Bool, true, false, cond, refl, sym, ap, ◌∙◌, inl, inr, arith}
use Rattle.std.specs.Prelude.{◌==◌, ◌≢◌}
use Rattle.std.proofs.lemmas.Bool.{cases_lt, eqb-true}
use Rattle.std.proofs.lemmas.Nat.Bits.{bit_at_above}
use Rattle.std.specs.Int.{bit_at}
use Rattle.ritas_base.specs.declared.mode.Mode.{Mode}
use Rattle.ritas_base.specs.declared.mode.FrameVersion.{FrameVersion}
use Rattle.ritas_base.specs.declared.mode.FrameVersion.TheVariants.{One, Two, Three}
use Rattle.ritas_base.specs.declared.mode.Vect.{Vect}
use Rattle.ritas_base.specs.declared.mode.Vect.TheVariants.{Echo, Reliable}
use Rattle.ritas_base.specs.Members.{has_member}
use Rattle.layer_api.specs.Broadcast.{BroadcastRules}
use Rattle.keyed_channel.specs.Keyed.{tags_of}
use Rattle.layer_api.specs.Service.{ServiceRules}
use Rattle.ritas_base.specs.Versions.{reliable_form}
use Rattle.sha2.proofs.Facts256.{length-sha256}
use Rattle.ritas_core.specs.Rules.{HasForm, other_form}
use Rattle.ritas_core.specs.RulesLaws.{kinds_fit}
use Rattle.schedule_file.specs.declared.header.Header.{Header}
use Rattle.schedule_file.specs.ReadHeader.{heading}
use Rattle.schedule_file.specs.Spelling.{IsHeading}
use Rattle.schedule_replay.specs.Layers.{broadcast_of, other_of, dealt_to, setting_by, AreCoresOf}

-- ---- the layers

abbrev form_by : Bool → Vect → FrameVersion → ℕ
form_by two vect version = cond two 2 (elim vect [ Echo ↦ 2 | Reliable ↦ reliable_form version 4 ])

one_by : (two : Bool) (vect : Vect) (version : FrameVersion) → form_by two vect version ≢ 2 → form_by two vect version ≢ 3 → 1 ≡ form_by two vect version
one_by true vect version not_two not_three = absurd (not_two refl)
one_by false Echo version not_two not_three = absurd (not_two refl)
one_by false Reliable One not_two not_three = refl
one_by false Reliable Two not_two not_three = absurd (not_three refl)
one_by false Reliable Three not_two not_three = absurd (not_three refl)

form_at : (mode : Mode) → other_form mode ≢ 2 → other_form mode ≢ 3 → 1 ≡ other_form mode
unfolding other_form
form_at mode not_two not_three = one_by (mode.root == 2) mode.vect mode.version not_two not_three

-- a form that is neither 2 nor 3 is 1
pub form_one : (mode : Mode) (form : ℕ) → form ≡ other_form mode → form ≢ 2 → form ≢ 3 → 1 ≡ other_form mode
form_one mode form is not_two not_three = form_at mode (λ e. not_two (is ∙ e)) (λ e. not_three (is ∙ e))

-- the world of a header has the broadcast of this form beside its reliable one
pub with_form : (service : ServiceRules) (h : Header) (form : ℕ) → form ≡ other_form h.mode → setting_by service (broadcast_of form) h ≡ setting_by service (other_of h.mode) h
with_form service h form is = ap (λ (x : ℕ). setting_by service (broadcast_of x) h) is

-- ---- the session

-- a correct replica is one of the session
pub member_within : (h : Header) → IsHeading (heading h) → (i : ℕ) → has_member h.correct i ≡ true → i < h.p.n
unfolding has_member
member_within h is i member =
    elim (cases_lt i h.p.n) [
      | inl below ↦ below
      | inr above ↦
          let none : bit_at h.correct i ≡ 0 = bit_at_above h.correct h.p.n i is.correct above in
          let one : bit_at h.correct i ≡ 1 = eqb-true (bit_at h.correct i) 1 member in
          absurd (omega (arith, none, one))
    ]

-- the correct replicas of a header's world have cores of these layers
pub cores_of : (service : ServiceRules) (other : BroadcastRules) (h : Header) → IsHeading (heading h) → service.serves h.mode.root ≡ true
    → HasForm h.mode other → AreCoresOf service other (setting_by service other h)
cores_of service other h is serves form i correct = record {
  words = refl;
  casts = λ s. refl;
  session = is.numbers;
  me = member_within h is i correct;
  serves = serves;
  kinds = kinds_fit h.p h.mode i (tags_of (dealt_to h i)) other form length-sha256;
}
