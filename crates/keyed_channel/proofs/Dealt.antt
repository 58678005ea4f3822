-- Keys that were dealt from one master key.
use Rattle.std.specs.Prelude.{◌≡◌, ℕ, ◌-◌, ◌<◌, Bool, ◌&&◌, List, [], ◌∷◌, ◌++◌, length, replicate, refl, if◌then◌else◌}
use Rattle.std.specs.Int.{w64, to_be_bytes}
use Rattle.std.proofs.Common.{sym, ◌∙◌, ap, ap₂, inl, inr, arith}
use Rattle.std.proofs.Math.Nat.{min_comm, max_comm}
use Rattle.std.proofs.lemmas.List.{get_or_append_left}
use Rattle.std.proofs.lemmas.List.FromFn.{length-map-range_with_len, get_or-map-range_with_len}
use Rattle.std.proofs.lemmas.Bool.{eq-eqb, ne_eqb, cases_eq}
use Rattle.std.proofs.lemmas.Slice.Eq.{bytes_eq-Decides}
use Rattle.keyed_channel.specs.Hmac.{hmac_of}
use Rattle.ritas_base.specs.Bytes.{zero_key}
use Rattle.keyed_channel.specs.KeyRow.{key_with}
use Rattle.keyed_channel.specs.Keyed.{pair_key, dealt, dealt_for, dealt_keys, keyed_entry, other_of_two, tags_of}
use Rattle.keyed_channel.specs.EpochLaws.{DealtShareKeys}
use Rattle.keyed_channel.specs.Laws.{MayAskEntries, EntryByPair, EntriesAgree}

-- the key with j
pub key_with-dealt : (master : List ℕ) (session n i j : ℕ) → j < n → key_with (dealt master session n i) j ≡ pair_key master session i j
key_with-dealt master session n i j lt =
    let f = pair_key master session i in
    let keys = dealt_keys master session n i in
    let within : j < length keys = omega (arith, length-map-range_with_len f 0 n) in
    get_or_append_left keys (replicate (31 - length keys) zero_key) zero_key j within
    ∙ get_or-map-range_with_len f 0 n j j zero_key lt (omega arith)

-- both ends have one key
pub pair_key_swapped : (master : List ℕ) (session i j : ℕ) → pair_key master session i j ≡ pair_key master session j i
pair_key_swapped master session i j =
    ap₂ (λ (low high : ℕ). hmac_of master (0x4b ∷ to_be_bytes w64 session ++ low ∷ high ∷ [])) (min_comm i j) (max_comm i j)

-- so they share it
pub dealt_share_keys_hold : DealtShareKeys
dealt_share_keys_hold version master session n i j i_in j_in =
    let mine = key_with (dealt_for version master session n i) j in
    let theirs = key_with (dealt_for version master session n j) i in
    let same : mine ≡ theirs =
    key_with-dealt master session n i j j_in ∙ pair_key_swapped master session i j ∙ sym (key_with-dealt master session n j i i_in) in
    ap₂ (λ (x y : Bool). x && y) (eq-eqb session session refl) ((bytes_eq-Decides mine theirs).1 same)

-- the key of the two, for the one that is me
pub other_key : (master : List ℕ) (session n me echoer verifier : ℕ) → echoer < n → verifier < n → MayAskEntries me echoer verifier
    → key_with (dealt master session n me) (other_of_two me echoer verifier) ≡ pair_key master session echoer verifier
other_key master session n me echoer verifier e v ask =
    let k = dealt master session n me in
    let choice : Bool → ℕ = λ b. if b then verifier else echoer in
    elim (cases_eq echoer me) [
      | inl same ↦
          ap (λ b. key_with k (choice b)) (eq-eqb echoer me same) ∙ key_with-dealt master session n me verifier v
          ∙ ap (λ x. pair_key master session x verifier) (sym same)
      | inr other ↦
          let mine : verifier ≡ me = elim ask [ inl h ↦ absurd (other h) | inr h ↦ h ] in
          ap (λ b. key_with k (choice b)) (ne_eqb echoer me other) ∙ key_with-dealt master session n me echoer e
          ∙ ap (λ x. pair_key master session x echoer) (sym mine) ∙ pair_key_swapped master session verifier echoer
    ]

pub entry_by_pair_holds : EntryByPair
entry_by_pair_holds master session n me s echoer verifier d e v ask =
    ap (λ (key : List ℕ). keyed_entry key session s echoer verifier d) (other_key master session n me echoer verifier e v ask)

pub entries_agree_hold : EntriesAgree
entries_agree_hold master session n i j s echoer verifier d i_in j_in ask_i ask_j =
    let entry : ℕ → List ℕ = λ me. (tags_of (dealt master session n me)).entry s echoer verifier d in
    let both : echoer < n → verifier < n → entry i ≡ entry j = λ e v.
    entry_by_pair_holds master session n i s echoer verifier d e v ask_i
    ∙ sym (entry_by_pair_holds master session n j s echoer verifier d e v ask_j) in
    elim ask_i [
      | inl ei ↦ elim ask_j [ inl ej ↦ ap entry (sym ei ∙ ej) | inr vj ↦ both (omega arith) (omega arith) ]
      | inr vi ↦ elim ask_j [ inl ej ↦ both (omega arith) (omega arith) | inr vj ↦ ap entry (sym vi ∙ vj) ]
    ]
